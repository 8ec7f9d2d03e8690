-- Reading from a place on: what is left, and what a call gives.
use Rattle.std.specs.Prelude.{◌≡◌, ℕ, ◌+◌, ◌-◌, List, ◌++◌, length, take, drop, Bool, Option, Some, None, Result, Ok, Err, nat_lt, if◌then◌else◌}
use Rattle.h263_bits.specs.declared.fault.Fault.{Fault}
use Rattle.h263_bits.specs.declared.fault.FaultKind.TheVariants.{Ended}
use Rattle.h263_bits.specs.Bits.{bits_of, number}

-- the bits that are left, and the place of the first of them
pub record Bits : Type 0 where
  pub at : ℕ
  pub bits : List Bool

-- the bits of bytes from a place up to another
abbrev pub bits_between : List ℕ → ℕ → ℕ → Bits
bits_between bytes from to = record { at = from; bits = take (to - from) (drop from (bits_of bytes)) }

-- n bits further
abbrev pub skip : ℕ → Bits → Bits
skip n b = record { at = b.at + n; bits = drop n b.bits }

-- A call answered, seen by view, and left the reader, as reading gives. After a fault the reader's place is left open.
abbrev pub Gives : {X Y : Type 0} → (X → Y) → Result X Fault → Bits → Result (Y × Bits) Fault → Type 0
Gives view (Ok x) left read = read ≡ Ok (view x, left)
Gives view (Err fault) left read = read ≡ Err fault

-- The bits between two places are such a text.
abbrev pub Takes : Bits → Bits → (List Bool → Type 0) → Type 0
Takes old new IsText = (text : List Bool)
    × (old.bits ≡ text ++ new.bits) × (new.at ≡ old.at + length text) × IsText text

-- a value that was read
abbrev pub ok : {A : Type 0} → A → Result A Fault
ok x = Ok x

-- a fault that was found
abbrev pub err : {A : Type 0} → Fault → Result A Fault
err fault = Err fault

-- the first fault of a reading, if there is one
abbrev pub first_fault : {A : Type 0} → Result A Fault → Option Fault
first_fault (Ok x) = None
first_fault (Err fault) = Some fault

-- what is read, and then what is read from there; a fault ends the reading
infixl 10 ◌>>=◌
abbrev pub ◌>>=◌ : {A B : Type 0} → Result A Fault → (A → Result B Fault) → Result B Fault
(Ok x) >>= f = f x
(Err e) >>= f = Err e

-- the number that the next n bits spell
unfoldable pub number_at : ℕ → Bits → Result (ℕ × Bits) Fault
number_at n b = if nat_lt (length b.bits) n then Err (record { kind = Ended; at = b.at })
    else Ok (number (take n b.bits), skip n b)
