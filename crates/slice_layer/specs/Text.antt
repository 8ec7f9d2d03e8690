-- A slice (H.263, Annex K): its header, macroblocks one after the other, and fewer than 8 zero
-- bits. And what a reader of any bits finds. Before each macroblock it looks at what is left, so
-- that a slice is no syntax of parts.
use Rattle.std.specs.Prelude.{◌≡◌, ℕ, zero, suc, ◌-◌, ◌<◌, ◌≤◌, List, [], ◌∷◌, ◌++◌, length, Bool, true, not, ◌&&◌, Option, Result, Ok, Err, nat_lt, if◌then◌else◌}
use Rattle.std.specs.List.{list_all}
use Rattle.h263_types.specs.declared.blocks.Mb.{Mb}
use Rattle.h263_types.specs.Sizes.{mbs_of}
use Rattle.h263_bits.specs.declared.fault.Fault.{Fault}
use Rattle.h263_bits.specs.declared.fault.FaultKind.TheVariants as faults
use Rattle.h263_bits.specs.Reading.{Bits, first_fault, ◌>>=◌}
use Rattle.h263_bits.specs.Syntax.{Spells, reading}
use Rattle.picture_header.specs.declared.header.Header.{Header}
use Rattle.slice_layer.specs.Around.{Around, around, quant_after, next_mb}
use Rattle.slice_layer.specs.Head.{head_of_slice}

-- fewer than 8 bits, all 0
abbrev pub is_padding : List Bool → Bool
is_padding bits = nat_lt (length bits) 8 && list_all not bits

-- ---- the text

-- the texts of macroblocks one after the other, after earlier ones, each with the quantiser that is then in force
unfoldable pub AreTexts : Around → ℕ → List Mb → List Mb → List Bool → Type 0
AreTexts a quant before [] bits = bits ≡ []
AreTexts a quant before (m ∷ mbs) bits =
    (front rest : List Bool) × (bits ≡ front ++ rest) × Spells (next_mb a quant before) m front
    × AreTexts a (quant_after quant m) (before ++ m ∷ []) mbs rest

-- macroblocks, at most this many, and padding
pub record IsBody (a : Around) (quant room : ℕ) (mbs : List Mb) (bits : List Bool) : Type 0 where
  pub text : List Bool
  pub padding : List Bool
  pub whole : bits ≡ text ++ padding
  pub some : 0 < length mbs
  pub within : length mbs ≤ room
  pub each : AreTexts a quant [] mbs text
  pub zeros : is_padding padding ≡ true

-- the bits are a text of the slice with these macroblocks, the first of which is number `first`, in
-- the picture with this header, which stands just before or doesn't
pub record IsSliceText (h : Header) (begins : Bool) (first : ℕ) (mbs : List Mb) (bits : List Bool) : Type 0 where
  pub front : List Bool
  pub after : List Bool
  pub quant : ℕ
  pub parts : bits ≡ front ++ after
  pub opened : Spells (head_of_slice h begins) (first, quant) front
  pub body : IsBody (around h first) quant (mbs_of h.format - first) mbs after

-- ---- what a reader finds

-- the slice ends here: a macroblock at least was read
abbrev pub stops : List Mb → Bits → Result (List Mb) Fault
stops [] b = Err (record { kind = faults.Empty; at = b.at })
stops (m ∷ mbs) b = Ok (m ∷ mbs)

-- at most this many more macroblocks, after those that were read
unfoldable pub mbs_at : Around → ℕ → ℕ → List Mb → Bits → Result (List Mb) Fault
mbs_at a zero quant before b =
    if is_padding b.bits then stops before b else Err (record { kind = faults.Trailing; at = b.at })
mbs_at a (suc room) quant before b =
    if is_padding b.bits then stops before b
    else (reading (next_mb a quant before) b >>= λ x. mbs_at a room (quant_after quant x.0) (before ++ x.0 ∷ []) x.1)

-- the first macroblock, by its number, with those after it
abbrev pub first_with : ℕ → Result (List Mb) Fault → Result (ℕ × List Mb) Fault
first_with first (Ok mbs) = Ok (first, mbs)
first_with first (Err fault) = Err fault

abbrev pub body_at : Header → ℕ → ℕ → Bits → Result (ℕ × List Mb) Fault
body_at h first quant b = first_with first (mbs_at (around h first) (mbs_of h.format - first) quant [] b)

-- the slice that the bits are, or the first fault at its place
unfoldable pub slice_at : Header → Bool → Bits → Result (ℕ × List Mb) Fault
slice_at h begins b = reading (head_of_slice h begins) b >>= λ x. body_at h x.0.0 x.0.1 x.1

-- the first fault of a slice, if there is one
abbrev pub slice_fault : Header → Bool → Bits → Option Fault
slice_fault h begins b = first_fault (slice_at h begins b)
