-- Zero bits in a row in the text of a message: its first 24 bits are one field, whose first bit and whose marker are
-- 1, and so are those of the two bytes of flags.
use Rattle.std.proofs.Common.{◌≡◌, ℕ, ◌/◌, ◌%◌, ◌^◌, ◌<◌, ◌≤◌, Bool, true, false, cond, List, [], ◌∷◌, length, take, Option, Some, None, refl, arith, eq-eqb}
use Rattle.std.specs.Prelude.{nat_lt, nat_le, not, ◌==◌}
use Rattle.std.proofs.lemmas.Bool.{lt-ltb, ltb-false, eqb-false}
use Rattle.h263_types.specs.declared.clock.Clock.{Clock}
use Rattle.h263_types.specs.Clocks.{period_of}
use Rattle.h263_bits.specs.declared.fault.FaultKind.TheVariants as faults
use Rattle.h263_bits.specs.Bits.{spelled, is_set}
use Rattle.h263_bits.specs.Syntax.{same_bit, any}
use Rattle.h263_bits.proofs.SyntaxLaws.{length-spelled, and_both}
use Rattle.back_messages.specs.declared.message.MessageFault.{MessageFault}
use Rattle.back_messages.specs.Text.{message_fault, first_field_fault, is_fault, allowed_message, is_long, allowed_markers, has_markers, flags, message}
use Rattle.payload_join.proofs.Zeros.{zeros, zeros_add, zeros_then}
use Rattle.payload_join.proofs.Kept.{Keeps, keeps_done, keeps_field, keeps_part, keeps_either}

-- a fault that a test did not find
passes : (t : Bool) (fault : MessageFault) (x : Option MessageFault) → cond t (Some fault) x ≡ None
    → (t ≡ false) × (x ≡ None)
passes true fault x e = absurd cc
passes false fault x e = (refl, e)

-- a bit that is 1 ends a row of zeros
after_one : (bits : List Bool) (from : ℕ) (b : Bool) → from < 16 → b ≡ true → zeros from (b ∷ bits) ≤ length bits
unfolding zeros
after_one bits from b lt e = rw (e, lt-ltb from 16 lt) (omega (arith, zeros_add 0 bits))

-- the bits of a message: a 1, 12 bits, a 1, 10 bits
first_bits : (n : ℕ) → is_set n 23 ≡ true → is_set n 10 ≡ true → zeros 0 (spelled 24 n) ≤ 10
unfolding spelled
first_bits n high marker =
    let len : length (take 12 (spelled 23 n)) ≡ 12 = refl in
    zeros_then 0 0 10 (is_set n 23 ∷ []) (spelled 23 n) (after_one [] 0 (is_set n 23) (omega arith) high)
    (zeros_then 0 12 10 (take 12 (spelled 23 n)) (spelled 11 n) (omega (
      arith,
      zeros_add 0 (take 12 (spelled 23 n)),
      len,
    ))
    (omega (arith, after_one (spelled 10 n) 12 (is_set n 10) (omega arith) marker, length-spelled 10 n)))

-- those of its flags: a 1, 7 bits, a 1, 7 bits
flag_bits : (n : ℕ) → is_set n 15 ≡ true → is_set n 7 ≡ true → zeros 10 (spelled 16 n) ≤ 7
unfolding spelled
flag_bits n high low =
    let len : length (take 7 (spelled 15 n)) ≡ 7 = refl in
    zeros_then 10 7 7 (is_set n 15 ∷ take 7 (spelled 15 n)) (spelled 8 n)
    (omega (arith, after_one (take 7 (spelled 15 n)) 10 (is_set n 15) (omega arith) high, len))
    (omega (arith, after_one (spelled 7 n) 7 (is_set n 7) (omega arith) low, length-spelled 7 n))

no_fault : (o : Option MessageFault) → is_fault o ≡ None → o ≡ None
no_fault None e = refl
no_fault (Some fault) e = absurd cc

-- what a message without fault has
fields_have : (clock : Clock) (long : Bool) (type urf tr marker rtr : ℕ)
    → first_field_fault clock long type urf tr marker rtr
    ≡ None → (2 ≤ type) × (marker ≡ 0 → ⊥)
fields_have clock long type urf tr marker rtr e =
    let a = passes (nat_lt type 2) _ _ e in
    let l = passes (not (same_bit long (urf == 1))) _ _ a.1 in
    let t = passes (nat_le (period_of clock) tr) _ _ l.1 in
    let m = passes (marker == 0) _ _ t.1 in
    (ltb-false type 2 a.0, eqb-false marker 0 m.0)

facts : (clock : Clock) (long : Bool) (n : ℕ) → n < 2 ^ 24 → message_fault clock long n ≡ None
    → (is_set n 23 ≡ true) × (is_set n 10 ≡ true)
unfolding message_fault
facts clock long n lt e =
    let f = fields_have clock long (n / 2 ^ 22) (n / 2 ^ 21 % 2) (n / 2 ^ 11 % 2 ^ 10) (n / 2 ^ 10 % 2)
    (n % 2 ^ 10) e in
    (eq-eqb (n / 2 ^ 23 % 2) 1 (omega (arith, f.0)), eq-eqb (n / 2 ^ 10 % 2) 1 (omega (arith, f.1)))

message_first : (clock : Clock) (n : ℕ) → n < 2 ^ 24 → allowed_message clock n ≡ None → zeros 0 (spelled 24 n) ≤ 10
message_first clock n lt e = let f = facts clock (is_long n) n lt (no_fault _ e) in first_bits n f.0 f.1

marked : (n : ℕ) → allowed_markers n ≡ None → zeros 10 (spelled 16 n) ≤ 7
marked n e = at (has_markers n) refl e
  where
    at : (t : Bool) → has_markers n ≡ t → cond t None (Some faults.Messages) ≡ None → zeros 10 (spelled 16 n) ≤ 7
    at true is free = let p = and_both (is_set n 15) (is_set n 7) is in flag_bits n p.0 p.1
    at false is free = absurd cc

flags_keep : Keeps flags 10 (λ _. 10)
unfolding flags
flags_keep = keeps_field 16 allowed_markers _ 10 (λ _. 7) (λ _. 10) (λ v lt free. marked v free)
    (λ v free. keeps_done _ 7 (λ _. 10) (omega arith))

pub message_keeps : (clock : Clock) → Keeps (message clock) 0 (λ _. 10)
unfolding message
message_keeps clock =
    keeps_field 24 (allowed_message clock) _ 0 (λ _. 10) (λ _. 10) (message_first clock) (λ n free.
    keeps_either (is_long n) _ _ 10 (λ _. 10)
    (keeps_part flags any _ 10 (λ _. 10) (λ _. 10) flags_keep (λ marks. keeps_done _ 10 (λ _. 10) (omega arith)))
    (keeps_done _ 10 (λ _. 10) (omega arith)))
