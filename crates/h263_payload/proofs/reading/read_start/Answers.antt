-- The first two bits say whether a start code begins, which has to agree with P and the extra header.
use Rattle.std.proofs.Common.{◌≡◌, ℕ, ◌≤◌, Bool, true, false, cond, Option, Some, None, Ok, refl, ap, sym, ◌∙◌, arith, eq-eqb}
use Rattle.std.specs.Prelude.{◌==◌, not, is_some, is_none}
use Rattle.std.proofs.Math.Bool.{beq}
use Rattle.std.proofs.lemmas.Bool.{le-ltb, lt-ltb, ne_eqb}
use Rattle.std.proofs.lemmas.Result.{err_from_is_err_and}
use Rattle.h263_bits.specs.declared.fault.FaultKind.TheVariants as faults
use Rattle.h263_bits.specs.Reading.{number_at, ok}
use Rattle.picture_header.specs.declared.header.Header.{Header}
use Rattle.h263_payload.specs.declared.payload.Payload.{Payload}
use Rattle.h263_payload.specs.Faults.{begun_as, begun_at, payload_fault_at}
use Rattle.h263_payload.proofs.reading.read_start.Goals as goal

abbrev begun : Option Header → ℕ → Bool → Payload
begun extra at begins = record { extra = extra; begins = begins; from = at }

-- a picture with an extra header, and a later slice without one
unlike : (extra : Option Header) (at start : ℕ) → 2 ≤ start → ((start == 2) ≡ is_none extra → ⊥)
    → begun_as extra at start ≡ payload_fault_at (cond (start == 2) faults.ExtraHeader faults.NoExtraHeader) at
unlike extra at start high ne = rw (le-ltb start 2 high) (at_tests (start == 2) (is_none extra) ne)
  where
    at_tests : (t n : Bool) → (t ≡ n → ⊥)
        → cond t (cond n (ok (begun extra at true)) (payload_fault_at {A = Payload} faults.ExtraHeader at))
        (cond n (payload_fault_at faults.NoExtraHeader at) (ok (begun extra at false)))
        ≡ payload_fault_at (cond t faults.ExtraHeader faults.NoExtraHeader) at
    at_tests true true ne = absurd (ne refl)
    at_tests true false ne = refl
    at_tests false true ne = refl
    at_tests false false ne = absurd (ne refl)

alike : (extra : Option Header) (at start : ℕ) → 2 ≤ start → (start == 2) ≡ is_none extra → begun_as extra at start
    ≡ Ok (record { extra = extra; begins = start == 2; from = at })
alike extra at start high same = rw (le-ltb start 2 high) (at_tests (start == 2) (is_none extra) same)
  where
    at_tests : (t n : Bool) → t ≡ n
        → cond t (cond n (ok (begun extra at true)) (payload_fault_at {A = Payload} faults.ExtraHeader at))
        (cond n (payload_fault_at faults.NoExtraHeader at) (ok (begun extra at false)))
        ≡ ok (begun extra at t)
    at_tests true true e = refl
    at_tests true false e = absurd cc
    at_tests false true e = absurd cc
    at_tests false false e = refl

none_is : (extra : Option Header) (none : Bool) → is_some extra ≡ not none → none ≡ is_none extra
none_is None true e = refl
none_is None false e = absurd cc
none_is (Some h) true e = absurd cc
none_is (Some h) false e = refl

same_is : (a b : Bool) → not (beq a b) ≡ false → a ≡ b
same_is true true e = refl
same_is true false e = absurd cc
same_is false true e = absurd cc
same_is false false e = refl

differ_are : (a none : Bool) (extra : Option Header) → not (beq a none) ≡ true → is_some extra ≡ not none
    → a ≡ is_none extra → ⊥
differ_are a none extra ne e same = apart a none ne (same ∙ sym (none_is extra none e))
  where
    apart : (a b : Bool) → not (beq a b) ≡ true → a ≡ b → ⊥
    apart true true ne e = absurd cc
    apart true false ne e = absurd cc
    apart false true ne e = absurd cc
    apart false false ne e = absurd cc

pub returns-in_err-start-clause-exact : goal.returns-in_err-start-clause-exact
unfolding begun_at
returns-in_err-start-clause-exact c =
    let p = err_from_is_err_and c.from_residual.result c.from_residual.ensures.1 in
    let read = ap (number_at 2) (sym c.new.ensures.bits) ∙ c.in_err-start.ensures.reads in
    rw (p.1, p.2, read) refl

pub returns-then-start-lt2-clause-exact : goal.returns-then-start-lt2-clause-exact
unfolding begun_at
returns-then-start-lt2-clause-exact c =
    let read = ap (number_at 2) (sym c.new.ensures.bits) ∙ c.in_ok-start.ensures.reads in
    rw (c.at.ensures, read, lt-ltb c.in_ok-start.start 2 (omega arith)) refl

pub returns-then-begins-clause-exact : goal.returns-then-begins-clause-exact
unfolding begun_at
returns-then-begins-clause-exact c =
    let start = c.in_ok-start.start in
    let read = ap (number_at 2) (sym c.new.ensures.bits) ∙ c.in_ok-start.ensures.reads in
    let differ = differ_are (start == 2) c.is_none.result c.args.extra c.if-begins-is_none.true c.is_none.ensures in
    let test : (start == 2) ≡ true = eq-eqb start 2 (omega arith) in
    rw (c.at-then-begins.ensures, read) (sym (unlike c.args.extra c.args.at start (omega arith) differ
    ∙ ap (λ (t : Bool). payload_fault_at (cond t faults.ExtraHeader faults.NoExtraHeader) c.args.at) test))

pub returns-then-begins-is_none-clause-exact : goal.returns-then-begins-is_none-clause-exact
unfolding begun_at
returns-then-begins-is_none-clause-exact c =
    let start = c.in_ok-start.start in
    let read = ap (number_at 2) (sym c.new.ensures.bits) ∙ c.in_ok-start.ensures.reads in
    let differ = differ_are (start == 2) c.is_none.result c.args.extra c.if-begins-is_none.true c.is_none.ensures in
    let test : (start == 2) ≡ false = ne_eqb start 2 (λ same. omega (arith, same)) in
    rw (c.at-then-begins-is_none.ensures, read) (sym (unlike c.args.extra c.args.at start (omega arith) differ
    ∙ ap (λ (t : Bool). payload_fault_at (cond t faults.ExtraHeader faults.NoExtraHeader) c.args.at) test))

pub returns-clause-exact : goal.returns-clause-exact
unfolding begun_at
returns-clause-exact c =
    let read = ap (number_at 2) (sym c.new.ensures.bits) ∙ c.in_ok-start.ensures.reads in
    let same = same_is (c.in_ok-start.start == 2) c.is_none.result c.if-begins-is_none.false
    ∙ none_is c.args.extra c.is_none.result c.is_none.ensures in
    rw read (sym (alike c.args.extra c.args.at c.in_ok-start.start (omega arith) same))
