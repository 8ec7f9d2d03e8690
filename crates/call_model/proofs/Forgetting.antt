-- A floor below which no picture is a reference.
use Rattle.std.proofs.Common.{◌≡◌, ℕ, ◌+◌, ◌<◌, ◌≤◌, Bool, true, false, ◌&&◌, refl, sym, ap, ◌∙◌, arith, inl, inr, Option, Some, None, List, [], ◌∷◌, length, eqb, ltb, leb}
use Rattle.std.specs.Prelude.{if◌then◌else◌, option_and_then, filter}
use Rattle.std.proofs.lemmas.Bool.{cases_lt, eqb-true, leb-true, leb-false, le-leb, lt-leb, and_parts}
use Rattle.std.proofs.lemmas.Map.Views.{any-filter_same}
use Rattle.call_model.specs.Numbers.{greatest}
use Rattle.call_model.specs.Coding.{Rules, window, Pictures, Encoding}
use Rattle.call_model.specs.CodedPictures.{depth_at, is_among, reference_for, capture}
use Rattle.call_model.specs.Steering.{known_from, from_floor, FloorIsKnown, NoFloor, NeverBelow, ForgetIsIntra}
use Rattle.call_model.proofs.ListLemmas.{greatest_passes, greatest_found, greatest_none, greatest_above, greatest_none_below}
use Rattle.call_model.proofs.Capturing.{reference_chosen}

turned : (a b : Bool) → (a && b) ≡ (b && a)
turned true true = refl
turned true false = refl
turned false true = refl
turned false false = refl

pub among_filtered : (p : ℕ → Bool) (known : List ℕ) (m : ℕ) → is_among (filter p known) m ≡ (p m && is_among known m)
among_filtered p known m = any-filter_same (λ (k : ℕ). eqb k m) p (p m) (λ k e. ap p (eqb-true k m e)) known

pub among_from : (floor : ℕ) (known : List ℕ) (m : ℕ) → is_among (known_from floor known) m
    ≡ (is_among known m && leb floor m)
among_from floor known m = among_filtered (leb floor) known m ∙ turned (leb floor m) (is_among known m)

pub no_floor : NoFloor
no_floor [] = refl
no_floor (k ∷ known) = rw (le-leb 0 k (omega arith)) (ap (λ (ks : List ℕ). k ∷ ks) (no_floor known))

pub from_nothing : (o : Option ℕ) → from_floor 0 o ≡ o
from_nothing None = refl
from_nothing (Some m) = rw (le-leb 0 m (omega arith)) refl

pub floor_is_known : FloorIsKnown
unfolding reference_for
floor_is_known rules depth known floor n = go (greatest all n) refl
  where
    all : ℕ → Bool
    all m = known m && leb n (m + window rules)

    some : ℕ → Bool
    some m = (known m && leb floor m) && leb n (m + window rules)

    kept : ℕ → Option ℕ
    kept m = if ltb (depth m) rules.chain then Some m else None

    none_of : (m : ℕ) → all m ≡ false → some m ≡ false
    none_of m e = three (known m) (leb floor m) (leb n (m + window rules)) e
      where
        three : (a b c : Bool) → (a && c) ≡ false → ((a && b) && c) ≡ false
        three true true c e = e
        three true false c e = refl
        three false b c e = refl

    below : (m : ℕ) → leb floor m ≡ false → some m ≡ false
    below m e = three (known m) (leb floor m) (leb n (m + window rules)) e
      where
        three : (a b c : Bool) → b ≡ false → ((a && b) && c) ≡ false
        three true true c e = cc
        three true false c e = refl
        three false b c e = refl

    here : (m : ℕ) → all m ≡ true → leb floor m ≡ true → some m ≡ true
    here m e f = three (known m) (leb floor m) (leb n (m + window rules)) e f
      where
        three : (a b c : Bool) → (a && c) ≡ true → b ≡ true → ((a && b) && c) ≡ true
        three true true c e f = e
        three true false c e f = cc
        three false b c e f = cc

    chain_floor : (m : ℕ) (b : Bool) → leb floor m ≡ b → option_and_then kept (if b then Some m else None)
        ≡ from_floor floor (kept m)
    chain_floor m true e = chained (ltb (depth m) rules.chain)
      where
        chained : (c : Bool) → (if c then Some m else None) ≡ from_floor floor (if c then Some m else None)
        chained true = rw e refl
        chained false = refl
    chain_floor m false e = forgotten (ltb (depth m) rules.chain)
      where
        forgotten : (c : Bool) → None ≡ from_floor floor (if c then Some m else None)
        forgotten true = rw e refl
        forgotten false = refl

    at : (m : ℕ) → greatest all n ≡ Some m → (b : Bool) → leb floor m ≡ b
        → greatest some n ≡ (if b then Some m else None)
    at m is true e =
        let passes = greatest_passes all n m is in
        greatest_found some n m (here m passes.0 e) passes.1
        (λ k above lt. none_of k (greatest_above all n m is k above lt))
    at m is false e =
        greatest_none some n (λ k lt. elim (cases_lt m k) [
          | inl above ↦ none_of k (greatest_above all n m is k above lt)
          | inr low ↦ below k (under k low)
        ])
      where
        under : (k : ℕ) → k ≤ m → leb floor k ≡ false
        under k low = let far : m < floor = leb-false floor m e in lt-leb floor k (omega (arith, low, far))

    go : (o : Option ℕ) → greatest all n ≡ o → option_and_then kept (greatest some n)
        ≡ from_floor floor (option_and_then kept (greatest all n))
    go None is =
        let none = greatest_none some n (λ k lt. none_of k (greatest_none_below all n is k lt)) in
        rw (none, is) refl
    go (Some m) is =
        ap (option_and_then kept) (at m is (leb floor m) refl) ∙ chain_floor m (leb floor m) refl
        ∙ sym (ap (λ (o : Option ℕ). from_floor floor (option_and_then kept o)) is)

module _ {Frame Style Mb Picture MessageFault : Type 0} (pictures : Pictures Style Mb Picture)
    (encoding : Encoding Frame Style Mb Picture MessageFault) (rules : Rules) where
  pub never_below : NeverBelow pictures encoding rules
  unfolding capture
  never_below pace frame r m e =
      let h = reference_chosen rules (depth_at r.run.coded) (is_among (known_from r.since r.run.known))
      (length r.run.coded) m e in
      let both = and_parts (is_among r.run.known m) (leb r.since m) (sym (among_from r.since r.run.known m) ∙ h.2) in
      leb-true r.since m both.1

  pub forget_is_intra : ForgetIsIntra pictures encoding rules
  unfolding capture
  forget_is_intra pace frame r =
      go (reference_for rules (depth_at r.run.coded) (is_among (known_from (length r.run.coded) r.run.known))
      (length r.run.coded)) refl
    where
      go : (o : Option ℕ) → reference_for rules (depth_at r.run.coded)
          (is_among (known_from (length r.run.coded) r.run.known)) (length r.run.coded) ≡ o
          → reference_for rules (depth_at r.run.coded) (is_among (known_from (length r.run.coded) r.run.known))
          (length r.run.coded) ≡ None
      go None is = is
      go (Some m) is =
          let h = reference_chosen rules (depth_at r.run.coded) (is_among (known_from (length r.run.coded) r.run.known))
          (length r.run.coded) m is in
          let both = and_parts (is_among r.run.known m) (leb (length r.run.coded) m)
          (sym (among_from (length r.run.coded) r.run.known m) ∙ h.2) in
          let low : length r.run.coded ≤ m = leb-true (length r.run.coded) m both.1 in
          absurd (omega (arith, low, h.0))
