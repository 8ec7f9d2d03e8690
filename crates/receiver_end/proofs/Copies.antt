-- Macroblocks that are copied where they were not taken.
use Rattle.std.proofs.Common.{◌≡◌, ℕ, ◌+◌, Bool, true, false, not, cond, ◌&&◌, nat_eq, nat_lt, refl, sym, ap, ◌∙◌, subst, arith}
use Rattle.std.proofs.lemmas.Bool.{eqb-true, eqb-false, ltb-true, ltb-false, lt-ltb, le-ltb}
use Rattle.std.specs.Prelude.{if◌then◌else◌}

-- a macroblock that was not taken is copied, and one that was taken stays
pub missing_set : (e h : Bool) (now screen old : ℕ) → h ≡ false → now ≡ (if e then screen else old)
    → now ≡ (if e && not h then screen else old)
missing_set true true now screen old is set = absurd cc
missing_set false true now screen old is set = absurd cc
missing_set true false now screen old is set = set
missing_set false false now screen old is set = set

pub taken_left : (e h : Bool) (screen old : ℕ) → h ≡ true → old ≡ (if e && not h then screen else old)
taken_left true true screen old is = refl
taken_left false true screen old is = refl
taken_left true false screen old is = absurd cc
taken_left false false screen old is = refl

-- One macroblock more is done. Of a sample in macroblock m: what it is after macroblock `at`, by what it was before.
module _ (now screen was first : ℕ) where
  after_one : (here taken_at taken before after : Bool) → now ≡ cond (here && not taken_at) screen was
      → was ≡ cond taken first (cond before screen first)
      → (here ≡ true → taken_at ≡ taken) → (here ≡ true → after ≡ true) → (here ≡ false → after ≡ before)
      → now ≡ cond taken first (cond after screen first)
  after_one true taken_at true before after step old same next kept =
      subst (λ (h : Bool). now ≡ cond (true && not h) screen was) (same refl) step ∙ old
  after_one true taken_at false before after step old same next kept =
      subst (λ (t : Bool). now ≡ cond t screen first) (sym (next refl))
      (subst (λ (h : Bool). now ≡ cond (true && not h) screen was) (same refl) step)
  after_one false taken_at taken before after step old same next kept =
      subst (λ (t : Bool). now ≡ cond taken first (cond t screen first)) (sym (kept refl)) (step ∙ old)

  pub one_more : (taken : ℕ → Bool) (m at : ℕ) → now ≡ cond (nat_eq m at && not (taken at)) screen was
      → was ≡ cond (taken m) first (cond (nat_lt m at) screen first)
      → now ≡ cond (taken m) first (cond (nat_lt m (at + 1)) screen first)
  one_more taken m at step old =
      after_one (nat_eq m at) (taken at) (taken m) (nat_lt m at) (nat_lt m (at + 1)) step old
      (λ e. ap taken (sym (eqb-true m at e))) (λ e. lt-ltb m (at + 1) (omega (arith, eqb-true m at e)))
      (λ e. other (nat_lt m at) refl (eqb-false m at e))
    where
      other : (b : Bool) → nat_lt m at ≡ b → (m ≡ at → ⊥) → nat_lt m (at + 1) ≡ b
      other true is apart = lt-ltb m (at + 1) (omega (arith, ltb-true m at is))
      other false is apart = le-ltb m (at + 1) (omega (arith, ltb-false m at is, apart))
