-- Blocks without levels, by their marks.
use Rattle.std.proofs.Common.{◌≡◌, ℕ, zero, suc, ◌+◌, ◌*◌, Bool, true, false, cond, List, [], ◌∷◌, refl, sym, ap, ◌∙◌, arith, eqb, not}
use Rattle.std.specs.Prelude.{◌<◌, ℤ, ◌&&◌, length}
use Rattle.std.specs.List.{list_all}
use Rattle.std.proofs.lemmas.Bool.{ne_eqb}
use Rattle.h263_types.specs.declared.blocks.Block.{Block}
use Rattle.h263_types.specs.Marks.{AreMarksOfFirst, is_zero, marks_of}
use Rattle.mode_choice.specs.Choice.{are_empty}

twice : (n : ℕ) → eqb (0 + 2 * n) 0 ≡ eqb n 0
twice zero = refl
twice (suc n) = ne_eqb (0 + 2 * suc n) 0 (λ e. omega (arith, e)) ∙ sym (ne_eqb (suc n) 0 (λ e. omega (arith, e)))

-- there is no mark where no level is left
pub none_marked : (levels : List ℤ) → eqb (marks_of levels) 0 ≡ list_all is_zero levels
unfolding marks_of
none_marked [] = refl
none_marked (z ∷ levels) = at (is_zero z) (none_marked levels)
  where
    at : (t : Bool) → eqb (marks_of levels) 0 ≡ list_all is_zero levels → eqb (cond (not t) 1 0 + 2 * marks_of levels) 0
        ≡ (t && list_all is_zero levels)
    at true more = twice (marks_of levels) ∙ more
    at false more = ne_eqb (1 + 2 * marks_of levels) 0 (λ e. omega (arith, e))

-- blocks have no level where none of their marks is set
pub none_in_any : (n : ℕ) (blocks : List Block) (marks : List ℕ) → length blocks ≡ n → length marks ≡ n
    → AreMarksOfFirst n blocks marks →
    list_all (λ m. eqb m 0) marks ≡ are_empty blocks
none_in_any n [] [] lb lm h = refl
none_in_any n [] (m ∷ marks) lb lm h = absurd (omega (arith, lb, lm))
none_in_any n (b ∷ blocks) [] lb lm h = absurd (omega (arith, lb, lm))
none_in_any zero (b ∷ blocks) (m ∷ marks) lb lm h = absurd (omega (arith, lb))
none_in_any (suc n) (b ∷ blocks) (m ∷ marks) lb lm h =
    let first = ap (λ (k : ℕ). eqb k 0) (h 0 (omega arith)) ∙ none_marked b.levels in
    let others = none_in_any n blocks marks (omega (arith, lb)) (omega (arith, lm))
    (λ k lt. h (suc k) (omega (arith, lt))) in
    cc (first, others)
