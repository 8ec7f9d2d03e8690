-- Tests of marks in a row.
use Rattle.std.proofs.Common.{◌≡◌, ℕ, zero, suc, ◌+◌, ◌<◌, ◌≤◌, Bool, true, false, List, [], ◌∷◌, ◌++◌, length, take, drop, get_or, not, refl, ap, ◌∙◌, arith}
use Rattle.std.specs.Prelude.{◌&&◌}
use Rattle.std.specs.List.{list_all}
use Rattle.std.proofs.lemmas.List.{take_more, length-drop, get_or-drop}
use Rattle.std.proofs.lemmas.List.Folds.{list_all-append}
use Rattle.call_model.specs.Numbers.{all_below}

-- tests that agree below n pass or fail together
pub all_same : (n : ℕ) (f g : ℕ → Bool) → ((k : ℕ) → k < n → f k ≡ g k) → all_below n f ≡ all_below n g
all_same zero f g h = refl
all_same (suc n) f g h = rw (h n (omega arith), all_same n f g (λ k lt. h k (omega arith))) refl

last_first : (a b : Bool) → (a && (b && true)) ≡ (b && a)
last_first true true = refl
last_first true false = refl
last_first false true = refl
last_first false false = refl

-- a test of each of some marks in a row
pub all_marks : (f : Bool → Bool) (marks : List Bool) (from count : ℕ) → from + count ≤ length marks
    → list_all f (take count (drop from marks)) ≡ all_below count (λ i. f (get_or marks (from + i) false))
all_marks f marks from zero within = refl
all_marks f marks from (suc count) within =
    let rest = drop from marks in
    let more : take (count + 1) rest ≡ take count rest ++ get_or rest count false ∷ [] = take_more rest count false
    (omega (arith, length-drop from marks)) in
    let next : suc count ≡ count + 1 = omega arith in
    let whole : take (suc count) rest ≡ take count rest ++ get_or rest count false ∷ [] =
    ap (λ (n : ℕ). take n rest) next ∙ more in
    ap (list_all f) whole
    ∙ list_all-append f (take count rest) (get_or rest count false ∷ [])
    ∙ last_first (list_all f (take count rest)) (f (get_or rest count false))
    ∙ ap (λ (b : Bool). f b && list_all f (take count rest)) (get_or-drop from marks count false)
    ∙ ap (λ (b : Bool). f (get_or marks (from + count) false) && b) (all_marks f marks from count (omega arith))

-- not all and none at once
pub not_both : (n : ℕ) (f : ℕ → Bool) → 0 < n → all_below n f ≡ true → all_below n (λ i. not (f i)) ≡ true → ⊥
not_both zero f some e g = omega arith
not_both (suc n) f some e g = at (f n) e g
  where
    at : (b : Bool) → (b && all_below n f) ≡ true → (not b && all_below n (λ i. not (f i))) ≡ true → ⊥
    at true e g = absurd cc
    at false e g = absurd cc
