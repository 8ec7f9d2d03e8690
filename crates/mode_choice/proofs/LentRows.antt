-- Eight rows that stand apart by the width of a plane, written one by one into a block.
use Rattle.std.proofs.Common.{◌≡◌, ℕ, ◌+◌, ◌*◌, ◌-◌, ◌/◌, ◌%◌, ◌<◌, List, get_or, drop, slice_range, cond, nat_eq, ap, ◌∙◌, arith, get_or-take, get_or-drop, ℤ}
use Rattle.std.proofs.lemmas.Bool.Decides.{nat_tests}

-- a sample of a row that is lent
lent_at : (rows : List ℕ) (at i : ℕ) → i < 8 → get_or (slice_range rows at (at + 8)) i 0 ≡ get_or rows (at + i) 0
lent_at rows at i h = get_or-take (at + 8 - at) (drop at rows) i 0 (omega arith) ∙ get_or-drop at rows i 0

-- by the number of the row and by the place in the block
row_place : (first width j at k : ℕ) → at ≡ first + width * j → k / 8 ≡ j → at + k % 8 ≡ first + width * (k / 8) + k % 8
row_place first width j at k e h = let same : width * (k / 8) ≡ width * j = ap (λ (n : ℕ). width * n) h in
    omega (arith, e, same)

pub lent_in_block : (rows : List ℕ) (first width j at k : ℕ) → at ≡ first + width * j → k / 8 ≡ j →
    get_or (slice_range rows at (at + 8)) (k % 8) 0 ≡ get_or rows (first + width * (k / 8) + k % 8) 0
lent_in_block rows first width j at k e h = lent_at rows at (k % 8) (omega arith)
    ∙ ap (λ (n : ℕ). get_or rows n 0) (row_place first width j at k e h)

-- one more row stands
pub one_more_row : (k j : ℕ) (now row before value : ℤ) → now ≡ cond (nat_eq (k / 8) j) row before
    → (k / 8 ≡ j → row ≡ value) →
    (k / 8 < j → before ≡ value) → k / 8 < j + 1 → now ≡ value
one_more_row k j now row before value put here above h = grind (arith, nat_tests)
