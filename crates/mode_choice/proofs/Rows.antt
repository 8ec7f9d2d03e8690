-- A row of eight numbers that is put into a block.
use Rattle.std.proofs.Common.{◌≡◌, ◌∙◌, ℕ, ℤ, pos, List, ◌+◌, ◌*◌, ◌/◌, ◌%◌, ◌<◌, ◌≤◌, cond, nat_eq, get_or, length, ap, arith}
use Rattle.std.proofs.lemmas.Bool.Decides.{nat_tests}
use Rattle.std.proofs.lemmas.Simd.{get_or-put_chunk_above, get_or-put_chunk_at, get_or-put_chunk_below}
use lib.Lanes.{put_chunk}

above_at_or_below : (k y : ℕ) (now here before : ℤ) → (k < 8 * y → now ≡ before) → (k / 8 ≡ y → now ≡ here)
    → (8 * y + 8 ≤ k → now ≡ before) →
    now ≡ cond (nat_eq (k / 8) y) here before
above_at_or_below k y now here before above at below = grind (arith, nat_tests)

-- the row's numbers stand in it, and the other rows stay
pub row_is_put : (samples row : List ℤ) (f : ℕ → ℤ) (y : ℕ) → length samples ≡ 64 → length row ≡ 8 → y < 8
    → ((x : ℕ) → x < 8 → get_or row x (pos 0) ≡ f x) →
    (k : ℕ) → k < 64 → get_or (put_chunk (8 * y) samples row) k (pos 0)
    ≡ cond (nat_eq (k / 8) y) (f (k % 8)) (get_or samples k (pos 0))
row_is_put samples row f y long eight h each k hk =
    above_at_or_below k y _ _ _
    (λ above. get_or-put_chunk_below (8 * y) samples row k (pos 0) above)
    (λ at.
    let place : k ≡ 8 * y + k % 8 = omega (arith, at) in
    ap (λ (n : ℕ). get_or (put_chunk (8 * y) samples row) n (pos 0)) place
    ∙ get_or-put_chunk_at (8 * y) samples row (k % 8) (pos 0) (omega (arith, eight)) (omega (arith, eight, long, h))
    ∙ each (k % 8) (omega arith))
    (λ below. get_or-put_chunk_above (8 * y) samples row k (pos 0) (omega (arith, eight, below)))
