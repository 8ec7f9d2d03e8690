-- The zigzag order, by a look at each of its places.
use Rattle.std.proofs.Common.{◌≡◌, ℕ, zero, suc, ◌<◌, List, length, get_or, Bool, true, false, nat_eq, nat_lt, refl, subst, ◌∙◌, arith, zero-add}
use Rattle.std.specs.List.{list_all, range_with_len}
use Rattle.std.proofs.lemmas.List.Folds.{list_all_at}
use Rattle.std.proofs.lemmas.List.FromFn.{get_or-range_with_len}
use Rattle.std.proofs.lemmas.Bool.Decides.{nat_tests}
use Rattle.quantiser.specs.Zigzag.{order, figure, block_place_of, zigzag_place_of}

not_false : (b c : Bool) → (b ≡ false → c ≡ false) → c ≡ true → b ≡ true
not_false true c h e = refl
not_false false c h e = let f : c ≡ false = h refl in cc

-- what a test of each element says of one
holds_at : (p : ℕ → Bool) (xs : List ℕ) (i : ℕ) → i < length xs → list_all p xs ≡ true → p (get_or xs i 0) ≡ true
holds_at p xs i h all = not_false (p (get_or xs i 0)) (list_all p xs) (list_all_at p xs i 0 h) all

-- a test of each number below 64
holds_below : (p : ℕ → Bool) (k : ℕ) → k < 64 → list_all p (range_with_len 0 64) ≡ true → p k ≡ true
holds_below p k h all =
    let e : get_or (range_with_len 0 64) k 0 ≡ k = get_or-range_with_len 0 64 k 0 h ∙ zero-add k in
    subst (λ (n : ℕ). p n ≡ true) e (holds_at p (range_with_len 0 64) k h all)

small : (n : ℕ) → nat_lt n 64 ≡ true → n < 64
small n h = grind (arith, nat_tests)

same : (m n : ℕ) → nat_eq m n ≡ true → m ≡ n
same m n h = grind (arith, nat_tests)

pub block_place_fits : (k : ℕ) → k < 64 → block_place_of k < 64
unfolding block_place_of
block_place_fits k h = small (get_or order k 0) (holds_at (λ n. nat_lt n 64) order k h refl)

pub zigzag_place_fits : (at : ℕ) → at < 64 → zigzag_place_of at < 64
unfolding zigzag_place_of
zigzag_place_fits at h = small (get_or figure at 0) (holds_at (λ n. nat_lt n 64) figure at h refl)

pub from_order : (k : ℕ) → k < 64 → zigzag_place_of (block_place_of k) ≡ k
unfolding zigzag_place_of block_place_of
from_order k h = same (get_or figure (get_or order k 0) 0) k
    (holds_below (λ n. nat_eq (get_or figure (get_or order n 0) 0) n) k h refl)

pub from_block : (at : ℕ) → at < 64 → block_place_of (zigzag_place_of at) ≡ at
unfolding zigzag_place_of block_place_of
from_block at h = same (get_or order (get_or figure at 0) 0) at
    (holds_below (λ n. nat_eq (get_or order (get_or figure n 0) 0) n) at h refl)

above_first : (k at : ℕ) → get_or order k 0 ≡ at → 0 < at → 0 < k
above_first zero at e h = absurd (omega arith)
above_first (suc k) at e h = omega arith

pub later_place : (at : ℕ) → at < 64 → 0 < at → 0 < zigzag_place_of at
unfolding zigzag_place_of block_place_of
later_place at h some =
    let back : get_or order (get_or figure at 0) 0 ≡ at = from_block at h in
    above_first (get_or figure at 0) at back some
