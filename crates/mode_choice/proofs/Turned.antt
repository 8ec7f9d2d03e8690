-- The zigzag order of places by columns, by a look at each of them.
use Rattle.std.proofs.Common.{◌≡◌, ℕ, ◌<◌, List, [], ◌∷◌, length, get_or, Bool, true, false, nat_eq, nat_lt, refl, subst, ◌∙◌, arith, zero-add}
use Rattle.std.specs.List.{list_all, range_with_len}
use Rattle.std.proofs.lemmas.List.Folds.{list_all_at}
use Rattle.std.proofs.lemmas.List.FromFn.{get_or-range_with_len}
use Rattle.std.proofs.lemmas.Bool.Decides.{nat_tests}
use Rattle.quantiser.specs.Zigzag.{zigzag_place_of}
use Rattle.mode_choice.specs.Walk.{turned_place}

-- the places in the order, by columns
abbrev pub by_columns : List ℕ
by_columns =
    0 ∷ 2 ∷ 3 ∷ 9 ∷ 10 ∷ 20 ∷ 21 ∷ 35 ∷ 1 ∷ 4 ∷ 8 ∷ 11 ∷ 19 ∷ 22 ∷ 34 ∷ 36 ∷
    5 ∷ 7 ∷ 12 ∷ 18 ∷ 23 ∷ 33 ∷ 37 ∷ 48 ∷ 6 ∷ 13 ∷ 17 ∷ 24 ∷ 32 ∷ 38 ∷ 47 ∷ 49 ∷
    14 ∷ 16 ∷ 25 ∷ 31 ∷ 39 ∷ 46 ∷ 50 ∷ 57 ∷ 15 ∷ 26 ∷ 30 ∷ 40 ∷ 45 ∷ 51 ∷ 56 ∷ 58 ∷
    27 ∷ 29 ∷ 41 ∷ 44 ∷ 52 ∷ 55 ∷ 59 ∷ 62 ∷ 28 ∷ 42 ∷ 43 ∷ 53 ∷ 54 ∷ 60 ∷ 61 ∷ 63 ∷ []

not_false : (b c : Bool) → (b ≡ false → c ≡ false) → c ≡ true → b ≡ true
not_false true c h e = refl
not_false false c h e = let f : c ≡ false = h refl in cc

-- what a test of each number below 64 says of one
holds_below : (p : ℕ → Bool) (k : ℕ) → k < 64 → list_all p (range_with_len 0 64) ≡ true → p k ≡ true
holds_below p k h all =
    let e : get_or (range_with_len 0 64) k 0 ≡ k = get_or-range_with_len 0 64 k 0 h ∙ zero-add k in
    let there : k < length (range_with_len 0 64) = h in
    subst (λ (n : ℕ). p n ≡ true) e (not_false (p (get_or (range_with_len 0 64) k 0)) (list_all p (range_with_len 0 64))
    (list_all_at p (range_with_len 0 64) k 0 there) all)

same : (m n : ℕ) → nat_eq m n ≡ true → m ≡ n
same m n h = grind (arith, nat_tests)

small : (n : ℕ) → nat_lt n 64 ≡ true → n < 64
small n h = grind (arith, nat_tests)

pub turned_at : (at : ℕ) → at < 64 → get_or by_columns at 0 ≡ zigzag_place_of (turned_place at)
unfolding zigzag_place_of
turned_at at h = same (get_or by_columns at 0) (zigzag_place_of (turned_place at))
    (holds_below (λ n. nat_eq (get_or by_columns n 0) (zigzag_place_of (turned_place n))) at h refl)

pub turned_fits : (at : ℕ) → at < 64 → get_or by_columns at 0 < 64
turned_fits at h = small (get_or by_columns at 0) (holds_below (λ n. nat_lt (get_or by_columns n 0) 64) at h refl)
