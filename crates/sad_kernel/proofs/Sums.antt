-- The differences of two vectors, as the lanes compute them.
use Rattle.std.proofs.Common.{◌≡◌, ℕ, suc, take, length-drop, ◌+◌, ◌-◌, ◌*◌, ◌%◌, ◌<◌, ◌≤◌, List, [], ◌∷◌, ◌++◌, length, map, drop, slice_range, refl, ap, ◌∙◌, sym, subst, arith, Bool, true, false, cond, ltb, ltb-true, ltb-false, ◌^◌, w8, Fits, get_or, drop-cons, add-one}
use Rattle.std.specs.Int.{abs_diff}
use Rattle.std.proofs.Math.Seq.{take-length}
use lib.Lanes.{zip2, sel_l, top, Each1, chunk, sum_l}
use Rattle.std.proofs.lemmas.Simd.{sum_bound, sum-zip2, length-zip2, length-chunk, chunk-drop, Each1-from_get_or}
use Rattle.sad_kernel.specs.Differences.{differences}

-- what the lanes of 32 bits do
abbrev pub minus : ℕ → ℕ → ℕ
minus a b = (a + (2 ^ 32 - b)) % 2 ^ 32

abbrev pub below : ℕ → ℕ → Bool
below a b = top 31 (cond (ltb a b) (2 ^ 32 - 1) 0)

-- the smaller one of both differences, which wrap
abbrev pub difference_l : List ℕ → List ℕ → List ℕ
difference_l xs ys =
    let there = zip2 minus (map (λ (k : ℕ). k) xs) (map (λ (k : ℕ). k) ys) in
    let back = zip2 minus (map (λ (k : ℕ). k) ys) (map (λ (k : ℕ). k) xs) in
    sel_l (map (top 31) (zip2 (λ a b. cond (ltb a b) (2 ^ 32 - 1) 0) there back)) there back

one : (x y : ℕ) → x < 256 → y < 256 → cond (below (minus x y) (minus y x)) (minus x y) (minus y x) ≡ abs_diff x y
one x y hx hy = by (ltb (minus x y) (minus y x)) refl
  where
    by : (t : Bool) → ltb (minus x y) (minus y x) ≡ t → cond (top 31 (cond t (2 ^ 32 - 1) 0)) (minus x y) (minus y x)
        ≡ abs_diff x y
    by true e = omega (arith, hx, hy, ltb-true _ _ e)
    by false e = omega (arith, hx, hy, ltb-false _ _ e)

pub lanes_differ : (xs ys : List ℕ) → Each1 (λ x. x < 256) xs → Each1 (λ x. x < 256) ys
    → difference_l xs ys ≡ zip2 abs_diff xs ys
lanes_differ [] ys hx hy = refl
lanes_differ (x ∷ xs) [] hx hy = refl
lanes_differ (x ∷ xs) (y ∷ ys) hx hy = cc (one x y hx.0 hy.0, lanes_differ xs ys hx.1 hy.1)

pub small_difference : (xs ys : List ℕ) → Each1 (λ x. x < 256) xs → Each1 (λ x. x < 256) ys
    → Each1 (λ d. d ≤ 255) (zip2 abs_diff xs ys)
small_difference [] ys hx hy = tt
small_difference (x ∷ xs) [] hx hy = tt
small_difference (x ∷ xs) (y ∷ ys) hx hy = (omega (arith, hx.0, hy.0), small_difference xs ys hx.1 hy.1)

-- the differences of n samples are 255 each at most
pub differences_small : (xs ys : List ℕ) (n : ℕ) → length xs ≡ n → length ys ≡ n → Each1 (λ x. x < 256) xs
    → Each1 (λ x. x < 256) ys → differences xs ys ≤ 255 * n
differences_small xs ys n ex ey hx hy =
    let long : length (zip2 abs_diff xs ys) ≡ n = length-zip2 abs_diff xs ys (ex ∙ sym ey) ∙ ex in
    subst (λ k. differences xs ys ≤ 255 * k) long (sum_bound 255 (zip2 abs_diff xs ys) (small_difference xs ys hx hy))

-- two parts, one after the other
pub differences-append : (xs us ys vs : List ℕ) → length xs ≡ length us → differences (xs ++ ys) (us ++ vs)
    ≡ differences xs us + differences ys vs
differences-append [] [] ys vs h = omega arith
differences-append [] (u ∷ us) ys vs h = absurd (omega arith)
differences-append (x ∷ xs) [] ys vs h = absurd (omega arith)
differences-append (x ∷ xs) (u ∷ us) ys vs h = omega (arith, differences-append xs us ys vs (omega arith))

-- the differences of a part from place i on
pub differences-drop : (xs ys : List ℕ) (i n : ℕ) → i + n ≤ length xs → i + n ≤ length ys →
    differences (drop i xs) (drop i ys) ≡ differences (chunk i n xs) (chunk i n ys) + differences (drop (i + n) xs)
    (drop (i + n) ys)
differences-drop xs ys i n hx hy =
    let e : differences (drop i xs) (drop i ys) ≡ differences (chunk i n xs ++ drop (i + n) xs) (chunk i n ys
    ++ drop (i + n) ys) = cc (chunk-drop i n xs, chunk-drop i n ys) in
    e ∙ differences-append (chunk i n xs) (chunk i n ys) (drop (i + n) xs) (drop (i + n) ys) (length-chunk i n xs hx
    ∙ sym (length-chunk i n ys hy))

pub differences-one : (xs ys : List ℕ) (i : ℕ) → i < length xs → i < length ys →
    differences (drop i xs) (drop i ys) ≡ abs_diff (get_or xs i 0) (get_or ys i 0) + differences (drop (i + 1) xs)
    (drop (i + 1) ys)
differences-one xs ys i hx hy =
    let e : differences (drop i xs) (drop i ys)
    ≡ differences (get_or xs i 0 ∷ drop (suc i) xs) (get_or ys i 0 ∷ drop (suc i) ys) = cc (
      drop-cons xs i 0 hx,
      drop-cons ys i 0 hy,
    ) in
    rw add-one e

pub bytes : (xs : List ℕ) → ((i : ℕ) → Fits w8 (get_or xs i 0)) → Each1 (λ x. x < 256) xs
bytes xs h = Each1-from_get_or (λ x. x < 256) xs 0 (λ i hi. (h i).fits)

-- the whole sum, of at most 65536 bytes
pub whole_small : (xs ys : List ℕ) → length xs ≡ length ys → length xs ≤ 65536 → ((i : ℕ) → Fits w8 (get_or xs i 0))
    → ((i : ℕ) → Fits w8 (get_or ys i 0)) →
    differences xs ys ≤ 16711680
whole_small xs ys e h hx hy = omega (
  arith,
  differences_small xs ys (length xs) refl (sym e) (bytes xs hx)
      (bytes ys hy),
)

-- a slice from i to the end is the rest of the list
take_rest : (xs : List ℕ) (i : ℕ) → take (length xs - i) (drop i xs) ≡ drop i xs
take_rest xs i = subst (λ (n : ℕ). take n (drop i xs) ≡ drop i xs) (length-drop i xs) (take-length (drop i xs))

-- the differences of what lies after place i
pub differences-rest : (xs ys : List ℕ) (i : ℕ) →
    differences (take (length xs - i) (drop i xs)) (take (length ys - i) (drop i ys))
    ≡ differences (drop i xs) (drop i ys)
differences-rest xs ys i = cc (take_rest xs i, take_rest ys i)

-- ---- sixty-four samples, sixteen at a time

abbrev rest_of : List ℕ → List ℕ → ℕ → ℕ
rest_of xs ys k = differences (drop k xs) (drop k ys)

abbrev part_of : List ℕ → List ℕ → ℕ → ℕ
part_of xs ys k = differences (slice_range xs k (k + 16)) (slice_range ys k (k + 16))

part_and_rest : (xs ys : List ℕ) (k : ℕ) → k + 16 ≤ length xs → k + 16 ≤ length ys
    → rest_of xs ys k ≡ part_of xs ys k + rest_of xs ys (k + 16)
part_and_rest xs ys k hx hy =
    let n : k + 16 - k ≡ 16 = omega arith in
    let same : part_of xs ys k ≡ differences (chunk k 16 xs) (chunk k 16 ys) = cc (
      ap (λ (m : ℕ). take m (drop k xs)) n,
      ap (λ (m : ℕ). take m (drop k ys)) n,
    ) in
    differences-drop xs ys k 16 hx hy ∙ ap (λ (d : ℕ). d + rest_of xs ys (k + 16)) (sym same)

sums_of : (d e f g h p q r s all : ℕ) → d ≡ p + e → e ≡ q + f → f ≡ r + g → g ≡ s + h → d ≡ all + h
    → p + q + r + s ≡ all
sums_of d e f g h p q r s all ed ee ef eg ea = omega (arith, ed, ee, ef, eg, ea)

pub four_parts : (xs ys : List ℕ) (at : ℕ) → at + 64 ≤ length xs → at + 64 ≤ length ys →
    part_of xs ys at + part_of xs ys (at + 16) + part_of xs ys (at + 32) + part_of xs ys (at + 48)
    ≡ differences (chunk at 64 xs) (chunk at 64 ys)
four_parts xs ys at hx hy =
    let second : rest_of xs ys (at + 16 + 16) ≡ rest_of xs ys (at + 32) = (let e : at + 16 + 16
    ≡ at + 32 = omega arith in ap (rest_of xs ys) e) in
    let third : rest_of xs ys (at + 32 + 16) ≡ rest_of xs ys (at + 48) = (let e : at + 32 + 16
    ≡ at + 48 = omega arith in ap (rest_of xs ys) e) in
    let fourth : rest_of xs ys (at + 48 + 16) ≡ rest_of xs ys (at + 64) = (let e : at + 48 + 16
    ≡ at + 64 = omega arith in ap (rest_of xs ys) e) in
    sums_of (rest_of xs ys at) (rest_of xs ys (at + 16)) (rest_of xs ys (at + 32)) (rest_of xs ys (at + 48))
    (rest_of xs ys (at + 64))
    (part_of xs ys at) (part_of xs ys (at + 16)) (part_of xs ys (at + 32)) (part_of xs ys (at + 48))
    (differences (chunk at 64 xs) (chunk at 64 ys))
    (part_and_rest xs ys at (omega (arith, hx)) (omega (arith, hy)))
    (part_and_rest xs ys (at + 16) (omega (arith, hx)) (omega (arith, hy))
    ∙ ap (λ (r : ℕ). part_of xs ys (at + 16) + r) second)
    (part_and_rest xs ys (at + 32) (omega (arith, hx)) (omega (arith, hy))
    ∙ ap (λ (r : ℕ). part_of xs ys (at + 32) + r) third)
    (part_and_rest xs ys (at + 48) (omega (arith, hx)) (omega (arith, hy))
    ∙ ap (λ (r : ℕ). part_of xs ys (at + 48) + r) fourth)
    (differences-drop xs ys at 64 hx hy)

-- ---- four rows of sixteen

pub sum_small : (xs : List ℕ) → length xs ≡ 16 → Each1 (λ d. d ≤ 255) xs → sum_l xs ≤ 4080
sum_small xs long h = omega (arith, sum_bound 255 xs h)

pub whole_row : (xs : List ℕ) (n : ℕ) → length xs ≡ n → chunk 0 n xs ≡ xs
whole_row xs n e = subst (λ (k : ℕ). take k xs ≡ xs) e (take-length xs)

pub sum_of : (ls xs ys : List ℕ) → ls ≡ zip2 abs_diff (chunk 0 16 xs) (chunk 0 16 ys) → length xs ≡ 16 → length ys ≡ 16
    → sum_l ls ≡ differences xs ys
sum_of ls xs ys e hx hy = cc (e, whole_row xs 16 hx, whole_row ys 16 hy)

abbrev pub sums : List ℕ → List ℕ → List ℕ
sums xs ys = zip2 (λ a b. a + b) xs ys

pub sum_of_four : (us vs xs ys : List ℕ) → length us ≡ 16 → length vs ≡ 16 → length xs ≡ 16 → length ys ≡ 16 →
    sum_l (sums (sums us vs) (sums xs ys)) ≡ sum_l us + sum_l vs + sum_l xs + sum_l ys
sum_of_four us vs xs ys hu hv hx hy =
    let upper = length-zip2 (λ (a b : ℕ). a + b) us vs (hu ∙ sym hv) in
    let lower = length-zip2 (λ (a b : ℕ). a + b) xs ys (hx ∙ sym hy) in
    omega (
      arith,
      sum-zip2 (sums us vs) (sums xs ys) (upper ∙ hu ∙ sym (lower ∙ hx)),
      sum-zip2 us vs (hu ∙ sym hv),
      sum-zip2 xs ys (hx ∙ sym hy),
    )
