-- Sums of areas, and what they say of the differences of blocks.
use Rattle.std.proofs.Common.{◌≡◌, refl, sym, ap, ◌∙◌, arith, ℕ, zero, suc, ◌+◌, ◌-◌, ◌*◌, ◌/◌, ◌%◌, ◌^◌, ◌<◌, ◌≤◌, List, [], ◌∷◌, ◌++◌, length, map, replicate, take, drop, get_or, slice_range, subst, Bool, true, false, cond, leb, ltb, ltb-true, ltb-false, w16}
use lib.Lanes.{zip2, pick_l, chunk, mask_l, sel_l, top}
use Rattle.std.proofs.lemmas.List.{get_or-take, get_or-drop, get_or-map}
use Rattle.std.proofs.lemmas.Bool.{leb-false}
use Rattle.std.proofs.Math.Seq.{take-length}
use Rattle.std.specs.Int.{abs_diff}
use Rattle.std.specs.List.{range_with_len}
use Rattle.std.proofs.lemmas.Grind.{same_number_lists}
use Rattle.std.proofs.lemmas.List.FromFn.{length-map-range_with_len, get_or-map-range_with_len}
use Rattle.std.proofs.lemmas.Simd.{zip2-map, bitmask_splat, bit_mask_l, length-chunk, get_or-chunk}
use Rattle.sad_kernel.specs.Differences.{differences}
use Rattle.motion_search.specs.Cost.{square}
use Rattle.motion_search.specs.Areas.{sum_of_first, column_sum, area_sum, AreSamplesAt, sixteen, sample_of_block, IsRow}
use Rattle.motion_search.proofs.Blocks.{length-square, get_or-square}

-- ---- sums of numbers by their places

pub total_is : (f g : ℕ → ℕ) (n : ℕ) → ((i : ℕ) → i < n → f i ≡ g i) → sum_of_first f n ≡ sum_of_first g n
unfolding sum_of_first
total_is f g zero h = refl
total_is f g (suc n) h = cc (total_is f g n (λ i hi. h i (omega (arith, hi))), h n (omega arith))

total_zeros : (n : ℕ) → sum_of_first (λ _. 0) n ≡ 0
unfolding sum_of_first
total_zeros zero = refl
total_zeros (suc n) = omega (arith, total_zeros n)

total_plus : (f g : ℕ → ℕ) (n : ℕ) → sum_of_first (λ i. f i + g i) n ≡ sum_of_first f n + sum_of_first g n
unfolding sum_of_first
total_plus f g zero = refl
total_plus f g (suc n) = omega (arith, total_plus f g n)

pub total_first : (f : ℕ → ℕ) (n : ℕ) → sum_of_first f (suc n) ≡ f 0 + sum_of_first (λ i. f (suc i)) n
unfolding sum_of_first
total_first f zero = omega arith
total_first f (suc n) = omega (arith, total_first f n)

total_split : (f : ℕ → ℕ) (a b : ℕ) → sum_of_first f (a + b) ≡ sum_of_first f a + sum_of_first (λ i. f (a + i)) b
unfolding sum_of_first
total_split f a zero = let e : a + 0 ≡ a = omega arith in ap (sum_of_first f) e ∙ omega arith
total_split f a (suc b) =
    let e : a + suc b ≡ suc (a + b) = omega arith in
    ap (sum_of_first f) e ∙ omega (arith, total_split f a b)

-- the order of two sums doesn't matter
total_swap : (f : ℕ → ℕ → ℕ) (a b : ℕ) → sum_of_first (λ i. sum_of_first (λ j. f i j) a) b
    ≡ sum_of_first (λ j. sum_of_first (λ i. f i j) b) a
unfolding sum_of_first
total_swap f a zero = sym (total_zeros a)
total_swap f a (suc b) =
    ap (λ (k : ℕ). k + sum_of_first (λ j. f b j) a) (total_swap f a b)
    ∙ sym (total_plus (λ j. sum_of_first (λ i. f i j) b) (λ j. f b j) a)

pub total_small : (f : ℕ → ℕ) (n : ℕ) → ((i : ℕ) → f i < 256) → sum_of_first f n ≤ 255 * n
unfolding sum_of_first
total_small f zero h = omega arith
total_small f (suc n) h = omega (arith, total_small f n h, h n)

-- a difference of two sums is never more than the sum of the differences
pub sums_apart : (f g : ℕ → ℕ) (d : ℕ → ℕ) (n : ℕ) → ((i : ℕ) → abs_diff (f i) (g i) ≤ d i)
    → abs_diff (sum_of_first f n) (sum_of_first g n) ≤ sum_of_first d n
unfolding sum_of_first
sums_apart f g d zero h = omega arith
sums_apart f g d (suc n) h = omega (arith, sums_apart f g d n h, h n)

-- ---- columns and areas

column_more : (f : ℕ → ℕ → ℕ) (x y n : ℕ) → column_sum f x y (n + 1) ≡ column_sum f x y n + f x (y + n)
unfolding column_sum sum_of_first
column_more f x y n = let e : n + 1 ≡ suc n = omega arith in ap (sum_of_first (λ j. f x (y + j))) e

column_less : (f : ℕ → ℕ → ℕ) (x y n : ℕ) → column_sum f x y (n + 1) ≡ f x y + column_sum f x (y + 1) n
unfolding column_sum
column_less f x y n =
    let e : n + 1 ≡ suc n = omega arith in
    let first : f x (y + 0) ≡ f x y = let z : y + 0 ≡ y = omega arith in ap (f x) z in
    let rest = total_is (λ i. f x (y + suc i)) (λ j. f x (y + 1 + j)) n (λ i hi. let s : y + suc i
    ≡ y + 1 + i = omega arith in ap (f x) s) in
    ap (sum_of_first (λ j. f x (y + j))) e ∙ total_first (λ j. f x (y + j)) n ∙ omega (arith, first, rest)

pub column_small : (f : ℕ → ℕ → ℕ) (x y n : ℕ) → AreSamplesAt f → column_sum f x y n ≤ 255 * n
unfolding column_sum
column_small f x y n h = total_small (λ j. f x (y + j)) n (λ j. h x (y + j))

pub area_small : (f : ℕ → ℕ → ℕ) (x y : ℕ) → AreSamplesAt f → area_sum f x y ≤ 16320
unfolding area_sum sum_of_first
area_small f x y h =
    omega (
      arith,
      column_small f (x + 0) y 8 h,
      column_small f (x + 1) y 8 h,
      column_small f (x + 2) y 8 h,
      column_small f (x + 3) y 8 h,
      column_small f (x + 4) y 8 h,
      column_small f (x + 5) y 8 h,
      column_small f (x + 6) y 8 h,
      column_small f (x + 7) y 8 h,
    )

pub area_is : (f g : ℕ → ℕ → ℕ) (x y u v : ℕ) → ((i j : ℕ) → i < 8 → j < 8 → f (x + i) (y + j) ≡ g (u + i) (v + j))
    → area_sum f x y ≡ area_sum g u v
unfolding area_sum column_sum
area_is f g x y u v h =
    total_is (λ i. sum_of_first (λ j. f (x + i) (y + j)) 8) (λ i. sum_of_first (λ j. g (u + i) (v + j)) 8) 8
    (λ i hi. total_is (λ j. f (x + i) (y + j)) (λ j. g (u + i) (v + j)) 8 (λ j hj. h i j hi hj))

-- ---- a block's differences by its quarters

-- the differences of one quarter
abbrev quarter_of : (ℕ → ℕ → ℕ) → ℕ → ℕ → ℕ
quarter_of d u v = sum_of_first (λ i. sum_of_first (λ j. d (u + i) (v + j)) 8) 8

-- two areas differ by at least as much as their sums do
area_apart : (b f : ℕ → ℕ → ℕ) (u v : ℕ)
    → abs_diff (area_sum f u v) (area_sum b u v) ≤ quarter_of (λ i j. abs_diff (b i j) (f i j)) u v
unfolding area_sum column_sum
area_apart b f u v =
    sums_apart (λ i. sum_of_first (λ j. f (u + i) (v + j)) 8) (λ i. sum_of_first (λ j. b (u + i) (v + j)) 8)
    (λ i. sum_of_first (λ j. abs_diff (b (u + i) (v + j)) (f (u + i) (v + j))) 8) 8
    (λ i. sums_apart (λ j. f (u + i) (v + j)) (λ j. b (u + i) (v + j))
    (λ j. abs_diff (b (u + i) (v + j)) (f (u + i) (v + j))) 8 (λ j. omega arith))

differences_total : (xs ys : List ℕ) (n : ℕ) → length xs ≡ n → length ys ≡ n
    → differences xs ys ≡ sum_of_first (λ k. abs_diff (get_or xs k 0) (get_or ys k 0)) n
unfolding sum_of_first
differences_total [] ys zero hx hy = refl
differences_total [] ys (suc n) hx hy = absurd (omega (arith, hx))
differences_total (x ∷ xs) [] zero hx hy = absurd (omega (arith, hx))
differences_total (x ∷ xs) [] (suc n) hx hy = absurd (omega (arith, hy))
differences_total (x ∷ xs) (y ∷ ys) zero hx hy = absurd (omega (arith, hx))
differences_total (x ∷ xs) (y ∷ ys) (suc n) hx hy =
    ap (λ (k : ℕ). abs_diff x y + k) (differences_total xs ys n (omega (arith, hx)) (omega (arith, hy)))
    ∙ sym (total_first (λ k. abs_diff (get_or (x ∷ xs) k 0) (get_or (y ∷ ys) k 0)) n)

by_rows : (d : ℕ → ℕ) (n : ℕ) → sum_of_first d (16 * n) ≡ sum_of_first (λ j. sum_of_first (λ i. d (16 * j + i)) 16) n
unfolding sum_of_first
by_rows d zero = refl
by_rows d (suc n) =
    let e : 16 * suc n ≡ 16 * n + 16 = omega arith in
    ap (sum_of_first d) e ∙ total_split d (16 * n) 16
    ∙ ap (λ (k : ℕ). k + sum_of_first (λ i. d (16 * n + i)) 16) (by_rows d n)

block_rows : (block : List ℕ) (f : ℕ → ℕ → ℕ) → length block ≡ 256 →
    differences block (square f)
    ≡ sum_of_first (λ j. sum_of_first (λ i. abs_diff (sample_of_block block i j) (f i j)) 16) 16
block_rows block f long =
    differences_total block (square f) 256 long (length-square f)
    ∙ by_rows (λ k. abs_diff (get_or block k 0) (get_or (square f) k 0)) 16
    ∙ total_is (λ j. sum_of_first (λ i. abs_diff (get_or block (16 * j + i) 0) (get_or (square f) (16 * j + i) 0)) 16)
    (λ j. sum_of_first (λ i. abs_diff (sample_of_block block i j) (f i j)) 16) 16
    (λ j hj. total_is (λ i. abs_diff (get_or block (16 * j + i) 0) (get_or (square f) (16 * j + i) 0))
    (λ i. abs_diff (sample_of_block block i j) (f i j)) 16
    (λ i hi. ap (abs_diff (sample_of_block block i j)) (get_or-square f j i hj hi)))

-- the two halves of eight rows
two_quarters : (d : ℕ → ℕ → ℕ) (v : ℕ) → sum_of_first (λ j. sum_of_first (λ i. d i (v + j)) 16) 8
    ≡ quarter_of d 0 v + quarter_of d 8 v
two_quarters d v =
    total_is (λ j. sum_of_first (λ i. d i (v + j)) 16) (λ j. sum_of_first (λ i. d (0 + i) (v + j)) 8 + sum_of_first
    (λ i. d (8 + i) (v + j))
    8) 8
    (λ j hj. total_split (λ i. d i (v + j)) 8 8 ∙ ap (λ (k : ℕ). k + sum_of_first (λ i. d (8 + i) (v + j)) 8)
    (total_is (λ i. d i (v + j)) (λ i. d (0 + i) (v + j)) 8 (λ i hi. let e : i ≡ 0 + i = omega arith in
    ap (λ (k : ℕ). d k (v + j)) e)))
    ∙ total_plus (λ j. sum_of_first (λ i. d (0 + i) (v + j)) 8) (λ j. sum_of_first (λ i. d (8 + i) (v + j)) 8) 8
    ∙ cc (total_swap (λ j i. d (0 + i) (v + j)) 8 8, total_swap (λ j i. d (8 + i) (v + j)) 8 8)

four_quarters : (d : ℕ → ℕ → ℕ) → sum_of_first (λ j. sum_of_first (λ i. d i j) 16) 16
    ≡ quarter_of d 0 0 + quarter_of d 8 0 + (quarter_of d 0 8 + quarter_of d 8 8)
four_quarters d =
    total_split (λ j. sum_of_first (λ i. d i j) 16) 8 8
    ∙ ap (λ (k : ℕ). k + sum_of_first (λ j. sum_of_first (λ i. d i (8 + j)) 16) 8)
    (total_is (λ j. sum_of_first (λ i. d i j) 16) (λ j. sum_of_first (λ i. d i (0 + j)) 16) 8 (λ j hj. let e : j
    ≡ 0 + j = omega arith in ap (λ (k : ℕ). sum_of_first (λ i. d i k) 16) e))
    ∙ cc (two_quarters d 0, two_quarters d 8)

-- two blocks differ by at least as much as the sums of their quarters do, taken together
pub quarters_apart : (block : List ℕ) (f : ℕ → ℕ → ℕ) → length block ≡ 256 →
    let b = sample_of_block block in
    abs_diff (area_sum f 0 0) (area_sum b 0 0) + abs_diff (area_sum f 8 0) (area_sum b 8 0)
    + (abs_diff (area_sum f 0 8) (area_sum b 0 8) + abs_diff (area_sum f 8 8) (area_sum b 8 8)) ≤ differences block
    (square f)
quarters_apart block f long =
    let b = sample_of_block block in
    let d = λ (i j : ℕ). abs_diff (b i j) (f i j) in
    omega (
      arith,
      area_apart b f 0 0,
      area_apart b f 8 0,
      area_apart b f 0 8,
      area_apart b f 8 8,
      block_rows block f long,
      four_quarters d,
    )

-- ---- sixteen lanes

pub is_sixteen : (xs : List ℕ) (f : ℕ → ℕ) → length xs ≡ 16 → ((i : ℕ) → i < 16 → get_or xs i 0 ≡ f i) → xs ≡ sixteen f
unfolding sixteen
is_sixteen xs f long same =
    same_number_lists xs (map f (range_with_len 0 16)) (long ∙ sym (length-map-range_with_len f 0 16))
    (λ i hi. let h : i < 16 = omega (arith, hi, long) in same i h
    ∙ sym (get_or-map-range_with_len f 0 16 i i 0 h (omega arith)))

pub length-sixteen : (f : ℕ → ℕ) → length (sixteen f) ≡ 16
unfolding sixteen
length-sixteen f = length-map-range_with_len f 0 16

pub at_sixteen : (f : ℕ → ℕ) (i : ℕ) → i < 16 → get_or (sixteen f) i 0 ≡ f i
unfolding sixteen
at_sixteen f i h = get_or-map-range_with_len f 0 16 i i 0 h (omega arith)

pub sixteen_is : (f g : ℕ → ℕ) → ((i : ℕ) → i < 16 → f i ≡ g i) → sixteen f ≡ sixteen g
sixteen_is f g h = is_sixteen (sixteen f) g (length-sixteen f) (λ i hi. at_sixteen f i hi ∙ h i hi)

pub zip2-sixteen : (op : ℕ → ℕ → ℕ) (f g : ℕ → ℕ) → zip2 op (sixteen f) (sixteen g) ≡ sixteen (λ i. op (f i) (g i))
unfolding sixteen
zip2-sixteen op f g = zip2-map op f g (range_with_len 0 16)

-- what the lanes of sixteen bits do
abbrev pub plus : ℕ → ℕ → ℕ
plus a b = (a + b) % 2 ^ 16

abbrev pub minus : ℕ → ℕ → ℕ
minus a b = (a + (2 ^ 16 - b)) % 2 ^ 16

-- one more row below, and one less above
pub more_lanes : (f : ℕ → ℕ → ℕ) (at : ℕ → ℕ) (y n : ℕ) (xs ys : List ℕ) → AreSamplesAt f → n < 8 →
    xs ≡ sixteen (λ i. column_sum f (at i) y n) → ys ≡ sixteen (λ i. f (at i) (y + n))
    → zip2 plus xs ys ≡ sixteen (λ i. column_sum f (at i) y (n + 1))
more_lanes f at y n xs ys h hn ex ey =
    let both : zip2 plus xs ys ≡ zip2 plus (sixteen (λ i. column_sum f (at i) y n)) (sixteen (λ i. f (at i) (y + n))) =
    cc (ex, ey) in
    both ∙ zip2-sixteen plus (λ i. column_sum f (at i) y n) (λ i. f (at i) (y + n))
    ∙ sixteen_is (λ i. plus (column_sum f (at i) y n) (f (at i) (y + n))) (λ i. column_sum f (at i) y (n + 1))
    (λ i hi. omega (arith, column_more f (at i) y n, column_small f (at i) y n h, h (at i) (y + n), hn))

pub less_lanes : (f : ℕ → ℕ → ℕ) (at : ℕ → ℕ) (y n : ℕ) (xs ys : List ℕ) → AreSamplesAt f → n < 8 →
    xs ≡ sixteen (λ i. column_sum f (at i) y (n + 1)) → ys ≡ sixteen (λ i. f (at i) y)
    → zip2 minus xs ys ≡ sixteen (λ i. column_sum f (at i) (y + 1) n)
less_lanes f at y n xs ys h hn ex ey =
    let both : zip2 minus xs ys ≡ zip2 minus (sixteen (λ i. column_sum f (at i) y (n + 1)))
    (sixteen (λ i. f (at i) y)) = cc (ex, ey) in
    both ∙ zip2-sixteen minus (λ i. column_sum f (at i) y (n + 1)) (λ i. f (at i) y)
    ∙ sixteen_is (λ i. minus (column_sum f (at i) y (n + 1)) (f (at i) y)) (λ i. column_sum f (at i) (y + 1) n)
    (λ i hi. omega (arith, column_less f (at i) y n, column_small f (at i) (y + 1) n h, h (at i) y, hn))

-- eight columns beside each other, by pairs, pairs of pairs, and pairs of these
abbrev pub paired : (ℕ → ℕ) → ℕ → ℕ
paired c i = plus (plus (plus (c (i + 0)) (c (i + 1))) (plus (c (i + 2)) (c (i + 3))))
    (plus (plus (c (i + 4)) (c (i + 5))) (plus (c (i + 6)) (c (i + 7))))

paired_is : (c : ℕ → ℕ) (i : ℕ) → ((k : ℕ) → c k ≤ 2040) → paired c i ≡ sum_of_first (λ k. c (i + k)) 8
unfolding sum_of_first
paired_is c i h = omega (arith, h (i + 0), h (i + 1), h (i + 2), h (i + 3), h (i + 4), h (i + 5), h (i + 6), h (i + 7))

pub areas_of : (f : ℕ → ℕ → ℕ) (at y : ℕ) → AreSamplesAt f → sixteen (λ i. paired (λ k. column_sum f k y 8) (at + i))
    ≡ sixteen (λ i. area_sum f (at + i) y)
unfolding area_sum
areas_of f at y h =
    sixteen_is (λ i. paired (λ k. column_sum f k y 8) (at + i))
    (λ i. sum_of_first (λ k. column_sum f (at + i + k) y 8) 8)
    (λ i hi. paired_is (λ k. column_sum f k y 8) (at + i) (λ k. omega (arith, column_small f k y 8 h)))

-- what loads leave as it is
wide_is : (xs : List ℕ) → map (λ (k : ℕ). k) xs ≡ xs
wide_is [] = refl
wide_is (x ∷ xs) = ap (λ (l : List ℕ). x ∷ l) (wide_is xs)

pub loaded : (xs : List ℕ) (f : ℕ → ℕ) → length xs ≡ 16 → ((i : ℕ) → i < 16 → get_or xs i 0 ≡ f i)
    → map (λ (k : ℕ). k) (chunk 0 16 xs) ≡ sixteen f
loaded xs f long same =
    let whole : chunk 0 16 xs ≡ xs = subst (λ (k : ℕ). take k xs ≡ xs) long (take-length xs) in
    wide_is (chunk 0 16 xs) ∙ whole ∙ is_sixteen xs f long same

-- the lanes n places further on, and with those of the next vector
abbrev pub turned : ℕ → List ℕ → List ℕ
turned n r = pick_l 0 (r ++ r) (map (λ (i : ℕ). (n + i) % 16) (range_with_len 0 16))

abbrev pub moved : ℕ → List ℕ → List ℕ → List ℕ
moved n l r = pick_l 0 (l ++ r) (map (λ (i : ℕ). n + i) (range_with_len 0 16))

abbrev pub lanes_left : List ℕ → List ℕ → List ℕ
lanes_left l r =
    let l2 = zip2 plus l (moved 1 l r) in
    let r2 = zip2 plus r (turned 1 r) in
    let l4 = zip2 plus l2 (moved 2 l2 r2) in
    let r4 = zip2 plus r2 (turned 2 r2) in
    zip2 plus l4 (moved 4 l4 r4)

abbrev pub lanes_right : List ℕ → List ℕ
lanes_right r =
    let r2 = zip2 plus r (turned 1 r) in
    let r4 = zip2 plus r2 (turned 2 r2) in
    zip2 plus r4 (turned 4 r4)

left_lanes : (c : ℕ → ℕ) → lanes_left (sixteen c) (sixteen (λ i. c (16 + i))) ≡ sixteen (λ i. paired c (0 + i))
unfolding sixteen
left_lanes c = refl

right_lanes : (c : ℕ → ℕ)
    → moved 8 (lanes_left (sixteen c) (sixteen (λ i. c (16 + i)))) (lanes_right (sixteen (λ i. c (16 + i))))
    ≡ sixteen (λ i. paired c (8 + i))
unfolding sixteen
right_lanes c = refl

-- the sixteen areas from the first column on, and from the eighth
pub left_areas : (f : ℕ → ℕ → ℕ) (y : ℕ) (l r : List ℕ) → AreSamplesAt f → l ≡ sixteen (λ i. column_sum f i y 8)
    → r ≡ sixteen (λ i. column_sum f (16 + i) y 8) →
    lanes_left l r ≡ sixteen (λ i. area_sum f i y)
left_areas f y l r h el er =
    ap (λ (xs : List ℕ). lanes_left xs r) el ∙ ap (lanes_left (sixteen (λ i. column_sum f i y 8))) er
    ∙ left_lanes (λ k. column_sum f k y 8) ∙ areas_of f 0 y h
    ∙ sixteen_is (λ i. area_sum f (0 + i) y) (λ i. area_sum f i y) (λ i hi. let e : 0 + i ≡ i = omega arith in
    ap (λ (k : ℕ). area_sum f k y) e)

pub right_areas : (f : ℕ → ℕ → ℕ) (y : ℕ) (l r : List ℕ) → AreSamplesAt f → l ≡ sixteen (λ i. column_sum f i y 8)
    → r ≡ sixteen (λ i. column_sum f (16 + i) y 8) →
    moved 8 (lanes_left l r) (lanes_right r) ≡ sixteen (λ i. area_sum f (8 + i) y)
right_areas f y l r h el er =
    ap (λ (xs : List ℕ). moved 8 (lanes_left xs r) (lanes_right r)) el
    ∙ ap (λ (xs : List ℕ). moved 8 (lanes_left (sixteen (λ i. column_sum f i y 8)) xs) (lanes_right xs)) er
    ∙ right_lanes (λ k. column_sum f k y 8) ∙ areas_of f 8 y h

-- two vectors together
pub both_lanes : (p q : ℕ → ℕ) (ps qs : List ℕ) → ps ≡ sixteen p → qs ≡ sixteen q → ((i : ℕ) → p i + q i < 65536)
    → zip2 plus ps qs ≡ sixteen (λ i. p i + q i)
both_lanes p q ps qs ep eq h =
    let both : zip2 plus ps qs ≡ zip2 plus (sixteen p) (sixteen q) = cc (ep, eq) in
    both ∙ zip2-sixteen plus p q ∙ sixteen_is (λ i. plus (p i) (q i)) (λ i. p i + q i) (λ i hi. omega (arith, h i))

small_apart : (a b : ℕ) → a ≤ 16320 → b ≤ 16320 → abs_diff a b ≤ 16320
small_apart a b ha hb = omega (arith, ha, hb)

pub half_small : (a b left right : ℕ) → a ≤ 16320 → b ≤ 16320 → left ≤ 16320 → right ≤ 16320
    → abs_diff a left + abs_diff b right ≤ 32640
half_small a b left right ha hb hl hr = omega (arith, small_apart a left ha hl, small_apart b right hb hr)

-- how far sixteen sums beside each other, and those eight columns to the right, are from two others
pub half_lanes : (g : ℕ → ℕ) (at left right : ℕ) (xs ys : List ℕ) → ((k : ℕ) → g k ≤ 16320) → left ≤ 16320
    → right ≤ 16320 →
    xs ≡ sixteen (λ i. abs_diff (g (at + i)) left) → ys ≡ sixteen (λ i. abs_diff (g (at + 8 + i)) right)
    → zip2 plus xs ys ≡ sixteen (λ i. abs_diff (g (at + i)) left + abs_diff (g (at + 8 + i)) right)
half_lanes g at left right xs ys h hl hr ex ey =
    both_lanes (λ i. abs_diff (g (at + i)) left) (λ i. abs_diff (g (at + 8 + i)) right) xs ys ex ey
    (λ i. omega (arith, half_small (g (at + i)) (g (at + 8 + i)) left right (h (at + i)) (h (at + 8 + i)) hl hr))

-- sixteen sums that are loaded
pub loaded_sums : (xs : List ℕ) (at : ℕ) → at + 16 ≤ length xs → chunk at 16 xs ≡ sixteen (λ i. get_or xs (at + i) 0)
loaded_sums xs at h = is_sixteen (chunk at 16 xs) (λ i. get_or xs (at + i) 0) (length-chunk at 16 xs h)
    (λ i hi. get_or-chunk at 16 xs i 0 hi)

-- a lane that isn't marked has more than the most
pub mark_tells : (xs : List ℕ) (f : ℕ → ℕ) (most i : ℕ) → xs ≡ sixteen f → i < 16 →
    mask_l (map (top 15) (zip2 (λ a b. cond (leb a b) (2 ^ 16 - 1) 0) xs (replicate 16 most))) % 2 ^ 64 / 2 ^ i % 2 ≡ 0
    → most < f i
mark_tells xs f most i e hi h = by (leb (f i) most) refl
  where
    long : length xs ≡ 16
    long = ap length e ∙ length-sixteen f

    bit : mask_l (map (top 15) (zip2 (λ a b. cond (leb a b) (2 ^ 16 - 1) 0) xs (replicate 16 most))) % 2 ^ 64 / 2 ^ i %
        2 ≡ cond (leb (f i) most) 1 0
    bit =
        ap (λ (n : ℕ). n / 2 ^ i % 2) (bitmask_splat w16 leb xs 16 most long (omega arith))
        ∙ bit_mask_l (map (λ (x : ℕ). leb x most) xs) i
        ∙ ap (λ (b : Bool). cond b 1 0) (get_or-map (λ (x : ℕ). leb x most) xs i 0 false (omega (arith, hi, long)))
        ∙ ap (λ (k : ℕ). cond (leb k most) 1 0) (ap (λ (l : List ℕ). get_or l i 0) e ∙ at_sixteen f i hi)

    by : (b : Bool) → leb (f i) most ≡ b → most < f i
    by true t = let one : 1 ≡ 0 = sym (ap (λ (b : Bool). cond b 1 0) t) ∙ sym bit ∙ h in absurd (omega (arith, one))
    by false t = omega (arith, leb-false (f i) most t)

-- the block in column i of row y differs by no less than its quarters' sums do
pub ruled_out : (f : ℕ → ℕ → ℕ) (y i tl tr bl br : ℕ) (block : List ℕ) → length block ≡ 256 →
    tl ≡ area_sum (sample_of_block block) 0 0 → tr ≡ area_sum (sample_of_block block) 8 0
    → bl ≡ area_sum (sample_of_block block) 0 8
    → br ≡ area_sum (sample_of_block block) 8 8 →
    abs_diff (area_sum f i y) tl + abs_diff (area_sum f (8 + i) y) tr + (abs_diff (area_sum f i (y + 8)) bl + abs_diff
    (area_sum f (8 + i) (y + 8)) br)
    ≤ differences block (square (λ k j. f (i + k) (y + j)))
ruled_out f y i tl tr bl br block long etl etr ebl ebr =
    let g = λ (k j : ℕ). f (i + k) (y + j) in
    let there = λ (u v x z k j : ℕ) (ex : i + (u + k) ≡ x + k) (ez : y + (v + j)
    ≡ z + j). ap (λ (m : ℕ). f m (y + (v + j))) ex ∙ ap (f (x + k)) ez in
    let a : area_sum f i y ≡ area_sum g 0 0 =
    sym (area_is g f 0 0 i y (λ k j hk hj. there 0 0 i y k j (omega arith) (omega arith))) in
    let b : area_sum f (8 + i) y
    ≡ area_sum g 8 0 = sym (area_is g f 8 0 (8 + i) y (λ k j hk hj. there 8 0 (8 + i) y k j (omega arith)
    (omega arith))) in
    let c : area_sum f i (y + 8)
    ≡ area_sum g 0 8 = sym (area_is g f 0 8 i (y + 8) (λ k j hk hj. there 0 8 i (y + 8) k j (omega arith)
    (omega arith))) in
    let d : area_sum f (8 + i) (y + 8)
    ≡ area_sum g 8 8 = sym (area_is g f 8 8 (8 + i) (y + 8) (λ k j hk hj. there 8 8 (8 + i) (y + 8) k j
    (omega arith) (omega arith))) in
    let same : abs_diff (area_sum f i y) tl + abs_diff (area_sum f (8 + i) y) tr +
    (abs_diff (area_sum f i (y + 8)) bl + abs_diff (area_sum f (8 + i) (y + 8)) br)
    ≡ abs_diff (area_sum g 0 0) (area_sum (sample_of_block block) 0 0) + abs_diff (area_sum g 8 0)
    (area_sum (sample_of_block block) 8 0)
    + (abs_diff (area_sum g 0 8) (area_sum (sample_of_block block) 0 8) + abs_diff (area_sum g 8 8)
    (area_sum (sample_of_block block) 8 8)) = cc (a, b, c, d, etl, etr, ebl, ebr) in
    subst (λ (n : ℕ). n ≤ differences block (square g)) (sym same) (quarters_apart block g long)

pub more_than : (m s n : ℕ) → m < s → s ≤ n → m < n
more_than m s n h k = omega (arith, h, k)

-- ---- a block's own rows, in its sixteen columns twice

abbrev pub twice : List ℕ → ℕ → ℕ → ℕ
twice block x y = sample_of_block block (x % 16) y

pub block_row_twice : (block row : List ℕ) (j : ℕ) → row ≡ slice_range block (16 * j) (16 * j + 16)
    → IsRow (twice block) j row row
block_row_twice block row j e =
    let part : slice_range block (16 * j) (16 * j + 16) ≡ take 16 (drop (16 * j) block) = (let n : 16 * j + 16 - 16 * j
    ≡ 16 = omega arith in ap (λ (k : ℕ). take k (drop (16 * j) block)) n) in
    let at = λ (i : ℕ) (hi : i < 16). ap (λ (l : List ℕ). get_or l i 0) (e ∙ part)
    ∙ get_or-take 16 (drop (16 * j) block) i 0 hi ∙ get_or-drop (16 * j) block i 0 in
    record {
      left = λ i hi. let k : i ≡ i % 16 = omega (arith, hi) in at i hi ∙ ap (λ (m : ℕ). sample_of_block block m j) k;
      right = λ i hi. let k : i ≡ (16 + i) % 16 = omega (arith, hi) in at i hi
          ∙ ap (λ (m : ℕ). sample_of_block block m j) k;
    }

-- a quarter of the block
pub quarter_is : (block xs : List ℕ) (u v : ℕ) → u ≤ 8 → xs ≡ sixteen (λ i. area_sum (twice block) i v)
    → get_or xs u 0 ≡ area_sum (sample_of_block block) u v
quarter_is block xs u v hu e =
    ap (λ (l : List ℕ). get_or l u 0) e ∙ at_sixteen (λ i. area_sum (twice block) i v) u (omega (arith, hu))
    ∙ area_is (twice block) (sample_of_block block) u v u v (λ i j hi hj. let k : (u + i) % 16
    ≡ u + i = omega (arith, hu, hi) in ap (λ (m : ℕ). sample_of_block block m (v + j)) k)

pub no_lanes : (f : ℕ → ℕ → ℕ) (at : ℕ → ℕ) (y : ℕ) → replicate 16 0 ≡ sixteen (λ i. column_sum f (at i) y 0)
unfolding sixteen column_sum sum_of_first
no_lanes f at y = refl

all_same : (n : ℕ) → replicate 16 n ≡ sixteen (λ _. n)
unfolding sixteen
all_same n = refl

-- the smaller one of both differences, which wrap
abbrev pub difference_l : List ℕ → List ℕ → List ℕ
difference_l xs ys =
    let there = zip2 minus xs ys in
    let back = zip2 minus ys xs in
    sel_l (map (top 15) (zip2 (λ a b. cond (ltb a b) (2 ^ 16 - 1) 0) there back)) there back

abbrev smaller : ℕ → ℕ → ℕ
smaller x y = cond (top 15 (cond (ltb (minus x y) (minus y x)) (2 ^ 16 - 1) 0)) (minus x y) (minus y x)

smaller_is : (x y : ℕ) → x ≤ 16320 → y ≤ 16320 → smaller x y ≡ abs_diff x y
smaller_is x y hx hy = by (ltb (minus x y) (minus y x)) refl
  where
    by : (t : Bool) → ltb (minus x y) (minus y x) ≡ t → cond (top 15 (cond t (2 ^ 16 - 1) 0)) (minus x y) (minus y x)
        ≡ abs_diff x y
    by true e = omega (arith, hx, hy, ltb-true _ _ e)
    by false e = omega (arith, hx, hy, ltb-false _ _ e)

difference_lanes : (f g : ℕ → ℕ) → difference_l (sixteen f) (sixteen g) ≡ sixteen (λ i. smaller (f i) (g i))
unfolding sixteen
difference_lanes f g = refl

pub away_lanes : (xs : List ℕ) (f : ℕ → ℕ) (n : ℕ) → n ≤ 16320 → ((i : ℕ) → f i ≤ 16320) → xs ≡ sixteen f
    → difference_l xs (replicate 16 n) ≡ sixteen (λ i. abs_diff (f i) n)
away_lanes xs f n hn hf e =
    ap (λ (l : List ℕ). difference_l l (replicate 16 n)) e ∙ ap (difference_l (sixteen f)) (all_same n)
    ∙ difference_lanes f (λ _. n)
    ∙ sixteen_is (λ i. smaller (f i) n) (λ i. abs_diff (f i) n) (λ i hi. smaller_is (f i) n (hf i) hn)

pub block_area_small : (block : List ℕ) (n u v : ℕ) → ((k : ℕ) → get_or block k 0 < 256)
    → n ≡ area_sum (sample_of_block block) u v → n ≤ 16320
block_area_small block n u v h e = omega (arith, e, area_small (sample_of_block block) u v (λ i j. h (16 * j + i)))
