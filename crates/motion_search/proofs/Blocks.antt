-- Blocks of 16 x 16 samples and their differences.
use Rattle.std.proofs.Common.{◌≡◌, refl, sym, ap, subst, ◌∙◌, arith, ℕ, ◌+◌, ◌-◌, ◌*◌, ◌/◌, ◌%◌, ◌<◌, ◌≤◌, List, ◌++◌, length, get_or, drop, take, slice_range, pos, ◌-ℤ◌}
use lib.Lanes.{chunk}
use Rattle.std.proofs.lemmas.Simd.{length-chunk, chunk-drop}
use Rattle.std.proofs.lemmas.Grind.{same_number_lists}
use Rattle.std.proofs.lemmas.List.FromFn.{length-map-range_with_len, get_or-map-range_with_len}
use Rattle.std.proofs.lemmas.List.{get_or-take, get_or-drop}
use Rattle.sad_kernel.specs.Differences.{differences}
use Rattle.h263_types.specs.declared.vector.Vector.{Vector}
use Rattle.h263_planes.specs.Picture.{Picture}
use Rattle.h263_planes.specs.declared.Plane.TheVariants.{Y}
use Rattle.motion_search.specs.declared.candidate.Candidate.{Candidate}
use Rattle.h263_planes.specs.Samples.{sample_at}
use Rattle.std.proofs.Math.ListN.{drop_of_length-le}
use Rattle.motion_search.specs.Rows.{rows_from}
use Rattle.motion_search.specs.Cost.{square, differences_from, lead_of}

-- ---- the 256 numbers of a block

pub length-square : (f : ℕ → ℕ → ℕ) → length (square f) ≡ 256
unfolding square
length-square f = length-map-range_with_len (λ k. f (k % 16) (k / 16)) 0 256

pub get_or-square : (f : ℕ → ℕ → ℕ) (j i : ℕ) → j < 16 → i < 16 → get_or (square f) (16 * j + i) 0 ≡ f i j
unfolding square
get_or-square f j i hj hi =
    let column : (16 * j + i) % 16 ≡ i = omega arith in
    let row : (16 * j + i) / 16 ≡ j = omega arith in
    get_or-map-range_with_len (λ k. f (k % 16) (k / 16)) 0 256 (16 * j + i) (16 * j + i) 0 (omega arith) (omega arith)
    ∙ ap (λ (m : ℕ). f m ((16 * j + i) / 16)) column ∙ ap (f i) row

-- 256 numbers by rows of sixteen are a square
pub is_square : (xs : List ℕ) (f : ℕ → ℕ → ℕ) → length xs ≡ 256
    → ((j i : ℕ) → j < 16 → i < 16 → get_or xs (16 * j + i) 0 ≡ f i j) → xs ≡ square f
is_square xs f long same =
    same_number_lists xs (square f) (long ∙ sym (length-square f))
    (λ k hk.
    let place : 16 * (k / 16) + k % 16 ≡ k = omega arith in
    let row : k / 16 < 16 = omega arith in
    subst (λ (m : ℕ). get_or xs m 0 ≡ get_or (square f) m 0) place
    (same (k / 16) (k % 16) row (omega arith) ∙ sym (get_or-square f (k / 16) (k % 16) row (omega arith))))

-- ---- the differences that a vector leaves

-- a vector by which the samples differ by n, with its cost
abbrev pub costing : Vector → ℕ → Candidate
costing v n = record { vector = v; cost = pos n -ℤ pos (lead_of v) }

-- ---- one more row

part_is : (xs : List ℕ) (i n : ℕ) → slice_range xs i (i + n) ≡ chunk i n xs
part_is xs i n = let e : i + n - i ≡ n = omega arith in ap (λ (k : ℕ). take k (drop i xs)) e

row_is : (f : ℕ → ℕ → ℕ) (row : List ℕ) (j : ℕ) → j < 16 → length row ≡ 16 → ((i : ℕ) → i < 16 → get_or row i 0 ≡ f i j)
    → chunk (16 * j) 16 (square f) ≡ row
row_is f row j hj long same =
    let there : length (chunk (16 * j) 16 (square f))
    ≡ 16 = length-chunk (16 * j) 16 (square f) (omega (arith, length-square f)) in
    same_number_lists (chunk (16 * j) 16 (square f)) row (there ∙ sym long)
    (λ i hi. let h : i < 16 = omega arith in
    get_or-take 16 (drop (16 * j) (square f)) i 0 h ∙ get_or-drop (16 * j) (square f) i 0 ∙ get_or-square f j i hj h
    ∙ sym (same i h))

-- the first of some rows and the others
pub row_cut : (block other : List ℕ) (j : ℕ) →
    ((xs ys us vs : List ℕ) → length xs ≡ length us → differences (xs ++ ys) (us ++ vs)
    ≡ differences xs us + differences ys vs) →
    j < 16 → length block ≡ 256 → length other ≡ 256 →
    differences (drop (16 * j) block) (drop (16 * j) other)
    ≡ differences (chunk (16 * j) 16 block) (chunk (16 * j) 16 other) + differences (drop (16 * (j + 1)) block)
    (drop (16 * (j + 1)) other)
row_cut block other j add hj hb ho =
    let next : 16 * j + 16 ≡ 16 * (j + 1) = omega arith in
    let long : length (chunk (16 * j) 16 block) ≡ length (chunk (16 * j) 16 other) =
    length-chunk (16 * j) 16 block (omega arith) ∙ sym (length-chunk (16 * j) 16 other (omega arith)) in
    let cut : differences (drop (16 * j) block) (drop (16 * j) other) ≡ differences (chunk (16 * j) 16 block
    ++ drop (16 * j + 16) block) (chunk (16 * j) 16 other ++ drop (16 * j + 16) other) =
    cc (chunk-drop (16 * j) 16 block, chunk-drop (16 * j) 16 other) in
    cut ∙ add (chunk (16 * j) 16 block) (drop (16 * j + 16) block) (chunk (16 * j) 16 other) (drop (16 * j + 16) other)
    long
    ∙ ap (λ (k : ℕ). differences (chunk (16 * j) 16 block) (chunk (16 * j) 16 other) + differences (drop k block)
    (drop k other)) next

one_row_more : (f : ℕ → ℕ → ℕ) (block row : List ℕ) (j : ℕ) →
    ((xs ys us vs : List ℕ) → length xs ≡ length us → differences (xs ++ ys) (us ++ vs)
    ≡ differences xs us + differences ys vs) →
    j < 16 → length block ≡ 256 → length row ≡ 16 → ((i : ℕ) → i < 16 → get_or row i 0 ≡ f i j) →
    differences (drop (16 * j) block) (drop (16 * j) (square f))
    ≡ differences (slice_range block (16 * j) (16 * j + 16)) row + differences (drop (16 * (j + 1)) block)
    (drop (16 * (j + 1)) (square f))
one_row_more f block row j add hj hb hr same =
    row_cut block (square f) j add hj hb (length-square f)
    ∙ ap (λ (r : List ℕ). differences (chunk (16 * j) 16 block) r + differences (drop (16 * (j + 1)) block)
    (drop (16 * (j + 1)) (square f))) (row_is f row j hj hr same)
    ∙ ap (λ (b : List ℕ). differences b row + differences (drop (16 * (j + 1)) block) (drop (16 * (j + 1)) (square f)))
    (sym (part_is block (16 * j) 16))

pub one_row_of : (p : Picture) (block row : List ℕ) (x y j : ℕ) →
    ((xs ys us vs : List ℕ) → length xs ≡ length us → differences (xs ++ ys) (us ++ vs)
    ≡ differences xs us + differences ys vs) →
    j < 16 → length block ≡ 256 → length row ≡ 16
    → ((i : ℕ) → i < 16 → get_or row i 0 ≡ sample_at p Y (x + i) (y + j)) →
    differences (slice_range block (16 * j) (16 * j + 16)) row + differences_from block p x y (j + 1)
    ≡ differences_from block p x y j
unfolding differences_from
one_row_of p block row x y j add hj hb hr same =
    sym (one_row_more (λ i k. sample_at p Y (x + i) (y + k)) block row j add hj hb hr same)

-- four rows, each four further down
pub four_apart : (left : ℕ → ℕ) (j a b c d : ℕ) → a + left (j + 1) ≡ left j → b + left (j + 4 + 1) ≡ left (j + 4)
    → c + left (j + 8 + 1) ≡ left (j + 8) → d + left (j + 12 + 1) ≡ left (j + 12) →
    a + b + c + d + (left (j + 1) + left (j + 5) + left (j + 9) + left (j + 13))
    ≡ left j + left (j + 4) + left (j + 8) + left (j + 12)
four_apart left j a b c d ha hb hc hd =
    let five : left (j + 4 + 1) ≡ left (j + 5) = ap left (omega arith) in
    let nine : left (j + 8 + 1) ≡ left (j + 9) = ap left (omega arith) in
    let thirteen : left (j + 12 + 1) ≡ left (j + 13) = ap left (omega arith) in
    omega (arith, ha, hb, hc, hd, five, nine, thirteen)

-- the four quarters are all rows
pub quarters_add : (left : ℕ → ℕ) (a b c d : ℕ) → left 16 ≡ 0 →
    a + (left 1 + left 5 + left 9 + left 13) ≡ left 0 + left 4 + left 8 + left 12 →
    b + (left 2 + left 6 + left 10 + left 14) ≡ left 1 + left 5 + left 9 + left 13 →
    c + (left 3 + left 7 + left 11 + left 15) ≡ left 2 + left 6 + left 10 + left 14 →
    d + (left 4 + left 8 + left 12 + left 16) ≡ left 3 + left 7 + left 11 + left 15 →
    a + b + c + d ≡ left 0
quarters_add left a b c d end ea eb ec ed = omega (arith, end, ea, eb, ec, ed)

-- all rows, and none
pub all_rows : (block : List ℕ) (p : Picture) (x y : ℕ) → differences_from block p x y 0
    ≡ differences block (square (λ i j. sample_at p Y (x + i) (y + j)))
unfolding differences_from
all_rows block p x y = refl

-- below the last row nothing differs
pub no_rows : (block : List ℕ) (p : Picture) (x y j : ℕ) → length block ≡ 256 → 16 ≤ j → differences_from block p x y j
    ≡ 0
unfolding differences_from
no_rows block p x y j long end =
    let past : length block ≤ 16 * j = omega arith in
    ap (λ (l : List ℕ). differences l (drop (16 * j) (square (λ a b. sample_at p Y (x + a) (y + b)))))
    (drop_of_length-le block past)

pub no_rows_of_two : (block other : List ℕ) (j : ℕ) → length block ≡ 256 → 16 ≤ j → rows_from block other j ≡ 0
unfolding rows_from
no_rows_of_two block other j long end =
    let past : length block ≤ 16 * j = omega arith in
    ap (λ (l : List ℕ). differences l (drop (16 * j) other)) (drop_of_length-le block past)
