-- Sums of squares, as the lanes add them up.
use Rattle.std.proofs.Common.{◌≡◌, ℕ, ◌+◌, ◌-◌, ◌*◌, ◌<◌, ◌≤◌, ◌∙◌, ap, sym, subst, map, arith, refl, lit≤, lit<, ℤ, pos, negsuc, ◌+ℤ◌, ◌-ℤ◌, ◌*ℤ◌, ◌≤ℤ◌, unsigned_abs, length, List, to_z, of_z, w32}
use lib.Dec.{T}
use lib.Signed.{non_neg}
use Rattle.std.proofs.lemmas.Int.{ints, to_z-of_z}
use Rattle.std.proofs.Math.Nat.{mul-le-mul}
use Rattle.idct8.specs.declared.passes.Row.{Row}
use Rattle.idct8.specs.Ranges.{IsSample, Within}
use Rattle.idct8.specs.Sums.{total}
use Rattle.idct8.specs.Transform.{entry}
use Rattle.idct8.specs.Vectors.{lane, row_at, squared, EightWithin}
use Rattle.std.specs.Prelude.{All}
use Rattle.idct8.proofs.Factors.{within_same}
use Rattle.idct8.proofs.Results.{sample_within}
use Rattle.idct8.proofs.Vectors.{passed_lane, within_fits}
use Rattle.idct8.proofs.Wraps.{abs_from_within}

pub product_is_square : (z : ℤ) → z *ℤ z ≡ pos (squared z)
product_is_square (pos n) = refl
product_is_square (negsuc n) = refl

pub two_squares : (a b : ℤ) {z : ℤ} → z ≡ a *ℤ a +ℤ b *ℤ b → z ≡ pos (squared a + squared b)
two_squares a b {z} e = let f : a *ℤ a +ℤ b *ℤ b ≡ pos (squared a) +ℤ pos (squared b) = cc (
  product_is_square a,
  product_is_square b,
) in e ∙ f

added : (k l m n : ℕ) → pos (k + l) +ℤ pos (m + n) ≡ pos (k + l + m + n)
added k l m n = omega (arith, ints)

-- two sums of two squares of passed numbers
pub four_squares : {s t a b c d a' b' c' d' : ℤ} → s ≡ pos (squared a' + squared b') → t ≡ pos (squared c' + squared d')
    → a' ≡ a → b' ≡ b → c' ≡ c → d' ≡ d →
    s +ℤ t ≡ pos (squared a + squared b + squared c + squared d)
four_squares {s} {t} {a} {b} {c} {d} {a'} {b'} {c'} {d'} es et ea eb ec ed =
    let e : s +ℤ t ≡ pos (squared a + squared b) +ℤ pos (squared c + squared d) = cc (es, et, ea, eb, ec, ed) in
    e ∙ added (squared a) (squared b) (squared c) (squared d)

pub same_squares : {a b c d a' b' c' d' : ℤ} → a ≡ a' → b ≡ b' → c ≡ c' → d ≡ d'
    → pos (squared a + squared b + squared c + squared d) ≡ pos (squared a' + squared b' + squared c' + squared d')
same_squares ea eb ec ed = cc (ea, eb, ec, ed)

-- a row of samples
pub sample_row : (block v : List ℤ) (k : ℕ) → length block ≡ 64 → k < 8 → All IsSample block → length v ≡ 8
    → ((i : ℕ) → i < 8 → lane v i ≡ entry block k i) → EightWithin 255 v
sample_row block v k long hk samples eight numbers = record {
  long = eight;
  within = λ i hi. within_same 255 255 (lit≤ tt) (numbers i hi)
      (sample_within (samples (8 * k + i) (pos 0) (omega (arith, long))));
}

-- row k of a block with the row that mirrors it, and less that row
pub record IsFolded (block : List ℤ) (k : ℕ) (sums differences : List ℤ) : Type 0 where
  pub sum : (i : ℕ) → i < 8 → lane sums i ≡ entry block k i +ℤ entry block (7 - k) i
  pub difference : (i : ℕ) → i < 8 → lane differences i ≡ entry block k i -ℤ entry block (7 - k) i
  pub sum_size : EightWithin 8191 sums
  pub difference_size : EightWithin 8191 differences

-- the size of a lane that was read
pub size_within : (most : ℕ) (v : List ℤ) (k n : ℕ) → most ≤ 2147483647 → EightWithin most v → k < 8
    → n ≡ unsigned_abs (to_z w32 (of_z w32 (lane (map (to_z w32) (map (of_z w32) v)) k))) →
    (n ≡ unsigned_abs (lane v k)) × (n ≤ most)
size_within most v k n fits h hk e =
    let passed : lane (map (to_z w32) (map (of_z w32) v)) k ≡ lane v k = passed_lane most k fits h in
    let kept : to_z w32 (of_z w32 (lane v k))
    ≡ lane v k = to_z-of_z w32 (lane v k) (within_fits most (lane v k) fits (h.within k hk)) in
    let is : n ≡ unsigned_abs (lane v k) = e ∙ ap (λ (z : ℤ). unsigned_abs (to_z w32 (of_z w32 z))) passed
    ∙ ap unsigned_abs kept in
    (is, subst (λ (m : ℕ). m ≤ most) (sym is) (abs_from_within most (lane v k) (h.within k hk)))

pub size_read : (v : List ℤ) (k n : ℕ) → EightWithin 1073479696 v → k < 8
    → n ≡ unsigned_abs (to_z w32 (of_z w32 (lane (map (to_z w32) (map (of_z w32) v)) k))) →
    (n ≡ unsigned_abs (lane v k)) × (n ≤ 1073479696)
size_read v k n h hk e = size_within 1073479696 v k n (lit≤ tt) h hk e

not_below : (z : ℤ) → pos 0 ≤ℤ z → T (non_neg z)
not_below (pos n) h = tt
not_below (negsuc n) h = absurd (omega (arith, ints, h))

-- a lane that was read and isn't below 0
pub up_read : (most : ℕ) (v : List ℤ) (k : ℕ) → most ≤ 2147483647 → EightWithin most v → k < 8 → pos 0 ≤ℤ lane v k →
    T (non_neg (to_z w32 (of_z w32 (lane (map (to_z w32) (map (of_z w32) v)) k))))
up_read most v k fits h hk up =
    let passed : lane (map (to_z w32) (map (of_z w32) v)) k ≡ lane v k = passed_lane most k fits h in
    let kept : to_z w32 (of_z w32 (lane v k))
    ≡ lane v k = to_z-of_z w32 (lane v k) (within_fits most (lane v k) fits (h.within k hk)) in
    let is : to_z w32 (of_z w32 (lane (map (to_z w32) (map (of_z w32) v)) k))
    ≡ lane v k = ap (λ (z : ℤ). to_z w32 (of_z w32 z)) passed ∙ kept in
    subst (λ (z : ℤ). T (non_neg z)) (sym is) (not_below (lane v k) up)

pub up_by : {z y : ℤ} {n : ℕ} → z ≡ y → y ≡ pos n → pos 0 ≤ℤ z
up_by {z} {y} {n} e f = omega (arith, ints, e, f)

-- ---- the squares of all rows of a block

square_most : (z : ℤ) → Within 255 z → squared z ≤ 65025
square_most z h = let size : unsigned_abs z ≤ 255 = abs_from_within 255 z h in mul-le-mul size size

-- two sums of four squares of passed numbers
pub eight_squares : {s t p q : ℤ} {m n : ℕ} → p ≡ s → q ≡ t → s ≡ pos m → t ≡ pos n → p +ℤ q ≡ pos (m + n)
eight_squares {s} {t} {p} {q} {m} {n} ep eq es et =
    let e : p +ℤ q ≡ pos m +ℤ pos n = cc (ep, eq, es, et) in
    let f : pos m +ℤ pos n ≡ pos (m + n) = omega (arith, ints) in
    e ∙ f

-- four of samples
pub four_small : (a b c d : ℤ) → Within 255 a → Within 255 b → Within 255 c → Within 255 d
    → squared a + squared b + squared c + squared d ≤ 260100
four_small a b c d ha hb hc hd = omega (arith, square_most a ha, square_most b hb, square_most c hc, square_most d hd)

pub small_sum : {z : ℤ} {m n : ℕ} → z ≡ pos (m + n) → m ≤ 260100 → n ≤ 260100 → Within 520200 z
small_sum {z} {m} {n} e hm hn = (omega (arith, ints, e, hm, hn), omega (arith, ints, e, hm, hn))

-- the squares of a block, column by column
pub by_columns : (g : ℕ → ℕ) {t a0 a1 a2 a3 a4 a5 a6 a7 : ℕ} → t ≡ a0 + a1 + a2 + a3 + a4 + a5 + a6 + a7 →
    a0 ≡ g 0 + g 8 + g 16 + g 24 + (g 32 + g 40 + g 48 + g 56) →
    a1 ≡ g 1 + g 9 + g 17 + g 25 + (g 33 + g 41 + g 49 + g 57) →
    a2 ≡ g 2 + g 10 + g 18 + g 26 + (g 34 + g 42 + g 50 + g 58) →
    a3 ≡ g 3 + g 11 + g 19 + g 27 + (g 35 + g 43 + g 51 + g 59) →
    a4 ≡ g 4 + g 12 + g 20 + g 28 + (g 36 + g 44 + g 52 + g 60) →
    a5 ≡ g 5 + g 13 + g 21 + g 29 + (g 37 + g 45 + g 53 + g 61) →
    a6 ≡ g 6 + g 14 + g 22 + g 30 + (g 38 + g 46 + g 54 + g 62) →
    a7 ≡ g 7 + g 15 + g 23 + g 31 + (g 39 + g 47 + g 55 + g 63) →
    t ≡ total 64 g
unfolding total
by_columns g e e0 e1 e2 e3 e4 e5 e6 e7 = omega (arith, e, e0, e1, e2, e3, e4, e5, e6, e7)

-- the squares of a column as the lanes add them up
pub column_squares : (s : List ℤ) (r : List Row) (v : List ℤ) (i : ℕ) → i < 8
    → ((j i : ℕ) → j < 8 → i < 8 → lane (row_at r j) i ≡ entry s j i) →
    lane v i ≡ pos (squared (lane (row_at r 0) i) + squared (lane (row_at r 1) i) + squared
    (lane (row_at r 2) i) + squared
    (lane (row_at r 3) i)
    + (squared (lane (row_at r 4) i) + squared (lane (row_at r 5) i) + squared (lane (row_at r 6) i) + squared
    (lane (row_at r 7) i))) →
    unsigned_abs (lane v i) ≡ squared (entry s 0 i) + squared (entry s 1 i) + squared (entry s 2 i) + squared
    (entry s 3 i) + (squared (entry s 4 i) + squared (entry s 5 i) + squared (entry s 6 i) + squared (entry s 7 i))
column_squares s r v i hi numbers e =
    ap unsigned_abs e
    ∙ eight (numbers 0 i (lit< tt) hi) (numbers 1 i (lit< tt) hi) (numbers 2 i (lit< tt) hi) (numbers 3 i (lit< tt) hi)
    (numbers 4 i (lit< tt) hi) (numbers 5 i (lit< tt) hi) (numbers 6 i (lit< tt) hi) (numbers 7 i (lit< tt) hi)
  where
    eight : {a b c d e f g h a' b' c' d' e' f' g' h' : ℤ} → a ≡ a' → b ≡ b' → c ≡ c' → d ≡ d' → e ≡ e' → f ≡ f' → g ≡ g'
        → h ≡ h' →
        squared a + squared b + squared c + squared d + (squared e + squared f + squared g + squared h)
        ≡ squared a' + squared b' + squared c' + squared d' + (squared e' + squared f' + squared g' + squared h')
    eight ea eb ec ed ee ef eg eh = cc (ea, eb, ec, ed, ee, ef, eg, eh)
