-- How near the forward transform of two rounded passes comes to the double sum. Each number of the first pass is off by
-- half at most, so 2^8 times a sum of the second is off by 2^7 times the sizes of a row of the basis, which
-- come to 2^14;
-- the second rounding takes 2^12 of such a sum: 2^8 * 2^12 + 2^7 * 2^14 is 3 * 2^20 in 2^21ths of a sixteenth.
use Rattle.std.proofs.Common.{◌≡◌, ℕ, ◌*◌, ◌^◌, ◌<◌, ◌≤◌, ℤ, pos, negsuc, ◌+ℤ◌, ◌-ℤ◌, ◌*ℤ◌, ◌≤ℤ◌, List, unsigned_abs, arith, refl, ap, ◌∙◌, sym, subst, lit≤, lit<}
use Rattle.std.specs.Int.{int_shr}
use Rattle.std.proofs.lemmas.Int.{ints, unsigned_abs-mul}
use Rattle.std.proofs.Math.Nat.{mul-le-mul_left}
use Rattle.std.proofs.Math.IntN.{*ℤ_comm}
use Rattle.idct8.specs.Basis.{basis}
use Rattle.idct8.specs.Near.{down_sum, down_at, near_at, IsBracketed}
use Rattle.idct8.specs.Passes.{pass_at}
use Rattle.idct8.specs.Ranges.{Within}
use Rattle.idct8.specs.Vectors.{lane, list_at, row_at, RowsWithin}
use Rattle.idct8.specs.declared.passes.Row.{Row}
use Rattle.idct8.specs.declared.passes.Direction.TheVariants.{Forward}
use Rattle.idct8.specs.Sums.{sum_below, total}
use Rattle.idct8.specs.Transform.{entry, forward_at}
use Rattle.idct8.proofs.Eights.{listed}
use Rattle.idct8.proofs.Shifts.{all_bits, low_bits}
use Rattle.idct8.proofs.Sizes.{size_of_sum}
use Rattle.idct8.proofs.Steps.{sums_added}
use Rattle.idct8.proofs.Sums.{below_eight, factor_sum, same_sum, times_assoc, times_sum}
use Rattle.idct8.proofs.Wraps.{abs_from_within, within_from_abs}
use Rattle.idct8.proofs.Parity.{total_scaled}

-- ---- the sizes of a row of the basis come to 2^14 at most

row_size : (u : ℕ) → u < 8 → total 8 (λ x. unsigned_abs (basis u x)) ≤ 16384
unfolding basis total
row_size = below_eight (λ u. total 8 (λ x. unsigned_abs (basis u x)) ≤ 16384) (lit≤ tt) (lit≤ tt) (lit≤ tt) (lit≤ tt)
    (lit≤ tt) (lit≤ tt) (lit≤ tt) (lit≤ tt)

-- eight numbers of sizes up to b, each times one of a row
pub row_bound : (b u : ℕ) (f : ℕ → ℤ) → u < 8 → ((x : ℕ) → x < 8 → Within b (f x))
    → Within (b * 16384) (sum_below 8 (λ x. basis u x *ℤ f x))
row_bound b u f hu h =
    let term = λ (x : ℕ) (hx : x < 8). subst (λ (n : ℕ). n ≤ b * unsigned_abs (basis u x))
    (sym (unsigned_abs-mul (basis u x) (f x)))
    (let own : unsigned_abs (f x) ≤ b = abs_from_within b (f x) (h x hx) in
    let left : unsigned_abs (basis u x) * unsigned_abs (f x) ≤ unsigned_abs (basis u x) * b =
    mul-le-mul_left (unsigned_abs (basis u x)) own in
    omega (arith, left)) in
    let sizes : unsigned_abs (sum_below 8 (λ x. basis u x *ℤ f x)) ≤ total 8 (λ x. b * unsigned_abs (basis u x)) =
    size_of_sum 8 (λ x. basis u x *ℤ f x) (λ x. b * unsigned_abs (basis u x)) term in
    let scaled : total 8 (λ x. b * unsigned_abs (basis u x)) ≡ b * total 8 (λ x. unsigned_abs (basis u x)) =
    total_scaled b 8 (λ x. unsigned_abs (basis u x)) in
    let whole : b * total 8 (λ x. unsigned_abs (basis u x)) ≤ b * 16384 = mul-le-mul_left b (row_size u hu) in
    within_from_abs (b * 16384) (sum_below 8 (λ x. basis u x *ℤ f x)) (omega (arith, sizes, scaled, whole))

-- a pass over eight rows of numbers from -b to b
pub pass_bound : (b : ℕ) (r : List Row) (u i : ℕ) → u < 8 → i < 8 → RowsWithin b r
    → Within (b * 16384) (pass_at Forward (list_at r i) u)
pass_bound b r u i hu hi h = row_bound b u (λ x. lane (list_at r i) x) hu
    (below_eight (λ x. Within b (lane (list_at r i) x)) ((h 0 (lit< tt)).within i hi) ((h 1 (lit< tt)).within i hi)
    ((h 2 (lit< tt)).within i hi) ((h 3 (lit< tt)).within i hi)
    ((h 4 (lit< tt)).within i hi) ((h 5 (lit< tt)).within i hi) ((h 6 (lit< tt)).within i hi)
    ((h 7 (lit< tt)).within i hi))

-- ---- rounding

pub small_bits : (z : ℤ) → ((pos 256 *ℤ int_shr z 8) ≤ℤ z) × (z ≤ℤ (pos 256 *ℤ int_shr z 8 +ℤ pos 255))
small_bits (pos n) = (omega (arith, ints), omega (arith, ints))
small_bits (negsuc n) = (omega (arith, ints), omega (arith, ints))

-- what the first rounding adds to 2^8 times a number, and the second to 2^13 times one
first_off : (z : ℤ) → Within 128 (pos 256 *ℤ int_shr (z +ℤ pos 128) 8 -ℤ z)
first_off z = omega (arith, ints, small_bits (z +ℤ pos 128))

second_off : (z : ℤ) → Within 4096 (pos 8192 *ℤ int_shr (z +ℤ pos 4096) 13 -ℤ z)
second_off z = omega (arith, ints, low_bits (z +ℤ pos 4096))

-- ---- the triangle

-- 2^8 times a sum of numbers, of which each times 2^8 is another one and an error
errors_apart : (u : ℕ) (h a : ℕ → ℤ) →
    pos 256 *ℤ sum_below 8 (λ x. basis u x *ℤ h x) ≡ sum_below 8 (λ x. basis u x *ℤ a x) +ℤ sum_below 8
    (λ x. basis u x *ℤ (pos 256 *ℤ h x -ℤ a x))
errors_apart u h a =
    factor_sum (pos 256) 8 (λ x. basis u x *ℤ h x)
    ∙ same_sum 8 (λ x. pos 256 *ℤ (basis u x *ℤ h x)) (λ x. basis u x *ℤ a x +ℤ basis u x *ℤ (pos 256 *ℤ h x -ℤ a x))
    (λ x hx. one (basis u x) (h x) (a x))
    ∙ sym (sums_added 8 (λ x. basis u x *ℤ a x) (λ x. basis u x *ℤ (pos 256 *ℤ h x -ℤ a x)))
  where
    whole : (k a : ℤ) → a +ℤ (k -ℤ a) ≡ k
    whole k a = omega (arith, ints)

    one : (m h a : ℤ) → pos 256 *ℤ (m *ℤ h) ≡ m *ℤ a +ℤ m *ℤ (pos 256 *ℤ h -ℤ a)
    one m h a =
        times_assoc (pos 256) m h ∙ ap (λ (k : ℤ). k *ℤ h) (*ℤ_comm (pos 256) m) ∙ sym (times_assoc m (pos 256) h)
        ∙ ap (λ (k : ℤ). m *ℤ k) (sym (whole (pos 256 *ℤ h) a))
        ∙ times_sum m a (pos 256 *ℤ h -ℤ a)

-- the double sum, column by column
pub exact_sum : List ℤ → ℕ → ℕ → ℤ
exact_sum s v u = sum_below 8 (λ x. sum_below 8 (λ y. basis u x *ℤ basis v y *ℤ entry s y x))

by_columns : (s : List ℤ) (v u : ℕ) → exact_sum s v u ≡ sum_below 8 (λ x. basis u x *ℤ down_sum s v x)
unfolding exact_sum
by_columns s v u =
    same_sum 8 (λ x. sum_below 8 (λ y. basis u x *ℤ basis v y *ℤ entry s y x)) (λ x. basis u x *ℤ down_sum s v x)
    (λ x hx. sym (factor_sum (basis u x) 8 (λ y. basis v y *ℤ entry s y x)
    ∙ same_sum 8 (λ y. basis u x *ℤ (basis v y *ℤ entry s y x)) (λ y. basis u x *ℤ basis v y *ℤ entry s y x)
    (λ y hy. times_assoc (basis u x) (basis v y) (entry s y x))))

-- two errors together
both_off : (a e q t : ℤ) → pos 256 *ℤ q ≡ a +ℤ e → Within (128 * 16384) e → Within 4096 (pos 8192 *ℤ t -ℤ q)
    → Within 3145728 (pos 2097152 *ℤ t -ℤ a)
both_off a e q t is he hq = omega (arith, ints)

pub off_by : (s : List ℤ) (v u : ℕ) → u < 8 → Within 3145728 (pos 2097152 *ℤ near_at s v u -ℤ exact_sum s v u)
off_by s v u hu =
    let q = sum_below 8 (λ x. basis u x *ℤ down_at s v x) in
    let e = sum_below 8 (λ x. basis u x *ℤ (pos 256 *ℤ down_at s v x -ℤ down_sum s v x)) in
    both_off (exact_sum s v u) e q (near_at s v u)
    (errors_apart u (down_at s v) (down_sum s v) ∙ ap (λ (k : ℤ). k +ℤ e) (sym (by_columns s v u)))
    (row_bound 128 u (λ x. pos 256 *ℤ down_at s v x -ℤ down_sum s v x) hu (λ x hx. first_off (down_sum s v x)))
    (second_off q)

-- ---- the bracket

bracket : (a t c : ℤ) → Within 3145728 (pos 2097152 *ℤ t -ℤ a) → (pos 33554432 *ℤ c) ≤ℤ (a +ℤ pos 16777216)
    → (a +ℤ pos 16777216) ≤ℤ (pos 33554432 *ℤ c +ℤ pos 33554431) → IsBracketed t c
bracket a (pos n) (pos m) h low high = record {
  least = omega (arith, ints);
  most = omega (arith, ints);
  up = λ le. omega (arith, ints);
  down = λ le. omega (arith, ints);
}
bracket a (pos n) (negsuc m) h low high = absurd (omega (arith, ints))
bracket a (negsuc n) (pos m) h low high = record {
  least = omega (arith, ints);
  most = omega (arith, ints);
  up = λ le. omega (arith, ints);
  down = λ le. omega (arith, ints);
}
bracket a (negsuc n) (negsuc m) h low high = record {
  least = omega (arith, ints);
  most = omega (arith, ints);
  up = λ le. omega (arith, ints);
  down = λ le. omega (arith, ints);
}

pub near_is : (s : List ℤ) (v u : ℕ) → v < 8 → u < 8 → IsBracketed (near_at s v u) (forward_at s v u)
unfolding exact_sum
near_is s v u hv hu =
    let both = all_bits (exact_sum s v u +ℤ pos 16777216) in
    bracket (exact_sum s v u) (near_at s v u) (forward_at s v u) (off_by s v u hu) both.0 both.1

-- ---- the first coefficient

ones : (x : ℕ) → x < 8 → basis 0 x ≡ pos 2048
unfolding basis
ones = below_eight (λ x. basis 0 x ≡ pos 2048) refl refl refl refl refl refl refl refl

-- a sum with the first row is 2048 times the plain one
plain_sum : (f : ℕ → ℤ) → sum_below 8 (λ x. basis 0 x *ℤ f x) ≡ pos 2048 *ℤ sum_below 8 f
plain_sum f =
    same_sum 8 (λ x. basis 0 x *ℤ f x) (λ x. pos 2048 *ℤ f x) (λ x hx. ap (λ (k : ℤ). k *ℤ f x) (ones x hx))
    ∙ sym (factor_sum (pos 2048) 8 f)

-- the first rounding of a multiple of 2^8, and the second of one of 2^13
pub first_none : (z d : ℤ) → z ≡ pos 2048 *ℤ d → int_shr (z +ℤ pos 128) 8 ≡ pos 8 *ℤ d
first_none z d e = omega (arith, ints, small_bits (z +ℤ pos 128), e)

second_none : (z d : ℤ) → z ≡ pos 16384 *ℤ d → int_shr (z +ℤ pos 4096) 13 ≡ pos 2 *ℤ d
second_none z d e = omega (arith, ints, low_bits (z +ℤ pos 4096), e)

few_bits : (z : ℤ) → ((pos 16 *ℤ int_shr z 4) ≤ℤ z) × (z ≤ℤ (pos 16 *ℤ int_shr z 4 +ℤ pos 15))
few_bits (pos n) = (omega (arith, ints), omega (arith, ints))
few_bits (negsuc n) = (omega (arith, ints), omega (arith, ints))

-- the plain sum of a block, column by column
block_sum : List ℤ → ℤ
block_sum s = sum_below 8 (λ x. sum_below 8 (λ y. entry s y x))

near_first : (s : List ℤ) → near_at s 0 0 ≡ pos 2 *ℤ block_sum s
unfolding block_sum
near_first s =
    let column = λ (x : ℕ). sum_below 8 (λ y. entry s y x) in
    let down : (x : ℕ) → x < 8 → down_at s 0 x ≡ pos 8 *ℤ column x = λ x hx. first_none (down_sum s 0 x) (column x)
    (plain_sum (λ y. entry s y x)) in
    let across : sum_below 8 (λ x. basis 0 x *ℤ down_at s 0 x) ≡ pos 2048 *ℤ (pos 8 *ℤ sum_below 8 column) =
    plain_sum (down_at s 0) ∙ ap (λ (k : ℤ). pos 2048 *ℤ k) (same_sum 8 (down_at s 0) (λ x. pos 8 *ℤ column x) down
    ∙ sym (factor_sum (pos 8) 8 column)) in
    second_none (sum_below 8 (λ x. basis 0 x *ℤ down_at s 0 x)) (sum_below 8 column) (omega (arith, ints, across))

exact_first : (s : List ℤ) → exact_sum s 0 0 ≡ pos 4194304 *ℤ block_sum s
unfolding block_sum
exact_first s =
    let column = λ (x : ℕ). sum_below 8 (λ y. entry s y x) in
    let across : sum_below 8 (λ x. basis 0 x *ℤ down_sum s 0 x) ≡ pos 2048 *ℤ (pos 2048 *ℤ sum_below 8 column) =
    plain_sum (down_sum s 0)
    ∙ ap (λ (k : ℤ). pos 2048 *ℤ k) (same_sum 8 (down_sum s 0) (λ x. pos 2048 *ℤ column x)
    (λ x hx. plain_sum (λ y. entry s y x)) ∙ sym (factor_sum (pos 2048) 8 column)) in
    by_columns s 0 0 ∙ omega (arith, ints, across)

same_quotient : (a t d : ℤ) → a ≡ pos 4194304 *ℤ d → t ≡ pos 2 *ℤ d → int_shr (a +ℤ pos 16777216) 25
    ≡ int_shr (t +ℤ pos 8) 4
same_quotient a t d ea et = omega (arith, ints, all_bits (a +ℤ pos 16777216), few_bits (t +ℤ pos 8), ea, et)

pub first_exact : (s : List ℤ) → forward_at s 0 0 ≡ int_shr (near_at s 0 0 +ℤ pos 8) 4
unfolding exact_sum
first_exact s = same_quotient (exact_sum s 0 0) (near_at s 0 0) (block_sum s) (exact_first s) (near_first s)

-- ---- the lanes

-- sum v of a pass over columns, of rows that are those of a block
pub down_of_lanes : (s : List ℤ) (r : List Row) (v x : ℕ) → x < 8
    → ((j i : ℕ) → j < 8 → i < 8 → lane (row_at r j) i ≡ entry s j i) → pass_at Forward (list_at r x) v ≡ down_sum s v x
down_of_lanes s r v x hx h = same_sum 8 (λ y. basis v y *ℤ lane (list_at r x) y) (λ y. basis v y *ℤ entry s y x)
    (λ y hy. ap (λ (k : ℤ). basis v y *ℤ k) (listed r x y hy ∙ h y x hy hx))

pub down_sum_small : (s : List ℤ) (v x : ℕ) → v < 8 → x < 8 → ((y : ℕ) → y < 8 → Within 255 (entry s y x))
    → Within 4177920 (down_sum s v x)
down_sum_small s v x hv hx h = row_bound 255 v (λ y. entry s y x) hv h

-- sum u of the second pass, of the transposed numbers of the first
pub near_of_lanes : (s : List ℤ) (r t : List Row) (u v : ℕ) → v < 8 → ((j : ℕ) → j < 8 → row_at t j ≡ list_at r j)
    → ((v x : ℕ) → v < 8 → x < 8 → lane (row_at r v) x ≡ down_at s v x) →
    int_shr (pass_at Forward (list_at t v) u +ℤ pos (2 ^ 12)) 13 ≡ near_at s v u
near_of_lanes s r t u v hv turned h =
    ap (λ (k : ℤ). int_shr (k +ℤ pos (2 ^ 12)) 13)
    (same_sum 8 (λ x. basis u x *ℤ lane (list_at t v) x) (λ x. basis u x *ℤ down_at s v x)
    (λ x hx. ap (λ (k : ℤ). basis u x *ℤ k) (listed t v x hx ∙ ap (λ (w : List ℤ). lane w v) (turned x hx)
    ∙ listed r x v hv ∙ h v x hv hx)))
