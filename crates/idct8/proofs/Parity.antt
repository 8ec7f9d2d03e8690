-- How large a coefficient is whose part of the block has a small sum of squares. A coefficient sees the block
-- folded across
-- and down, each time with a change of sign or without one, as its frequencies are odd or even.
use Rattle.std.proofs.Common.{◌≡◌, refl, sym, ap, subst, ◌∙◌, arith, lit<, lit≤, ℕ, zero, suc, ◌+◌, ◌-◌, ◌*◌, ◌<◌, ◌≤◌, ◌^◌, ℤ, pos, ◌+ℤ◌, ◌*ℤ◌, ◌-ℤ◌, ◌<ℤ◌, neg_ℤ, negsuc, unsigned_abs, List, get_or, Bool, true, false, nat_lt, ltb-true, mul_comm}
use borrow.Author.Differences.{up, down}
use Rattle.std.proofs.lemmas.Bool.Decides.{nat_tests}
use Rattle.std.specs.Int.{int_shr}
use Rattle.std.proofs.Math.Nat.{mul-le-mul, mul-le-mul_left}
use Rattle.std.proofs.lemmas.Int.{ints, unsigned_abs-mul}
use Rattle.idct8.specs.Sums.{sum_below, total}
use Rattle.idct8.specs.Basis.{basis}
use Rattle.idct8.specs.Transform.{entry, forward_at, rounded}
use Rattle.idct8.specs.Vectors.{lane, row_at, squared}
use Rattle.idct8.specs.declared.passes.Row.{Row}
use Rattle.idct8.proofs.Sums.{below_eight, same_sum, times_sum}
use Rattle.idct8.proofs.Steps.{sums_added}

-- ---- signs

-- a number, or its negation where a frequency is odd
abbrev pub signed : Bool → ℤ → ℤ
signed false z = z
signed true z = neg_ℤ z

-- a number with the one that mirrors it, or less that one where the frequency is odd
abbrev pub mirrored : Bool → ℤ → ℤ → ℤ
mirrored false a b = a +ℤ b
mirrored true a b = a -ℤ b

pub below_four : (P : ℕ → Type 0) → P 0 → P 1 → P 2 → P 3 → (x : ℕ) → x < 4 → P x
below_four P p0 p1 p2 p3 zero h = p0
below_four P p0 p1 p2 p3 (suc zero) h = p1
below_four P p0 p1 p2 p3 (suc (suc zero)) h = p2
below_four P p0 p1 p2 p3 (suc (suc (suc zero))) h = p3
below_four P p0 p1 p2 p3 (suc (suc (suc (suc k)))) h = absurd (omega arith)

-- each row of the basis mirrors itself
row_0 : (x : ℕ) → x < 4 → basis 0 (7 - x) ≡ signed false (basis 0 x)
unfolding basis
row_0 = below_four (λ x. basis 0 (7 - x) ≡ signed false (basis 0 x)) refl refl refl refl

row_1 : (x : ℕ) → x < 4 → basis 1 (7 - x) ≡ signed true (basis 1 x)
unfolding basis
row_1 = below_four (λ x. basis 1 (7 - x) ≡ signed true (basis 1 x)) refl refl refl refl

row_2 : (x : ℕ) → x < 4 → basis 2 (7 - x) ≡ signed false (basis 2 x)
unfolding basis
row_2 = below_four (λ x. basis 2 (7 - x) ≡ signed false (basis 2 x)) refl refl refl refl

row_3 : (x : ℕ) → x < 4 → basis 3 (7 - x) ≡ signed true (basis 3 x)
unfolding basis
row_3 = below_four (λ x. basis 3 (7 - x) ≡ signed true (basis 3 x)) refl refl refl refl

row_4 : (x : ℕ) → x < 4 → basis 4 (7 - x) ≡ signed false (basis 4 x)
unfolding basis
row_4 = below_four (λ x. basis 4 (7 - x) ≡ signed false (basis 4 x)) refl refl refl refl

row_5 : (x : ℕ) → x < 4 → basis 5 (7 - x) ≡ signed true (basis 5 x)
unfolding basis
row_5 = below_four (λ x. basis 5 (7 - x) ≡ signed true (basis 5 x)) refl refl refl refl

row_6 : (x : ℕ) → x < 4 → basis 6 (7 - x) ≡ signed false (basis 6 x)
unfolding basis
row_6 = below_four (λ x. basis 6 (7 - x) ≡ signed false (basis 6 x)) refl refl refl refl

row_7 : (x : ℕ) → x < 4 → basis 7 (7 - x) ≡ signed true (basis 7 x)
unfolding basis
row_7 = below_four (λ x. basis 7 (7 - x) ≡ signed true (basis 7 x)) refl refl refl refl

row_mirrored : (u : ℕ) → u < 8 → (o : Bool) × ((x : ℕ) → x < 4 → basis u (7 - x) ≡ signed o (basis u x))
row_mirrored = below_eight (λ u. (o : Bool) × ((x : ℕ) → x < 4 → basis u (7 - x) ≡ signed o (basis u x)))
    (false, row_0) (true, row_1) (false, row_2) (true, row_3) (false, row_4) (true, row_5) (false, row_6) (true, row_7)

-- ---- products with signs

times_difference : (m a b : ℤ) → m *ℤ (a -ℤ b) ≡ m *ℤ a -ℤ m *ℤ b
times_difference m a b =
    let e : up (a -ℤ b) + (down a + up b) ≡ down (a -ℤ b) + (up a + down b) = omega (arith, ints) in
    omega (arith, ints, ap (λ k. up m * k) e, ap (λ k. down m * k) e)

neg_times : (a b : ℤ) → neg_ℤ a *ℤ b ≡ neg_ℤ (a *ℤ b)
neg_times a b =
    let e : up (neg_ℤ a) + up a ≡ down (neg_ℤ a) + down a = omega (arith, ints) in
    omega (arith, ints, ap (λ k. k * up b) e, ap (λ k. k * down b) e)

times_neg : (a b : ℤ) → a *ℤ neg_ℤ b ≡ neg_ℤ (a *ℤ b)
times_neg a b =
    let e : up (neg_ℤ b) + up b ≡ down (neg_ℤ b) + down b = omega (arith, ints) in
    omega (arith, ints, ap (λ k. up a * k) e, ap (λ k. down a * k) e)

signed_times : (o : Bool) (a b : ℤ) → signed o a *ℤ b ≡ signed o (a *ℤ b)
signed_times false a b = refl
signed_times true a b = neg_times a b

times_signed : (o : Bool) (a b : ℤ) → a *ℤ signed o b ≡ signed o (a *ℤ b)
times_signed false a b = refl
times_signed true a b = times_neg a b

less_is : (a b : ℤ) → a +ℤ neg_ℤ b ≡ a -ℤ b
less_is a b = refl

-- a factor, and the same with a sign
one_factor : (o : Bool) (c s t : ℤ) → c *ℤ s +ℤ signed o (c *ℤ t) ≡ c *ℤ mirrored o s t
one_factor false c s t = sym (times_sum c s t)
one_factor true c s t = less_is (c *ℤ s) (c *ℤ t) ∙ sym (times_difference c s t)

-- two terms of a column, of rows that mirror each other
down_term : (q : Bool) (a b b' s t : ℤ) → b' ≡ signed q b → a *ℤ b *ℤ s +ℤ a *ℤ b' *ℤ t ≡ a *ℤ b *ℤ mirrored q s t
down_term q a b b' s t e =
    ap (λ z. a *ℤ b *ℤ s +ℤ a *ℤ z *ℤ t) e
    ∙ ap (λ z. a *ℤ b *ℤ s +ℤ z *ℤ t) (times_signed q a b)
    ∙ ap (λ z. a *ℤ b *ℤ s +ℤ z) (signed_times q (a *ℤ b) t)
    ∙ one_factor q (a *ℤ b) s t

-- two terms of a row, of columns that mirror each other
across_term : (o : Bool) (a a' b s t : ℤ) → a' ≡ signed o a → a *ℤ b *ℤ s +ℤ a' *ℤ b *ℤ t ≡ a *ℤ b *ℤ mirrored o s t
across_term o a a' b s t e =
    ap (λ z. a *ℤ b *ℤ s +ℤ z *ℤ b *ℤ t) e
    ∙ ap (λ z. a *ℤ b *ℤ s +ℤ z *ℤ t) (signed_times o a b)
    ∙ ap (λ z. a *ℤ b *ℤ s +ℤ z) (signed_times o (a *ℤ b) t)
    ∙ one_factor o (a *ℤ b) s t

-- ---- the folded block

-- eight terms by their four pairs
pub halved : (f : ℕ → ℤ) → sum_below 8 f ≡ sum_below 4 (λ k. f k +ℤ f (7 - k))
unfolding sum_below
halved f = omega (arith, ints)

-- column x of the block folded down
abbrev pub down_at : Bool → List ℤ → ℕ → ℕ → ℤ
down_at q s y x = mirrored q (entry s y x) (entry s (7 - y) x)

-- and of that block folded across
abbrev pub part : Bool → Bool → List ℤ → ℕ → ℕ → ℤ
part o q s y x = mirrored o (down_at q s y x) (down_at q s y (7 - x))

module _ (s : List ℤ) (v u : ℕ) (o q : Bool) (across : (x : ℕ) → x < 4 → basis u (7 - x) ≡ signed o (basis u x))
    (along : (y : ℕ) → y < 4 → basis v (7 - y) ≡ signed q (basis v y)) where
  column_folded : (x : ℕ) → sum_below 8 (λ y. basis u x *ℤ basis v y *ℤ entry s y x)
      ≡ sum_below 4 (λ y. basis u x *ℤ basis v y *ℤ down_at q s y x)
  column_folded x =
      halved (λ y. basis u x *ℤ basis v y *ℤ entry s y x)
      ∙ same_sum 4 _ (λ y. basis u x *ℤ basis v y *ℤ down_at q s y x)
      (λ y hy. down_term q (basis u x) (basis v y) (basis v (7 - y)) (entry s y x) (entry s (7 - y) x) (along y hy))

  columns_folded : (x : ℕ) → x < 4 →
      sum_below 8 (λ y. basis u x *ℤ basis v y *ℤ entry s y x) +ℤ sum_below 8
      (λ y. basis u (7 - x) *ℤ basis v y *ℤ entry s y (7 - x))
      ≡ sum_below 4 (λ y. basis u x *ℤ basis v y *ℤ part o q s y x)
  columns_folded x hx =
      let here : sum_below 8 (λ y. basis u x *ℤ basis v y *ℤ entry s y x)
      ≡ sum_below 4 (λ y. basis u x *ℤ basis v y *ℤ down_at q s y x) = column_folded x in
      let there : sum_below 8 (λ y. basis u (7 - x) *ℤ basis v y *ℤ entry s y (7 - x))
      ≡ sum_below 4 (λ y. basis u (7 - x) *ℤ basis v y *ℤ down_at q s y (7 - x)) = column_folded (7 - x) in
      ap (λ z. z +ℤ sum_below 8 (λ y. basis u (7 - x) *ℤ basis v y *ℤ entry s y (7 - x))) here
      ∙ ap (λ z. sum_below 4 (λ y. basis u x *ℤ basis v y *ℤ down_at q s y x) +ℤ z) there
      ∙ sums_added 4 (λ y. basis u x *ℤ basis v y *ℤ down_at q s y x)
      (λ y. basis u (7 - x) *ℤ basis v y *ℤ down_at q s y (7 - x))
      ∙ same_sum 4 _ (λ y. basis u x *ℤ basis v y *ℤ part o q s y x)
      (λ y hy. across_term o (basis u x) (basis u (7 - x)) (basis v y) (down_at q s y x) (down_at q s y (7 - x))
      (across x hx))

  -- the double sum of a coefficient is one over its part of the block
  pub all_folded : sum_below 8 (λ x. sum_below 8 (λ y. basis u x *ℤ basis v y *ℤ entry s y x))
      ≡ sum_below 4 (λ x. sum_below 4 (λ y. basis u x *ℤ basis v y *ℤ part o q s y x))
  all_folded =
      halved (λ x. sum_below 8 (λ y. basis u x *ℤ basis v y *ℤ entry s y x))
      ∙ same_sum 4 _ (λ x. sum_below 4 (λ y. basis u x *ℤ basis v y *ℤ part o q s y x)) columns_folded

-- ---- sums of sizes

-- a factor goes into a sum
pub total_scaled : (a n : ℕ) (f : ℕ → ℕ) → total n (λ k. a * f k) ≡ a * total n f
unfolding total
total_scaled a zero f = omega arith
total_scaled a (suc n) f = omega (arith, total_scaled a n f)

-- two weighted sums, one weighted sum
total_both : (a b n : ℕ) (f g : ℕ → ℕ) → total n (λ k. a * f k + b * g k) ≡ a * total n f + b * total n g
unfolding total
total_both a b zero f g = omega arith
total_both a b (suc n) f g = omega (arith, total_both a b n f g)

-- equal terms, equal sums
pub same_total : (n : ℕ) (f g : ℕ → ℕ) → ((k : ℕ) → f k ≡ g k) → total n f ≡ total n g
unfolding total
same_total zero f g h = refl
same_total (suc n) f g h = omega (arith, same_total n f g h, h n)

-- a sum is no larger than its parts together
pub two_sizes : (a b : ℤ) → unsigned_abs (a +ℤ b) ≤ unsigned_abs a + unsigned_abs b
two_sizes a b = omega (arith, ints)

-- a sum of numbers that are each at most so large, all times a factor
size_of_sum : (factor n : ℕ) (f : ℕ → ℤ) (g : ℕ → ℕ) → ((k : ℕ) → factor * unsigned_abs (f k) ≤ g k)
    → factor * unsigned_abs (sum_below n f) ≤ total n g
unfolding sum_below total
size_of_sum factor zero f g h = omega arith
size_of_sum factor (suc n) f g h =
    let more : factor * unsigned_abs (sum_below n f +ℤ f n) ≤ factor * (unsigned_abs (sum_below n f) + unsigned_abs
    (f n)) = mul-le-mul_left factor (two_sizes (sum_below n f) (f n)) in
    omega (arith, size_of_sum factor n f g h, h n, more)

-- ---- the numbers of the basis

-- the sum of the squares of half a row
abbrev square_sum : ℕ → ℕ
square_sum u = total 4 (λ x. squared (basis u x))

squares_0 : square_sum 0 ≤ 16777851
unfolding total basis
squares_0 = lit≤ tt

squares_1 : square_sum 1 ≤ 16777851
unfolding total basis
squares_1 = lit≤ tt

squares_2 : square_sum 2 ≤ 16777851
unfolding total basis
squares_2 = lit≤ tt

squares_3 : square_sum 3 ≤ 16777851
unfolding total basis
squares_3 = lit≤ tt

squares_4 : square_sum 4 ≤ 16777851
unfolding total basis
squares_4 = lit≤ tt

squares_5 : square_sum 5 ≤ 16777851
unfolding total basis
squares_5 = lit≤ tt

squares_6 : square_sum 6 ≤ 16777851
unfolding total basis
squares_6 = lit≤ tt

squares_7 : square_sum 7 ≤ 16777851
unfolding total basis
squares_7 = lit≤ tt

row_squares : (u : ℕ) → u < 8 → square_sum u ≤ 16777851
row_squares = below_eight (λ u. square_sum u ≤ 16777851) squares_0 squares_1 squares_2 squares_3 squares_4 squares_5
    squares_6 squares_7

square_of_squares : (a b : ℕ) → a * b * (a * b) ≡ a * a * (b * b)
square_of_squares a b = omega arith

-- the squares of all products of a number of one half row and a number of another
basis_squares : (u v : ℕ) → u < 8 → v < 8 →
    total 4 (λ x. total 4 (λ y. unsigned_abs (basis u x) * unsigned_abs (basis v y) *
    (unsigned_abs (basis u x) * unsigned_abs (basis v y)))) ≤ 16777851 * 16777851
basis_squares u v hu hv =
    let a : ℕ → ℕ = λ x. unsigned_abs (basis u x) in
    let b : ℕ → ℕ = λ y. unsigned_abs (basis v y) in
    let inner : (x : ℕ) → total 4 (λ y. a x * b y * (a x * b y)) ≡ square_sum v * (a x * a x) = λ x.
    same_total 4 (λ y. a x * b y * (a x * b y)) (λ y. a x * a x * (b y * b y)) (λ y. square_of_squares (a x) (b y))
    ∙ total_scaled (a x * a x) 4 (λ y. b y * b y)
    ∙ mul_comm (a x * a x) (square_sum v) in
    let outer : total 4 (λ x. total 4 (λ y. a x * b y * (a x * b y))) ≡ square_sum v * square_sum u =
    same_total 4 (λ x. total 4 (λ y. a x * b y * (a x * b y))) (λ x. square_sum v * (a x * a x)) inner
    ∙ total_scaled (square_sum v) 4 (λ x. a x * a x) in
    subst (λ (n : ℕ). n ≤ 16777851 * 16777851) (sym outer) (mul-le-mul (row_squares v hv) (row_squares u hu))

-- ---- one term

not_less : (m n : ℕ) → nat_lt m n ≡ false → n ≤ m
not_less m n e = grind (arith, nat_tests)

-- twice a product is at most the two squares
product_above : (m d : ℕ) → 2 * (m * (m + d)) ≤ m * m + (m + d) * (m + d)
product_above m d = omega arith

product_below : (n d : ℕ) → 2 * ((n + d) * n) ≤ (n + d) * (n + d) + n * n
product_below n d = omega arith

two_squares_by : (b : Bool) (m n : ℕ) → nat_lt m n ≡ b → 2 * (m * n) ≤ m * m + n * n
two_squares_by true m n e =
    let less : m < n = ltb-true _ _ e in
    let is : m + (n - m) ≡ n = omega arith in
    subst (λ (k : ℕ). 2 * (m * k) ≤ m * m + k * k) is (product_above m (n - m))
two_squares_by false m n e =
    let more : n ≤ m = not_less m n e in
    let is : n + (m - n) ≡ m = omega arith in
    subst (λ (k : ℕ). 2 * (k * n) ≤ k * k + n * n) is (product_below n (m - n))

two_squares : (m n : ℕ) → 2 * (m * n) ≤ m * m + n * n
two_squares m n = two_squares_by (nat_lt m n) m n refl

term_by : (t c s : ℕ) → 2 * (t * c * (2 ^ 23 * s)) ≤ t * c * (t * c) + 2 ^ 23 * s * (2 ^ 23 * s)
    → 2 * (t * 2 ^ 23) * (c * s) ≤ t * t * (c * c) + 2 ^ 46 * (s * s)
term_by t c s h = omega (arith, h)

term : (t c s : ℕ) → 2 * (t * 2 ^ 23) * (c * s) ≤ t * t * (c * c) + 2 ^ 46 * (s * s)
term t c s = term_by t c s (two_squares (t * c) (2 ^ 23 * s))

-- one term of a coefficient: the factors of the folded samples times t, these samples times 2 ^ 23
size_of_term : (t : ℕ) (a b s : ℤ) → 2 * (t * 2 ^ 23) * unsigned_abs (a *ℤ b *ℤ s)
    ≤ t * t * (unsigned_abs a * unsigned_abs b * (unsigned_abs a * unsigned_abs b)) + 2 ^ 46 *
    (unsigned_abs s * unsigned_abs s)
size_of_term t a b s =
    let c : ℕ = unsigned_abs a * unsigned_abs b in
    let size : unsigned_abs (a *ℤ b *ℤ s) ≡ c * unsigned_abs s = unsigned_abs-mul (a *ℤ b) s
    ∙ ap (λ (n : ℕ). n * unsigned_abs s) (unsigned_abs-mul a b) in
    subst (λ (n : ℕ). 2 * (t * 2 ^ 23) * n ≤ t * t * (c * c) + 2 ^ 46 * (unsigned_abs s * unsigned_abs s)) (sym size)
    (term t c (unsigned_abs s))

-- ---- the size of a coefficient

shifted : (z : ℤ) (t : ℕ) → neg_ℤ (pos (2 ^ 25 * t)) <ℤ (z -ℤ pos (2 ^ 25)) → z <ℤ pos (2 ^ 25 * t)
    → unsigned_abs (int_shr z 25) < t
shifted (pos n) t low high = omega (arith, ints)
shifted (negsuc n) t low high = omega (arith, ints)

rounded_size : (z : ℤ) (t : ℕ) → unsigned_abs z + 2 ^ 24 < 2 ^ 25 * t → unsigned_abs (rounded z) < t
rounded_size z t h = shifted (z +ℤ pos (2 ^ 24)) t (omega (arith, ints)) (omega (arith, ints))

-- where a coefficient isn't so small, its part of the block has large squares
below_by : (b : Bool) (size squares t : ℕ) → nat_lt (size + 2 ^ 24) (2 ^ 25 * t) ≡ b
    → 2 * (t * 2 ^ 23) * size ≤ t * t * (16777851 * 16777851) + 2 ^ 46 * squares → squares + 4 * t + 4 < 4 * (t * t) →
    t ≤ 77 → size + 2 ^ 24 < 2 ^ 25 * t
below_by true size squares t e h few most = ltb-true _ _ e
below_by false size squares t e h few most =
    let large : 2 ^ 25 * t ≤ size + 2 ^ 24 = not_less (size + 2 ^ 24) (2 ^ 25 * t) e in
    let more : t * (2 ^ 25 * t) ≤ t * (size + 2 ^ 24) = mul-le-mul_left t large in
    let bound : t * t ≤ 77 * 77 = mul-le-mul most most in
    absurd (omega (arith, h, few, more, bound))

below : (size squares t : ℕ) → 2 * (t * 2 ^ 23) * size ≤ t * t * (16777851 * 16777851) + 2 ^ 46 * squares
    → squares + 4 * t + 4 < 4 * (t * t) → t ≤ 77 → size + 2 ^ 24 < 2 ^ 25 * t
below size squares t h few most = below_by (nat_lt (size + 2 ^ 24) (2 ^ 25 * t)) size squares t refl h few most

-- the sum of the squares of a part of the block
abbrev pub energy : Bool → Bool → List ℤ → ℕ
energy o q s = total 4 (λ x. total 4 (λ y. squared (part o q s y x)))

-- The squares as they are added up: the columns are folded down into one half of some vectors' lanes each,
-- and lane k of a
-- vector has the squares of row k of a part.
module _ (s : List ℤ) (rows : List Row) (o q : Bool) (at : ℕ → ℕ) (room : (k : ℕ) → k < 4 → at k < 8) (downs : (x k : ℕ)
    → x < 8 → k < 4 → lane (row_at rows x) (at k) ≡ down_at q s k x) (squares : List ℤ) (across : (i : ℕ) → i < 8
    → lane squares i ≡
    pos (squared (mirrored o (lane (row_at rows 0) i) (lane (row_at rows 7) i)) + squared
    (mirrored o (lane (row_at rows 1) i) (lane (row_at rows 6) i))
    + squared (mirrored o (lane (row_at rows 2) i) (lane (row_at rows 5) i)) + squared
    (mirrored o (lane (row_at rows 3) i) (lane (row_at rows 4) i)))) where
  row_of_part : (k : ℕ) → k < 4 → unsigned_abs (lane squares (at k))
      ≡ squared (part o q s k 0) + squared (part o q s k 1) + squared (part o q s k 2) + squared (part o q s k 3)
  row_of_part k h =
      let down_0 = downs 0 k (lit< tt) h in
      let down_1 = downs 1 k (lit< tt) h in
      let down_2 = downs 2 k (lit< tt) h in
      let down_3 = downs 3 k (lit< tt) h in
      let down_4 = downs 4 k (lit< tt) h in
      let down_5 = downs 5 k (lit< tt) h in
      let down_6 = downs 6 k (lit< tt) h in
      let down_7 = downs 7 k (lit< tt) h in
      ap unsigned_abs (across (at k) (room k h)
      ∙ (λ i. pos (squared (mirrored o (down_0 i) (down_7 i)) + squared (mirrored o (down_1 i) (down_6 i)) + squared
      (mirrored o (down_2 i) (down_5 i)) + squared (mirrored o (down_3 i) (down_4 i)))))

  four_rows : (g : ℕ → ℕ → ℕ) (most : ℕ)
      → (g 0 0 + g 0 1 + g 0 2 + g 0 3) + (g 1 0 + g 1 1 + g 1 2 + g 1 3) + (g 2 0 + g 2 1 + g 2 2 + g 2 3) +
      (g 3 0 + g 3 1 + g 3 2 + g 3 3) ≤ most → total 4 (λ x. total 4 (λ y. g y x)) ≤ most
  unfolding total
  four_rows g most h = omega (arith, h)

  pub energy_of : (passed : List ℤ) → ((i : ℕ) → lane passed i ≡ lane squares i) → (most : ℕ) →
      unsigned_abs (lane passed (at 0)) + unsigned_abs (lane passed (at 1)) + unsigned_abs
      (lane passed (at 2)) + unsigned_abs (lane passed (at 3)) ≤ most → energy o q s ≤ most
  energy_of passed same most few =
      let row : (k : ℕ) → k < 4 → unsigned_abs (lane passed (at k))
      ≡ squared (part o q s k 0) + squared (part o q s k 1) + squared (part o q s k 2) + squared (part o q s k 3) =
      λ k h. ap unsigned_abs (same (at k)) ∙ row_of_part k h in
      four_rows (λ y x. squared (part o q s y x)) most (omega (
        arith,
        few,
        row 0 (lit< tt),
        row 1 (lit< tt),
        row 2 (lit< tt),
        row 3 (lit< tt),
      ))

-- how large a sum over a part is
part_small : (s : List ℤ) (v u t most : ℕ) (o q : Bool) → v < 8 → u < 8 → energy o q s ≤ most
    → most + 4 * t + 4 < 4 * (t * t) → t ≤ 77 →
    unsigned_abs (sum_below 4 (λ x. sum_below 4 (λ y. basis u x *ℤ basis v y *ℤ part o q s y x))) + 2 ^ 24 < 2 ^ 25 * t
part_small s v u t most o q hv hu energies few top =
    let squares : ℕ → ℕ → ℕ = λ x y. squared (part o q s y x) in
    let product : ℕ → ℕ → ℕ = λ x y. unsigned_abs (basis u x) * unsigned_abs (basis v y) *
    (unsigned_abs (basis u x) * unsigned_abs (basis v y)) in
    let term : ℕ → ℕ → ℤ = λ x y. basis u x *ℤ basis v y *ℤ part o q s y x in
    let all : ℤ = sum_below 4 (λ x. sum_below 4 (term x)) in
    let factor : ℕ = 2 * (t * 2 ^ 23) in
    let column : (x : ℕ) → factor * unsigned_abs (sum_below 4 (term x)) ≤ t * t * total 4 (product x) + 2 ^ 46 * total 4
    (squares x) = λ x.
    subst (λ (n : ℕ). factor * unsigned_abs (sum_below 4 (term x)) ≤ n) (total_both (t * t) (2 ^ 46) 4 (product x)
    (squares x))
    (size_of_sum factor 4 (term x) (λ y. t * t * product x y + 2 ^ 46 * squares x y)
    (λ y. size_of_term t (basis u x) (basis v y) (part o q s y x))) in
    let whole : factor * unsigned_abs all ≤ t * t * total 4 (λ x. total 4 (product x)) + 2 ^ 46 * total 4
    (λ x. total 4 (squares x)) =
    subst (λ (n : ℕ). factor * unsigned_abs all ≤ n) (total_both (t * t) (2 ^ 46) 4 (λ x. total 4 (product x))
    (λ x. total 4 (squares x)))
    (size_of_sum factor 4 (λ x. sum_below 4 (term x)) (λ x. t * t * total 4 (product x) + 2 ^ 46 * total 4 (squares x))
    column) in
    let products : t * t * total 4 (λ x. total 4 (product x)) ≤ t * t * (16777851 * 16777851) = mul-le-mul_left (t * t)
    (basis_squares u v hu hv) in
    let small : total 4 (λ x. total 4 (squares x)) ≤ most = energies in
    below (unsigned_abs all) (total 4 (λ x. total 4 (squares x))) t (omega (arith, whole, products))
    (omega (arith, small, few)) top

-- a coefficient is smaller than t where each part of the block has so small a sum of squares
coefficient_below : (s : List ℤ) (v u t most : ℕ) → v < 8 → u < 8 → ((o q : Bool) → energy o q s ≤ most)
    → most + 4 * t + 4 < 4 * (t * t) → t ≤ 77 →
    unsigned_abs (forward_at s v u) < t
coefficient_below s v u t most hv hu energies few top =
    let a = row_mirrored u hu in
    let b = row_mirrored v hv in
    rounded_size (sum_below 8 (λ x. sum_below 8 (λ y. basis u x *ℤ basis v y *ℤ entry s y x))) t
    (subst (λ (z : ℤ). unsigned_abs z + 2 ^ 24 < 2 ^ 25 * t) (sym (all_folded s v u a.0 b.0 a.1 b.1))
    (part_small s v u t most a.0 b.0 hv hu (energies a.0 b.0) few top))

-- the same, part by part
pub each_part_below : (s : List ℤ) (v u t most : ℕ) → v < 8 → u < 8 → energy false false s ≤ most
    → energy false true s ≤ most → energy true false s ≤ most → energy true true s ≤ most →
    most + 4 * t + 4 < 4 * (t * t) → t ≤ 77 → unsigned_abs (forward_at s v u) < t
each_part_below s v u t most hv hu ee eo oe oo few top = coefficient_below s v u t most hv hu each few top
  where
    each : (o q : Bool) → energy o q s ≤ most
    each false false = ee
    each false true = eo
    each true false = oe
    each true true = oo

-- ---- a part of the block by the whole block

total_most : (n : ℕ) (f g : ℕ → ℕ) → ((k : ℕ) → f k ≤ g k) → total n f ≤ total n g
unfolding total
total_most zero f g h = omega arith
total_most (suc n) f g h = omega (arith, total_most n f g h, h n)

mirrored_size : (o : Bool) (a b : ℤ) → unsigned_abs (mirrored o a b) ≤ unsigned_abs a + unsigned_abs b
mirrored_size false a b = omega (arith, ints)
mirrored_size true a b = omega (arith, ints)

square_of_sum : (m n : ℕ) → (m + n) * (m + n) ≤ 2 * (m * m + n * n)
square_of_sum m n = let products = two_squares m n in omega (arith, products)

mirrored_square : (o : Bool) (a b : ℤ) → squared (mirrored o a b) ≤ 2 * (squared a + squared b)
mirrored_square o a b =
    let size = mirrored_size o a b in
    let most : squared (mirrored o a b) ≤ (unsigned_abs a + unsigned_abs b) * (unsigned_abs a + unsigned_abs b) =
    mul-le-mul size size in
    omega (arith, most, square_of_sum (unsigned_abs a) (unsigned_abs b))

-- a number of a part by the four that it comes from
abbrev four_squares : (ℕ → ℕ) → ℕ → ℕ → ℕ
four_squares g y x = 4 * (g (8 * y + x) + g (8 * (7 - y) + x) + g (8 * y + (7 - x)) + g (8 * (7 - y) + (7 - x)))

part_square : (o q : Bool) (s : List ℤ) (y x : ℕ)
    → squared (part o q s y x) ≤ four_squares (λ k. squared (get_or s k (pos 0))) y x
part_square o q s y x =
    let across = mirrored_square o (down_at q s y x) (down_at q s y (7 - x)) in
    let here = mirrored_square q (entry s y x) (entry s (7 - y) x) in
    let there = mirrored_square q (entry s y (7 - x)) (entry s (7 - y) (7 - x)) in
    omega (arith, across, here, there)

-- each number of the block is one of the four of a number of a part
all_squares : (g : ℕ → ℕ) → total 4 (λ x. total 4 (λ y. four_squares g y x)) ≡ 4 * total 64 g
unfolding total
all_squares g = omega arith

energy_most : (o q : Bool) (s : List ℤ) → energy o q s ≤ 4 * total 64 (λ k. squared (get_or s k (pos 0)))
energy_most o q s =
    let g : ℕ → ℕ = λ k. squared (get_or s k (pos 0)) in
    subst (λ (n : ℕ). energy o q s ≤ n) (all_squares g)
    (total_most 4 (λ x. total 4 (λ y. squared (part o q s y x))) (λ x. total 4 (λ y. four_squares g y x))
    (λ x. total_most 4 (λ y. squared (part o q s y x)) (λ y. four_squares g y x) (λ y. part_square o q s y x)))

-- a coefficient is smaller than t where the whole block has so small a sum of squares
pub coefficient_small : (s : List ℤ) (v u t : ℕ) → v < 8 → u < 8 → t ≤ 77
    → total 64 (λ k. squared (get_or s k (pos 0))) + t + 1 < t * t →
    unsigned_abs (forward_at s v u) < t
coefficient_small s v u t hv hu top few =
    coefficient_below s v u t (4 * total 64 (λ k. squared (get_or s k (pos 0)))) hv hu (λ o q. energy_most o q s)
    (omega (arith, few)) top
