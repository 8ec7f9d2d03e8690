-- Vectors of eight numbers, and what the lanes compute: each operation goes from words that spell numbers to words that
-- spell what it gives of these numbers, as long as they fit.
use Rattle.std.proofs.Common.{◌≡◌, ℕ, suc, ◌+◌, ◌-◌, ◌*◌, ◌%◌, ◌^◌, ◌<◌, ◌≤◌, List, [], ◌∷◌, map, length, get_or, refl, ap, ◌∙◌, sym, subst, arith, replicate, ℤ, pos, ◌+ℤ◌, ◌-ℤ◌, ◌*ℤ◌, w16, w32, to_z, of_z, FitsSigned}
use lib.Lanes.{zip2}
use Rattle.std.specs.Int.{Width}
use Rattle.std.proofs.lemmas.Int.{ints, to_z-of_z, of_z-to_z, wrapping_mul-bits, int_wrap_fits}
use Rattle.std.proofs.lemmas.Simd.{get_or-zip2, length-zip2, length-replicate, get_or-replicate}
use Rattle.std.proofs.lemmas.List.{get_or-map, length-map}
use Rattle.std.proofs.Math.IntN.{*ℤ_comm}
use Rattle.idct8.specs.Ranges.{Within}
use Rattle.idct8.specs.Vectors.{lane, EightWithin}
use Rattle.idct8.proofs.Wraps.{within_mul, within_more}

-- what the lanes of 32 bits do
abbrev pub plus : ℕ → ℕ → ℕ
plus a b = (a + b) % 2 ^ 32

abbrev pub minus : ℕ → ℕ → ℕ
minus a b = (a + (2 ^ 32 - b)) % 2 ^ 32

abbrev pub times : ℕ → ℕ → ℕ
times a b = (a * b) % 2 ^ 32

abbrev pub wide : ℕ → ℕ
wide a = of_z w32 (to_z w16 a)

abbrev pub plus16 : ℕ → ℕ → ℕ
plus16 a b = (a + b) % 2 ^ 16

abbrev pub minus16 : ℕ → ℕ → ℕ
minus16 a b = (a + (2 ^ 16 - b)) % 2 ^ 16

-- eight words of w bits, which spell f 0 to f 7, numbers from -n to n
pub record Words (w : Width) (n : ℕ) (us : List ℕ) (f : ℕ → ℤ) : Type 0 where
  pub long : length us ≡ 8
  pub spelt : (i : ℕ) → i < 8 → get_or us i 0 ≡ of_z w (f i)
  pub small : (i : ℕ) → i < 8 → Within n (f i)

-- the words of the numbers that an operation gives
pub plus_is : (a b : ℤ) (m n : ℕ) → m + n ≤ 2 ^ 31 - 1 → Within m a → Within n b → plus (of_z w32 a) (of_z w32 b)
    ≡ of_z w32 (a +ℤ b)
plus_is a b m n h ha hb = omega (arith, ints)

minus_is : (a b : ℤ) (m n : ℕ) → m + n ≤ 2 ^ 31 - 1 → Within m a → Within n b → minus (of_z w32 a) (of_z w32 b)
    ≡ of_z w32 (a -ℤ b)
minus_is a b m n h ha hb = omega (arith, ints)

plus16_is : (a b : ℤ) (m n : ℕ) → m + n ≤ 32767 → Within m a → Within n b → plus16 (of_z w16 a) (of_z w16 b)
    ≡ of_z w16 (a +ℤ b)
plus16_is a b m n h ha hb = omega (arith, ints)

minus16_is : (a b : ℤ) (m n : ℕ) → m + n ≤ 32767 → Within m a → Within n b → minus16 (of_z w16 a) (of_z w16 b)
    ≡ of_z w16 (a -ℤ b)
minus16_is a b m n h ha hb = omega (arith, ints)

pub wide_is : (a : ℤ) → Within 32767 a → wide (of_z w16 a) ≡ of_z w32 a
wide_is a ha = omega (arith, ints)

-- a product of a small number and one of the basis
pub times_is : (x m : ℤ) → Within 32767 x → Within (2 ^ 12) m → times (of_z w32 x) (of_z w32 m) ≡ of_z w32 (m *ℤ x)
times_is x m hx hm =
    let small : Within (2 ^ 12 * 32767) (m *ℤ x) = within_mul (2 ^ 12) 32767 m x hm hx in
    let fm : FitsSigned w32 m = omega (arith, ints) in
    let fx : FitsSigned w32 x = omega (arith, ints) in
    let fits : FitsSigned w32 (x *ℤ m) = omega (arith, ints) in
    let bm : of_z w32 m < 2 ^ 32 = omega (arith, ints) in
    let bx : of_z w32 x < 2 ^ 32 = omega (arith, ints) in
    let e : to_z w32 (times (of_z w32 x) (of_z w32 m)) ≡ x *ℤ m =
    rw (to_z-of_z w32 x fx, to_z-of_z w32 m fm) at (wrapping_mul-bits w32 (of_z w32 x) (of_z w32 m) bx bm)
    ∙ int_wrap_fits w32 (x *ℤ m) fits in
    sym (of_z-to_z w32 (times (of_z w32 x) (of_z w32 m)) (omega arith)) ∙ ap (of_z w32) (e ∙ *ℤ_comm x m)

pub plus_small : (a b : ℤ) (m n : ℕ) → Within m a → Within n b → Within (m + n) (a +ℤ b)
plus_small a b m n ha hb = omega (arith, ints)

minus_small : (a b : ℤ) (m n : ℕ) → Within m a → Within n b → Within (m + n) (a -ℤ b)
minus_small a b m n ha hb = omega (arith, ints)

-- the same of vectors, for an operation op on words that stands for g on numbers
pub zip_words : (w : Width) {m n k : ℕ} {us vs : List ℕ} {f f' : ℕ → ℤ} (op : ℕ → ℕ → ℕ) (g : ℤ → ℤ → ℤ) →
    ((a b : ℤ) → Within m a → Within n b → op (of_z w a) (of_z w b) ≡ of_z w (g a b)) →
    ((a b : ℤ) → Within m a → Within n b → Within k (g a b)) →
    Words w m us f → Words w n vs f' → Words w k (zip2 op us vs) (λ i. g (f i) (f' i))
zip_words w {m} {n} {k} {us} {vs} {f} {f'} op g is small u v = record {
  long = length-zip2 op us vs (u.long ∙ sym v.long) ∙ u.long;
  spelt = λ i hi. get_or-zip2 op us vs i 0 0 0 (omega (arith, u.long)) (omega (arith, v.long))
      ∙ cc (u.spelt i hi, v.spelt i hi, is (f i) (f' i) (u.small i hi) (v.small i hi));
  small = λ i hi. small (f i) (f' i) (u.small i hi) (v.small i hi);
}

-- lanes of 32 bits that are added stand for the sums
pub sum_words : {m n : ℕ} {us vs : List ℕ} {f g : ℕ → ℤ} → m + n ≤ 2 ^ 31 - 1 → Words w32 m us f → Words w32 n vs g
    → Words w32 (m + n) (zip2 plus us vs) (λ i. f i +ℤ g i)
sum_words {m} {n} h u v = zip_words w32 plus (λ a b. a +ℤ b) (λ a b ha hb. plus_is a b m n h ha hb)
    (λ a b ha hb. plus_small a b m n ha hb) u v

-- and those that are subtracted for the differences
pub difference_words : {m n : ℕ} {us vs : List ℕ} {f g : ℕ → ℤ} → m + n ≤ 2 ^ 31 - 1 → Words w32 m us f
    → Words w32 n vs g → Words w32 (m + n) (zip2 minus us vs) (λ i. f i -ℤ g i)
difference_words {m} {n} h u v = zip_words w32 minus (λ a b. a -ℤ b) (λ a b ha hb. minus_is a b m n h ha hb)
    (λ a b ha hb. minus_small a b m n ha hb) u v

-- lanes of 16 bits that are added stand for the sums
pub sum_words16 : {m n : ℕ} {us vs : List ℕ} {f g : ℕ → ℤ} → m + n ≤ 32767 → Words w16 m us f → Words w16 n vs g
    → Words w16 (m + n) (zip2 plus16 us vs) (λ i. f i +ℤ g i)
sum_words16 {m} {n} h u v = zip_words w16 plus16 (λ a b. a +ℤ b) (λ a b ha hb. plus16_is a b m n h ha hb)
    (λ a b ha hb. plus_small a b m n ha hb) u v

-- and those that are subtracted for the differences
pub difference_words16 : {m n : ℕ} {us vs : List ℕ} {f g : ℕ → ℤ} → m + n ≤ 32767 → Words w16 m us f → Words w16 n vs g
    → Words w16 (m + n) (zip2 minus16 us vs) (λ i. f i -ℤ g i)
difference_words16 {m} {n} h u v = zip_words w16 minus16 (λ a b. a -ℤ b) (λ a b ha hb. minus16_is a b m n h ha hb)
    (λ a b ha hb. minus_small a b m n ha hb) u v

-- a vector of numbers of 16 bits, made wide, times a factor
pub product_words : (m : ℤ) (v : List ℤ) → Within (2 ^ 12) m → EightWithin 32767 v →
    Words w32 (2 ^ 12 * 32767) (zip2 times (map wide (map (of_z w16) v)) (replicate 8 (of_z w32 m)))
    (λ i. m *ℤ lane v i)
product_words m v hm hv = record {
  long = length-zip2 times (map wide (map (of_z w16) v)) (replicate 8 (of_z w32 m)) (wide_long
      ∙ sym (length-replicate 8 (of_z w32 m))) ∙ wide_long;
  spelt = λ i hi.
      get_or-zip2 times (map wide (map (of_z w16) v)) (replicate 8 (of_z w32 m)) i 0 0 0 (omega (arith, wide_long))
      (omega (arith, length-replicate 8 (of_z w32 m)))
      ∙ cc (
        get_or-map wide (map (of_z w16) v) i 0 0 (omega (arith, long)),
        get_or-map (of_z w16) v i (pos 0) 0 (omega (arith, hv.long)),
        wide_is (lane v i) (hv.within i hi),
        get_or-replicate 8 i (of_z w32 m) 0 hi,
        times_is (lane v i) m (hv.within i hi) hm,
      );
  small = λ i hi. within_mul (2 ^ 12) 32767 m (lane v i) hm (hv.within i hi);
}
  where
    long : length (map (of_z w16) v) ≡ 8
    long = length-map v (of_z w16) ∙ hv.long

    wide_long : length (map wide (map (of_z w16) v)) ≡ 8
    wide_long = length-map (map (of_z w16) v) wide ∙ long

square_is : (x : ℤ) → Within 16382 x → times (of_z w32 x) (of_z w32 x) ≡ of_z w32 (x *ℤ x)
square_is x hx =
    let small : Within (16382 * 16382) (x *ℤ x) = within_mul 16382 16382 x x hx hx in
    let fx : FitsSigned w32 x = omega (arith, ints) in
    let fits : FitsSigned w32 (x *ℤ x) = omega (arith, ints) in
    let bx : of_z w32 x < 2 ^ 32 = omega (arith, ints) in
    let e : to_z w32 (times (of_z w32 x) (of_z w32 x)) ≡ x *ℤ x =
    rw (to_z-of_z w32 x fx) at (wrapping_mul-bits w32 (of_z w32 x) (of_z w32 x) bx bx)
    ∙ int_wrap_fits w32 (x *ℤ x) fits in
    sym (of_z-to_z w32 (times (of_z w32 x) (of_z w32 x)) (omega arith)) ∙ ap (of_z w32) e

-- the squares of a vector of numbers of 16 bits, made wide
pub square_words : (v : List ℤ) → EightWithin 16382 v
    → Words w32 (16382 * 16382) (zip2 times (map wide (map (of_z w16) v)) (map wide (map (of_z w16) v)))
    (λ i. lane v i *ℤ lane v i)
square_words v hv = record {
  long = length-zip2 times (map wide (map (of_z w16) v)) (map wide (map (of_z w16) v)) refl ∙ wide_long;
  spelt = λ i hi.
      get_or-zip2 times (map wide (map (of_z w16) v)) (map wide (map (of_z w16) v)) i 0 0 0 (omega (arith, wide_long))
      (omega (arith, wide_long))
      ∙ cc (
        get_or-map wide (map (of_z w16) v) i 0 0 (omega (arith, long)),
        get_or-map (of_z w16) v i (pos 0) 0 (omega (arith, hv.long)),
        wide_is (lane v i) (within_more 16382 32767 (lane v i) (omega arith) (hv.within i hi)),
        square_is (lane v i) (hv.within i hi),
      );
  small = λ i hi. within_mul 16382 16382 (lane v i) (lane v i) (hv.within i hi) (hv.within i hi);
}
  where
    long : length (map (of_z w16) v) ≡ 8
    long = length-map v (of_z w16) ∙ hv.long

    wide_long : length (map wide (map (of_z w16) v)) ≡ 8
    wide_long = length-map (map (of_z w16) v) wide ∙ long

-- the words of a vector
pub own_words : (w : Width) (n : ℕ) (v : List ℤ) → EightWithin n v → Words w n (map (of_z w) v) (lane v)
own_words w n v h = record {
  long = length-map v (of_z w) ∙ h.long;
  spelt = λ i hi. get_or-map (of_z w) v i (pos 0) 0 (omega (arith, h.long));
  small = h.within;
}

pub within_fits : (n : ℕ) (z : ℤ) → n ≤ 2 ^ 31 - 1 → Within n z → FitsSigned w32 z
within_fits n z h w = omega (arith, ints)

-- a number within 32,767 fits 16 bits
pub within_fits16 : (n : ℕ) (z : ℤ) → n ≤ 32767 → Within n z → FitsSigned w16 z
within_fits16 n z h w = omega (arith, ints)

-- back to numbers
lane_of : (w : Width) {n : ℕ} {us : List ℕ} {f : ℕ → ℤ} → ((z : ℤ) → Within n z → FitsSigned w z) → Words w n us f
    → (i : ℕ) → i < 8 → lane (map (to_z w) us) i ≡ f i
lane_of w {n} {us} {f} fits u i hi =
    get_or-map (to_z w) us i 0 (pos 0) (omega (arith, u.long)) ∙ ap (to_z w) (u.spelt i hi)
    ∙ to_z-of_z w (f i) (fits (f i) (u.small i hi))

small_of : (w : Width) {n : ℕ} (k : ℕ) {us : List ℕ} {f : ℕ → ℤ} → ((z : ℤ) → Within n z → FitsSigned w z) → n ≤ k
    → Words w n us f → EightWithin k (map (to_z w) us)
small_of w {n} k {us} {f} fits h u = record {
  long = length-map us (to_z w) ∙ u.long;
  within = λ i hi. subst (λ (z : ℤ). Within k z) (sym (lane_of w fits u i hi)) (within_more n k (f i) h (u.small i hi));
}

-- each lane of 32 bits gives its number
pub numbers : {n : ℕ} {us : List ℕ} {f : ℕ → ℤ} → n ≤ 2 ^ 31 - 1 → Words w32 n us f → (i : ℕ) → i < 8
    → lane (map (to_z w32) us) i ≡ f i
numbers {n} h u = lane_of w32 (λ z hz. within_fits n z h hz) u

-- all eight are within the bound
pub numbers_small : {n : ℕ} (k : ℕ) {us : List ℕ} {f : ℕ → ℤ} → n ≤ k → n ≤ 2 ^ 31 - 1 → Words w32 n us f
    → EightWithin k (map (to_z w32) us)
numbers_small {n} k h h' u = small_of w32 k (λ z hz. within_fits n z h' hz) h u

-- each lane of 16 bits gives its number
pub numbers16 : {n : ℕ} {us : List ℕ} {f : ℕ → ℤ} → n ≤ 32767 → Words w16 n us f → (i : ℕ) → i < 8
    → lane (map (to_z w16) us) i ≡ f i
numbers16 {n} h u = lane_of w16 (λ z hz. within_fits16 n z h hz) u

-- all eight are within the bound
pub numbers_small16 : {n : ℕ} (k : ℕ) {us : List ℕ} {f : ℕ → ℤ} → n ≤ k → n ≤ 32767 → Words w16 n us f
    → EightWithin k (map (to_z w16) us)
numbers_small16 {n} k h h' u = small_of w16 k (λ z hz. within_fits16 n z h' hz) h u

-- a vector that was passed
same_words : (w : Width) (v : List ℤ) → ((i : ℕ) → i < length v → FitsSigned w (lane v i))
    → map (to_z w) (map (of_z w) v) ≡ v
same_words w [] h = refl
same_words w (x ∷ v) h = cc (to_z-of_z w x (h 0 (omega arith)), same_words w v (λ i hi. h (suc i) (omega arith)))

-- eight numbers that fit 32 bits come back from their lanes
pub passed : (n : ℕ) {v : List ℤ} → n ≤ 2 ^ 31 - 1 → EightWithin n v → map (to_z w32) (map (of_z w32) v) ≡ v
passed n {v} h e = same_words w32 v (λ i hi. within_fits n (lane v i) h (e.within i (omega (arith, e.long))))

pub passed16 : (n : ℕ) {v : List ℤ} → n ≤ 32767 → EightWithin n v → map (to_z w16) (map (of_z w16) v) ≡ v
passed16 n {v} h e = same_words w16 v (λ i hi. within_fits16 n (lane v i) h (e.within i (omega (arith, e.long))))

pub eight_more : (m n : ℕ) {v : List ℤ} → m ≤ n → EightWithin m v → EightWithin n v
eight_more m n {v} h e = record { long = e.long; within = λ i hi. within_more m n (lane v i) h (e.within i hi) }

-- and are within the bound as before
pub passed_within : (n k : ℕ) {v : List ℤ} → n ≤ 2 ^ 31 - 1 → n ≤ k → EightWithin n v
    → EightWithin k (map (to_z w32) (map (of_z w32) v))
passed_within n k {v} h h' e = subst (λ (u : List ℤ). EightWithin k u) (sym (passed n h e)) (eight_more n k h' e)

-- likewise in 16 bits
pub passed_within16 : (n k : ℕ) {v : List ℤ} → n ≤ 32767 → n ≤ k → EightWithin n v
    → EightWithin k (map (to_z w16) (map (of_z w16) v))
passed_within16 n k {v} h h' e = subst (λ (u : List ℤ). EightWithin k u) (sym (passed16 n h e)) (eight_more n k h' e)

-- each of them comes back
pub passed_lane : (n : ℕ) {v : List ℤ} (i : ℕ) → n ≤ 2 ^ 31 - 1 → EightWithin n v
    → lane (map (to_z w32) (map (of_z w32) v)) i ≡ lane v i
passed_lane n i h e = ap (λ (u : List ℤ). lane u i) (passed n h e)

-- likewise in 16 bits
pub passed_lane16 : (n : ℕ) {v : List ℤ} (i : ℕ) → n ≤ 32767 → EightWithin n v
    → lane (map (to_z w16) (map (of_z w16) v)) i ≡ lane v i
passed_lane16 n i h e = ap (λ (u : List ℤ). lane u i) (passed16 n h e)
