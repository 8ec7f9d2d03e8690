-- What shifts of lanes and their narrowing give, and numbers in two parts.
use Rattle.std.proofs.Common.{◌≡◌, ℕ, ◌+◌, ◌*◌, ◌%◌, ◌-◌, ◌^◌, ◌<◌, ◌≤◌, List, map, get_or, ap, ◌∙◌, sym, subst, arith, replicate, ℤ, pos, negsuc, ◌+ℤ◌, ◌-ℤ◌, ◌*ℤ◌, ◌≤ℤ◌, w16, w32, to_z, of_z, FitsSigned, lit≤}
use lib.Lanes.{zip2, Each1}
use Rattle.std.specs.Int.{Width, int_shr}
use Rattle.std.specs.Int.Signed.{shr_z}
use Rattle.std.proofs.lemmas.Int.{ints, to_z-of_z}
use Rattle.std.proofs.lemmas.Simd.{get_or-zip2, length-zip2, length-replicate, get_or-replicate, Each1-from_get_or}
use Rattle.std.proofs.lemmas.List.{get_or-map, length-map}
use Rattle.idct8.specs.Ranges.{Within}
use Rattle.idct8.specs.Transform.{rounded}
use Rattle.idct8.specs.Vectors.{lane, EightWithin}
use Rattle.idct8.proofs.Vectors.{Words, within_fits, within_fits16, sum_words, difference_words, own_words}

-- ---- shifts of numbers

-- a number is between the multiples of 2^13
pub low_bits : (z : ℤ) → ((pos 8192 *ℤ int_shr z 13) ≤ℤ z) × (z ≤ℤ (pos 8192 *ℤ int_shr z 13 +ℤ pos 8191))
low_bits (pos n) = (omega (arith, ints), omega (arith, ints))
low_bits (negsuc n) = (omega (arith, ints), omega (arith, ints))

middle_bits : (z : ℤ) → ((pos 4096 *ℤ int_shr z 12) ≤ℤ z) × (z ≤ℤ (pos 4096 *ℤ int_shr z 12 +ℤ pos 4095))
middle_bits (pos n) = (omega (arith, ints), omega (arith, ints))
middle_bits (negsuc n) = (omega (arith, ints), omega (arith, ints))

-- and of 2^25
pub all_bits : (z : ℤ) → ((pos 33554432 *ℤ int_shr z 25) ≤ℤ z) × (z ≤ℤ (pos 33554432 *ℤ int_shr z 25 +ℤ pos 33554431))
all_bits (pos n) = (omega (arith, ints), omega (arith, ints))
all_bits (negsuc n) = (omega (arith, ints), omega (arith, ints))

-- a division in two steps
steps_by : (h l c r q : ℤ) → (pos 8192 *ℤ c) ≤ℤ (l +ℤ pos 16777216)
    → (l +ℤ pos 16777216) ≤ℤ (pos 8192 *ℤ c +ℤ pos 8191) →
    (pos 4096 *ℤ r) ≤ℤ (h +ℤ c) → (h +ℤ c) ≤ℤ (pos 4096 *ℤ r +ℤ pos 4095) →
    (pos 33554432 *ℤ q) ≤ℤ (pos 8192 *ℤ h +ℤ l +ℤ pos 16777216)
    → (pos 8192 *ℤ h +ℤ l +ℤ pos 16777216) ≤ℤ (pos 33554432 *ℤ q +ℤ pos 33554431) → r ≡ q
steps_by h l c r q a b d e f g = omega (arith, ints)

pub rounded_in_steps : (h l : ℤ) → int_shr (h +ℤ int_shr (l +ℤ pos 16777216) 13) 12 ≡ rounded (pos 8192 *ℤ h +ℤ l)
rounded_in_steps h l =
    let a = low_bits (l +ℤ pos 16777216) in
    let b = middle_bits (h +ℤ int_shr (l +ℤ pos 16777216) 13) in
    let d = all_bits (pos 8192 *ℤ h +ℤ l +ℤ pos 16777216) in
    steps_by h l (int_shr (l +ℤ pos 16777216) 13) _ _ a.0 a.1 b.0 b.1 d.0 d.1

-- ---- lanes

-- an operation with a splat, and one of each lane
pub splat_op_words : (w : Width) {m k : ℕ} {us : List ℕ} {f : ℕ → ℤ} (op : ℕ → ℕ → ℕ) (s : ℕ) (g : ℤ → ℤ) →
    ((a : ℤ) → Within m a → op (of_z w a) s ≡ of_z w (g a)) → ((a : ℤ) → Within m a → Within k (g a)) → Words w m us f
    → Words w k (zip2 op us (replicate 8 s)) (λ i. g (f i))
splat_op_words w {m} {k} {us} {f} op s g is small u = record {
  long = length-zip2 op us (replicate 8 s) (u.long ∙ sym (length-replicate 8 s)) ∙ u.long;
  spelt = λ i hi. get_or-zip2 op us (replicate 8 s) i 0 0 0 (omega (arith, u.long))
      (omega (arith, length-replicate 8 s)) ∙ cc (u.spelt i hi, get_or-replicate 8 i s 0 hi, is (f i) (u.small i hi));
  small = λ i hi. small (f i) (u.small i hi);
}

pub refined : (w : Width) {n : ℕ} (k : ℕ) {us : List ℕ} {f : ℕ → ℤ} → Words w n us f
    → ((i : ℕ) → i < 8 → Within k (f i)) → Words w k us f
refined w k u h = record { long = u.long; spelt = u.spelt; small = h }

abbrev pub down : ℕ → ℕ → ℕ
down a b = of_z w32 (shr_z (to_z w32 a) (2 ^ b))

abbrev pub up : ℕ → ℕ → ℕ
up a b = (a * 2 ^ b) % 2 ^ 32

abbrev pub narrow : ℕ → ℕ
narrow a = of_z w16 (to_z w32 a)

pub down_words : {m : ℕ} (b k : ℕ) {us : List ℕ} {f : ℕ → ℤ} → m ≤ 2 ^ 31 - 1
    → ((a : ℤ) → Within m a → Within k (int_shr a b)) → Words w32 m us f →
    Words w32 k (zip2 down us (replicate 8 b)) (λ i. int_shr (f i) b)
down_words {m} b k h small u = splat_op_words w32 down b (λ a. int_shr a b)
    (λ a ha. ap (λ z. of_z w32 (shr_z z (2 ^ b))) (to_z-of_z w32 a (within_fits m a h ha))) small u

up_is : (a : ℤ) → Within 8191 a → up (of_z w32 a) 13 ≡ of_z w32 (pos 8192 *ℤ a)
up_is a h = omega (arith, ints)

up_small : (a : ℤ) → Within 8191 a → Within 67100672 (pos 8192 *ℤ a)
up_small a h = omega (arith, ints)

pub narrow_words : {m : ℕ} {us : List ℕ} {f : ℕ → ℤ} → m ≤ 32767 → Words w32 m us f → Words w16 m (map narrow us) f
narrow_words {m} {us} {f} h u = record {
  long = length-map us narrow ∙ u.long;
  spelt = λ i hi. get_or-map narrow us i 0 0 (omega (arith, u.long)) ∙ ap narrow (u.spelt i hi)
      ∙ ap (of_z w16) (to_z-of_z w32 (f i) (within_fits m (f i) (omega arith) (u.small i hi)));
  small = u.small;
}

narrow_fits : (m : ℕ) (z : ℤ) (a : ℕ) → m ≤ 32767 → Within m z → a ≡ of_z w32 z → FitsSigned w16 (to_z w32 a)
narrow_fits m z a h w e = subst (λ (k : ℕ). FitsSigned w16 (to_z w32 k)) (sym e) (subst (λ (y : ℤ). FitsSigned w16 y)
    (sym (to_z-of_z w32 z (within_fits m z (omega arith) w))) (within_fits16 m z h w))

pub narrowing_fits : {m : ℕ} {us : List ℕ} {f : ℕ → ℤ} → m ≤ 32767 → Words w32 m us f
    → Each1 (λ a. FitsSigned w16 (to_z w32 a)) us
narrowing_fits {m} {us} {f} h u = Each1-from_get_or (λ a. FitsSigned w16 (to_z w32 a)) us 0 (λ i hi. let lt : i < 8 =
    omega (arith, u.long) in narrow_fits m (f i) (get_or us i 0) h (u.small i lt) (u.spelt i lt))

-- ---- the two parts of a vector of sums

high_small : (z : ℤ) → Within 46546944 z → Within 8191 (int_shr z 13)
high_small z h = omega (arith, ints, low_bits z)

low_small : (z : ℤ) → Within 8191 (z -ℤ pos 8192 *ℤ int_shr z 13)
low_small z = omega (arith, ints, low_bits z)

pub high_words : (v : List ℤ) → EightWithin 46546944 v
    → Words w32 8191 (zip2 down (map (of_z w32) v) (replicate 8 13)) (λ i. int_shr (lane v i) 13)
high_words v h = down_words 13 8191 (lit≤ tt) high_small (own_words w32 46546944 v h)

pub low_words : (v : List ℤ) → EightWithin 46546944 v →
    Words w32 8191 (zip2 (λ a b. (a + (2 ^ 32 - b)) % 2 ^ 32) (map (of_z w32) v)
    (zip2 up (zip2 down (map (of_z w32) v) (replicate 8 13)) (replicate 8 13)))
    (λ i. lane v i -ℤ pos 8192 *ℤ int_shr (lane v i) 13)
low_words v h =
    refined w32 8191 (difference_words (lit≤ tt) (own_words w32 46546944 v h)
    (splat_op_words w32 up 13 (λ a. pos 8192 *ℤ a) up_is up_small (high_words v h))) (λ i hi. low_small (lane v i))

pub whole_is : (z h l : ℤ) → h ≡ int_shr z 13 → l ≡ z -ℤ pos 8192 *ℤ int_shr z 13 → z ≡ pos 8192 *ℤ h +ℤ l
whole_is z h l eh el = omega (arith, ints)

-- ---- rounding

pub splat_words : (w : Width) (n : ℕ) (m : ℤ) → Within n m → Words w n (replicate 8 (of_z w m)) (λ i. m)
splat_words w n m h = record {
  long = length-replicate 8 (of_z w m);
  spelt = λ i hi. get_or-replicate 8 i (of_z w m) 0 hi;
  small = λ i hi. h;
}

half_small : Within 16777216 (pos 16777216)
half_small = (omega (arith, ints), omega (arith, ints))

carried_small : (z : ℤ) → Within (2 ^ 30 + 16777216) z → Within 140000 (int_shr z 13)
carried_small z h = omega (arith, ints, low_bits z)

result_small : (z : ℤ) → Within (2 ^ 30 + 140000) z → Within 270000 (int_shr z 12)
result_small z h = omega (arith, ints, middle_bits z)

pub nearest_words : (h l : List ℤ) → EightWithin (2 ^ 30) h → EightWithin (2 ^ 30) l →
    Words w32 270000 (zip2 down (zip2 (λ a b. (a + b) % 2 ^ 32) (map (of_z w32) h)
    (zip2 down (zip2 (λ a b. (a + b) % 2 ^ 32) (map (of_z w32) l) (replicate 8 16777216)) (replicate 8 13)))
    (replicate 8 12))
    (λ i. int_shr (lane h i +ℤ int_shr (lane l i +ℤ pos 16777216) 13) 12)
nearest_words h l hh hl =
    down_words 12 270000 (lit≤ tt) result_small
    (sum_words (lit≤ tt) (own_words w32 (2 ^ 30) h hh) (down_words 13 140000 (lit≤ tt) carried_small
    (sum_words (lit≤ tt) (own_words w32 (2 ^ 30) l hl) (splat_words w32 16777216 (pos 16777216) half_small))))

quotient_small : (z : ℤ) → Within (2 ^ 31 - 1) z → Within 64 (int_shr z 25)
quotient_small z h = omega (arith, ints, all_bits z)

pub quotient_words : (v : List ℤ) → EightWithin (2 ^ 31 - 1) v
    → Words w32 64 (zip2 down (map (of_z w32) v) (replicate 8 25)) (λ i. int_shr (lane v i) 25)
quotient_words v h = down_words 25 64 (lit≤ tt) quotient_small (own_words w32 (2 ^ 31 - 1) v h)

-- the two parts of a vector of sums
pub record AreParts (sums high low : List ℤ) : Type 0 where
  pub whole : (i : ℕ) → i < 8 → lane sums i ≡ pos 8192 *ℤ lane high i +ℤ lane low i
  pub high_size : EightWithin 8191 high
  pub low_size : EightWithin 8191 low
