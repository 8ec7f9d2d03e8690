-- Lanes of 32 bits that wrap. What they hold agrees with the exact numbers in the low 32 bits, however far these go: so
-- nothing is asked of the sums and products on the way, and only a result has to fit.
use Rattle.std.proofs.Common.{◌≡◌, ℕ, suc, ◌+◌, ◌-◌, ◌*◌, ◌/◌, ◌%◌, ◌<◌, List, map, length, get_or, ap, ◌∙◌, sym, subst, arith, replicate, ℤ, pos, negsuc, ◌+ℤ◌, ◌-ℤ◌, ◌*ℤ◌, w32, to_z, of_z, lit≤}
use lib.Lanes.{zip2}
use Rattle.std.proofs.lemmas.Int.{ints, to_z-of_z}
use Rattle.std.proofs.lemmas.Simd.{get_or-zip2, length-zip2, length-replicate, get_or-replicate}
use Rattle.std.proofs.lemmas.List.{get_or-map, length-map}
use Rattle.std.proofs.Math.IntN.{*ℤ_comm}
use Rattle.idct8.specs.Ranges.{Within}
use Rattle.idct8.specs.Vectors.{lane, EightWithin}
use Rattle.idct8.proofs.Sums.{times_sum, times_assoc}
use Rattle.idct8.proofs.Vectors.{plus, minus, times, within_fits}

-- a word that has the low 32 bits of a number
pub record Low (a : ℕ) (z : ℤ) : Type 0 where
  pub below : a < 4294967296
  pub over : ℤ
  pub is : z ≡ pos a +ℤ pos 4294967296 *ℤ over

-- ---- words

own_low : (z : ℤ) → Within 2147483647 z → Low (of_z w32 z) z
own_low (pos n) h = record { below = omega (arith, ints); over = pos 0; is = omega (arith, ints) }
own_low (negsuc n) h = record { below = omega (arith, ints); over = negsuc 0; is = omega (arith, ints) }

-- a number that fits is its own low bits
number_low : (a : ℕ) (z : ℤ) → Low a z → Within 2147483647 z → to_z w32 a ≡ z
number_low a (pos n) u h =
    let same : a ≡ n = omega (arith, ints, u.below, u.is, h) in
    ap (to_z w32) same ∙ to_z-of_z w32 (pos n) (within_fits 2147483647 (pos n) (lit≤ tt) h)
number_low a (negsuc n) u h =
    let same : a ≡ 4294967296 - suc n = omega (arith, ints, u.below, u.is, h) in
    ap (to_z w32) same ∙ to_z-of_z w32 (negsuc n) (within_fits 2147483647 (negsuc n) (lit≤ tt) h)

plus_low : (a b : ℕ) (y z : ℤ) → Low a y → Low b z → Low (plus a b) (y +ℤ z)
plus_low a b y z u v = record {
  below = omega arith;
  over = u.over +ℤ v.over +ℤ pos ((a + b) / 4294967296);
  is = omega (arith, ints, u.is, v.is);
}

minus_low : (a b : ℕ) (y z : ℤ) → Low a y → Low b z → Low (minus a b) (y -ℤ z)
minus_low a b y z u v = record {
  below = omega arith;
  over = u.over -ℤ v.over +ℤ pos ((a + (4294967296 - b)) / 4294967296) -ℤ pos 1;
  is = omega (arith, ints, u.is, v.is, v.below);
}

-- a product with a word
scaled : (a m : ℕ) (z over : ℤ) → z ≡ pos a +ℤ pos 4294967296 *ℤ over
    → pos m *ℤ z ≡ pos (a * m) +ℤ pos 4294967296 *ℤ (pos m *ℤ over)
scaled a m z over e =
    ap (λ (k : ℤ). pos m *ℤ k) e
    ∙ times_sum (pos m) (pos a) (pos 4294967296 *ℤ over)
    ∙ ap (λ (k : ℤ). k +ℤ pos m *ℤ (pos 4294967296 *ℤ over)) (*ℤ_comm (pos m) (pos a))
    ∙ ap (λ (k : ℤ). pos (a * m) +ℤ k) (times_assoc (pos m) (pos 4294967296) over
    ∙ ap (λ (k : ℤ). k *ℤ over) (*ℤ_comm (pos m) (pos 4294967296))
    ∙ sym (times_assoc (pos 4294967296) (pos m) over))

reduced : (n : ℕ) → pos n ≡ pos (n % 4294967296) +ℤ pos 4294967296 *ℤ pos (n / 4294967296)
reduced n = omega (arith, ints)

once_more : (y : ℤ) (n : ℕ) (q : ℤ) (r : ℕ) (w : ℤ) → y ≡ pos n +ℤ pos 4294967296 *ℤ w
    → pos n ≡ pos r +ℤ pos 4294967296 *ℤ q → y ≡ pos r +ℤ pos 4294967296 *ℤ (w +ℤ q)
once_more y n q r w e f = omega (arith, ints)

times_low : (a m : ℕ) (z : ℤ) → Low a z → Low (times a m) (pos m *ℤ z)
times_low a m z u = record {
  below = omega arith;
  over = pos m *ℤ u.over +ℤ pos (a * m / 4294967296);
  is = once_more (pos m *ℤ z) (a * m) (pos (a * m / 4294967296)) (a * m % 4294967296) (pos m *ℤ u.over)
      (scaled a m z u.over u.is) (reduced (a * m));
}

-- ---- vectors

-- eight words that have the low bits of f 0 to f 7
pub record Lows (us : List ℕ) (f : ℕ → ℤ) : Type 0 where
  pub long : length us ≡ 8
  pub low : (i : ℕ) → i < 8 → Low (get_or us i 0) (f i)

lows_of_two : (op : ℕ → ℕ → ℕ) (g : ℤ → ℤ → ℤ) {us vs : List ℕ} {e f : ℕ → ℤ} → ((a b : ℕ) (y z : ℤ) → Low a y → Low b z
    → Low (op a b) (g y z)) →
    Lows us e → Lows vs f → Lows (zip2 op us vs) (λ i. g (e i) (f i))
lows_of_two op g {us} {vs} {e} {f} is u v = record {
  long = length-zip2 op us vs (u.long ∙ sym v.long) ∙ u.long;
  low = λ i hi.
      subst (λ (n : ℕ). Low n (g (e i) (f i)))
      (sym (get_or-zip2 op us vs i 0 0 0 (omega (arith, u.long)) (omega (arith, v.long))))
      (is (get_or us i 0) (get_or vs i 0) (e i) (f i) (u.low i hi) (v.low i hi));
}

pub lows_plus : {us vs : List ℕ} {e f : ℕ → ℤ} → Lows us e → Lows vs f → Lows (zip2 plus us vs) (λ i. e i +ℤ f i)
lows_plus u v = lows_of_two plus (λ y z. y +ℤ z) plus_low u v

pub lows_minus : {us vs : List ℕ} {e f : ℕ → ℤ} → Lows us e → Lows vs f → Lows (zip2 minus us vs) (λ i. e i -ℤ f i)
lows_minus u v = lows_of_two minus (λ y z. y -ℤ z) minus_low u v

pub lows_splat : (m : ℕ) → m < 4294967296 → Lows (replicate 8 m) (λ i. pos m)
lows_splat m h = record {
  long = length-replicate 8 m;
  low = λ i hi. subst (λ (n : ℕ). Low n (pos m)) (sym (get_or-replicate 8 i m 0 hi)) (record {
    below = h;
    over = pos 0;
    is = omega (arith, ints);
  });
}

pub lows_times : (m : ℕ) {us : List ℕ} {f : ℕ → ℤ} → Lows us f
    → Lows (zip2 times us (replicate 8 m)) (λ i. pos m *ℤ f i)
lows_times m {us} {f} u = record {
  long = length-zip2 times us (replicate 8 m) (u.long ∙ sym (length-replicate 8 m)) ∙ u.long;
  low = λ i hi.
      subst (λ (n : ℕ). Low n (pos m *ℤ f i))
      (sym (get_or-zip2 times us (replicate 8 m) i 0 0 0 (omega (arith, u.long)) (omega (arith, length-replicate 8 m))
      ∙ ap (times (get_or us i 0)) (get_or-replicate 8 i m 0 hi)))
      (times_low (get_or us i 0) m (f i) (u.low i hi));
}

-- the words of a vector
pub own_lows : (n : ℕ) (v : List ℤ) → n < 2147483648 → EightWithin n v → Lows (map (of_z w32) v) (lane v)
own_lows n v hn h = record {
  long = length-map v (of_z w32) ∙ h.long;
  low = λ i hi.
      subst (λ (k : ℕ). Low k (lane v i)) (sym (get_or-map (of_z w32) v i (pos 0) 0 (omega (arith, h.long))))
      (own_low (lane v i) (let w = h.within i hi in (omega (arith, ints, hn, w), omega (arith, ints, hn, w))));
}

-- results that fit are exact
pub exact : {us : List ℕ} {f : ℕ → ℤ} (g : ℕ → ℤ) → Lows us f → ((i : ℕ) → i < 8 → f i ≡ g i)
    → ((i : ℕ) → i < 8 → Within 2147483647 (g i)) →
    (i : ℕ) → i < 8 → lane (map (to_z w32) us) i ≡ g i
exact {us} {f} g u same fits i hi =
    get_or-map (to_z w32) us i 0 (pos 0) (omega (arith, u.long))
    ∙ number_low (get_or us i 0) (g i) (subst (λ (z : ℤ). Low (get_or us i 0) z) (same i hi) (u.low i hi)) (fits i hi)

pub exact_size : {us : List ℕ} {f : ℕ → ℤ} (g : ℕ → ℤ) → Lows us f → ((i : ℕ) → i < 8 → f i ≡ g i)
    → ((i : ℕ) → i < 8 → Within 2147483647 (g i)) →
    EightWithin 2147483647 (map (to_z w32) us)
exact_size {us} {f} g u same fits = record {
  long = length-map us (to_z w32) ∙ u.long;
  within = λ i hi. subst (λ (z : ℤ). Within 2147483647 z) (sym (exact g u same fits i hi)) (fits i hi);
}
