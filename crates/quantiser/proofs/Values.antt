-- The value of a level, by its size and its sign.
use Rattle.std.proofs.Common.{◌≡◌, ℕ, zero, suc, ◌+◌, ◌-◌, ◌*◌, ◌%◌, ◌^◌, ◌≤◌, min, ◌+ℤ◌, ℤ, pos, negsuc, neg_ℤ, ◌*ℤ◌, unsigned_abs, arith, ap, sym, subst, ◌∙◌, to_z, of_z, w16, w32, FitsSigned}
use Rattle.std.specs.Int.{int_max, int_min, int_signum}
use Rattle.std.proofs.lemmas.Int.{ints, clamps, to_z-of_z}
use Rattle.std.proofs.Math.Nat.{mul-le-mul}
use Rattle.h263_types.specs.Blocks.{IsLevel, IsValue}
use Rattle.quantiser.specs.Levels.{signed_of, value_of, value_size}

pub kept_level : (z : ℤ) → IsLevel z → to_z w16 (of_z w16 z) ≡ z
kept_level z h = omega (arith, ints)

pub kept_value : (z : ℤ) → IsValue z → to_z w16 (of_z w16 (to_z w32 (of_z w32 z))) ≡ z
kept_value z h = omega (arith, ints)

limited_up : (n : ℕ) (z : ℤ) → z ≡ pos 1 *ℤ pos n → int_max (negsuc 2047) (int_min z (pos 2047)) ≡ pos (min n 2047)
limited_up n z e = omega (arith, ints, clamps)

limited_down : (n : ℕ) (z : ℤ) → z ≡ negsuc 0 *ℤ pos n → int_max (negsuc 2047) (int_min z (pos 2047))
    ≡ neg_ℤ (pos (min n 2048))
limited_down n z e = omega (arith, ints, clamps)

limited_none : (n : ℕ) (z : ℤ) → z ≡ pos 0 *ℤ pos n → int_max (negsuc 2047) (int_min z (pos 2047)) ≡ pos 0
limited_none n z e = omega (arith, ints, clamps)

pub same_value : (q : ℕ) (z v : ℤ) → v ≡ int_signum z *ℤ pos (value_size q (unsigned_abs z))
    → int_max (negsuc 2047) (int_min v (pos 2047)) ≡ value_of q z
same_value q (pos zero) v e = limited_none (value_size q 0) v e
same_value q (pos (suc n)) v e =
    let one : min (suc n) 1 ≡ 1 = omega arith in
    limited_up (value_size q (suc n)) v (e ∙ ap (λ (k : ℕ). pos k *ℤ pos (value_size q (suc n))) one)
same_value q (negsuc n) v e = limited_down (value_size q (suc n)) v e

-- the product of the sign and a size is kept
kept_product : (z : ℤ) (n : ℕ) → n ≤ 2 ^ 13 → to_z w32 (of_z w32 (int_signum z *ℤ pos n)) ≡ int_signum z *ℤ pos n
kept_product (pos zero) n h = omega (arith, ints)
kept_product (pos (suc k)) n h =
    let one : min (suc k) 1 ≡ 1 = omega arith in
    subst (λ (m : ℕ). to_z w32 (of_z w32 (pos m *ℤ pos n)) ≡ pos m *ℤ pos n) (sym one) (omega (arith, ints))
kept_product (negsuc k) n h = omega (arith, ints)

kept_sign : (z : ℤ) → to_z w32 (of_z w32 (int_signum z)) ≡ int_signum z
kept_sign (pos k) = omega (arith, ints)
kept_sign (negsuc k) = omega (arith, ints)

pub same_sign : (z sign : ℤ) → sign ≡ int_signum z → to_z w16 (of_z w16 sign) ≡ int_signum z
same_sign (pos k) sign e = omega (arith, ints, e)
same_sign (negsuc k) sign e = omega (arith, ints, e)

pub same_product : (z sign size : ℤ) (n : ℕ) → sign ≡ int_signum z → size ≡ pos n → n ≤ 2 ^ 13 →
    to_z w32 (of_z w32 (to_z w32 (of_z w32 sign) *ℤ to_z w32 (of_z w32 size))) ≡ int_signum z *ℤ pos n
same_product z sign size n e h within =
    let first : to_z w32 (of_z w32 sign) ≡ int_signum z = ap (λ (k : ℤ). to_z w32 (of_z w32 k)) e ∙ kept_sign z in
    let second : to_z w32 (of_z w32 size) ≡ pos n = omega (arith, ints) in
    ap (λ (k : ℤ). to_z w32 (of_z w32 (k *ℤ to_z w32 (of_z w32 size)))) first
    ∙ ap (λ (k : ℤ). to_z w32 (of_z w32 (int_signum z *ℤ k))) second
    ∙ kept_product z n within

pub signed_same : (a b s : ℤ) (n : ℕ) → a ≡ s → b ≡ pos n → signed_of a b ≡ signed_of s (pos n)
signed_same a b s n first second = cc (first, second)

-- ---- twice the quantiser times a level, and the rest

-- the steps are kept
kept_steps : (q : ℕ) (z : ℤ) → q ≤ 31 → IsLevel z → to_z w32 (of_z w32 (pos (2 * q) *ℤ z)) ≡ pos (2 * q) *ℤ z
kept_steps q (pos n) h l =
    let twice : 2 * q ≤ 62 = omega (arith, h) in
    let below : n ≤ 127 = omega (arith, ints, l.high) in
    let most : 2 * q * n ≤ 62 * 127 = mul-le-mul twice below in
    omega (arith, ints, most)
kept_steps q (negsuc n) h l =
    let twice : 2 * q ≤ 62 = omega (arith, h) in
    let below : suc n ≤ 127 = omega (arith, ints, l.low) in
    let most : 2 * q * suc n ≤ 62 * 127 = mul-le-mul twice below in
    omega (arith, ints, most)

pub same_steps : (q : ℕ) (z f g : ℤ) → q ≤ 31 → IsLevel z → f ≡ pos q → g ≡ z →
    to_z w32 (of_z w32 (to_z w32 (of_z w32 (pos 2 *ℤ to_z w32 (of_z w32 f))) *ℤ to_z w32 (of_z w32 g)))
    ≡ pos (2 * q) *ℤ z
same_steps q z f g h l e d =
    let first : to_z w32 (of_z w32 (pos 2 *ℤ to_z w32 (of_z w32 f))) ≡ pos (2 * q) = omega (arith, ints, e, h) in
    let second : to_z w32 (of_z w32 g) ≡ z = omega (arith, ints, d, l.low, l.high) in
    ap (λ (k : ℤ). to_z w32 (of_z w32 (k *ℤ to_z w32 (of_z w32 g)))) first
    ∙ ap (λ (k : ℤ). to_z w32 (of_z w32 (pos (2 * q) *ℤ k))) second
    ∙ kept_steps q z h l

-- steps and rest are the value
pub steps_and_rest : (q : ℕ) (z : ℤ) → 1 ≤ q → pos (2 * q) *ℤ z +ℤ int_signum z *ℤ pos (q - (1 - q % 2))
    ≡ int_signum z *ℤ pos (value_size q (unsigned_abs z))
steps_and_rest q (pos zero) h = omega (arith, ints)
steps_and_rest q (pos (suc n)) h =
    let one : min (suc n) 1 ≡ 1 = omega arith in
    subst (λ (m : ℕ). pos (2 * q) *ℤ pos (suc n) +ℤ pos m *ℤ pos (q - (1 - q % 2))
    ≡ pos m *ℤ pos (value_size q (suc n)))
    (sym one) (let e : q * (2 * suc n + 1) ≡ 2 * q * suc n + q = omega arith in omega (arith, ints, e, h))
steps_and_rest q (negsuc n) h =
    let e : q * (2 * suc n + 1) ≡ 2 * q * suc n + q = omega arith in omega (arith, ints, e, h)

size_most : (q : ℕ) (z : ℤ) → q ≤ 31 → IsLevel z → value_size q (unsigned_abs z) ≤ 2 ^ 13
size_most q (pos n) h l =
    let below : 2 * n + 1 ≤ 255 = omega (arith, ints, l.high) in
    omega (arith, mul-le-mul h below)
size_most q (negsuc n) h l =
    let below : 2 * suc n + 1 ≤ 255 = omega (arith, ints, l.low) in
    omega (arith, mul-le-mul h below)

fits_product : (z : ℤ) (n : ℕ) → n ≤ 2 ^ 13 → FitsSigned w32 (int_signum z *ℤ pos n)
fits_product (pos zero) n h = omega (arith, ints)
fits_product (pos (suc k)) n h =
    let one : min (suc k) 1 ≡ 1 = omega arith in
    subst (λ (m : ℕ). FitsSigned w32 (pos m *ℤ pos n)) (sym one) (omega (arith, ints))
fits_product (negsuc k) n h = omega (arith, ints)

-- the sum of the steps and of what the value has more
pub sum_is : (q : ℕ) (z a b : ℤ) → 1 ≤ q → a ≡ pos (2 * q) *ℤ z → b ≡ int_signum z *ℤ pos (q - (1 - q % 2))
    → a +ℤ b ≡ int_signum z *ℤ pos (value_size q (unsigned_abs z))
sum_is q z a b h e f =
    let both : a +ℤ b ≡ pos (2 * q) *ℤ z +ℤ int_signum z *ℤ pos (q - (1 - q % 2)) = cc (e, f) in
    both ∙ steps_and_rest q z h

pub sum_fits : (q : ℕ) (z a b : ℤ) → 1 ≤ q → q ≤ 31 → IsLevel z → a ≡ pos (2 * q) *ℤ z
    → b ≡ int_signum z *ℤ pos (q - (1 - q % 2)) → FitsSigned w32 (a +ℤ b)
sum_fits q z a b low high l e f =
    subst (FitsSigned w32) (sym (sum_is q z a b low e f))
    (fits_product z (value_size q (unsigned_abs z)) (size_most q z high l))

pub kept_sum : (q : ℕ) (z a b : ℤ) → 1 ≤ q → q ≤ 31 → IsLevel z → a ≡ pos (2 * q) *ℤ z
    → b ≡ int_signum z *ℤ pos (q - (1 - q % 2))
    → to_z w32 (of_z w32 (a +ℤ b)) ≡ int_signum z *ℤ pos (value_size q (unsigned_abs z))
kept_sum q z a b low high l e f = to_z-of_z w32 (a +ℤ b) (sum_fits q z a b low high l e f) ∙ sum_is q z a b low e f
