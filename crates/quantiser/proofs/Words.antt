-- Levels of coefficients of 16 bits.
use Rattle.std.proofs.Common.{◌≡◌, ℕ, suc, ◌-◌, ◌*◌, ◌/◌, min, ℤ, pos, negsuc, neg_ℤ, arith, ap, to_z, of_z, w16, w32}
use Rattle.std.proofs.lemmas.Int.{ints}
use Rattle.h263_types.specs.Blocks.{IsCoefficient, IsQuant}
use Rattle.quantiser.specs.Levels.{inter_level, intra_level}
use Rattle.quantiser.specs.Factors.{IsWord, limited_to_word}
use Rattle.quantiser.proofs.Quotients.{same_steps}

pub coefficient_kept : (z : ℤ) → IsCoefficient z → to_z w32 (of_z w32 z) ≡ z
coefficient_kept z h = omega (arith, ints)

pub word_kept : (z : ℤ) → IsWord z → to_z w16 (of_z w16 z) ≡ z
word_kept z h = omega (arith, ints)

-- 127 steps and a half of one are fewer than 2 ^ 15
same_inter : (q m n : ℕ) → IsQuant q → min m 32767 ≡ min n 32767 → min ((m - q / 2) / (2 * q)) 127
    ≡ min ((n - q / 2) / (2 * q)) 127
same_inter q m n h e = same_steps (m - q / 2) (n - q / 2) (2 * q) (omega (arith, h.low)) (omega (arith, e, h.high))

same_intra : (q m n : ℕ) → IsQuant q → min m 32767 ≡ min n 32767 → min (m / (2 * q)) 127 ≡ min (n / (2 * q)) 127
same_intra q m n h e = same_steps m n (2 * q) (omega (arith, h.low)) (omega (arith, e, h.high))

pub limited_inter : (q : ℕ) (z : ℤ) → IsQuant q → inter_level q (limited_to_word z) ≡ inter_level q z
limited_inter q (pos n) h = ap (λ (k : ℕ). pos k) (same_inter q (min n 32767) n h (omega arith))
limited_inter q (negsuc n) h = ap (λ (k : ℕ). neg_ℤ (pos k)) (same_inter q (suc (min n 32767)) (suc n) h (omega arith))

pub limited_intra : (q : ℕ) (z : ℤ) → IsQuant q → intra_level q (limited_to_word z) ≡ intra_level q z
limited_intra q (pos n) h = ap (λ (k : ℕ). pos k) (same_intra q (min n 32767) n h (omega arith))
limited_intra q (negsuc n) h = ap (λ (k : ℕ). neg_ℤ (pos k)) (same_intra q (suc (min n 32767)) (suc n) h (omega arith))
