-- A product in the place of a division by twice the quantiser.
use Rattle.std.specs.Prelude.{◌≡◌, ◌<◌, ◌≤◌, ℕ, ◌+◌, ◌-◌, ◌*◌, ◌/◌, ◌^◌, ℤ, pos, negsuc, neg_ℤ, ◌≤ℤ◌, min}
use Rattle.h263_types.specs.Blocks.{IsQuant}
use Rattle.quantiser.specs.declared.coefficients.Factor.{Factor}
use Rattle.quantiser.specs.Levels.{inter_level, intra_level}

-- a signed number of 16 bits
pub record IsWord (z : ℤ) : Type 0 where
  pub low : neg_ℤ (pos 32768) ≤ℤ z
  pub high : z ≤ℤ pos 32767

-- the nearest number of 16 bits
abbrev pub limited_to_word : ℤ → ℤ
limited_to_word (pos n) = pos (min n 32767)
limited_to_word (negsuc n) = negsuc (min n 32767)

-- 2 ^ shift is the least power of two that isn't below q
pub record IsShift (q shift : ℕ) : Type 0 where
  pub reaches : q ≤ 2 ^ shift
  pub least : 2 ^ shift < 2 * q

-- the factor of quantiser q: 2 ^ (16 + shift) / (2 * q), rounded up
pub record IsFactor (q : ℕ) (f : Factor) : Type 0 where
  pub shift : IsShift q f.shift
  pub number : f.number ≡ (32768 * 2 ^ f.shift + (q - 1)) / q

-- the quotient of a size by twice the quantiser is its product with the factor, shifted right by 16 and by the shift
abbrev pub IsExact : Type 0
IsExact = (q size : ℕ) (f : Factor) → IsQuant q → IsFactor q f → size ≤ 32768
    → size * f.number / 2 ^ 16 / 2 ^ f.shift ≡ size / (2 * q)

-- a coefficient and the nearest number of 16 bits have the same levels
abbrev pub HasSameLevels : Type 0
HasSameLevels = (q : ℕ) (z : ℤ) → IsQuant q
    → (inter_level q (limited_to_word z) ≡ inter_level q z) × (intra_level q (limited_to_word z) ≡ intra_level q z)
