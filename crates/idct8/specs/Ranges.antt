-- Ranges of signed numbers.
use Rattle.std.specs.Prelude.{ℕ, ℤ, pos, neg_ℤ, ◌≤ℤ◌}

-- from -n to n
abbrev pub Within : ℕ → ℤ → Type 0
Within n z = (neg_ℤ (pos n) ≤ℤ z) × (z ≤ℤ pos n)

-- a sample, or the difference of two
pub record IsSample (z : ℤ) : Type 0 where
  pub low : neg_ℤ (pos 255) ≤ℤ z
  pub high : z ≤ℤ pos 255
