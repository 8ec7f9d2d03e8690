-- The forward transform nearly: a pass down and one across, each rounded, so that all that they give fits 16 bits.
-- It gives sixteenths of coefficients.
use Rattle.std.specs.Prelude.{ℕ, ◌+◌, ◌/◌, ◌^◌, ◌≤◌, ℤ, pos, ◌+ℤ◌, ◌*ℤ◌, ◌≤ℤ◌, unsigned_abs, List}
use Rattle.std.specs.Int.{int_shr}
use Rattle.idct8.specs.Sums.{sum_below}
use Rattle.idct8.specs.Basis.{basis}
use Rattle.idct8.specs.Transform.{entry}

-- sum v of column x of the samples s
abbrev pub down_sum : List ℤ → ℕ → ℕ → ℤ
down_sum s v x = sum_below 8 (λ y. basis v y *ℤ entry s y x)

-- the same divided by 2^8, rounded to the nearest
abbrev pub down_at : List ℤ → ℕ → ℕ → ℤ
down_at s v x = int_shr (down_sum s v x +ℤ pos (2 ^ 7)) 8

-- sixteenths of the coefficient of the frequencies u across and v down: sum u of those, divided by 2^13 and rounded
abbrev pub near_at : List ℤ → ℕ → ℕ → ℤ
near_at s v u = int_shr (sum_below 8 (λ x. basis u x *ℤ down_at s v x) +ℤ pos (2 ^ 12)) 13

-- what sixteenths tell of a coefficient: its size is between two numbers that differ by 1 at most, and it isn't on the
-- other side of 0
pub record IsBracketed (sixteenths coefficient : ℤ) : Type 0 where
  pub least : (unsigned_abs sixteenths + 6) / 16 ≤ unsigned_abs coefficient
  pub most : unsigned_abs coefficient ≤ (unsigned_abs sixteenths + 9) / 16
  pub up : pos 0 ≤ℤ sixteenths → pos 0 ≤ℤ coefficient
  pub down : sixteenths ≤ℤ pos 0 → coefficient ≤ℤ pos 0
