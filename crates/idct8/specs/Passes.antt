-- The transforms in two passes, both in one form.
use Rattle.std.specs.Prelude.{◌≡◌, ℕ, ◌-◌, ◌^◌, ◌<◌, ℤ, pos, ◌+ℤ◌, ◌*ℤ◌, List, slice_index_or}
use Rattle.idct8.specs.declared.passes.Direction.{Direction}
use Rattle.idct8.specs.declared.passes.Sum.{Sum}
use Rattle.idct8.specs.declared.passes.Direction.TheVariants.{Inverse, Forward}
use Rattle.idct8.specs.Sums.{sum_below}
use Rattle.idct8.specs.Basis.{basis}
use Rattle.idct8.specs.Transform.{entry, rounded}
use Rattle.idct8.specs.Vectors.{lane, EightWithin, column_at}

-- the factor of term i in sum k of a pass
abbrev pub factor : Direction → ℕ → ℕ → ℤ
factor Inverse i k = basis i k
factor Forward i k = basis k i

-- sum k of one pass over eight numbers
abbrev pub pass_at : Direction → List ℤ → ℕ → ℤ
pass_at d c k = sum_below 8 (λ i. factor d i k *ℤ slice_index_or c i (pos 0))

-- sum k of the pass over row r of a block
abbrev pub row_sums : Direction → List ℤ → ℕ → ℕ → ℤ
row_sums d block r k = sum_below 8 (λ i. factor d i k *ℤ entry block r i)

-- the number in column k of row r of a block's transform
abbrev pub transform_at : Direction → List ℤ → ℕ → ℕ → ℤ
transform_at d block r k =
    rounded (sum_below 8 (λ i. sum_below 8 (λ j. factor d i k *ℤ factor d j r *ℤ entry block j i)))

-- sum y of the inverse pass over each column of some sums, and half of what rounding divides by
pub record AreColumnSums (s : List Sum) (y : ℕ) (v : List ℤ) : Type 0 where
  pub sums : (i : ℕ) → i < 8 → lane v i ≡ pass_at Inverse (column_at s i) y +ℤ pos (2 ^ 24)
  pub size : EightWithin (2 ^ 31 - 1) v
