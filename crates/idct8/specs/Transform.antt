-- The two transforms of a block of 8 x 8 numbers, as double sums with one rounding at the end (H.263, 6.2.4).
use Rattle.std.specs.Prelude.{ℕ, ◌+◌, ◌*◌, ◌^◌, ℤ, pos, ◌+ℤ◌, ◌*ℤ◌, List, slice_index_or}
use Rattle.std.specs.Int.{int_shr}
use Rattle.idct8.specs.Sums.{sum_below}
use Rattle.idct8.specs.Basis.{basis}

-- the number in column x of row y of a block, which is stored by rows
abbrev pub entry : List ℤ → ℕ → ℕ → ℤ
entry block y x = slice_index_or block (8 * y + x) (pos 0)

-- z / 2^25, rounded to the nearest
abbrev pub rounded : ℤ → ℤ
rounded z = int_shr (z +ℤ pos (2 ^ 24)) 25

-- the sample in column x of row y of the values c
abbrev pub inverse_at : List ℤ → ℕ → ℕ → ℤ
inverse_at c y x = rounded (sum_below 8 (λ u. sum_below 8 (λ v. basis u x *ℤ basis v y *ℤ entry c v u)))

-- the coefficient of the frequencies u across and v down of the samples s
abbrev pub forward_at : List ℤ → ℕ → ℕ → ℤ
forward_at s v u = rounded (sum_below 8 (λ x. sum_below 8 (λ y. basis u x *ℤ basis v y *ℤ entry s y x)))
