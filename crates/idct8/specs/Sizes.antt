-- How large the values of a block are together.
use Rattle.std.specs.Prelude.{ℕ, min, ℤ, pos, unsigned_abs, List, slice_index_or}
use Rattle.idct8.specs.Sums.{total}

-- the sum of their sizes
abbrev pub sizes_of : List ℤ → ℕ
sizes_of block = total 64 (λ k. unsigned_abs (slice_index_or block k (pos 0)))

-- the size of the value at a place, which counts no further than 1,023
abbrev pub cut_size : List ℤ → ℕ → ℕ
cut_size block k = min (unsigned_abs (slice_index_or block k (pos 0))) 1023
