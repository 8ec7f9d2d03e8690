-- The writing of a block's levels, one after the other.
use Rattle.std.specs.Prelude.{ℕ, ◌<◌, ◌≤◌, List, Bool, slice_index_or, ℤ, pos}
use Rattle.code_tables.specs.Tables.{Coefficient, size_of}

-- the level at a place
abbrev pub level_in_list : List ℤ → ℕ → ℤ
level_in_list levels k = slice_index_or levels k (pos 0)

-- each level from a place on can be written: it is from -127 to 127
pub record AreWritten (from : ℕ) (levels : List ℤ) : Type 0 where
  pub sizes : (k : ℕ) → from ≤ k → k < 64 → size_of (level_in_list levels k) < 128

abbrev pub one_event : Bool → ℕ → ℤ → Coefficient
one_event last run level = record { last = last; run = run; level = level }
