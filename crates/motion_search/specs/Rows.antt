-- Blocks of 16 x 16 numbers by their rows.
use Rattle.std.specs.Prelude.{ℕ, ◌*◌, List, drop}
use Rattle.sad_kernel.specs.Differences.{differences}

-- the differences of the rows from row j on of two blocks
unfoldable pub rows_from : List ℕ → List ℕ → ℕ → ℕ
rows_from block other j = differences (drop (16 * j) block) (drop (16 * j) other)
