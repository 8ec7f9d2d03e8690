-- What a prediction leaves of a block, where the predicted samples of a whole macroblock are at hand.
use Rattle.std.specs.Prelude.{ℕ, List, ◌+◌, ◌*◌, ◌/◌, ◌%◌, nat_lt, ◌==◌, slice_index, if◌then◌else◌}
use Rattle.half_sample.specs.declared.macroblock.Predicted.{Predicted}

-- the sample in column k % 8 of row k / 8 of block b of the four that make 16 x 16 samples of luma
abbrev pub luma_at : List ℕ → ℕ → ℕ → ℕ
luma_at luma b k = slice_index luma (16 * (8 * (b / 2) + k / 8) + (8 * (b % 2) + k % 8))

-- the predicted sample there of block b of the six
abbrev pub predicted_at : Predicted → ℕ → ℕ → ℕ
predicted_at p b k = if nat_lt b 4 then luma_at p.y b k else slice_index (if b == 4 then p.cb else p.cr) k
