use Rattle.std.proofs.Common.{◌≡◌, ◌<◌, ℕ, slice_index}
use Rattle.make_input.specs.Frames.{made_sample}
use Rattle.make_input.proofs.frames.fill_row.Given as goal

-- the samples up to here are made
abbrev pub invariant-loop-x : goal.invariant-loop-x
invariant-loop-x l = (i : ℕ) → i < l.x → slice_index l.row i ≡ made_sample l.fn.seed l.fn.number l.fn.plane i l.fn.y
