use Rattle.std.proofs.Common.{◌≡◌, ◌≢◌, ℕ, get_or, pos}
use Rattle.std.specs.Int.{bit_at}
use Rattle.h263_types.specs.Marks.{marks_of}
use Rattle.mode_choice.specs.Walk.{AreSet}
use Rattle.mode_choice.proofs.order.put_in_order.Given as goal

-- the levels whose marks are taken away stand, with their own marks; those whose marks are left aren't 0
abbrev pub invariant-marks : goal.invariant-marks
invariant-marks l = record {
  set : AreSet l.fn.standing l.fn.keep l.levels l.rest l.out;
  some : (i : ℕ) → bit_at l.rest i ≡ 1 → get_or l.levels i (pos 0) ≢ pos 0;
  marks : l.kept ≡ marks_of l.out;
}

-- a mark is taken away each time
abbrev pub decreases-marks : goal.decreases-marks
decreases-marks l = l.rest
