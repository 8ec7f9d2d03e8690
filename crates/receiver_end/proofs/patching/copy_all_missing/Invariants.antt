use Rattle.std.proofs.Common.{◌≡◌, ℕ, cond, nat_lt}
use Rattle.h263_planes.specs.declared.Plane.{Plane}
use Rattle.h263_planes.specs.Blocks.{mb_of}
use Rattle.h263_planes.specs.Lent.{picture}
use Rattle.h263_planes.specs.Samples.{Inside, IsPicture, sample_at}
use Rattle.h263_planes.specs.Work.{work, loan_of}
use Rattle.packet_collector.specs.Collected.{has_in}
use Rattle.receiver_end.proofs.patching.copy_all_missing.Given as goal

-- the macroblocks before `at` are done
abbrev pub invariant-loop-at : goal.invariant-loop-at
invariant-loop-at l =
    (loan_of l.out ≡ loan_of l.initial.out)
    × ((work l.out).format ≡ l.fn.format)
    × IsPicture (work l.out)
    × ((plane : Plane) (x y : ℕ) → Inside l.fn.format plane x y 1 → sample_at (work l.out) plane x y
    ≡ cond (has_in l.collector l.fn.number (mb_of l.fn.format plane x y)) (sample_at (work l.initial.out) plane x y)
    (cond (nat_lt (mb_of l.fn.format plane x y) l.at) (sample_at (picture l.fn.screen) plane x y)
    (sample_at (work l.initial.out) plane x y)))
