use Rattle.std.proofs.Common.{◌≡◌, ℕ, cond, ◌&&◌, nat_le, nat_lt}
use Rattle.std.specs.Option.{option_map}
use Rattle.h263_planes.specs.declared.Plane.{Plane}
use Rattle.h263_planes.specs.Blocks.{mb_of}
use Rattle.h263_planes.specs.Lent.{picture}
use Rattle.h263_planes.specs.Samples.{Inside, IsPicture, sample_at}
use Rattle.h263_planes.specs.Work.{work, loan_of}
use Rattle.h263_types.specs.Blocks.{mb_in}
use Rattle.picture_recon.specs.Samples.{sample_in}
use Rattle.picture_recon.proofs.macroblocks.recon_slice.Given as goal

-- the macroblocks before `at` are written
abbrev pub invariant-loop-at : goal.invariant-loop-at
invariant-loop-at l =
    (loan_of l.out ≡ loan_of l.initial.out)
    × ((work l.out).format ≡ l.header.format)
    × ((plane : Plane) (x y : ℕ) → Inside l.header.format plane x y 1 →
    sample_at (work l.out) plane x y
    ≡ cond (nat_le l.fn.head.first (mb_of l.header.format plane x y) && nat_lt (mb_of l.header.format plane x y)
    l.at) (sample_in l.header.rounding (option_map picture l.reference)
    (mb_in l.mbs (mb_of l.header.format plane x y)) plane x y) (sample_at (work l.initial.out) plane x y))
    × IsPicture (work l.out)
