use Rattle.std.proofs.Common.{◌≡◌, ℕ, Option}
use Rattle.h263_planes.specs.Lent.{picture}
use Rattle.h263_planes.specs.Picture.{Picture}
use Rattle.h263_planes.specs.Samples.{IsPicture}
use Rattle.h263_planes.specs.Work.{work, loan_of}
use Rattle.picture_recon.specs.Shown.{ShowsFirst}
use Rattle.picture_recon.specs.Undrawn.{undrawn_mbs}
use Rattle.picture_recon.proofs.undrawn.draw_undrawn.Given as goal

-- the macroblocks before `at` are drawn
abbrev pub invariant-loop-at : goal.invariant-loop-at
invariant-loop-at l =
    (loan_of l.out ≡ loan_of l.initial.out)
    × ((work l.out).format ≡ (picture l.undrawn).format)
    × ((rounding : ℕ) (reference : Option Picture)
    → ShowsFirst (picture l.undrawn).format rounding reference (undrawn_mbs l.quant (picture l.undrawn)) l.at
    (work l.out))
    × IsPicture (work l.out)
