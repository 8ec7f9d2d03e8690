use Rattle.std.proofs.Common.{◌≡◌, refl, ℕ, arith, subst}
use Rattle.motion_search.specs.Areas.{AreColumns}
use Rattle.motion_search.proofs.kept.seven_rows.Goals as goal

pub loop-j-init : goal.loop-j-init
loop-j-init c = record { few = omega arith; sums = λ f bytes beside. c.no_rows-columns.ensures f c.args.y }

pub with_samples-columns-requires-clause-left : goal.with_samples-columns-requires-clause-left
with_samples-columns-requires-clause-left c =
    record { in_row = c.requires.left.in_row; in_plane = omega (arith, c.requires.left.in_plane, c.loop-j-test.true) }

pub with_samples-columns-requires-clause-right : goal.with_samples-columns-requires-clause-right
with_samples-columns-requires-clause-right c =
    record { in_row = c.requires.right.in_row; in_plane = omega (arith, c.requires.right.in_plane, c.loop-j-test.true) }

pub loop-j-preserved : goal.loop-j-preserved
loop-j-preserved c =
    record {
      few = omega (arith, c.loop-j-test.true);
      sums = λ f bytes beside. c.with_samples-columns.ensures f c.args.y c.loop-j.j bytes beside
          (omega (arith, c.loop-j-test.true)) refl (c.loop-j.invariant.sums f bytes beside);
    }

pub returns : goal.returns
returns c = λ f bytes beside.
    let e : c.loop-j.j ≡ 7 = omega (arith, c.loop-j.invariant.few, c.loop-j-test.false) in
    subst (λ (n : ℕ). AreColumns f c.args.y n c.loop-j.columns) e (c.loop-j.invariant.sums f bytes beside)
