use Rattle.std.proofs.Common.{◌∙◌, ap, sym, subst, arith, length, ◌<◌, Fits, w16}
use Rattle.std.proofs.lemmas.Simd.{length-zip2, shifts_fit_splat, Each1-weaker}
use lib.Lanes.{Each1}
use Rattle.half_sample.specs.Averages.{average}
use Rattle.half_sample.proofs.Lanes.{mean_is, mean_fits, mean_small}
use Rattle.half_sample.proofs.rows.mean.Goals as goal

pub overflow_cast-a : goal.overflow_cast-a
overflow_cast-a g c = Each1-weaker (λ x. x < 256) (Fits w16) (λ x h. record { fits = omega (arith, h) }) c.args.a
    c.requires.a.1

pub overflow_cast-b : goal.overflow_cast-b
overflow_cast-b g c = Each1-weaker (λ x. x < 256) (Fits w16) (λ x h. record { fits = omega (arith, h) }) c.args.b
    c.requires.b.1

pub overflow_shr-result : goal.overflow_shr-result
overflow_shr-result g c = shifts_fit_splat 16 _ g.row.N 1 (omega arith)

pub overflow_cast-result : goal.overflow_cast-result
overflow_cast-result g c = mean_fits g.row.N c.args.a c.args.b c.requires.a.1 c.requires.b.1

pub returns-clause-value : goal.returns-clause-value
returns-clause-value g c = mean_is g.row.N c.args.a c.args.b c.requires.a.0 c.requires.b.0 c.requires.a.1 c.requires.b.1

pub returns-clause-samples : goal.returns-clause-samples
returns-clause-samples g c =
    let e = mean_is g.row.N c.args.a c.args.b c.requires.a.0 c.requires.b.0 c.requires.a.1 c.requires.b.1 in (
      ap length e ∙ length-zip2 (average 0) c.args.a c.args.b (c.requires.a.0 ∙ sym c.requires.b.0) ∙ c.requires.a.0,
      subst (Each1 (λ x. x < 256)) (sym e) (mean_small c.args.a c.args.b c.requires.a.1 c.requires.b.1),
    )
