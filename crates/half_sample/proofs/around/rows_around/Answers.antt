-- The rows above the place are predicted at each of the eight half places around.
use Rattle.std.proofs.Common.{◌≡◌, ℕ, ◌+◌, ◌∙◌, subst, arith, rules, true, false}
use Rattle.std.specs.Int.RustNames.{bit_xor}
use Rattle.h263_planes.specs.Lent.{picture}
use Rattle.half_sample.specs.Prediction.{interpolated}
use Rattle.half_sample.specs.Rows.{AreMeans, IsSampleLine, sixteen_from}
use Rattle.h263_planes.specs.declared.Plane.TheVariants.{Y}
use Rattle.half_sample.proofs.Blocks.{row_step}
use Rattle.half_sample.proofs.Lanes.{lanes, samples_are}
use Rattle.half_sample.proofs.Lines.{below_of, between_of, right_of}
use Rattle.half_sample.proofs.around.rows_around.Goals as goal

pub loop-j-init : goal.loop-j-init
loop-j-init c =
    let e : c.from-top.result ≡ c.args.place.y + 0 = omega (arith, c.from-top.ensures) in
    record {
      line = subst (λ (k : ℕ). IsSampleLine (picture c.args.reference) c.args.place.x k c.line_at-above.result) e
          c.line_at-above.ensures;
      rows = record {
        left = λ j i hj hi. absurd (omega (arith, hj));
        right = λ j i hj hi. absurd (omega (arith, hj));
        up = λ j i hj hi. absurd (omega (arith, hj));
        up_left = λ j i hj hi. absurd (omega (arith, hj));
        up_right = λ j i hj hi. absurd (omega (arith, hj));
      };
    }

pub of_mean-requires-in-loop-j-2 : goal.of_mean-requires-in-loop-j-2
of_mean-requires-in-loop-j-2 c =
    let odd = lanes bit_xor c.loop-j.above.centre c.line_at-below.result.centre
    c.loop-j.invariant.line.centre_samples.long c.line_at-below.ensures.centre_samples.long in
    (search rules, (c.requires.rounding, (samples_are c.mean-up.ensures.samples, odd)))

pub loop-j-preserved : goal.loop-j-preserved
loop-j-preserved c =
    let p = picture c.args.reference in
    let x = c.args.place.x in
    let j = c.loop-j.j in
    let r = c.args.rounding in
    let y = c.args.place.y + j in
    let z = c.args.place.y + (j + 1) in
    let ez : z ≡ y + 1 = omega arith in
    let inv = c.loop-j.invariant in
    let above = inv.line in
    let et : c.from-top.result + (j + 1) ≡ z = omega (arith, c.from-top.ensures) in
    let below : IsSampleLine p x z c.line_at-below.result = subst (λ (k : ℕ). IsSampleLine p x k c.line_at-below.result)
    et
    c.line_at-below.ensures in
    let down : AreMeans (sixteen_from p (x + 1) y) (sixteen_from p (x + 1) z) c.mean-up.result _ =
    record {
      mean = c.mean-up.ensures.value ∙ cc (above.centre, below.centre);
      odd = cc (above.centre, below.centre);
    } in
    record {
      line = below;
      rows = record {
        left = row_step (λ k i. interpolated p Y true false r (x + i) (c.args.place.y + k)) c.loop-j.out.left
            c.store.new.out c.of_mean.result 16 j
            c.store.ensures.before c.store.ensures.stored inv.rows.left
            (λ i hi. right_of p r x y i hi _ (c.of_mean.ensures.lanes _ _ above.before above.middle above.left i hi));
        right = row_step (λ k i. interpolated p Y true false r (x + 1 + i) (c.args.place.y + k)) c.loop-j.out.right
            c.store-in-loop-j.new.out c.of_mean-in-loop-j.result 16 j
            c.store-in-loop-j.ensures.before c.store-in-loop-j.ensures.stored inv.rows.right
            (λ i hi. right_of p r (x + 1) y i hi _ (c.of_mean-in-loop-j.ensures.lanes _ _ above.middle above.after
            above.right i hi));
        up = row_step (λ k i. interpolated p Y false true r (x + 1 + i) (c.args.place.y + k)) c.loop-j.out.up
            c.store-in-loop-j-2.new.out c.of_mean-in-loop-j-2.result 16 j
            c.store-in-loop-j-2.ensures.before c.store-in-loop-j-2.ensures.stored inv.rows.up
            (λ i hi. below_of p r (x + 1) y i hi _ z ez (c.of_mean-in-loop-j-2.ensures.lanes _
            _ above.middle below.middle down i hi));
        up_left = row_step (λ k i. interpolated p Y true true r (x + i) (c.args.place.y + k)) c.loop-j.out.up_left
            c.store-in-loop-j-3.new.out c.of_means.result 16 j
            c.store-in-loop-j-3.ensures.before c.store-in-loop-j-3.ensures.stored inv.rows.up_left
            (λ i hi. between_of p r x y i hi _ z ez
            (c.of_means.ensures.lanes _ _ _ _ above.before above.middle below.before below.middle above.left
            below.left i hi));
        up_right = row_step (λ k i. interpolated p Y true true r (x + 1 + i) (c.args.place.y + k)) c.loop-j.out.up_right
            c.store-in-loop-j-4.new.out c.of_means-in-loop-j.result 16 j
            c.store-in-loop-j-4.ensures.before c.store-in-loop-j-4.ensures.stored inv.rows.up_right
            (λ i hi. between_of p r (x + 1) y i hi _ z ez (c.of_means-in-loop-j.ensures.lanes _ _ _
            _ above.middle above.after below.middle below.after above.right below.right i hi));
      };
    }
