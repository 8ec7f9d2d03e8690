-- The strips before the place have the sums of their areas.
use Rattle.std.proofs.Common.{refl, ◌∙◌, arith, ◌+◌, ◌-◌, ◌*◌}
use Rattle.h263_planes.specs.Lent.{picture}
use Rattle.motion_search.specs.Areas.{samples_from}
use Rattle.motion_search.proofs.Held.{again, again_beside, again_bytes, area_again, area_next, next_beside, next_bytes, rest_twice, some_again, some_next, strips_end, strips_fit, strip_kept}
use Rattle.motion_search.proofs.kept.add_strips.Goals as goal

pub loop-s-init : goal.loop-s-init
loop-s-init g c =
    record {
      few = omega arith;
      rest = record { whole = c.requires.whole; above = λ k hk. refl; small = λ h. h };
      sums = λ x k hx. absurd (omega (arith, hx));
    }

pub add_strip-requires-clause-beside : goal.add_strip-requires-clause-beside
add_strip-requires-clause-beside g c = some_next (picture c.args.reference) (24 * c.loop-s.s)
    (24 * c.loop-s.s + 16) c.requires.picture refl

pub add_strip-requires-clause-across : goal.add_strip-requires-clause-across
add_strip-requires-clause-across g c =
    let f = (picture c.args.reference).format in
    let fit = strips_fit f g.row.WIDTH c.loop-s.s c.requires.width (omega (arith, c.loop-s-test.true)) in
    let ends = strips_end f g.row.WIDTH c.requires.width in
    (omega (arith, fit, ends.2, c.requires.width), omega (arith, fit), omega (arith, fit))

pub loop-s-preserved : goal.loop-s-preserved
loop-s-preserved g c =
    let p = picture c.args.reference in
    let x = 24 * c.loop-s.s in
    let inv = c.loop-s.invariant in
    let add = c.add_strip.ensures in
    record {
      few = omega (arith, c.loop-s-test.true);
      rest = rest_twice _ _ _ _ inv.rest add.rest;
      sums = λ n k hn from to.
          strip_kept p x 24 c.args.rows.first k c.loop-s.out c.add_strip.new.out n (omega (arith, hn))
          (λ below. inv.sums n k below from to) add.before
          (λ i hi. add.stored (samples_from p x) (next_bytes p x c.requires.picture) (next_beside p x (x + 16) refl) k i
          from to hi ∙ area_next p x i (c.args.rows.first + k));
    }

pub add_strip-requires-clause-whole : goal.add_strip-requires-clause-whole
add_strip-requires-clause-whole g c = c.loop-s.invariant.rest.whole

pub add_strip-requires-2-clause-whole : goal.add_strip-requires-2-clause-whole
add_strip-requires-2-clause-whole g c = c.loop-s.invariant.rest.whole

pub add_strip-requires-2-clause-beside : goal.add_strip-requires-2-clause-beside
add_strip-requires-2-clause-beside g c = some_again (picture c.args.reference) (g.row.WIDTH - 16) c.requires.picture

pub add_strip-requires-2-clause-across : goal.add_strip-requires-2-clause-across
add_strip-requires-2-clause-across g c =
    let ends = strips_end (picture c.args.reference).format g.row.WIDTH c.requires.width in
    (omega (arith, ends.1, ends.2), omega (arith, ends.1, c.requires.width), omega (arith, ends.1, c.requires.width))

pub returns : goal.returns
returns g c =
    let p = picture c.args.reference in
    let x = g.row.WIDTH - 16 in
    let inv = c.loop-s.invariant in
    let add = c.add_strip-2.ensures in
    let ends = strips_end p.format g.row.WIDTH c.requires.width in
    record {
      rest = rest_twice _ _ _ _ inv.rest add.rest;
      sums = λ n k hn from to.
          strip_kept p x 9 c.args.rows.first k c.loop-s.out c.add_strip-2.new.out n (omega (
            arith,
            hn,
            ends.1,
            c.requires.width,
          ))
          (λ below. inv.sums n k (omega (arith, below, ends.0, ends.1, c.loop-s-test.false)) from to) add.before
          (λ i hi. add.stored (again p x) (again_bytes p x c.requires.picture) (again_beside p x) k i from to
          (omega (arith, hi)) ∙ area_again p x i (c.args.rows.first + k) (omega (arith, hi)));
    }
