use Rattle.std.proofs.Common.{◌≡◌, refl, ap, sym, ◌∙◌, arith, ℕ, ◌+◌}
use Rattle.h263_planes.specs.Lent.{picture}
use Rattle.h263_planes.specs.Samples.{sample_at}
use Rattle.h263_planes.specs.declared.Plane.TheVariants.{Y}
use Rattle.motion_search.specs.Areas.{area_sum}
use Rattle.motion_search.proofs.Held.{begins_before, height_small, rows_added}
use Rattle.motion_search.proofs.kept.KeptSums.make.Goals as goal

pub drop_before-requires-clause-whole : goal.drop_before-requires-clause-whole
drop_before-requires-clause-whole c = c.requires.sums.whole

pub drop_before-requires-clause-room : goal.drop_before-requires-clause-room
drop_before-requires-clause-room c = c.requires.sums.room

pub add_rows-requires-clause-rows : goal.add_rows-requires-clause-rows
add_rows-requires-clause-rows c =
    let ends = begins_before c.args.self.now.first c.args.self.now.end c.drop_before.new.self.end c.args.from c.args.end
    c.drop_before.ensures.end c.requires.more c.requires.order in
    record {
      order = omega (arith, ends.1, c.drop_before.ensures.first);
      room = omega (arith, c.requires.room);
      low = omega (arith, c.requires.order, c.requires.inside, height_small (picture c.args.reference).format);
      down = omega (arith, c.requires.order, c.requires.inside);
    }

pub returns-clause-sums : goal.returns-clause-sums
returns-clause-sums c =
    let p = picture c.args.reference in
    let s = c.drop_before.new.self in
    let old = c.args.self.now in
    let first : c.args.from ≡ s.first = sym c.drop_before.ensures.first in
    let ends = begins_before old.first old.end s.end c.args.from c.args.end c.drop_before.ensures.end c.requires.more
    c.requires.order in
    let are = c.drop_before.ensures.sums p c.requires.sums in
    rows_added p s _ c.args.end are c.add_rows.ensures.rest.whole refl refl ends.1 (omega (
      arith,
      c.requires.room,
      c.drop_before.ensures.first,
    ))
    (λ x k hx begun more. c.add_rows.ensures.sums x k hx begun (omega (arith, more, first))
    ∙ ap (λ (n : ℕ). area_sum (sample_at p Y) x (n + k)) first)
    c.add_rows.ensures.rest.above (c.add_rows.ensures.rest.small are.small)
