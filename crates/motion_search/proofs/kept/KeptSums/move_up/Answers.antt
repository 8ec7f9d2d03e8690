use Rattle.std.proofs.Common.{refl, ◌∙◌, arith, ◌-◌}
use Rattle.motion_search.proofs.Held.{moved_rows, rows_dropped, others_stay}
use Rattle.motion_search.proofs.kept.KeptSums.move_up.Goals as goal

pub returns-clause-sums : goal.returns-clause-sums
returns-clause-sums c = λ p are.
    let s = c.args.self.now in
    let by = c.copy_within.ensures.by_index in
    let dropped = c.args.from - s.first in
    rows_dropped p s _ dropped are (c.copy_within.ensures.len ∙ c.requires.whole) (omega (arith, c.requires.has.0)) refl
    (omega (arith, c.requires.has.0, c.requires.has.1))
    (moved_rows s.sums c.copy_within.new.self dropped (s.end - s.first) (omega (
      arith,
      c.requires.has.0,
      c.requires.has.1,
    )) by.0)
    (others_stay s.sums c.copy_within.new.self dropped (s.end - s.first) (omega (
      arith,
      c.requires.has.0,
      c.requires.has.1,
    )) by.2)
