use Rattle.std.proofs.Common.{◌≡◌, ◌∙◌, get_or, arith}
use Rattle.std.specs.Int.RustNames.{bit_or}
use Rattle.std.specs.Int.Bits.{bit_and}
use Rattle.half_sample.proofs.Lanes.{excess_up, excess_down, excess_at, excess_length}
use Rattle.half_sample.proofs.rows.excess.Goals as goal

pub returns-then-rounding-eq0-clause-length : goal.returns-then-rounding-eq0-clause-length
returns-then-rounding-eq0-clause-length g c =
    excess_length _ _ g.row.N c.args.upper c.args.lower c.args.both c.requires.upper c.requires.lower c.requires.both

pub returns-then-rounding-eq0-clause-lanes : goal.returns-then-rounding-eq0-clause-lanes
returns-then-rounding-eq0-clause-lanes g c = λ i hi.
    let up : c.args.rounding ≡ 0 = omega (arith, c.if-rounding-eq0.true) in
    excess_at bit_or bit_and g.row.N c.args.upper c.args.lower c.args.both i c.requires.upper c.requires.lower
    c.requires.both hi
    ∙ excess_up (get_or c.args.upper i 0) (get_or c.args.lower i 0) (get_or c.args.both i 0)
    ∙ cc up

pub returns-clause-length : goal.returns-clause-length
returns-clause-length g c =
    excess_length _ _ g.row.N c.args.upper c.args.lower c.args.both c.requires.upper c.requires.lower c.requires.both

pub returns-clause-lanes : goal.returns-clause-lanes
returns-clause-lanes g c = λ i hi.
    let down : c.args.rounding ≡ 1 = omega (arith, c.requires.rounding, c.if-rounding-eq0.false) in
    excess_at bit_and bit_or g.row.N c.args.upper c.args.lower c.args.both i c.requires.upper c.requires.lower
    c.requires.both hi
    ∙ excess_down (get_or c.args.upper i 0) (get_or c.args.lower i 0) (get_or c.args.both i 0)
    ∙ cc down
