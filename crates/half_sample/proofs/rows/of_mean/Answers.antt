use Rattle.std.proofs.Common.{◌∙◌}
use Rattle.std.proofs.lemmas.List.{length-replicate}
use Rattle.std.specs.Int.Bits.{bit_and}
use Rattle.half_sample.proofs.Lanes.{lanes, minus, two_at}
use Rattle.half_sample.proofs.rows.of_mean.Goals as goal

pub returns-clause-length : goal.returns-clause-length
returns-clause-length g c = lanes minus c.args.mean _ c.requires.mean.long (lanes bit_and c.args.odd _ c.requires.odd
    (length-replicate g.row.N c.args.rounding))

pub returns-clause-lanes : goal.returns-clause-lanes
returns-clause-lanes g c = λ xs ys hx hy are i hi.
    cc (are.mean, are.odd)
    ∙ two_at g.row.N c.args.rounding xs ys i c.requires.rounding hx.long hy.long hx.small hy.small hi
