use Rattle.std.proofs.Common.{◌∙◌, rules}
use Rattle.std.specs.Int.RustNames.{bit_xor}
use Rattle.half_sample.proofs.Lanes.{four_at, lanes, minus}
use Rattle.half_sample.proofs.rows.of_means.Goals as goal

pub excess-requires : goal.excess-requires
excess-requires g c =
    let both = lanes bit_xor c.args.upper c.args.lower c.requires.upper.long c.requires.lower.long in
    (search rules, (c.requires.upper_odd, (c.requires.lower_odd, (both, c.requires.rounding))))

pub returns-clause-length : goal.returns-clause-length
returns-clause-length g c = lanes minus c.mean.result c.excess.result c.mean.ensures.samples.0 c.excess.ensures.length

pub returns-clause-lanes : goal.returns-clause-lanes
returns-clause-lanes g c = λ xs ys us vs hx hy hu hv above below i hi.
    cc (c.mean.ensures.value, above.mean, below.mean)
    ∙ four_at g.row.N c.args.rounding xs ys us vs c.excess.result i c.requires.rounding
    hx.long hy.long hu.long hv.long c.excess.ensures.length hx.small hy.small hu.small hv.small hi
    (c.excess.ensures.lanes i hi ∙ cc (above.mean, below.mean, above.odd, below.odd))
