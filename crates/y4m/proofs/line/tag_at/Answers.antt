use Rattle.std.proofs.Common.{◌-◌, drop, get_or, arith, length-drop}
use Rattle.y4m.proofs.Tags.{tag_found}
use Rattle.y4m.proofs.line.tag_at.Goals as goal

pub returns : goal.returns
returns c =
    tag_found (get_or c.args.line.now (c.args.at - 1) 0) (c.gap_from-end.result - c.args.at)
    (drop c.args.at c.args.line.now)
    c.if-line-at-ne32.false (omega (arith, c.gap_from-end.ensures.is)) (omega (arith, c.gap_from-end.ensures.is))
    (omega (arith, c.gap_from-end.ensures.is, c.gap_from-end.ensures.within, length-drop c.args.at c.args.line.now))
