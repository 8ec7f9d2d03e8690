use Rattle.std.proofs.Common.{sym, ap, Bool, cond}
use Rattle.motion_search.proofs.Orders.{dearer_not_before}
use Rattle.motion_search.proofs.candidate.first.Goals as goal

pub returns-then-is_dearer : goal.returns-then-is_dearer
returns-then-is_dearer c =
    sym (ap (λ (b : Bool). cond b c.args.other c.args.best) (dearer_not_before c.args.other c.args.best
    (c.is_dearer.ensures.0 c.if-is_dearer.true)))
