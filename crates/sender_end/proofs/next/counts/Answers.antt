use Rattle.std.proofs.Common.{◌≤◌, ◌&&◌, Bool, sym, ap, ◌∙◌, arith}
use Rattle.std.proofs.lemmas.Bool.{le-leb}
use Rattle.sender_end.proofs.next.counts.Goals as goal

pub returns : goal.returns
returns c rules sent depth known below near stands =
    let low : c.args.floor ≤ c.args.number = omega (arith, c.if-number-floor.false) in
    c.knows.ensures rules sent depth known below near stands
    ∙ sym (ap (λ (b : Bool). b && known c.args.number) (le-leb c.args.floor c.args.number low))
