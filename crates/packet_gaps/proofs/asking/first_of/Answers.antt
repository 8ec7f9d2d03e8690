use Rattle.std.proofs.Common.{◌<◌, length, take, get_or, ap, sym, arith, ◌∙◌}
use Rattle.std.specs.Prelude.{find}
use Rattle.std.proofs.lemmas.List.{take_more}
use Rattle.packet_gaps.specs.declared.gap.Gap.{Gap}
use Rattle.packet_gaps.specs.Asking.{may_ask}
use Rattle.packet_gaps.proofs.Lists.{find_at, find_more}
use Rattle.packet_gaps.proofs.asking.first_of.Goals as goal

pub returns-then-may_ask : goal.returns-then-may_ask
returns-then-may_ask c =
    let p = may_ask c.args.moment.now c.args.newest in
    let i = c.loop-gap.gap-index in
    let more : i < length c.args.gaps.now = omega arith in
    sym (find_at p c.args.gaps.now i (record { number = 0; picture = 0; asked = 0; last = 0 }) more c.loop-gap.invariant
    (sym c.may_ask.ensures ∙ c.if-may_ask.true))

pub loop-gap-preserved : goal.loop-gap-preserved
loop-gap-preserved c =
    let p = may_ask c.args.moment.now c.args.newest in
    let i = c.loop-gap.gap-index in
    let xs = c.args.gaps.now in
    let d : Gap = record { number = 0; picture = 0; asked = 0; last = 0 } in
    let more : i < length xs = omega arith in
    ap (find p) (take_more xs i d more)
    ∙ find_more p (take i xs) (get_or xs i d) c.loop-gap.invariant (sym c.may_ask.ensures ∙ c.if-may_ask.false)
