use Rattle.std.proofs.Common.{◌++◌, ◌-◌, ◌+◌, List, ap, map, filter, not, eqb, sym, cond, Bool, ◌∙◌}
use Rattle.std.proofs.lemmas.Bool.{lt-ltb}
use Rattle.packet_gaps.specs.declared.gap.Gap.{Gap}
use Rattle.packet_gaps.specs.Missing.{gap_of, last_gaps, numbers_from}
use Rattle.packet_gaps.proofs.Lists.{filled}
use Rattle.packet_gaps.proofs.kept.filled.Goals as goal

pub returns : goal.returns
returns c =
    let g = gap_of c.args.picture in
    let number = c.args.number in
    let count = c.min-count.result in
    c.push_from.ensures
    ∙ ap (λ (l : List Gap). l ++ map g (numbers_from (number - count) count)) c.last_of-kept.ensures.items
    ∙ filled g c.args.gaps.now c.args.newest number count c.requires c.min-count.ensures
    ∙ sym (ap (λ (b : Bool). cond b (last_gaps 64 (c.args.gaps.now
    ++ map g (numbers_from (c.args.newest + 1) (number - c.args.newest - 1))))
    (filter (λ (x : Gap). not (eqb x.number number)) c.args.gaps.now)) (lt-ltb c.args.newest number c.requires))
