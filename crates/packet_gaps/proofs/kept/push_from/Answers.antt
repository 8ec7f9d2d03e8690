use Rattle.std.proofs.Common.{◌∷◌, [], ◌++◌, ◌+◌, List, ap, arith, ◌∙◌}
use Rattle.packet_gaps.specs.declared.gap.Gap.{Gap}
use Rattle.packet_gaps.specs.Missing.{gap_of}
use Rattle.packet_gaps.proofs.Lists.{pushed}
use Rattle.packet_gaps.proofs.kept.push_from.Goals as goal

pub loop-more-preserved : goal.loop-more-preserved
loop-more-preserved c =
    let g = gap_of c.args.picture in
    let more = c.loop-more.more in
    let few = c.push.ensures.len in
    let so_far = c.loop-more.invariant.1 in (
      c.push.ensures.items
          ∙ ap (λ (l : List Gap). l ++ g (c.args.first + more) ∷ []) c.loop-more.invariant.0
          ∙ pushed g c.args.kept.now.items c.args.first more,
      omega (arith, few, so_far),
    )
