use Rattle.std.proofs.Common.{◌∙◌, Bool, List, length, ap, subst, arith}
use Rattle.h263_bits.specs.Written.{Appends}
use Rattle.block_layer.specs.Step.{level_in_list}
use Rattle.block_layer.proofs.Steps.{intra_length, intra_is, coded_is}
use Rattle.block_layer.proofs.Spelt.{size_is, intra_written}
use Rattle.block_layer.proofs.writing.write_intra_marked.Goals as goal

pub write_levels-requires-clause-levels : goal.write_levels-requires-clause-levels
write_levels-requires-clause-levels c = record {
  sizes = λ k after inside. size_is (level_in_list c.args.block.now.levels k)
      (c.requires.block.levels k after inside);
}

pub write_levels-requires-clause-room : goal.write_levels-requires-clause-room
write_levels-requires-clause-room c =
    let levels = c.args.block.now.levels in
    omega (arith, intra_length levels, ap length (coded_is levels))

pub returns-clause-bits : goal.returns-clause-bits
returns-clause-bits c =
    let levels = c.args.block.now.levels in
    subst (λ (t : List Bool). Appends c.args.writer.now c.write_levels.new.writer t)
    (intra_is levels c.from.result (c.from.ensures ∙ c.dc_bits.ensures.code)) c.write_levels.ensures.bits

pub returns-clause-len : goal.returns-clause-len
returns-clause-len c =
    let levels = c.args.block.now.levels in
    omega (arith, intra_length levels, ap length (coded_is levels), c.write_levels.ensures.len)

pub returns-clause-spells : goal.returns-clause-spells
returns-clause-spells c = intra_written c.in_a_syntax.ensures c.args.block.now c.requires.whole c.requires.block
