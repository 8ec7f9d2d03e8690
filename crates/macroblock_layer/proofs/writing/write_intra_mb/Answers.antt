use Rattle.std.proofs.Common.{true, arith}
use Rattle.macroblock_layer.proofs.Lengths.{head_short, intra_blocks_short}
use Rattle.macroblock_layer.proofs.writing.write_intra_mb.Goals as goal

pub write_head-requires-clause-room : goal.write_head-requires-clause-room
write_head-requires-clause-room c =
    let p = c.pattern_by-pattern.result in
    omega (arith, head_short c.args.kind c.args.quant c.args.new true p.cbpy p.cbpc)

pub write_intra_blocks-requires-clause-room : goal.write_intra_blocks-requires-clause-room
write_intra_blocks-requires-clause-room c =
    let p = c.pattern_by-pattern.result in
    omega (
      arith,
      head_short c.args.kind c.args.quant c.args.new true p.cbpy p.cbpc,
      intra_blocks_short c.in_a_syntax.ensures c.args.blocks.now c.requires.whole,
      c.write_head.ensures.bits.room,
    )
