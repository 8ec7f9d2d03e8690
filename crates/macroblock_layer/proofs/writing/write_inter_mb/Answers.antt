use Rattle.std.proofs.Common.{◌≡◌, ℕ, false, length, ap, ◌∙◌, arith}
use Rattle.h263_types.specs.declared.Kind.TheVariants as kinds
use Rattle.macroblock_layer.specs.Written.{has_levels, cbpy_of, cbpc_of, mb_head_text}
use Rattle.macroblock_layer.proofs.Lengths.{head_short, vector_short, inter_blocks_short, inter_mb_length}
use Rattle.macroblock_layer.proofs.writing.write_inter_mb.Goals as goal

pub write_head-requires-clause-room : goal.write_head-requires-clause-room
write_head-requires-clause-room c =
    let p = c.pattern_by-pattern.result in
    omega (arith, head_short kinds.P c.args.quant c.args.new false p.cbpy p.cbpc)

pub write_vector-requires : goal.write_vector-requires
write_vector-requires c =
    let p = c.pattern_by-pattern.result in
    record {
      room = omega (
        arith,
        head_short kinds.P c.args.quant c.args.new false p.cbpy p.cbpc,
        vector_short c.args.predictor c.args.vector,
        c.write_head.ensures.bits.room,
      );
    }

pub write_inter_blocks-requires-clause-room : goal.write_inter_blocks-requires-clause-room
write_inter_blocks-requires-clause-room c =
    let p = c.pattern_by-pattern.result in
    omega (
      arith,
      head_short kinds.P c.args.quant c.args.new false p.cbpy p.cbpc,
      vector_short c.args.predictor c.args.vector,
      inter_blocks_short c.in_a_syntax.ensures c.args.blocks.now c.requires.whole,
      c.write_head.ensures.bits.room,
      c.write_vector.ensures.bits.room,
    )

pub returns-clause-len : goal.returns-clause-len
returns-clause-len c =
    let p = c.pattern_by-pattern in
    let bs = c.args.blocks.now in
    let same : length (mb_head_text kinds.P c.args.quant c.args.new false p.result.cbpy p.result.cbpc)
    ≡ length (mb_head_text kinds.P c.args.quant c.args.new false (cbpy_of has_levels bs) (cbpc_of has_levels bs)) =
    ap (λ (n : ℕ). length (mb_head_text kinds.P c.args.quant c.args.new false n p.result.cbpc))
    (p.ensures.cbpy bs c.requires.marks)
    ∙ ap (λ (n : ℕ). length (mb_head_text kinds.P c.args.quant c.args.new false (cbpy_of has_levels bs) n))
    (p.ensures.cbpc bs c.requires.marks) in
    omega (arith, same, inter_mb_length c.args.quant c.args.predictor c.args.new c.args.vector bs)
