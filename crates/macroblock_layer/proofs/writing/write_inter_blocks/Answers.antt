use Rattle.std.proofs.Common.{◌≡◌, ◌<◌, length, ap, ◌∙◌, arith}
use Rattle.h263_bits.specs.Written.{written}
use Rattle.block_layer.specs.Text.{inter_text}
use Rattle.macroblock_layer.proofs.Blocks.{left, next_length, goes, none_left_text, ended}
use Rattle.macroblock_layer.proofs.writing.write_inter_blocks.Goals as goal

pub write_inter_marked-requires-clause-room : goal.write_inter_marked-requires-clause-room
write_inter_marked-requires-clause-room c =
    let long = next_length inter_text c.args.blocks.now c.all.k (omega arith) in
    omega (arith, long)

pub write_inter_marked-requires-clause-marks : goal.write_inter_marked-requires-clause-marks
write_inter_marked-requires-clause-marks c = c.requires.marks c.all.k (omega arith)

pub all-preserved : goal.all-preserved
all-preserved c =
    let inside : c.all.k < length c.args.blocks.now = omega arith in
    let long = next_length inter_text c.args.blocks.now c.all.k inside in
    record {
      buffer = c.write_inter_marked.ensures.bits.buffer ∙ c.all.invariant.buffer;
      room = c.write_inter_marked.ensures.bits.room ∙ c.all.invariant.room;
      text = goes inter_text c.args.blocks.now c.all.k (written c.all.writer) (written c.write_inter_marked.new.writer)
          _ inside c.write_inter_marked.ensures.bits.text c.all.invariant.text;
      len = omega (arith, long);
    }

pub returns-clause-bits : goal.returns-clause-bits
returns-clause-bits c = record {
  buffer = c.all.invariant.buffer;
  room = c.all.invariant.room;
  text = ended inter_text c.args.blocks.now c.all.k (written c.all.writer) _ (omega arith) c.all.invariant.text;
}

pub returns-clause-len : goal.returns-clause-len
returns-clause-len c =
    let nothing : length (left inter_text c.args.blocks.now c.all.k)
    ≡ 0 = ap length (none_left_text inter_text c.args.blocks.now c.all.k (omega arith)) in
    omega (arith, nothing)
