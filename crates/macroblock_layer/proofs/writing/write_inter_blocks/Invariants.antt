use Rattle.std.proofs.Common.{◌≡◌, ◌+◌, ◌++◌, length}
use Rattle.h263_bits.specs.Written.{written, buffer_of, len_of, room_of}
use Rattle.block_layer.specs.Text.{inter_text}
use Rattle.macroblock_layer.specs.Written.{blocks_text}
use Rattle.macroblock_layer.proofs.Blocks.{left}
use Rattle.macroblock_layer.proofs.writing.write_inter_blocks.Given as goal

-- with the text of the blocks that are left, all is written
abbrev pub invariant-all : goal.invariant-all
invariant-all l = record {
  buffer : buffer_of l.writer ≡ buffer_of l.initial.writer;
  room : room_of l.writer ≡ room_of l.initial.writer;
  text : written l.writer ++ left inter_text l.blocks l.k ≡ written l.initial.writer ++ blocks_text inter_text l.blocks;
  len : len_of l.writer + length (left inter_text l.blocks l.k)
      ≡ len_of l.initial.writer + length (blocks_text inter_text l.blocks);
}
