use Rattle.std.proofs.Common.{◌≡◌, ◌+◌, ◌≤◌, ◌++◌, length, drop}
use Rattle.h263_bits.specs.Written.{written, buffer_of, len_of, room_of}
use Rattle.h263_types.specs.Marks.{marks_of}
use Rattle.block_layer.specs.Text.{levels_text}
use Rattle.block_layer.specs.Waiting.{DoWait, waiting_text}
use Rattle.block_layer.proofs.Steps.{left_text}
use Rattle.block_layer.proofs.writing.write_levels.Given as goal

-- with the text of the levels that are left, all is written
abbrev pub invariant-events : goal.invariant-events
invariant-events l = record {
  buffer : buffer_of l.writer ≡ buffer_of l.initial.writer;
  room : room_of l.writer ≡ room_of l.initial.writer;
  text : (written l.writer ++ waiting_text l.waiting) ++ left_text 0 l.place l.block.levels ≡ written l.initial.writer
      ++ (waiting_text l.fn.before ++ levels_text l.fn.from l.block.levels);
  len : len_of l.writer + l.waiting.count + length (left_text 0 l.place l.block.levels)
      ≡ len_of l.initial.writer + l.fn.before.count + length (levels_text l.fn.from l.block.levels);
  waiting : DoWait l.waiting;
  marked : l.left ≡ marks_of (drop l.place l.block.levels);
  since : l.fn.from ≤ l.place;
  within : l.place ≤ 64;
}

abbrev pub decreases-events : goal.decreases-events
decreases-events l = l.left
