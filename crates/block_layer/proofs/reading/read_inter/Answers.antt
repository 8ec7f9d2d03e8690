use Rattle.std.specs.Prelude.{List, ℤ}
use Rattle.h263_bits.proofs.SyntaxLaws.{reads_texts, texts_read, reads_within}
use Rattle.h263_types.specs.Blocks.{IsInterBlock}
use Rattle.block_layer.specs.Text.{events, inter_block}
use Rattle.block_layer.proofs.Productive.{inter_productive}
use Rattle.block_layer.proofs.Ranges.{inter_within}
use Rattle.block_layer.proofs.reading.read_inter.Goals as goal

pub returns-clause-found : goal.returns-clause-found
unfolding inter_block events
returns-clause-found c = reads_texts (λ u. c.read_events.new.levels) inter_block c.read_events.result c.args.reader.now
    c.read_events.new.reader c.read_events.ensures

pub returns-clause-only : goal.returns-clause-only
unfolding inter_block events
returns-clause-only c = λ levels text rest spelt parts. texts_read (λ u. c.read_events.new.levels) inter_block
    c.read_events.result c.args.reader.now c.read_events.new.reader (inter_productive c.in_a_syntax.ensures)
    c.read_events.ensures levels text rest spelt parts

pub returns-clause-range : goal.returns-clause-range
unfolding inter_block events
returns-clause-range c = reads_within (λ u. c.read_events.new.levels) inter_block c.read_events.result c.args.reader.now
    c.read_events.new.reader (λ (levels : List ℤ). IsInterBlock (record { levels = levels })) c.read_events.ensures
    inter_within
