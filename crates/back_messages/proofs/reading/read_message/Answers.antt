use Rattle.std.proofs.Common.{◌≡◌, rules}
use Rattle.std.specs.Prelude.{Ok}
use Rattle.h263_bits.specs.Reading.{Bits}
use Rattle.h263_bits.specs.Syntax.{reading}
use Rattle.h263_bits.proofs.SyntaxLaws.{sound}
use Rattle.h263_types.specs.declared.clock.Clock.{Clock}
use Rattle.back_messages.specs.declared.message.Message.{Message}
use Rattle.back_messages.specs.Text.{IsMessage, message}
use Rattle.back_messages.proofs.Texts.{spelled_field}
use Rattle.back_messages.proofs.reading.read_message.Goals as goal

-- a message that was read
in_range : (clock : Clock) (m : Message) (old new : Bits) → reading (message clock) old ≡ Ok (m, new)
    → IsMessage clock m
in_range clock m old new e = let s = sound (message clock) old new m e in (spelled_field clock m s.0 s.2).0

pub returns-then-bits-eq0-clause-reads : goal.returns-then-bits-eq0-clause-reads
unfolding message reading
returns-then-bits-eq0-clause-reads c = search rules

pub returns-then-bits-eq0-clause-range : goal.returns-then-bits-eq0-clause-range
returns-then-bits-eq0-clause-range c = in_range c.args.clock c.value_in.result c.args.reader.now c.read_first.new.reader
    (returns-then-bits-eq0-clause-reads c)

pub returns-clause-reads : goal.returns-clause-reads
unfolding message reading
returns-clause-reads c = search rules

pub returns-clause-range : goal.returns-clause-range
returns-clause-range c = in_range c.args.clock c.value_in-2.result c.args.reader.now c.read_flags.new.reader
    (returns-clause-reads c)
