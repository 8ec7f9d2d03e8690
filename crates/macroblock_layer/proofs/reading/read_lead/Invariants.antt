use Rattle.std.proofs.Common.{◌≡◌, length}
use Rattle.h263_bits.specs.Syntax.{reading}
use Rattle.macroblock_layer.specs.Text.{lead}
use Rattle.macroblock_layer.proofs.reading.read_lead.Given as goal

-- reading on from here gives what reading from the start gives
abbrev pub invariant-turns : goal.invariant-turns
invariant-turns l = reading (lead l.kind) l.reader ≡ reading (lead l.kind) l.initial.reader

abbrev pub decreases-turns : goal.decreases-turns
decreases-turns l = length l.reader.bits
