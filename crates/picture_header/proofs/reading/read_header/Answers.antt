-- The fields of a header in the standard's order, or the first fault among them.
use Rattle.std.proofs.Common.{◌≡◌, ◌++◌, Bool, List, Result, Ok, rules}
use Rattle.std.specs.Prelude.{IsOkAnd}
use Rattle.h263_bits.specs.declared.fault.Fault.{Fault}
use Rattle.h263_bits.specs.Reading.{Bits, Gives}
use Rattle.h263_bits.specs.Syntax.{reading}
use Rattle.h263_bits.proofs.SyntaxLaws.{reads_texts, texts_read}
use Rattle.h263_types.specs.declared.format.Format.{Format}
use Rattle.back_messages.specs.Laws.{MessageLaws}
use Rattle.picture_header.specs.declared.header.Header.{Header}
use Rattle.picture_header.specs.Text.{header, IsHeaderText}
use Rattle.picture_header.proofs.Loops.{header_productive}
use Rattle.picture_header.proofs.reading.read_header.Goals as goal

-- what the clause `only` says of each return
only : MessageLaws → (format : Format) (r : Result Header Fault) (old new : Bits)
    → Gives (λ (h : Header). h) r new (reading (header format) old)
    → (h : Header) (text rest : List Bool) → IsHeaderText format h text → old.bits ≡ text ++ rest
    → IsOkAnd r (λ found. (found ≡ h) × (new.bits ≡ rest))
only laws format r old new e = texts_read (λ (h : Header). h) (header format) r old new (header_productive laws format)
    e

pub returns-clause-exact : goal.returns-clause-exact
unfolding header reading
returns-clause-exact c = search rules

pub returns-clause-found : goal.returns-clause-found
returns-clause-found c = reads_texts (λ (h : Header). h) (header c.args.format) (Ok _) c.args.reader.now
    c.read_extra.new.reader (returns-clause-exact c)

pub returns-clause-only : goal.returns-clause-only
returns-clause-only c = only c.in_a_syntax.ensures c.args.format (Ok _) c.args.reader.now c.read_extra.new.reader
    (returns-clause-exact c)

pub returns-in_err-low-clause-only : goal.returns-in_err-low-clause-only
unfolding header reading
returns-in_err-low-clause-only c = only c.in_a_syntax.ensures c.args.format c.from_residual.result c.args.reader.now
    c.read_opening.new.reader (search rules)

pub returns-in_err-clock-clause-only : goal.returns-in_err-clock-clause-only
unfolding header reading
returns-in_err-clock-clause-only c = only c.in_a_syntax.ensures c.args.format c.from_residual-in_err-clock.result
    c.args.reader.now c.read_plus_type.new.reader (search rules)

pub returns-in_err-read_multipoint-clause-only : goal.returns-in_err-read_multipoint-clause-only
unfolding header reading
returns-in_err-read_multipoint-clause-only c =
    only c.in_a_syntax.ensures c.args.format c.from_residual-in_err-read_multipoint.result c.args.reader.now
    c.read_multipoint.new.reader (search rules)

pub returns-in_err-tr-clause-only : goal.returns-in_err-tr-clause-only
unfolding header reading
returns-in_err-tr-clause-only c = only c.in_a_syntax.ensures c.args.format c.from_residual-in_err-tr.result
    c.args.reader.now c.read_extended.new.reader (search rules)

pub returns-in_err-channel-clause-only : goal.returns-in_err-channel-clause-only
unfolding header reading
returns-in_err-channel-clause-only c = only c.in_a_syntax.ensures c.args.format c.from_residual-in_err-channel.result
    c.args.reader.now c.read_channel.new.reader (search rules)

pub returns-in_err-trp-clause-only : goal.returns-in_err-trp-clause-only
unfolding header reading
returns-in_err-trp-clause-only c = only c.in_a_syntax.ensures c.args.format c.from_residual-in_err-trp.result
    c.args.reader.now c.read_reference.new.reader (search rules)

pub returns-in_err-back-clause-only : goal.returns-in_err-back-clause-only
unfolding header reading
returns-in_err-back-clause-only c = only c.in_a_syntax.ensures c.args.format c.from_residual-in_err-back.result
    c.args.reader.now c.read_back.new.reader (search rules)

pub returns-in_err-quant-clause-only : goal.returns-in_err-quant-clause-only
unfolding header reading
returns-in_err-quant-clause-only c = only c.in_a_syntax.ensures c.args.format c.from_residual-in_err-quant.result
    c.args.reader.now c.read_quant.new.reader (search rules)

pub returns-in_err-read_extra-clause-only : goal.returns-in_err-read_extra-clause-only
unfolding header reading
returns-in_err-read_extra-clause-only c =
    only c.in_a_syntax.ensures c.args.format c.from_residual-in_err-read_extra.result c.args.reader.now
    c.read_extra.new.reader (search rules)
