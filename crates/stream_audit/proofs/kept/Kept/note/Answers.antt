use Rattle.std.proofs.Common.{ℕ, sym, ap}
use Rattle.call_model.specs.CodedPictures.{is_among}
use Rattle.call_decoding.specs.Rules.{rules_of}
use Rattle.call_encoding.specs.Messages.{as_read, read_message}
use Rattle.reference_selector.specs.Messages.{message_of}
use Rattle.stream_audit.specs.Stream.{known_of}
use Rattle.stream_audit.proofs.Keeping.{noted}
use Rattle.stream_audit.proofs.kept.Kept.note.Goals as goal

pub returns-in-Ok-clause-keeps : goal.returns-in-Ok-clause-keeps
returns-in-Ok-clause-keeps c = λ items keeps.
    let k = c.args.self.now in
    noted k c.note.new.self items c.args.bytes.now (message_of c.in-Ok.message) keeps
    (c.note.ensures.known (rules_of k.params) (λ (m : ℕ). 0)
    (is_among (known_of (read_message k.params.clock) (rules_of k.params) items)) keeps.known)
    (ap as_read (sym c.in-Ok.ensures.value))
