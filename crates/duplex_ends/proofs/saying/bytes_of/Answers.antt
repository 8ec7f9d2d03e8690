use Rattle.std.proofs.Common.{ap, refl, subst, ◌∙◌}
use Rattle.back_messages.specs.Said.{text_of_said}
use Rattle.reference_selector.specs.Messages.{message_of}
use Rattle.call_encoding.specs.Messages.{written_message}
use Rattle.coded_call.specs.Bytes.{AreBytes}
use Rattle.receiver_end.specs.Answers.{IsSaid}
use Rattle.duplex_ends.proofs.saying.bytes_of.Goals as goal

pub returns : goal.returns
returns c =
    let m = c.args.message.now in
    let again : IsSaid c.args.clock c.write-said.result (message_of m) = record {
      written = m;
      read = c.write-said.ensures.again c.args.clock c.requires;
      means = refl;
      filled = c.write-said.ensures.filled;
    } in
    let bytes : AreBytes (text_of_said c.write-said.result) = subst AreBytes c.text.ensures c.are_bytes.ensures in
    c.said_bytes.ensures.written c.args.clock c.write-said.result (message_of m) bytes again
    ∙ ap written_message (c.said_bytes.ensures.marked_again c.args.clock m c.requires)
