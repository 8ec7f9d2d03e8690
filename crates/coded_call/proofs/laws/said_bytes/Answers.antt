use Rattle.std.proofs.Common.{ap, ◌∙◌, sym}
use Rattle.back_messages.specs.declared.message.Message.{Message}
use Rattle.call_encoding.specs.Messages.{marked_message, written_message}
use Rattle.coded_call.proofs.Said.{bytes_of_text, marked_again}
use Rattle.coded_call.proofs.laws.said_bytes.Goals as goal

pub returns-clause-written : goal.returns-clause-written
returns-clause-written c clock said message fit is =
    let read = c.exact_text.ensures.read clock is.written _ is.read in
    bytes_of_text c.in_a_syntax.ensures is.written _ fit read.1
    ∙ ap (λ (m : Message). written_message m) (sym (marked_again clock is.written read.0) ∙ ap marked_message is.means)

pub returns-clause-marked_again : goal.returns-clause-marked_again
returns-clause-marked_again c clock m fits = marked_again clock m fits
