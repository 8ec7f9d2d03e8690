-- What a receiver answers and says, against its run.
use Rattle.std.proofs.Common.{◌≡◌, ℕ, List, Option, Some, None, ap, subst}
use Rattle.h263_bits.specs.declared.fault.Fault.{Fault}
use Rattle.h263_outside.specs.declared.desk.Role.TheVariants.{Wire}
use Rattle.h263_types.specs.declared.clock.Clock.{Clock}
use Rattle.back_messages.specs.Said.{text_of_said}
use Rattle.back_messages.specs.declared.writing.Said.{Said}
use Rattle.event_logs.specs.Text.{entry_text}
use Rattle.desk_program.specs.Texts.{on}
use Rattle.call_model.specs.Coding.{Message}
use Rattle.call_model.specs.Receiving as runs
use Rattle.call_encoding.specs.Messages.{write_message}
use Rattle.receiver_end.specs.Answers.{IsHeard, SaysMessage, IsSaid}
use Rattle.receiver_end.specs.declared.answers.Heard.{Heard}
use Rattle.coded_call.specs.Bytes.{AreBytes}
use Rattle.recv_command.specs.declared.tally.Tally.{Tally}
use Rattle.recv_command.specs.Said.{said_message_text}
use Rattle.recv_command.specs.Tally.{with_answer, with_heard}

-- ---- answers

pub heard_count : (clock : Clock) (h : Heard) (answer : runs.Heard Fault) (t : Tally) → IsHeard clock h answer
    → with_heard h t ≡ with_answer answer t
heard_count clock h (runs.Refused fault) t is = ap (λ (x : Heard). with_heard x t) is
heard_count clock h runs.OtherClock t is = ap (λ (x : Heard). with_heard x t) is
heard_count clock h runs.Late t is = ap (λ (x : Heard). with_heard x t) is
heard_count clock h runs.Early t is = ap (λ (x : Heard). with_heard x t) is
heard_count clock h runs.HeaderDiffers t is = ap (λ (x : Heard). with_heard x t) is
heard_count clock h runs.MissingReference t is = ap (λ (x : Heard). with_heard x t) is
heard_count clock h runs.Repeat t is = ap (λ (x : Heard). with_heard x t) is
heard_count clock h runs.Overlap t is = ap (λ (x : Heard). with_heard x t) is
heard_count clock h (runs.Completed message) t is = ap (λ (x : Heard). with_heard x t) is.1
heard_count clock h runs.Taken t is = ap (λ (x : Heard). with_heard x t) is

-- ---- messages

-- the bytes that are said of a message are those that are written of it
abbrev pub SaysBytes : Type 0
SaysBytes =
    (clock : Clock) (said : Said) (message : Message) → AreBytes (text_of_said said) → IsSaid clock said message
    → text_of_said said ≡ write_message message

some_is : (a b : Said) (o : Option Said) → o ≡ Some a → o ≡ Some b → a ≡ b
some_is a b o p q = cc (p, q)

pub said_text : SaysBytes → (clock : Clock) (o : Option Said) (said : Said) (message : Option Message) → o ≡ Some said
    → AreBytes (text_of_said said)
    → SaysMessage clock o message → on Wire (entry_text 66 (text_of_said said)) ≡ said_message_text message
said_text law clock o said None is fit none = absurd (cc (none, is))
said_text law clock o said (Some message) is fit m =
    let same : m.0 ≡ said = some_is m.0 said o m.1 is in
    ap (λ (bytes : List ℕ). on Wire (entry_text 66 bytes))
    (law clock said message fit (subst (λ (x : Said). IsSaid clock x message) same m.2))
