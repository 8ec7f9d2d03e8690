-- What a receiver says, as the network keeps it.
use Rattle.std.proofs.Common.{◌≡◌, ℕ, List, [], ◌∷◌, Option, Some, None, IfSome, refl, ap, subst, ◌∙◌}
use Rattle.std.specs.Option.{option_map_or}
use Rattle.h263_bits.specs.declared.fault.Fault.{Fault}
use Rattle.h263_types.specs.declared.clock.Clock.{Clock}
use Rattle.back_messages.specs.Said.{text_of_said}
use Rattle.back_messages.specs.declared.writing.Said.{Said}
use Rattle.call_model.specs.Coding.{Message}
use Rattle.call_model.specs.JoinedRun.{SaidMessage, said_to}
use Rattle.call_model.specs.Receiving as runs
use Rattle.call_encoding.specs.Messages.{write_message}
use Rattle.coded_call.specs.Bytes.{AreBytes}
use Rattle.receiver_end.specs.Answers.{SaysMessage, IsSaid, said_by}
use Rattle.one_way.specs.Network.{told_by}

-- the bytes that are said of a message are those that are written of it
abbrev pub SaysBytes : Type 0
SaysBytes =
    (clock : Clock) (said : Said) (message : Message) → AreBytes (text_of_said said) → IsSaid clock said message
    → text_of_said said ≡ write_message message

-- what is told of picture n
abbrev pub told_of : ℕ → Option Message → List SaidMessage
told_of n message = option_map_or (λ (m : Message). let told : SaidMessage = record {
  about = n;
  bytes = write_message m;
} in told ∷ []) message []

-- ---- answers

pub heard_told : (n : ℕ) (answer : runs.Heard Fault) → said_to write_message n answer ≡ told_of n (said_by answer)
heard_told n (runs.Refused fault) = refl
heard_told n runs.OtherClock = refl
heard_told n runs.Late = refl
heard_told n runs.Early = refl
heard_told n runs.HeaderDiffers = refl
heard_told n runs.MissingReference = refl
heard_told n runs.Repeat = refl
heard_told n runs.Overlap = refl
heard_told n (runs.Completed message) = refl
heard_told n runs.Taken = refl

-- ---- what is told

-- what is told by a message that was said is what is told of its meaning
pub told_is : SaysBytes → (clock : Clock) (n : ℕ) (o : Option Said) (message : Option Message)
    → SaysMessage clock o message → IfSome o (λ said. AreBytes (text_of_said said)) → told_by n o ≡ told_of n message
told_is law clock n o None none fit = ap (told_by n) none
told_is law clock n o (Some message) m fit =
    let bytes : AreBytes (text_of_said m.0) =
    subst (λ (o : Option Said). IfSome o (λ said. AreBytes (text_of_said said))) m.1 fit
    in
    ap (told_by n) m.1 ∙ ap (λ (bytes : List ℕ). let told : SaidMessage = record { about = n; bytes = bytes } in
    told ∷ []) (law clock m.0 message bytes m.2)
