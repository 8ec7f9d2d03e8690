-- What the numbers of an answer say of a change.
use Rattle.std.proofs.Common.{arith, ◌≡◌, ◌≤◌, false, refl}
use Rattle.call_model.specs.SenderStanding.{is_noted}
use Rattle.receiver_end.specs.declared.answers.Heard.{Heard}
use Rattle.receiver_end.specs.declared.answers.Heard.TheVariants.{Taken, Completed, Late, Early, Repeat, Refused}
use Rattle.receiver_end.specs.Answers.{takes}
use Rattle.sender_end.specs.declared.answers.Feedback.{Feedback}
use Rattle.sender_end.specs.declared.answers.Feedback.TheVariants as feedbacks
use Rattle.sender_end.specs.Stands as senders
use Rattle.h263rps_c.specs.Numbers.{heard_answer, reply_numbers}

pub untaken : (heard : Heard) → 2 ≤ (heard_answer heard).kind → takes heard ≡ false
untaken Taken two = absurd (omega (arith, two))
untaken (Completed said) two = absurd (omega (arith, two))
untaken Late two = refl
untaken Early two = refl
untaken Repeat two = refl
untaken (Refused fault) two = refl

pub unnoted : (answer : Feedback) → 1 ≤ (reply_numbers answer).kind → is_noted (senders.reply_of answer) ≡ false
unnoted feedbacks.Noted one = absurd (omega (arith, one))
unnoted feedbacks.Old one = refl
unnoted (feedbacks.Refused fault) one = refl
