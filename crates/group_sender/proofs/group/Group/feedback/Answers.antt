-- A message changes what is known of its receiver alone.
use Rattle.std.proofs.Common.{◌≡◌, ℕ, ◌∙◌, Bool, false, Option, Some, None, Result, Ok, Err, ap, length, refl, sym}
use Rattle.std.specs.Prelude.{if◌then◌else◌, is_some}
use Rattle.std.specs.Option.{option_map}
use Rattle.back_messages.specs.declared.message.MessageFault.{MessageFault}
use Rattle.reference_selector.specs.Messages.{message_of}
use Rattle.call_model.specs.Coding as call
use Rattle.call_model.specs.Sending.{Reply, Noted, Old, feedback_answer, made_known}
use Rattle.call_decoding.specs.Rules.{rules_of}
use Rattle.call_encoding.specs.Messages.{as_read, read_message}
use Rattle.sender_end.specs.declared.answers.Feedback.{Feedback}
use Rattle.sender_end.specs.Stands.{reply_of}
use Rattle.group_sender.specs.Parties.{party_at}
use Rattle.group_sender.specs.Holding.{pictures_alone}
use Rattle.group_sender.proofs.Grouping.{noted_reply, refused_reply, stand_as, was_absent, was_there}
use Rattle.group_sender.proofs.group.Group.feedback.Goals as goal

-- the answer to what was read, where a receiver is there
abbrev pub answer_of : call.Rules → ℕ → Bool → Result call.Message MessageFault → Option (Reply MessageFault)
answer_of rules n b read = if b then Some (feedback_answer rules n read) else None

pub returns-in-Err-clause-answer : goal.returns-in-Err-clause-answer
returns-in-Err-clause-answer g c = λ run held.
    let p = c.args.self.now.params in
    let rules = rules_of p in
    let n = length run.coded in
    let b = (party_at run.parties c.args.receiver).present in
    let read : read_message p.clock c.args.bytes.now ≡ Err c.in-Err.fault = ap as_read (sym c.read.ensures.value
    ∙ c.in-Err.is) in
    let before = stand_as rules c.args.self.now.members.items c.as_slice.result.now n n run.parties
    (sym c.as_slice.ensures.value) refl held.members in
    ap (λ (o : Option Feedback). option_map reply_of o) (c.refused.ensures.value rules n run.parties before)
    ∙ refused_reply b c.in-Err.fault
    ∙ sym (ap (answer_of rules n b) read)

pub returns-in_err-answer-in-Ok-clause-answer : goal.returns-in_err-answer-in-Ok-clause-answer
returns-in_err-answer-in-Ok-clause-answer g c = λ run held.
    let p = c.args.self.now.params in
    let rules = rules_of p in
    let n = length run.coded in
    let sent = c.sent-sent.result in
    let b = (party_at run.parties c.args.receiver).present in
    let sent_is : sent ≡ n = c.sent-sent.ensures.holds (pictures_alone run) held.sender in
    let before = stand_as rules c.args.self.now.members.items c.as_mut_slice.result.now n sent run.parties
    (sym c.as_mut_slice.ensures.value) (sym sent_is) held.members in
    let absent : b ≡ false = was_absent b (is_some (made_known rules sent (message_of c.in-Ok.message)))
    (c.in_err-answer-in-Ok.ensures.answer rules run.parties before) in
    ap (λ (o : Option Feedback). option_map reply_of o) c.from_residual.ensures
    ∙ sym (ap (λ (t : Bool). answer_of rules n t (read_message p.clock c.args.bytes.now)) absent)

pub returns-in_ok-answer-in-Ok-clause-answer : goal.returns-in_ok-answer-in-Ok-clause-answer
returns-in_ok-answer-in-Ok-clause-answer g c = λ run held.
    let p = c.args.self.now.params in
    let rules = rules_of p in
    let n = length run.coded in
    let sent = c.sent-sent.result in
    let b = (party_at run.parties c.args.receiver).present in
    let answer = c.in_ok-answer-in-Ok.answer in
    let message = message_of c.in-Ok.message in
    let sent_is : sent ≡ n = c.sent-sent.ensures.holds (pictures_alone run) held.sender in
    let read : read_message p.clock c.args.bytes.now ≡ Ok message = ap as_read (sym c.read.ensures.value
    ∙ c.in-Ok.is) in
    let before = stand_as rules c.args.self.now.members.items c.as_mut_slice.result.now n sent run.parties
    (sym c.as_mut_slice.ensures.value) (sym sent_is) held.members in
    let there = was_there b (is_some (made_known rules sent message)) answer
    (c.in_ok-answer-in-Ok.ensures.answer rules run.parties before) in
    ap (λ (f : Feedback). let o : Option (Reply MessageFault) = Some (reply_of f) in o) c.noted.ensures
    ∙ ap (λ (r : Reply MessageFault). let o : Option (Reply MessageFault) = Some r in o) (noted_reply answer)
    ∙ ap (λ (t : Bool). let o : Option (Reply MessageFault) = Some (if t then Noted else Old) in o) (there.1
    ∙ ap (λ (k : ℕ). is_some (made_known rules k message)) sent_is)
    ∙ ap (λ (r : Result call.Message MessageFault). let o : Option (Reply MessageFault) =
    Some (feedback_answer rules n r) in o) (sym read)
    ∙ sym (ap (λ (t : Bool). answer_of rules n t (read_message p.clock c.args.bytes.now)) there.0)
