-- Feedback is counted by what the sender answers, and changes what is known alone.
use Rattle.std.proofs.Common.{◌≡◌, ℕ, ◌+◌, List, length, take, refl, ap, ◌∙◌, subst, arith}
use Rattle.std.proofs.lemmas.List.{length-take-le}
use Rattle.h263_types.specs.declared.params.Params.{Params}
use Rattle.call_model.specs.Sending.{feedback_answer}
use Rattle.call_decoding.specs.Rules.{rules_of}
use Rattle.call_encoding.specs.Messages.{read_message}
use Rattle.rate_control.specs.declared.send_pace.SendPace.{SendPace}
use Rattle.sender_end.specs.Stands.{Holds, after_message, reply_of}
use Rattle.sender_end.specs.State.{SenderState}
use Rattle.send_command.specs.declared.machine.Send.{Send}
use Rattle.send_command.proofs.Counting.{one_reply_more}
use Rattle.send_command.proofs.Keeping.{keeps_feedback}
use Rattle.send_command.proofs.machine.Send.take_feedback.Goals as goal

pub returns-clause-tally : goal.returns-clause-tally
returns-clause-tally c =
    let m = c.args.self.now in
    one_reply_more m.log.entries (reply_of c.feedback-answer.result) m.tally c.feedback.new.self c.requires.some
    c.requires.tally c.feedback.ensures

pub returns-clause-stands : goal.returns-clause-stands
returns-clause-stands c s inputs short stood =
    let m = c.args.self.now in
    let p = m.sender.params in
    let len = c.args.len in
    let bytes = take len m.bytes.items in
    let heard = c.feedback-answer in
    let new : Send = record {
      video = m.video;
      log = m.log;
      sender = heard.new.self;
      aim = m.aim;
      tally = c.feedback.new.self;
      frame = m.frame;
      bytes = m.bytes;
    } in
    let count : c.min-len.result ≡ len = omega (
      arith,
      c.min-len.ensures,
      c.len.ensures,
      m.bytes.ok.0,
      c.requires.bytes,
      short,
    ) in
    let bytes_are : take c.min-len.result c.deref.result.now
    ≡ bytes = (λ i. take (count i) (c.deref.ensures.value i)) in
    let long : length bytes ≡ len = length-take-le len m.bytes.items (omega (arith, short, c.requires.bytes)) in
    let after : Holds heard.new.self (after_message p bytes s.sent.run) =
    subst (λ (l : List ℕ). Holds heard.new.self (after_message p l s.sent.run)) bytes_are
    (heard.ensures.holds s.sent.run stood.sender)
    in
    let answer : reply_of heard.result ≡ feedback_answer (rules_of p) (length s.sent.run.run.coded)
    (read_message p.clock bytes) =
    heard.ensures.replies s.sent.run stood.sender
    ∙ (λ i. feedback_answer (rules_of p) (length s.sent.run.run.coded) (read_message p.clock (bytes_are i)))
    in
    keeps_feedback m s len bytes stood new (reply_of heard.result) inputs long after answer
    (ap (λ (x : SenderState SendPace). x.params) heard.ensures.others)
    refl refl c.feedback.ensures refl

pub returns-clause-fit : goal.returns-clause-fit
returns-clause-fit c attached fit =
    let m = c.args.self.now in
    let heard = c.feedback-answer in
    let params = ap (λ (x : SenderState SendPace). x.params) heard.ensures.others in
    let sent = ap (λ (x : SenderState SendPace). x.sent) heard.ensures.others in
    record {
      video = fit.video;
      events = fit.events;
      wire = fit.wire;
      report = fit.report;
      format = ap (λ (q : Params). q.format) params ∙ fit.format;
      aim = fit.aim;
      frame = fit.frame;
      bytes = fit.bytes;
      side = fit.side;
      count = ap (λ (k : ℕ). m.video.more + k) sent ∙ fit.count;
    }
