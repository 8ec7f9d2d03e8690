use Rattle.std.proofs.Common.{Option, sym, ◌∙◌, subst}
use Rattle.h263_types.specs.declared.params.Params.{Params}
use Rattle.back_messages.specs.declared.writing.Said.{Said}
use Rattle.receiver_end.specs.Answers.{SaysMessage, said_by}
use Rattle.receiver_end.specs.State.{answer_after}
use Rattle.recv_command.specs.Tally.{with_answer}
use Rattle.recv_command.proofs.Saying.{heard_count}
use Rattle.recv_command.proofs.recv.Receiving.deliver.Goals as goal

pub returns-clause-stands : goal.returns-clause-stands
returns-clause-stands c = λ s stands.
    let r = c.args.self.now.receiver in
    let bytes = c.args.bytes.now in
    let answer = answer_after r.params s.past bytes in
    record {
      params = stands.params ∙ sym c.packet-heard.ensures.params;
      tally = (λ i. with_answer (answer_after (stands.params i) s.past bytes) (stands.tally i))
          ∙ sym (c.count.ensures.counts ∙ heard_count r.params.clock c.packet-heard.result answer c.args.self.now.tally
          (c.packet-heard.ensures.answer s.past stands.run));
      run = c.packet-heard.ensures.stands s.past stands.run;
    }

pub returns-clause-says : goal.returns-clause-says
returns-clause-says c = λ s stands.
    let r = c.args.self.now.receiver in
    let answer = answer_after r.params s.past c.args.bytes.now in
    let says : SaysMessage r.params.clock c.message.result (said_by answer) =
    subst (λ (o : Option Said). SaysMessage r.params.clock o (said_by answer)) (sym c.message.ensures)
    (c.answers_say.ensures r.params.clock c.packet-heard.result answer
    (c.packet-heard.ensures.answer s.past stands.run))
    in
    subst (λ (p : Params). SaysMessage p.clock c.message.result (said_by (answer_after p s.past c.args.bytes.now)))
    (sym stands.params) says
