use Rattle.std.proofs.Common.{Bool, [], ap, ◌∙◌, arith}
use Rattle.h263_outside.specs.declared.desk.Role.{Role}
use Rattle.h263_outside.specs.declared.desk.Role.TheVariants.{Pictures, Report, Wire}
use Rattle.recv_command.proofs.join.JoiningLogCommand.other.Goals as goal

pub returns-clause-stands : goal.returns-clause-stands
returns-clause-stands g c = λ s stands. record {
  format = stands.format;
  took = stands.took;
  joiner = stands.joiner;
  receiver = c.play.ensures.stands s.receiver [] stands.receiver;
}

pub returns-clause-ready : goal.returns-clause-ready
returns-clause-ready g c = λ n ready.
    let same = c.play.ensures.rest.attached in
    record {
      pictures = ap (λ (f : Role → Bool). f Pictures) same ∙ ready.pictures;
      wire = ap (λ (f : Role → Bool). f Wire) same ∙ ready.wire;
      report = ap (λ (f : Role → Bool). f Report) same ∙ ready.report;
      none_left = ready.none_left;
      past = ready.past;
      stands = ready.stands;
      packets = omega (arith, ready.packets);
      joined = omega (arith, ready.joined);
      counted = omega (arith, ready.counted, c.play.ensures.total);
    }

pub returns-clause-ok : goal.returns-clause-ok
returns-clause-ok g c = λ s stands. c.play.ensures.ok s.receiver [] stands.receiver

pub returns-clause-err : goal.returns-clause-err
returns-clause-err g c = λ s stands. c.play.ensures.err s.receiver [] stands.receiver
