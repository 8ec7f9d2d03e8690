use Rattle.receiver_end.specs.Answers.{said_by}
use Rattle.receiver_end.specs.State.{answer_after}
use Rattle.recv_command.specs.Join.{delivers_one}
use Rattle.recv_command.proofs.delivering.deliver_one.Goals as goal

pub returns-clause-delivering : goal.returns-clause-delivering
returns-clause-delivering g c = λ left all old is.
    let s = is.so_far.state in
    record {
      so_far = delivers_one is.so_far c.args.bytes.now;
      rest = is.rest;
      stands = c.deliver-message.ensures.stands s is.stands;
      written = c.say_after.ensures.said old is.so_far.texts s.params.clock
          (said_by (answer_after s.params s.past c.args.bytes.now)) (c.deliver-message.ensures.says s is.stands)
          is.written;
    }
