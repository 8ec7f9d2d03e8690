use Rattle.recv_command.specs.Said.{said_message_text}
use Rattle.recv_command.proofs.WrittenSoFar.{written_more, text_more}
use Rattle.recv_command.proofs.delivering.say_after.Goals as goal

pub returns-in-Ok-clause-has_written : goal.returns-in-Ok-clause-has_written
returns-in-Ok-clause-has_written g c = λ old before.
    let outside = g.D.Desk.outside in
    written_more c.calls.ensures.rose_since c.calls.ensures.writes c.say.result old (outside c.args.desk.now)
    (outside c.say.new.desk) before.rest c.say.ensures.kind c.say.ensures.cause c.say.ensures.rest

pub returns-in-Ok-clause-said : goal.returns-in-Ok-clause-said
returns-in-Ok-clause-said g c = λ old texts clock said is before.
    let outside = g.D.Desk.outside in
    text_more c.turn_laws.ensures texts (said_message_text said) c.say.result old (outside c.args.desk.now).written
    (outside c.say.new.desk).written (rw c.in-Ok.is at before.ok) (c.say.ensures.ok clock said is)
    (c.say.ensures.err clock said is)

pub returns-in-Err-clause-said : goal.returns-in-Err-clause-said
returns-in-Err-clause-said g c = λ old texts clock said is before. record {
  ok = tt;
  err = c.turn_laws.ensures.front_of_first texts (said_message_text said) old (g.D.Desk.outside c.args.desk.now).written
      (rw c.in-Err.is at before.err);
}
