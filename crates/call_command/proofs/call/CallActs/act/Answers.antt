-- Whether the start stands or ends the run, what is written is what the definition of the command has.
use Rattle.std.proofs.Common.{Bool, [], Some, sym, subst, if◌then◌else◌}
use Rattle.h263_outside.specs.Desk.{Faults}
use Rattle.h263_outside.specs.declared.desk.Role.TheVariants.{Video, Events}
use Rattle.desk_program.specs.Ends.{HasCause, IsReadOut}
use Rattle.desk_program.specs.Run.{left_after, run_from}
use Rattle.desk_program.specs.UnderWay.{IsUnderWay}
use Rattle.call_command.specs.Call.{call_begin, call_step, call_at_start, may_read, most_turns}
use Rattle.call_command.specs.Converse.{IsCallStart}
use Rattle.call_command.proofs.Acting.{later_stop, not_read_out}
use Rattle.call_command.proofs.call.CallActs.act.Goals as goal

pub returns-in-Ok-clause-gives : goal.returns-in-Ok-clause-gives
returns-in-Ok-clause-gives g c = λ inputs told.
    let outside = g.D.Desk.outside in
    let t = c.args.setup.now in
    let begun = c.in-Ok.begun in
    let first = call_begin t inputs in
    let most = most_turns t.plain in
    let run = run_from first call_step most inputs in
    let old = outside c.args.desk.now in
    let mid = outside c.begin.new.desk in
    let under_way = c.run_laws.ensures.begins_from (call_at_start begun.terms [] begun.video.at) first call_step
    may_read
    most inputs old mid (c.in-Ok.ensures.gives inputs told) in
    c.converse-status.ensures.alone run inputs old.written c.in-Ok.ensures.ready.receives
    (subst (λ (plain : Bool). IsUnderWay call_step may_read run inputs old.written (IsCallStart begun.terms
    begun.video.at)
    (most_turns plain) mid) (sym c.in-Ok.ensures.plain) under_way)

pub returns-in-Err-clause-gives : goal.returns-in-Err-clause-gives
returns-in-Err-clause-gives g c = λ inputs told.
    let outside = g.D.Desk.outside in
    let t = c.args.setup.now in
    c.run_laws.ensures.gives_up (call_begin t inputs) call_step (most_turns t.plain) inputs (outside c.args.desk.now)
    (outside c.begin.new.desk) c.in-Err.status
    (c.in-Err.ensures.gives inputs told)

pub returns-in-Ok-clause-whole_input : goal.returns-in-Ok-clause-whole_input
returns-in-Ok-clause-whole_input g c = λ inputs told.
    let new = g.D.Desk.outside c.converse-status.new.desk in
    let went = c.in-Ok.ensures.gives inputs told in
    subst (λ (plain : Bool). IsReadOut c.converse-status.result (Some (if plain then Video else Events)) new)
    c.in-Ok.ensures.plain
    (c.converse-status.ensures.whole_input [] (left_after inputs went.turn.taken) c.in-Ok.ensures.ready.receives
    went.left)

pub returns-in-Err-clause-whole_input : goal.returns-in-Err-clause-whole_input
returns-in-Err-clause-whole_input g c = λ inputs told.
    not_read_out c.in-Err.status _ (g.D.Desk.outside c.begin.new.desk) c.in-Err.ensures.stop

pub returns-in-Err-clause-later : goal.returns-in-Err-clause-later
returns-in-Err-clause-later g c = later_stop c.in-Err.status c.in-Err.ensures.stop

pub returns-in-Ok-clause-rest : goal.returns-in-Ok-clause-rest
returns-in-Ok-clause-rest g c =
    let outside = g.D.Desk.outside in
    c.step_laws.ensures.both (outside c.args.desk.now) (outside c.begin.new.desk) (outside c.converse-status.new.desk)
    c.begin.ensures.rest c.converse-status.ensures.rest

pub returns-in-Ok-clause-cause : goal.returns-in-Ok-clause-cause
returns-in-Ok-clause-cause g c =
    let outside = g.D.Desk.outside in
    subst (λ (f : Faults). HasCause c.converse-status.result f (outside c.converse-status.new.desk).faults)
    c.in-Ok.ensures.ok_faults c.converse-status.ensures.cause
