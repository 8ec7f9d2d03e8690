-- The turns so far follow the steps of the run, up to its end or the first stop.
use Rattle.std.proofs.Common.{true, false, refl, ◌∙◌, arith}
use Rattle.desk_program.proofs.Running.{state_on, left_last, left_err, on_settled, goes_on, comes_to_its_end, stops, gave, fell, on_going, on_end, read_out_since, not_read_out, later_stop, roles_on, stop_at_start}
use Rattle.call_report.specs.declared.status.Status.TheVariants.{Ok as Fine}
use Rattle.call_report.specs.Status.{phase}
use Rattle.desk_program.proofs.event_loop.take_turns.Goals as goal

pub loop-status-init : goal.loop-status-init
loop-status-init g c = record {
  plays = λ run inputs start p. p;
  ends = λ final p. p;
  stays = λ first k. k;
  ready = c.requires;
  source = refl;
  rest = record {
    attached = refl;
    name = refl;
    faults = record {
      attach = omega arith;
      read = omega arith;
      write = omega arith;
    };
    loans = refl;
  };
}

pub loop-status-preserved : goal.loop-status-preserved
loop-status-preserved g c =
    let m = g.M.Turns in
    let outside = g.D.Desk.outside in
    let said = c.in-Ok-true in
    record {
      plays = λ run inputs start before.
          let p = c.loop-status.invariant.plays run inputs start before in
          let w = gave said.field-0 true (m.step p.state p.rest) (m.stands c.turn.new.self) m.reads
          (m.reads p.state) p.rest (outside c.loop-status.desk) (outside c.turn.new.desk) said.field-0-test
          (said.ensures.gives p.state p.rest p.kept p.told) in
          goes_on _ _ _ _ _ _ _ _ _ p (m.stands c.turn.new.self) (m.more c.turn.new.self)
          (fell said.field-0 _ _ said.field-0-test said.ensures.falls) w;
      ends = λ final before.
          let p = c.loop-status.invariant.ends final before in
          let w = gave said.field-0 true (m.step p.state p.rest) (m.stands c.turn.new.self) m.reads
          (m.reads p.state) p.rest (outside c.loop-status.desk) (outside c.turn.new.desk) said.field-0-test
          (said.ensures.gives p.state p.rest p.kept p.told) in
          state_on m.step m.reads final (outside c.loop-status.desk) (outside c.turn.new.desk) _ _ p
          (m.stands c.turn.new.self) (m.more c.turn.new.self)
          (fell said.field-0 _ _ said.field-0-test said.ensures.falls) w;
      stays = λ first k. said.ensures.stays first (c.loop-status.invariant.stays first k);
      ready = on_going said.field-0 (m.ready c.turn.new.self (outside c.turn.new.desk).attached) said.field-0-test
          said.ensures.ready;
      source = on_going said.field-0 _ said.field-0-test said.ensures.source ∙ c.loop-status.invariant.source;
      rest = roles_on (outside c.args.desk.now) (outside c.loop-status.desk) (outside c.turn.new.desk)
          c.loop-status.invariant.rest said.ensures.rest;
    }

pub returns-in-Ok-false-clause-gives : goal.returns-in-Ok-false-clause-gives
returns-in-Ok-false-clause-gives g c = λ run inputs start before.
    let m = g.M.Turns in
    let outside = g.D.Desk.outside in
    let p = c.loop-status.invariant.plays run inputs start before in
    let e = gave c.in-Ok-false.field-0 false (m.step p.state p.rest) (m.stands c.turn.new.self) m.reads
    (m.reads p.state) p.rest (outside c.loop-status.desk) (outside c.turn.new.desk) c.in-Ok-false.field-0-test
    (c.in-Ok-false.ensures.gives p.state p.rest p.kept p.told) in
    comes_to_its_end _ _ _ _ _ _ _ _ _ p e

pub returns-in-Ok-false-clause-whole_input : goal.returns-in-Ok-false-clause-whole_input
returns-in-Ok-false-clause-whole_input g c = λ run inputs start before.
    let m = g.M.Turns in
    let p = c.loop-status.invariant.plays run inputs start before in
    read_out_since (m.reading c.loop-status.machine) (m.reading c.args.machine.now) (g.D.Desk.outside c.turn.new.desk)
    c.loop-status.invariant.source
    (on_end c.in-Ok-false.field-0 _ c.in-Ok-false.field-0-test
    (c.in-Ok-false.ensures.whole p.state p.rest p.kept p.told))

pub returns-in-Err-clause-gives : goal.returns-in-Err-clause-gives
returns-in-Err-clause-gives g c = λ run inputs start before.
    let m = g.M.Turns in
    let p = c.loop-status.invariant.plays run inputs start before in
    stops m.step m.reads run inputs start _ _ _ _ p (phase c.in-Err.status) c.in-Err.status
    (c.in-Err.ensures.gives p.state p.rest p.kept p.told)

pub returns-in-Err-clause-whole_input : goal.returns-in-Err-clause-whole_input
returns-in-Err-clause-whole_input g c = λ run inputs start before. not_read_out (phase c.in-Err.status)
    (g.M.Turns.reading c.args.machine.now) (g.D.Desk.outside c.turn.new.desk)
    (stop_at_start (phase c.in-Err.status) c.in-Err.ensures.stop)

pub returns-in-Err-clause-later : goal.returns-in-Err-clause-later
returns-in-Err-clause-later g c = later_stop (phase c.in-Err.status)
    (stop_at_start (phase c.in-Err.status) c.in-Err.ensures.stop)

pub returns-in-Ok-false-clause-leaves : goal.returns-in-Ok-false-clause-leaves
returns-in-Ok-false-clause-leaves g c = λ final before.
    let m = g.M.Turns in
    let outside = g.D.Desk.outside in
    let p = c.loop-status.invariant.ends final before in
    let e = gave c.in-Ok-false.field-0 false (m.step p.state p.rest) (m.stands c.turn.new.self) m.reads
    (m.reads p.state) p.rest (outside c.loop-status.desk) (outside c.turn.new.desk) c.in-Ok-false.field-0-test
    (c.in-Ok-false.ensures.gives p.state p.rest p.kept p.told) in
    left_last m.step m.reads final (outside c.loop-status.desk) (outside c.turn.new.desk) _
    _ p m.stands m.leaves c.loop-status.machine c.turn.new.self p.kept Fine e
    (on_settled c.in-Ok-false.field-0 _ c.in-Ok-false.field-0-test c.in-Ok-false.ensures.leaves)

pub returns-in-Err-clause-leaves : goal.returns-in-Err-clause-leaves
returns-in-Err-clause-leaves g c = λ final before.
    let m = g.M.Turns in
    let outside = g.D.Desk.outside in
    let p = c.loop-status.invariant.ends final before in
    left_err m.step m.reads final (outside c.loop-status.desk) (outside c.turn.new.desk) _
    _ p m.stands m.leaves c.loop-status.machine c.turn.new.self p.kept (phase c.in-Err.status) c.in-Err.status
    (c.in-Err.ensures.gives p.state p.rest p.kept p.told) c.in-Err.ensures.leaves

pub returns-in-Ok-false-clause-answers : goal.returns-in-Ok-false-clause-answers
returns-in-Ok-false-clause-answers g c = λ first k. c.in-Ok-false.ensures.answers first
    (c.loop-status.invariant.stays first k)

pub returns-in-Err-clause-answers : goal.returns-in-Err-clause-answers
returns-in-Err-clause-answers g c = λ first k. c.in-Err.ensures.answers first (c.loop-status.invariant.stays first k)
