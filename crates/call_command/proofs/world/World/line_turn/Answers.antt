-- A line that was read, that can't be read, or that isn't there, is the turn that the definition has.
use Rattle.std.proofs.Common.{◌≡◌, ℕ, Bool, List, [], Option, Some, None, Result, Ok, Err, refl, sym, ap, subst}
use Rattle.std.specs.Prelude.{if◌then◌else◌}
use Rattle.h263_outside.specs.declared.desk.Role.TheVariants.{Video, Events}
use Rattle.loss_trace.specs.declared.event.Event.{Event as Line}
use Rattle.loss_trace.specs.declared.fault.TraceStop.{TraceStop}
use Rattle.loss_trace.specs.Place.{TracePlace}
use Rattle.loss_trace.specs.Reader.{EventGives}
use Rattle.call_report.specs.declared.status.Status.TheVariants.{Ok as Fine}
use Rattle.call_report.specs.Status.{phase, trace_stop}
use Rattle.desk_program.specs.Run.{Step}
use Rattle.desk_program.specs.Ends.{Ended, GainsFronts, GivesUp, step_texts}
use Rattle.one_way.specs.Way.{tally_of, way_of}
use Rattle.call_command.specs.Counts.{counts_of}
use Rattle.call_command.specs.Call.{CallState}
use Rattle.call_command.specs.Standing.{call_parts, call_state_of}
use Rattle.call_command.proofs.Counting.{counts_are, line_by_line, trace_answers, turn_gave_up, turn_is_over, turn_was_cut}
use Rattle.call_command.proofs.LineTurning.{read_out, trace_cut, trace_ends, trace_stops}
use Rattle.call_command.proofs.LineRead.{line_read, line_taken, ready_read, room_read}
use Rattle.call_command.proofs.world.World.line_turn.Goals as goal

-- what the reader says, where its answer is known
answered : (r known : Result (Option (ℕ × Line)) TraceStop) (old new : TracePlace) (rest : List ℕ)
    (left : Option (List ℕ)) → r ≡ known → EventGives r old rest new left → EventGives known old rest new left
answered r known old new rest left is gives =
    subst (λ (q : Result (Option (ℕ × Line)) TraceStop). EventGives q old rest new left) is gives

pub returns-in_err-line : goal.returns-in_err-line
returns-in_err-line g c =
    let outside = g.D.Desk.outside in
    let old = outside c.args.desk.now in
    let mid = outside c.next.new.desk in
    let m = c.args.self.now in
    let x = call_parts m in
    let stop = c.in_err-line.field-0.0 in
    turn_gave_up m _ old mid c.from_residual.result (trace_stop stop) c.from_residual.ensures.1 refl
    (trace_answers m.terms.plain c.requires.recorded stop) (c.turning.ensures.steps.trace_stops stop)
    (c.turning.ensures.steps.trace_cause stop old.faults mid.faults
    (λ is. c.in_err-line.ensures.cause (ap (λ e. Err e) is)))
    (c.turning.ensures.steps.reads old mid c.next.ensures.rest)
    (λ s inputs k told.
    let here = call_state_of x s.before s.frames s.past in
    line_by_line x s inputs k.is c.requires.recorded (λ (step : Step CallState) (now : Bool). GivesUp
    (phase (trace_stop stop)) (trace_stop stop) step now inputs old mid)
    (trace_stops c.turning.ensures.turns here inputs old mid (record {
      told = told;
      others = c.next.ensures.others;
      written = c.next.ensures.rest.written;
    }) x.link.trace c.next.new.self (record {
      lines_are = refl;
      ended_is = refl;
    }) stop
    (c.in_err-line.ensures.gives (inputs Events) (told Events refl)) c.in_err-line.ensures.moves))
    (λ s stand. stand)

pub returns-in_err-tell_counts : goal.returns-in_err-tell_counts
returns-in_err-tell_counts g c =
    let outside = g.D.Desk.outside in
    let old = outside c.args.desk.now in
    let mid = outside c.next.new.desk in
    let new = outside c.tell_counts.new.desk in
    let m = c.args.self.now in
    let x = call_parts m in
    turn_was_cut m _ old new c.from_residual-in_err-tell_counts.result c.in_err-tell_counts.field-0.0
    c.from_residual-in_err-tell_counts.ensures.1 refl c.in_err-tell_counts.ensures.kind
    (c.turning.ensures.rose old.faults.write mid.faults.write new.faults.write c.next.ensures.rest.faults.write
    c.in_err-tell_counts.ensures.cause)
    (c.turning.ensures.steps.both old mid new (c.turning.ensures.steps.reads old mid c.next.ensures.rest)
    (c.turning.ensures.steps.writes mid new c.tell_counts.ensures.rest))
    (λ s inputs k told.
    let here = call_state_of x s.before s.frames s.past in
    let e = answered (Ok c.in_ok-line.field-0) (Ok None) x.link.trace c.next.new.self (inputs Events) _
    (ap (λ (o : Option (ℕ × Line)). Ok o) c.in_default.is) (c.in_ok-line.ensures.gives (inputs Events)
    (told Events refl)) in
    line_by_line x s inputs k.is c.requires.recorded (λ (step : Step CallState) (now : Bool). GainsFronts
    (step_texts step) old.written new.written)
    (trace_cut c.turning.ensures.turns here inputs old mid (record {
      told = told;
      others = c.next.ensures.others;
      written = c.next.ensures.rest.written;
    }) x.link.trace c.next.new.self (record {
      lines_are = refl;
      ended_is = refl;
    }) e k.over
    new c.tell_counts.ensures.rest.left (counts_of (tally_of (way_of x.link.network)) x.receiver.played x.sender.sent)
    (counts_are x (c.turning.ensures.way x.terms.params) s inputs k) c.in_err-tell_counts.ensures.err))

pub returns-in_default : goal.returns-in_default
returns-in_default g c =
    let outside = g.D.Desk.outside in
    let old = outside c.args.desk.now in
    let mid = outside c.next.new.desk in
    let new = outside c.tell_counts.new.desk in
    let m = c.args.self.now in
    let x = call_parts m in
    turn_is_over m _ old new refl (c.turning.ensures.steps.both old mid new
    (c.turning.ensures.steps.reads old mid c.next.ensures.rest)
    (c.turning.ensures.steps.writes mid new c.tell_counts.ensures.rest))
    (λ s inputs k told.
    let here = call_state_of x s.before s.frames s.past in
    let e = answered (Ok c.in_ok-line.field-0) (Ok None) x.link.trace c.next.new.self (inputs Events) _
    (ap (λ (o : Option (ℕ × Line)). Ok o) c.in_default.is) (c.in_ok-line.ensures.gives (inputs Events)
    (told Events refl)) in
    line_by_line x s inputs k.is c.requires.recorded (λ (step : Step CallState) (now : Bool). Ended step Fine inputs old
    new)
    (trace_ends c.turning.ensures.turns here inputs old mid (record {
      told = told;
      others = c.next.ensures.others;
      written = c.next.ensures.rest.written;
    }) x.link.trace c.next.new.self (record {
      lines_are = refl;
      ended_is = refl;
    }) e k.over
    new c.tell_counts.ensures.rest.left (counts_of (tally_of (way_of x.link.network)) x.receiver.played x.sender.sent)
    (counts_are x (c.turning.ensures.way x.terms.params) s inputs k) c.in_ok-tell_counts.ensures.ok))
    (λ s inputs k told.
    let here = call_state_of x s.before s.frames s.past in
    let e = answered (Ok c.in_ok-line.field-0) (Ok None) x.link.trace c.next.new.self (inputs Events) _
    (ap (λ (o : Option (ℕ × Line)). Ok o) c.in_default.is) (c.in_ok-line.ensures.gives (inputs Events)
    (told Events refl)) in
    subst (λ (b : Bool). new.left (if b then Video else Events) ≡ Some []) (sym c.requires.recorded)
    (read_out c.turning.ensures.turns here inputs old mid (record {
      told = told;
      others = c.next.ensures.others;
      written = c.next.ensures.rest.written;
    }) x.link.trace c.next.new.self (record {
      lines_are = refl;
      ended_is = refl;
    }) e k.over new c.tell_counts.ensures.rest.left))
    (λ s stand. stand)

-- ---- a line that was read

pub event_turn-requires-clause-ready : goal.event_turn-requires-clause-ready
event_turn-requires-clause-ready g c =
    let w = line_read c.args.self.now c.next.new.self c.in-Some.line c.in-Some.event (g.D.Desk.outside c.args.desk.now)
    (g.D.Desk.outside c.next.new.desk) (Ok c.in_ok-line.field-0) (ap (λ (o : Option (ℕ × Line)). Ok o) c.in-Some.is)
    c.turning.ensures.turns c.turning.ensures.steps c.requires.recorded c.in_ok-line.ensures.gives
    c.in_ok-line.ensures.moves c.next.ensures.others c.next.ensures.rest in
    ready_read w c.requires.ready

pub event_turn-requires-clause-room : goal.event_turn-requires-clause-room
event_turn-requires-clause-room g c =
    let w = line_read c.args.self.now c.next.new.self c.in-Some.line c.in-Some.event (g.D.Desk.outside c.args.desk.now)
    (g.D.Desk.outside c.next.new.desk) (Ok c.in_ok-line.field-0) (ap (λ (o : Option (ℕ × Line)). Ok o) c.in-Some.is)
    c.turning.ensures.turns c.turning.ensures.steps c.requires.recorded c.in_ok-line.ensures.gives
    c.in_ok-line.ensures.moves c.next.ensures.others c.next.ensures.rest in
    room_read w c.requires.ready

pub returns : goal.returns
returns g c =
    let w = line_read c.args.self.now c.next.new.self c.in-Some.line c.in-Some.event (g.D.Desk.outside c.args.desk.now)
    (g.D.Desk.outside c.next.new.desk) (Ok c.in_ok-line.field-0) (ap (λ (o : Option (ℕ × Line)). Ok o) c.in-Some.is)
    c.turning.ensures.turns c.turning.ensures.steps c.requires.recorded c.in_ok-line.ensures.gives
    c.in_ok-line.ensures.moves c.next.ensures.others c.next.ensures.rest in
    line_taken w c.event_turn.new.self c.event_turn.result (g.D.Desk.outside c.event_turn.new.desk) c.event_turn.ensures
