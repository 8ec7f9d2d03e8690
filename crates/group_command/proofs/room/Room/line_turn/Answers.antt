-- A line is a frame for all or the event of the receiver that it names, or ends the run.
use Rattle.std.proofs.Common.{ℕ, take, Option, Some, None, Ok, Err, refl, sym, ap, ◌∙◌}
use Rattle.h263_outside.specs.declared.desk.Role.TheVariants.{Events}
use Rattle.loss_trace.specs.declared.fault.TraceFault.TheVariants.{BadLine}
use Rattle.call_report.specs.declared.status.Status.TheVariants.{TraceRefused}
use Rattle.call_report.specs.Status.{trace_stop}
use Rattle.group_command.specs.declared.line.GroupLine.{GroupLine}
use Rattle.group_command.specs.declared.line.GroupLine.TheVariants.{ForAll, Of}
use Rattle.group_command.specs.Lines.{group_line}
use Rattle.group_command.proofs.LineTurning.{read_out, trace_cut, trace_ends, trace_stops}
use Rattle.group_command.proofs.RoomTurning.{has_line, is_at, line_bad, line_done, line_empty, reads_trace, ready_after, says, turn_gave_up, turn_is_over, turn_was_cut, was_read}
use Rattle.group_command.proofs.room.Room.line_turn.Goals as goal

pub returns-in_err-line : goal.returns-in_err-line
returns-in_err-line g c =
    let outside = g.D.Desk.outside in
    let old = outside c.args.desk.now in
    let mid = outside c.raw.new.desk in
    let m = c.args.self.now in
    let stop = c.in_err-line.field-0.0 in
    turn_gave_up m _ old mid c.from_residual.result (trace_stop stop) c.from_residual.ensures.1
    (c.turning.ensures.steps.trace_stops stop)
    (c.turning.ensures.steps.trace_cause stop old.faults mid.faults
    (λ is. c.in_err-line.ensures.cause (ap (λ e. Err e) is)))
    (c.turning.ensures.steps.reads old mid c.raw.ensures.rest)
    (λ s inputs k told.
    trace_stops c.turning.ensures.lines s inputs old mid (reads_trace old mid c.raw.ensures.others c.raw.ensures.rest
    inputs told) m.trace c.raw.new.self (is_at m s inputs k) c.raw.new.buf stop
    (c.in_err-line.ensures.gives (inputs Events) (told Events refl)) c.in_err-line.ensures.moves)

pub returns-in_err-tell : goal.returns-in_err-tell
returns-in_err-tell g c =
    let outside = g.D.Desk.outside in
    let old = outside c.args.desk.now in
    let mid = outside c.raw.new.desk in
    let new = outside c.tell.new.desk in
    let m = c.args.self.now in
    turn_was_cut m _ old new c.from_residual-in_err-tell.result c.in_err-tell.field-0.0
    c.from_residual-in_err-tell.ensures.1 c.in_err-tell.ensures.kind
    (c.turning.ensures.rose old.faults.write mid.faults.write new.faults.write c.raw.ensures.rest.faults.write
    c.in_err-tell.ensures.cause)
    (c.turning.ensures.steps.both old mid new (c.turning.ensures.steps.reads old mid c.raw.ensures.rest)
    (c.turning.ensures.steps.writes mid new c.tell.ensures.rest))
    (λ s inputs k told.
    let e = says (Ok c.in_ok-line.field-0) (Ok None) m.trace c.raw.new.self (inputs Events) c.raw.new.buf _
    (ap (λ (o : Option (ℕ × ℕ)). Ok o) c.in_default.is) (c.in_ok-line.ensures.gives (inputs Events)
    (told Events refl)) in
    trace_cut c.turning.ensures.lines s inputs old mid (reads_trace old mid c.raw.ensures.others c.raw.ensures.rest
    inputs told) m.trace c.raw.new.self (is_at m s inputs k) c.raw.new.buf e k.over
    new c.tell.ensures.rest.left (c.in_err-tell.ensures.err s.params s.run s.views k.cast k.views))

pub returns-in_default : goal.returns-in_default
returns-in_default g c =
    let outside = g.D.Desk.outside in
    let old = outside c.args.desk.now in
    let mid = outside c.raw.new.desk in
    let new = outside c.tell.new.desk in
    let m = c.args.self.now in
    turn_is_over m _ old new (c.turning.ensures.steps.both old mid new
    (c.turning.ensures.steps.reads old mid c.raw.ensures.rest)
    (c.turning.ensures.steps.writes mid new c.tell.ensures.rest))
    (λ s inputs k told.
    let e = says (Ok c.in_ok-line.field-0) (Ok None) m.trace c.raw.new.self (inputs Events) c.raw.new.buf _
    (ap (λ (o : Option (ℕ × ℕ)). Ok o) c.in_default.is) (c.in_ok-line.ensures.gives (inputs Events)
    (told Events refl)) in
    trace_ends c.turning.ensures.lines s inputs old mid (reads_trace old mid c.raw.ensures.others c.raw.ensures.rest
    inputs told) m.trace c.raw.new.self (is_at m s inputs k) c.raw.new.buf e k.over
    new c.tell.ensures.rest.left (c.in_ok-tell.ensures.ok s.params s.run s.views k.cast k.views))
    (λ s inputs k told.
    let e = says (Ok c.in_ok-line.field-0) (Ok None) m.trace c.raw.new.self (inputs Events) c.raw.new.buf _
    (ap (λ (o : Option (ℕ × ℕ)). Ok o) c.in_default.is) (c.in_ok-line.ensures.gives (inputs Events)
    (told Events refl)) in
    read_out c.turning.ensures.lines s inputs old mid (reads_trace old mid c.raw.ensures.others c.raw.ensures.rest
    inputs told) m.trace c.raw.new.self (is_at m s inputs k) c.raw.new.buf e k.over new c.tell.ensures.rest.left)

-- ---- after a line

pub capture-requires : goal.capture-requires
capture-requires g c =
    let outside = g.D.Desk.outside in
    let old = outside c.args.desk.now in
    let mid = outside c.raw.new.desk in
    let m = c.args.self.now in
    let found : ℕ × ℕ = (c.in-Some.line, c.in-Some.length) in
    ready_after c.turning.ensures.lines c.turning.ensures.steps m c.raw.new.self c.raw.new.buf found old mid
    (was_read m c.raw.new.self c.raw.new.buf c.in_ok-line.field-0 found old mid c.in-Some.is c.in_ok-line.ensures.gives
    c.in_ok-line.ensures.moves c.raw.ensures.others c.raw.ensures.rest) c.requires

pub own-requires-clause-ready : goal.own-requires-clause-ready
own-requires-clause-ready g c =
    let outside = g.D.Desk.outside in
    let old = outside c.args.desk.now in
    let mid = outside c.raw.new.desk in
    let m = c.args.self.now in
    let found : ℕ × ℕ = (c.in-Some.line, c.in-Some.length) in
    ready_after c.turning.ensures.lines c.turning.ensures.steps m c.raw.new.self c.raw.new.buf found old mid
    (was_read m c.raw.new.self c.raw.new.buf c.in_ok-line.field-0 found old mid c.in-Some.is c.in_ok-line.ensures.gives
    c.in_ok-line.ensures.moves c.raw.ensures.others c.raw.ensures.rest) c.requires

pub own-requires-clause-line : goal.own-requires-clause-line
own-requires-clause-line g c =
    let outside = g.D.Desk.outside in
    let old = outside c.args.desk.now in
    let mid = outside c.raw.new.desk in
    let m = c.args.self.now in
    let found : ℕ × ℕ = (c.in-Some.line, c.in-Some.length) in
    has_line c.turning.ensures.lines c.turning.ensures.steps m c.raw.new.self c.raw.new.buf found old mid
    (was_read m c.raw.new.self c.raw.new.buf c.in_ok-line.field-0 found old mid c.in-Some.is c.in_ok-line.ensures.gives
    c.in_ok-line.ensures.moves c.raw.ensures.others c.raw.ensures.rest) c.requires

pub returns-in-Ok-Quiet : goal.returns-in-Ok-Quiet
returns-in-Ok-Quiet g c =
    let outside = g.D.Desk.outside in
    let old = outside c.args.desk.now in
    let mid = outside c.raw.new.desk in
    let m = c.args.self.now in
    let found : ℕ × ℕ = (c.in-Some.line, c.in-Some.length) in
    let was = was_read m c.raw.new.self c.raw.new.buf c.in_ok-line.field-0 found old mid c.in-Some.is
    c.in_ok-line.ensures.gives c.in_ok-line.ensures.moves c.raw.ensures.others c.raw.ensures.rest in
    line_empty c.turning.ensures.lines c.turning.ensures.steps m c.raw.new.self c.raw.new.buf found old mid was
    (λ le. ap (λ (n : ℕ). group_line n (take found.1 c.raw.new.buf)) (sym c.count.ensures)
    ∙ c.in-Ok-Quiet.ensures.said le ∙ ap (λ (o : GroupLine). Some o) c.in-Ok-Quiet.field-0-is) c.requires
    (c.turning.ensures.turns.no_text mid.written mid.written refl)

pub returns-in-Ok-ForAll : goal.returns-in-Ok-ForAll
returns-in-Ok-ForAll g c =
    let outside = g.D.Desk.outside in
    let old = outside c.args.desk.now in
    let mid = outside c.raw.new.desk in
    let m = c.args.self.now in
    let found : ℕ × ℕ = (c.in-Some.line, c.in-Some.length) in
    let was = was_read m c.raw.new.self c.raw.new.buf c.in_ok-line.field-0 found old mid c.in-Some.is
    c.in_ok-line.ensures.gives c.in_ok-line.ensures.moves c.raw.ensures.others c.raw.ensures.rest in
    line_done c.turning.ensures.lines c.turning.ensures.steps m c.raw.new.self c.raw.new.buf found old mid was ForAll
    (λ le. ap (λ (n : ℕ). group_line n (take found.1 c.raw.new.buf)) (sym c.count.ensures)
    ∙ c.in-Ok-ForAll.ensures.said le ∙ ap (λ (o : GroupLine). Some o) c.in-Ok-ForAll.field-0-is)
    c.capture.new.self c.capture.result (outside c.capture.new.desk) c.capture.ensures.trace c.capture.ensures.takes

pub returns-in-Ok-Of : goal.returns-in-Ok-Of
returns-in-Ok-Of g c =
    let outside = g.D.Desk.outside in
    let old = outside c.args.desk.now in
    let mid = outside c.raw.new.desk in
    let m = c.args.self.now in
    let found : ℕ × ℕ = (c.in-Some.line, c.in-Some.length) in
    let was = was_read m c.raw.new.self c.raw.new.buf c.in_ok-line.field-0 found old mid c.in-Some.is
    c.in_ok-line.ensures.gives c.in_ok-line.ensures.moves c.raw.ensures.others c.raw.ensures.rest in
    line_done c.turning.ensures.lines c.turning.ensures.steps m c.raw.new.self c.raw.new.buf found old mid was
    (Of c.in-Ok-Of.place c.in-Ok-Of.event)
    (λ le. ap (λ (n : ℕ). group_line n (take found.1 c.raw.new.buf)) (sym c.count.ensures) ∙ c.in-Ok-Of.ensures.said le
    ∙ ap (λ (o : GroupLine). Some o) c.in-Ok-Of.field-0-is)
    c.own.new.self c.own.result (outside c.own.new.desk) c.own.ensures.trace c.own.ensures.takes

pub returns-in-Err : goal.returns-in-Err
returns-in-Err g c =
    let outside = g.D.Desk.outside in
    let old = outside c.args.desk.now in
    let mid = outside c.raw.new.desk in
    let m = c.args.self.now in
    let found : ℕ × ℕ = (c.in-Some.line, c.in-Some.length) in
    let was = was_read m c.raw.new.self c.raw.new.buf c.in_ok-line.field-0 found old mid c.in-Some.is
    c.in_ok-line.ensures.gives c.in_ok-line.ensures.moves c.raw.ensures.others c.raw.ensures.rest in
    let status = TraceRefused (BadLine c.in-Some.line) in
    turn_gave_up m _ old mid (Err status) status refl tt tt (c.turning.ensures.steps.reads old mid c.raw.ensures.rest)
    (line_bad c.turning.ensures.lines c.turning.ensures.steps m c.raw.new.self c.raw.new.buf found old mid was
    (λ le. ap (λ (n : ℕ). group_line n (take found.1 c.raw.new.buf)) (sym c.count.ensures) ∙ c.in-Err.ensures.said le))
