-- A line is the turn of the party that it names, with the parties' places exchanged for the second one.
use Rattle.std.proofs.Common.{ℕ, List, length, Option, Some, None, Ok, Err, refl, sym, ap, subst, ◌∙◌, arith}
use Rattle.std.specs.Vec.{with_items}
use Rattle.std.proofs.lemmas.List.{with_items_is}
use Rattle.h263_outside.specs.declared.desk.Role.TheVariants.{Events}
use Rattle.loss_trace.specs.declared.fault.TraceFault.TheVariants.{BadLine}
use Rattle.call_report.specs.declared.status.Status.TheVariants.{TraceRefused}
use Rattle.call_report.specs.Status.{trace_stop}
use Rattle.duplex_command.specs.declared.event.TraceLine.{TraceLine}
use Rattle.duplex_command.specs.declared.talk.Talk.{Talk}
use Rattle.duplex_command.specs.Standing.{DuplexOpens, StationsReady}
use Rattle.duplex_command.proofs.LineTurning.{read_out, trace_cut, trace_ends, trace_stops}
use Rattle.duplex_command.proofs.TalkTurning.{is_at, line_bad, line_done, line_empty, reads_trace, says, turn_gave_up, turn_is_over, turn_was_cut, was_read}
use Rattle.duplex_command.proofs.talk.Talk.line_turn.Goals as goal

pub returns-in_err-line : goal.returns-in_err-line
returns-in_err-line g c =
    let outside = g.D.Desk.outside in
    let old = outside c.args.desk.now in
    let mid = outside c.raw.new.desk in
    let m = c.args.self.now in
    let stop = c.in_err-line.field-0.0 in
    turn_gave_up m _ old mid c.from_residual.result (trace_stop stop) c.from_residual.ensures.1
    (c.turning.ensures.steps.trace_stops stop)
    (c.turning.ensures.steps.trace_cause stop old.faults mid.faults
    (λ is. c.in_err-line.ensures.cause (ap (λ e. Err e) is)))
    (c.turning.ensures.steps.reads old mid c.raw.ensures.rest)
    (λ s inputs k told.
    trace_stops c.turning.ensures.lines s inputs old mid (reads_trace old mid c.raw.ensures.others c.raw.ensures.rest
    inputs told) m.trace c.raw.new.self (is_at m s inputs k) c.raw.new.buf stop
    (c.in_err-line.ensures.gives (inputs Events) (told Events refl)) c.in_err-line.ensures.moves)

pub returns-in_err-tell_counts : goal.returns-in_err-tell_counts
returns-in_err-tell_counts g c =
    let outside = g.D.Desk.outside in
    let old = outside c.args.desk.now in
    let mid = outside c.raw.new.desk in
    let new = outside c.tell_counts.new.desk in
    let m = c.args.self.now in
    turn_was_cut m _ old new c.from_residual-in_err-tell_counts.result c.in_err-tell_counts.field-0.0
    c.from_residual-in_err-tell_counts.ensures.1 c.in_err-tell_counts.ensures.kind
    (c.turning.ensures.rose old.faults.write mid.faults.write new.faults.write c.raw.ensures.rest.faults.write
    c.in_err-tell_counts.ensures.cause)
    (c.turning.ensures.steps.both old mid new (c.turning.ensures.steps.reads old mid c.raw.ensures.rest)
    (c.turning.ensures.steps.writes mid new c.tell_counts.ensures.rest))
    (λ s inputs k told.
    let e = says (Ok c.in_ok-line.field-0) (Ok None) m.trace c.raw.new.self (inputs Events) c.raw.new.buf _
    (ap (λ (o : Option (ℕ × ℕ)). Ok o) c.in_default.is) (c.in_ok-line.ensures.gives (inputs Events)
    (told Events refl)) in
    trace_cut c.turning.ensures.lines s inputs old mid (reads_trace old mid c.raw.ensures.others c.raw.ensures.rest
    inputs told) m.trace c.raw.new.self (is_at m s inputs k) c.raw.new.buf e k.over
    new c.tell_counts.ensures.rest.left (c.in_err-tell_counts.ensures.err s.params s.ways k.holds))

pub returns-in_default : goal.returns-in_default
returns-in_default g c =
    let outside = g.D.Desk.outside in
    let old = outside c.args.desk.now in
    let mid = outside c.raw.new.desk in
    let new = outside c.tell_counts.new.desk in
    let m = c.args.self.now in
    turn_is_over m _ old new (c.turning.ensures.steps.both old mid new
    (c.turning.ensures.steps.reads old mid c.raw.ensures.rest)
    (c.turning.ensures.steps.writes mid new c.tell_counts.ensures.rest))
    (λ s inputs k told.
    let e = says (Ok c.in_ok-line.field-0) (Ok None) m.trace c.raw.new.self (inputs Events) c.raw.new.buf _
    (ap (λ (o : Option (ℕ × ℕ)). Ok o) c.in_default.is) (c.in_ok-line.ensures.gives (inputs Events)
    (told Events refl)) in
    trace_ends c.turning.ensures.lines s inputs old mid (reads_trace old mid c.raw.ensures.others c.raw.ensures.rest
    inputs told) m.trace c.raw.new.self (is_at m s inputs k) c.raw.new.buf e k.over
    new c.tell_counts.ensures.rest.left (c.in_ok-tell_counts.ensures.ok s.params s.ways k.holds))
    (λ s inputs k told.
    let e = says (Ok c.in_ok-line.field-0) (Ok None) m.trace c.raw.new.self (inputs Events) c.raw.new.buf _
    (ap (λ (o : Option (ℕ × ℕ)). Ok o) c.in_default.is) (c.in_ok-line.ensures.gives (inputs Events)
    (told Events refl)) in
    read_out c.turning.ensures.lines s inputs old mid (reads_trace old mid c.raw.ensures.others c.raw.ensures.rest
    inputs told) m.trace c.raw.new.self (is_at m s inputs k) c.raw.new.buf e k.over new c.tell_counts.ensures.rest.left)

-- ---- after a line

pub event_turn-requires-clause-opens : goal.event_turn-requires-clause-opens
event_turn-requires-clause-opens g c = subst DuplexOpens (sym c.raw.ensures.rest.attached) c.requires.opens

pub event_turn-requires-clause-ready : goal.event_turn-requires-clause-ready
event_turn-requires-clause-ready g c =
    let m = c.args.self.now in
    subst (λ (n : ℕ). StationsReady m.a m.b n) (omega (arith, c.deref_mut.ensures.len, m.frame.ok.0))
    c.requires.stations

pub returns-in-Ok-Some : goal.returns-in-Ok-Some
returns-in-Ok-Some g c =
    let outside = g.D.Desk.outside in
    let old = outside c.args.desk.now in
    let mid = outside c.raw.new.desk in
    let new = outside c.event_turn.new.desk in
    let m = c.args.self.now in
    let found : ℕ × ℕ = (c.in-Some.line, c.in-Some.length) in
    let said : TraceLine = record { line = c.in-Some.line; party = c.in-Ok-Some.party; event = c.in-Ok-Some.event } in
    let out = c.event_turn.new.frame in
    let y : Talk = record {
      a = c.event_turn.new.a;
      b = c.event_turn.new.b;
      trace = c.raw.new.self;
      frame = with_items m.frame out;
    } in
    line_done c.turning.ensures.lines c.turning.ensures.steps m c.raw.new.self c.raw.new.buf found old mid
    (was_read m c.raw.new.self c.raw.new.buf c.in_ok-line.field-0 found old mid c.in-Some.is c.in_ok-line.ensures.gives
    c.in_ok-line.ensures.moves c.raw.ensures.others c.raw.ensures.rest) said refl (λ le. c.in-Ok-Some.ensures le
    ∙ ap (λ o. Some o) c.in-Ok-Some.field-0-is) c.requires y c.event_turn.result new _ refl
    (ap (λ (l : List ℕ). length l) (with_items_is m.frame out (omega (
      arith,
      c.event_turn.auto.frame,
      c.deref_mut.ensures.len,
      m.frame.ok.0,
    ))) ∙ c.event_turn.auto.frame)
    c.event_turn.ensures

pub returns-in-Ok-None : goal.returns-in-Ok-None
returns-in-Ok-None g c =
    let outside = g.D.Desk.outside in
    let old = outside c.args.desk.now in
    let mid = outside c.raw.new.desk in
    let m = c.args.self.now in
    let found : ℕ × ℕ = (c.in-Some.line, c.in-Some.length) in
    line_empty c.turning.ensures.lines c.turning.ensures.steps m c.raw.new.self c.raw.new.buf found old mid
    (was_read m c.raw.new.self c.raw.new.buf c.in_ok-line.field-0 found old mid c.in-Some.is c.in_ok-line.ensures.gives
    c.in_ok-line.ensures.moves c.raw.ensures.others c.raw.ensures.rest)
    (λ le. c.in-Ok-None.ensures le ∙ ap (λ o. Some o) c.in-Ok-None.field-0-is) c.requires
    (c.turning.ensures.turns.no_text mid.written mid.written refl)

pub returns-in-Err : goal.returns-in-Err
returns-in-Err g c =
    let outside = g.D.Desk.outside in
    let old = outside c.args.desk.now in
    let mid = outside c.raw.new.desk in
    let m = c.args.self.now in
    let found : ℕ × ℕ = (c.in-Some.line, c.in-Some.length) in
    let status = TraceRefused (BadLine c.in-Some.line) in
    turn_gave_up m _ old mid (Err status) status refl tt tt (c.turning.ensures.steps.reads old mid c.raw.ensures.rest)
    (line_bad c.turning.ensures.lines c.turning.ensures.steps m c.raw.new.self c.raw.new.buf found old mid
    (was_read m c.raw.new.self c.raw.new.buf c.in_ok-line.field-0 found old mid c.in-Some.is c.in_ok-line.ensures.gives
    c.in_ok-line.ensures.moves c.raw.ensures.others c.raw.ensures.rest)
    c.in-Err.ensures)
