-- An entry of the log is a capture or feedback; its fault or the log's end ends the run.
use Rattle.std.proofs.Common.{◌≡◌, ℕ, ◌+◌, true, List, length, take, drop, Option, None, Some, refl, sym, ap, ◌∙◌, subst, arith}
use Rattle.std.specs.Vec.{with_items}
use Rattle.h263_outside.specs.declared.desk.Role.{Role}
use Rattle.h263_outside.specs.declared.desk.Role.TheVariants.{Events, Report}
use Rattle.event_logs.specs.declared.entry.Entry.{Entry}
use Rattle.event_logs.specs.declared.entry.Entry.TheVariants.{Capture, Back}
use Rattle.event_logs.specs.declared.fault.LogFault.TheVariants.{BadRecord}
use Rattle.call_report.specs.declared.status.Status.TheVariants.{LogRefused}
use Rattle.call_report.specs.Status.{phase, log_stop}
use Rattle.desk_program.specs.Run.{Step, left_after}
use Rattle.desk_program.specs.Ends.{Gains, GainsFronts, GivesUp, Went}
use Rattle.desk_program.specs.Texts.{on, of}
use Rattle.send_command.specs.Tally.{sender_counts}
use Rattle.send_command.specs.Send.{SendState, after_heard_feedback, bad_entry}
use Rattle.send_command.specs.Stands.{SendStands}
use Rattle.send_command.proofs.Apart.{log_refused}
use Rattle.send_command.proofs.Answering.{turn_cut, turn_err}
use Rattle.send_command.proofs.Entering.{end_cut, gave_entry, log_ends, log_stops, moved_entry, other_entry}
use Rattle.send_command.proofs.Framing.{lent}
use Rattle.send_command.proofs.Keeping.{few_bytes, fit_after, is_after, read_at, takes_feedback}
use Rattle.send_command.proofs.machine.SendTurns.turn.Goals as goal

pub returns-in_err-at-clause-gives : goal.returns-in_err-at-clause-gives
returns-in_err-at-clause-gives g c = λ s inputs stands told.
    let outside = g.D.Desk.outside in
    let m = c.args.self.now in
    let stop = c.in_err-at.field-0.0 in
    turn_err c.from_residual.result (log_stop stop) _ _ inputs (outside c.args.desk.now) (outside c.next.new.desk)
    c.from_residual.ensures.1
    (log_stops c.turn_laws.ensures c.cut_after.ensures s inputs (outside c.args.desk.now) (outside c.next.new.desk) told
    c.next.ensures.others c.next.ensures.rest.written m.log c.next.new.self
    (read_at m s inputs stands c.requires.fit.side) c.next.new.buf
    stop (c.in_err-at.ensures.gives (inputs Events) (told Events refl)) c.in_err-at.ensures.moves)

pub returns-in_err-put_line-clause-gives : goal.returns-in_err-put_line-clause-gives
returns-in_err-put_line-clause-gives g c = λ s inputs stands told.
    let outside = g.D.Desk.outside in
    let m = c.args.self.now in
    let mid = outside c.next.new.desk in
    let new = outside c.put_line.new.desk in
    let e = gave_entry c.in_ok-at.field-0 None m.log (inputs Events) c.next.new.buf _ c.in_default.is
    (c.in_ok-at.ensures.gives (inputs Events) (told Events refl)) in
    let line_is = c.line.ensures ∙ ap (λ (x : SendState). sender_counts x.tally) (sym stands.is) in
    turn_cut c.from_residual-in_err-put_line.result c.in_err-put_line.field-0.0 _ _ inputs (outside c.args.desk.now) new
    c.from_residual-in_err-put_line.ensures.1 c.in_err-put_line.ensures.kind
    (end_cut c.turn_laws.ensures c.cut_after.ensures s inputs (outside c.args.desk.now) mid told c.next.ensures.others
    c.next.ensures.rest.written m.log c.next.new.self (read_at m s inputs stands c.requires.fit.side) c.next.new.buf
    e new
    (subst (λ (l : List ℕ). GainsFronts (on Report l) mid.written new.written) line_is c.in_err-put_line.ensures.err))

pub returns-in_default-clause-gives : goal.returns-in_default-clause-gives
returns-in_default-clause-gives g c = λ s inputs stands told.
    let outside = g.D.Desk.outside in
    let m = c.args.self.now in
    let mid = outside c.next.new.desk in
    let new = outside c.put_line.new.desk in
    let e = gave_entry c.in_ok-at.field-0 None m.log (inputs Events) c.next.new.buf _ c.in_default.is
    (c.in_ok-at.ensures.gives (inputs Events) (told Events refl)) in
    let line_is = c.line.ensures ∙ ap (λ (x : SendState). sender_counts x.tally) (sym stands.is) in
    log_ends c.turn_laws.ensures c.cut_after.ensures s inputs (outside c.args.desk.now) mid told c.next.ensures.others
    c.next.ensures.rest.written m.log c.next.new.self (read_at m s inputs stands c.requires.fit.side) c.next.new.buf
    e new
    c.put_line.ensures.rest.left (subst (λ (l : List ℕ). Gains (on Report l) mid.written new.written) line_is
    c.in_ok-put_line.ensures.ok)

pub returns-in_default-clause-whole : goal.returns-in_default-clause-whole
returns-in_default-clause-whole g c = λ s inputs stands told.
    let e = gave_entry c.in_ok-at.field-0 None c.args.self.now.log (inputs Events) c.next.new.buf _ c.in_default.is
    (c.in_ok-at.ensures.gives (inputs Events) (told Events refl)) in
    ap (λ (l : Role → Option (List ℕ)). l Events) c.put_line.ensures.rest.left ∙ e.1

pub returns-in_err-take_frame-in-Capture-clause-gives : goal.returns-in_err-take_frame-in-Capture-clause-gives
returns-in_err-take_frame-in-Capture-clause-gives g c = λ s inputs stands told.
    let outside = g.D.Desk.outside in
    let m = c.args.self.now in
    let old = outside c.args.desk.now in
    let new = outside c.take_frame.new.desk in
    let status = c.in_err-take_frame-in-Capture.field-0.0 in
    let is = c.in-Some.is ∙ ap (λ (e : Entry). Some (c.in-Some.at, e)) c.in-Capture.is in
    let b = is_after c.turn_laws.ensures c.cut_after.ensures m s inputs stands old (outside c.next.new.desk) told
    c.next.ensures.others c.next.ensures.rest.written c.requires.fit.side c.next.new.self c.next.ensures.is_in
    (with_items m.bytes c.next.new.buf) c.next.new.buf c.in-Some.at Capture
    (gave_entry c.in_ok-at.field-0 (Some (c.in-Some.at, Capture)) m.log (inputs Events) c.next.new.buf _ is
    (c.in_ok-at.ensures.gives (inputs Events) (told Events refl)))
    (moved_entry c.in_ok-at.field-0 (Some (c.in-Some.at, Capture)) m.log c.next.new.self is c.in_ok-at.ensures.moves)
    in
    turn_err c.from_residual-in_err-take_frame-in-Capture.result status _
    _ inputs old new c.from_residual-in_err-take_frame-in-Capture.ensures.1
    (subst (λ (x : Step SendState). GivesUp (phase status) status x true inputs old new) (sym b.step_is)
    (c.in_err-take_frame-in-Capture.ensures.err old s inputs b.stood b.place_is b.taken))

pub returns-in_ok-take_frame-in-Capture-clause-gives : goal.returns-in_ok-take_frame-in-Capture-clause-gives
returns-in_ok-take_frame-in-Capture-clause-gives g c = λ s inputs stands told.
    let outside = g.D.Desk.outside in
    let m = c.args.self.now in
    let old = outside c.args.desk.now in
    let is = c.in-Some.is ∙ ap (λ (e : Entry). Some (c.in-Some.at, e)) c.in-Capture.is in
    let b = is_after c.turn_laws.ensures c.cut_after.ensures m s inputs stands old (outside c.next.new.desk) told
    c.next.ensures.others c.next.ensures.rest.written c.requires.fit.side c.next.new.self c.next.ensures.is_in
    (with_items m.bytes c.next.new.buf) c.next.new.buf c.in-Some.at Capture
    (gave_entry c.in_ok-at.field-0 (Some (c.in-Some.at, Capture)) m.log (inputs Events) c.next.new.buf _ is
    (c.in_ok-at.ensures.gives (inputs Events) (told Events refl)))
    (moved_entry c.in_ok-at.field-0 (Some (c.in-Some.at, Capture)) m.log c.next.new.self is c.in_ok-at.ensures.moves)
    in
    subst (λ (x : Step SendState). Went x (SendStands c.take_frame.new.self) (λ _. true) true inputs old
    (outside c.take_frame.new.desk)) (sym b.step_is)
    (c.in_ok-take_frame-in-Capture.ensures.ok old s inputs b.stood b.taken)

pub returns-in-Back-clause-gives : goal.returns-in-Back-clause-gives
returns-in-Back-clause-gives g c = λ s inputs stands told.
    let outside = g.D.Desk.outside in
    let m = c.args.self.now in
    let old = outside c.args.desk.now in
    let mid = outside c.next.new.desk in
    let len = c.in-Back.len in
    let buf = c.next.new.buf in
    let is = c.in-Some.is ∙ ap (λ (e : Entry). Some (c.in-Some.at, e)) c.in-Back.is in
    let b = is_after c.turn_laws.ensures c.cut_after.ensures m s inputs stands old mid told c.next.ensures.others
    c.next.ensures.rest.written c.requires.fit.side c.next.new.self c.next.ensures.is_in (with_items m.bytes buf)
    buf c.in-Some.at (Back len)
    (gave_entry c.in_ok-at.field-0 (Some (c.in-Some.at, Back len)) m.log (inputs Events) buf _ is
    (c.in_ok-at.ensures.gives (inputs Events) (told Events refl)))
    (moved_entry c.in_ok-at.field-0 (Some (c.in-Some.at, Back len)) m.log c.next.new.self is c.in_ok-at.ensures.moves)
    in
    let items_are : (with_items m.bytes buf).items
    ≡ buf = lent m.bytes buf _ _ refl c.next.auto.buf c.deref_mut.ensures.len in
    let bytes_are = ap (λ (l : List ℕ). take len l) items_are ∙ b.bytes_are in
    let short = few_bytes len buf (take len (drop 3 (inputs Events))) b.bytes_are b.whole
    (omega (arith, c.next.auto.buf, c.deref_mut.ensures.len, m.bytes.ok.0, c.requires.fit.bytes)) in
    takes_feedback c.turn_laws.ensures s inputs old mid len b.step_is b.taken.left b.taken.written
    (SendStands c.take_feedback.new.self)
    (subst (λ (l : List ℕ). SendStands c.take_feedback.new.self (after_heard_feedback s l)
    (left_after inputs (of Events (3 + len)))) bytes_are
    (c.take_feedback.ensures.stands s (left_after inputs (of Events (3 + len))) short b.stood))

pub returns-in-Back-clause-ready : goal.returns-in-Back-clause-ready
returns-in-Back-clause-ready g c =
    let outside = g.D.Desk.outside in
    let m = c.args.self.now in
    let buf = c.next.new.buf in
    let moves = moved_entry c.in_ok-at.field-0 (Some (c.in-Some.at, c.in-Some.entry)) m.log c.next.new.self c.in-Some.is
    c.in_ok-at.ensures.moves in
    let items_are : (with_items m.bytes buf).items
    ≡ buf = lent m.bytes buf _ _ refl c.next.auto.buf c.deref_mut.ensures.len in
    let long : length buf ≡ 65535 = omega (
      arith,
      c.next.auto.buf,
      c.deref_mut.ensures.len,
      m.bytes.ok.0,
      c.requires.fit.bytes,
    ) in
    record {
      fit = c.take_feedback.ensures.fit (outside c.next.new.desk).attached
          (fit_after m c.next.new.self (with_items m.bytes buf) (outside c.args.desk.now).attached
          (outside c.next.new.desk).attached c.requires.fit moves.1 (ap (λ (l : List ℕ). length l) items_are
          ∙ long) c.next.ensures.rest.attached);
      tally = c.take_feedback.ensures.tally;
    }

pub returns-in-Packet-clause-gives : goal.returns-in-Packet-clause-gives
returns-in-Packet-clause-gives g c = λ s inputs stands told.
    let outside = g.D.Desk.outside in
    let m = c.args.self.now in
    let old = outside c.args.desk.now in
    let mid = outside c.next.new.desk in
    let entry = c.in-Some.entry in
    let b = is_after c.turn_laws.ensures c.cut_after.ensures m s inputs stands old mid told c.next.ensures.others
    c.next.ensures.rest.written c.requires.fit.side c.next.new.self c.next.ensures.is_in
    (with_items m.bytes c.next.new.buf) c.next.new.buf c.in-Some.at entry
    (gave_entry c.in_ok-at.field-0 (Some (c.in-Some.at, entry)) m.log (inputs Events) c.next.new.buf _ c.in-Some.is
    (c.in_ok-at.ensures.gives (inputs Events) (told Events refl)))
    (moved_entry c.in_ok-at.field-0 (Some (c.in-Some.at, entry)) m.log c.next.new.self c.in-Some.is
    c.in_ok-at.ensures.moves)
    in
    record {
      last = bad_entry (BadRecord c.in-Some.at);
      is = b.step_is ∙ other_entry s inputs c.in-Some.at entry c.in-Packet.is b.place_is;
      by = log_refused c.turn_laws.ensures (LogRefused (BadRecord c.in-Some.at)) inputs old mid told
          c.next.ensures.others b.taken.written;
    }
