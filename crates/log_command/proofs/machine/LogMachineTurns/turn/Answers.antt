-- An entry is what the command does with it, or ends the run by its fault or the command's own.
use Rattle.std.proofs.Common.{◌≡◌, ◌+◌, ◌<◌, ◌≤◌, ℕ, Bool, Some, None, true, min, take, drop, refl, sym, ap, ◌∙◌, subst, arith}
use Rattle.std.specs.Vec.{with_items}
use Rattle.h263_outside.specs.declared.desk.Role.{Role}
use Rattle.h263_outside.specs.declared.desk.Role.TheVariants.{Events}
use Rattle.event_logs.specs.declared.entry.Entry.TheVariants.{Packet}
use Rattle.event_logs.specs.declared.fault.LogFault.TheVariants.{TooMany}
use Rattle.event_logs.specs.Entry.{entry_size}
use Rattle.call_report.specs.Status.{log_stop}
use Rattle.call_report.specs.declared.status.Status.TheVariants.{LogRefused}
use Rattle.log_command.specs.Log.{LogStands, after_entry, log_step, refused_log}
use Rattle.log_command.proofs.Answering.{entered, front_is, gave, moved, ready_after, still_long, turn_cut, turn_stops}
use Rattle.log_command.proofs.Entries.{all_played, other_is, packet_is}
use Rattle.log_command.proofs.Handling.{cut, end_cut, ends, goes, refuses, stops}
use Rattle.log_command.proofs.machine.LogMachineTurns.turn.Goals as goal

pub returns-in_err-at-clause-gives : goal.returns-in_err-at-clause-gives
returns-in_err-at-clause-gives g c = λ s inputs stands told.
    let outside = g.D.Desk.outside in
    let does = g.C.LogCommand.rules in
    let m = c.args.self.now in
    let stop = c.in_err-at.field-0.0 in
    turn_stops c.from_residual.result (log_step does s inputs) _ _ true inputs (outside c.args.desk.now)
    (outside c.next.new.desk) (log_stop stop) c.from_residual.ensures.1
    (stops does c.turn_laws.ensures s inputs (outside c.args.desk.now) (outside c.next.new.desk) told
    c.next.ensures.others c.next.ensures.rest.written
    c.cut_after.ensures m.reader c.next.new.self c.next.new.buf stop c.requires.side stands.at stands.entries
    (c.in_err-at.ensures.gives (inputs Events) (told Events refl)) c.in_err-at.ensures.moves)

pub returns-in_err-close-clause-gives : goal.returns-in_err-close-clause-gives
returns-in_err-close-clause-gives g c = λ s inputs stands told.
    let outside = g.D.Desk.outside in
    let does = g.C.LogCommand.rules in
    let m = c.args.self.now in
    let e = gave c.in_ok-at.field-0 None m.reader (inputs Events) c.next.new.buf _ c.in_default.is
    (c.in_ok-at.ensures.gives (inputs Events) (told Events refl)) in
    turn_cut c.from_residual-in_err-close.result (log_step does s inputs) _ _ true inputs (outside c.args.desk.now)
    (outside c.close.new.desk) c.in_err-close.field-0.0
    c.from_residual-in_err-close.ensures.1 c.in_err-close.ensures.kind
    (end_cut does c.turn_laws.ensures s inputs (outside c.args.desk.now) (outside c.next.new.desk) told
    c.next.ensures.others c.next.ensures.rest.written
    (outside c.close.new.desk) e.0 (c.in_err-close.ensures.err s.mind stands.mind))

pub returns-in_default-clause-gives : goal.returns-in_default-clause-gives
returns-in_default-clause-gives g c = λ s inputs stands told.
    let outside = g.D.Desk.outside in
    let does = g.C.LogCommand.rules in
    let m = c.args.self.now in
    let e = gave c.in_ok-at.field-0 None m.reader (inputs Events) c.next.new.buf _ c.in_default.is
    (c.in_ok-at.ensures.gives (inputs Events) (told Events refl)) in
    ends does c.turn_laws.ensures s inputs (outside c.args.desk.now) (outside c.next.new.desk) told
    c.next.ensures.others c.next.ensures.rest.written
    (outside c.close.new.desk) e.0 e.1 c.close.ensures.rest.left (c.in_ok-close.ensures.ok s.mind stands.mind)

pub returns-in_default-clause-whole : goal.returns-in_default-clause-whole
returns-in_default-clause-whole g c = λ s inputs stands told.
    let m = c.args.self.now in
    let e = gave c.in_ok-at.field-0 None m.reader (inputs Events) c.next.new.buf _ c.in_default.is
    (c.in_ok-at.ensures.gives (inputs Events) (told Events refl)) in
    ap (λ l. l Events) c.close.ensures.rest.left ∙ e.1

pub returns-in_err-packet-in-Packet-clause-gives : goal.returns-in_err-packet-in-Packet-clause-gives
returns-in_err-packet-in-Packet-clause-gives g c = λ s inputs stands told.
    let outside = g.D.Desk.outside in
    let does = g.C.LogCommand.rules in
    let m = c.args.self.now in
    let len = c.in-Packet.len in
    let size : c.len_of.result ≡ len = c.len_of.ensures ∙ ap entry_size c.in-Packet.is in
    let bytes = take c.min-len.result c.deref.result.now in
    let e = entered does.side s m.reader c.next.new.self c.in-Some.at c.in-Some.entry (Packet len)
    (inputs Events) c.next.new.buf _ c.in_ok-at.field-0 stands.at stands.entries c.requires.side
    c.next.ensures.is_in c.in-Some.is c.in-Packet.is
    (c.in_ok-at.ensures.gives (inputs Events) (told Events refl)) c.in_ok-at.ensures.moves
    in
    let bytes_are : bytes ≡ take len (drop 3 (inputs Events)) =
    front_is m.buffer c.deref.result.now c.next.new.buf _ len _ c.deref.ensures.value (c.next.auto.buf
    ∙ c.deref_mut.ensures.len) (c.min-len.ensures ∙ (λ i. min (size i) (c.len.ensures i))) e.bytes
    in
    turn_cut c.from_residual-in_err-packet-in-Packet.result (log_step does s inputs) _ _ true inputs
    (outside c.args.desk.now) (outside c.packet.new.desk) c.in_err-packet-in-Packet.field-0.0
    c.from_residual-in_err-packet-in-Packet.ensures.1 c.in_err-packet-in-Packet.ensures.kind
    (cut does c.turn_laws.ensures s inputs (outside c.args.desk.now) (outside c.next.new.desk) told
    c.next.ensures.others c.next.ensures.rest.written
    (after_entry s (does.packet s.mind bytes) (3 + len)) (3 + len) (does.packet_text s.mind bytes)
    (packet_is does s inputs e.few len bytes e.is bytes_are) (outside c.packet.new.desk)
    (c.in_err-packet-in-Packet.ensures.err s.mind stands.mind))

pub returns-in_ok-packet-in-Packet-clause-gives : goal.returns-in_ok-packet-in-Packet-clause-gives
returns-in_ok-packet-in-Packet-clause-gives g c = λ s inputs stands told.
    let outside = g.D.Desk.outside in
    let does = g.C.LogCommand.rules in
    let m = c.args.self.now in
    let len = c.in-Packet.len in
    let size : c.len_of.result ≡ len = c.len_of.ensures ∙ ap entry_size c.in-Packet.is in
    let bytes = take c.min-len.result c.deref.result.now in
    let e = entered does.side s m.reader c.next.new.self c.in-Some.at c.in-Some.entry (Packet len)
    (inputs Events) c.next.new.buf _ c.in_ok-at.field-0 stands.at stands.entries c.requires.side
    c.next.ensures.is_in c.in-Some.is c.in-Packet.is
    (c.in_ok-at.ensures.gives (inputs Events) (told Events refl)) c.in_ok-at.ensures.moves
    in
    let bytes_are : bytes ≡ take len (drop 3 (inputs Events)) =
    front_is m.buffer c.deref.result.now c.next.new.buf _ len _ c.deref.ensures.value (c.next.auto.buf
    ∙ c.deref_mut.ensures.len) (c.min-len.ensures ∙ (λ i. min (size i) (c.len.ensures i))) e.bytes
    in
    goes does c.turn_laws.ensures s inputs (outside c.args.desk.now) (outside c.next.new.desk) told
    c.next.ensures.others c.next.ensures.rest.written
    (after_entry s (does.packet s.mind bytes) (3 + len)) (3 + len) (does.packet_text s.mind bytes)
    (packet_is does s inputs e.few len bytes e.is bytes_are) (outside c.packet.new.desk)
    (LogStands g.C.LogCommand.stands (record {
      command = c.packet.new.self;
      reader = c.next.new.self;
      buffer = with_items m.buffer c.next.new.buf;
    }))
    (record {
      mind = c.packet.ensures.stands s.mind stands.mind;
      at = e.next_at;
      entries = e.next_count;
    })
    e.gone c.packet.ensures.rest.left (c.in_ok-packet-in-Packet.ensures.ok s.mind stands.mind)

pub returns-then-plays-ge-MAX_PLAYS-clause-gives : goal.returns-then-plays-ge-MAX_PLAYS-clause-gives
returns-then-plays-ge-MAX_PLAYS-clause-gives g c = λ s inputs stands told.
    let outside = g.D.Desk.outside in
    let does = g.C.LogCommand.rules in
    let m = c.args.self.now in
    let e = entered does.side s m.reader c.next.new.self c.in-Some.at c.in-Some.entry c.in-Some.entry
    (inputs Events) c.next.new.buf _ c.in_ok-at.field-0 stands.at stands.entries c.requires.side
    c.next.ensures.is_in c.in-Some.is refl
    (c.in_ok-at.ensures.gives (inputs Events) (told Events refl)) c.in_ok-at.ensures.moves
    in
    let all : 1048576 ≤ does.plays s.mind = subst (λ (n : ℕ). 1048576 ≤ n) (c.plays.ensures.is s.mind stands.mind)
    c.if-plays-ge-MAX_PLAYS.true in
    refuses does c.turn_laws.ensures s inputs (outside c.args.desk.now) (outside c.next.new.desk) told
    c.next.ensures.others c.next.ensures.rest.written
    (LogRefused (TooMany c.in-Some.at))
    (all_played does s inputs e.few c.in-Some.entry c.in_default-entry.not-Packet e.is all
    ∙ ap (λ (n : ℕ). refused_log (TooMany n)) e.place)

pub returns-in_err-other-in_default-entry-clause-gives : goal.returns-in_err-other-in_default-entry-clause-gives
returns-in_err-other-in_default-entry-clause-gives g c = λ s inputs stands told.
    let outside = g.D.Desk.outside in
    let does = g.C.LogCommand.rules in
    let m = c.args.self.now in
    let e = entered does.side s m.reader c.next.new.self c.in-Some.at c.in-Some.entry c.in-Some.entry
    (inputs Events) c.next.new.buf _ c.in_ok-at.field-0 stands.at stands.entries c.requires.side
    c.next.ensures.is_in c.in-Some.is refl
    (c.in_ok-at.ensures.gives (inputs Events) (told Events refl)) c.in_ok-at.ensures.moves
    in
    let entry = c.in-Some.entry in
    let bytes = take c.min-len.result c.deref.result.now in
    let bytes_are : bytes ≡ take (entry_size entry) (drop 3 (inputs Events)) =
    front_is m.buffer c.deref.result.now c.next.new.buf _ (entry_size entry) _ c.deref.ensures.value (c.next.auto.buf
    ∙ c.deref_mut.ensures.len) (c.min-len.ensures ∙ (λ i. min (c.len_of.ensures i) (c.len.ensures i))) e.bytes
    in
    let more : does.plays s.mind < 1048576 = subst (λ (n : ℕ). n < 1048576) (c.plays.ensures.is s.mind stands.mind)
    c.if-plays-ge-MAX_PLAYS.false in
    turn_cut c.from_residual-in_err-other-in_default-entry.result (log_step does s inputs) _ _ true inputs
    (outside c.args.desk.now) (outside c.other.new.desk) c.in_err-other-in_default-entry.field-0.0
    c.from_residual-in_err-other-in_default-entry.ensures.1 c.in_err-other-in_default-entry.ensures.kind
    (cut does c.turn_laws.ensures s inputs (outside c.args.desk.now) (outside c.next.new.desk) told
    c.next.ensures.others c.next.ensures.rest.written
    (after_entry s (does.other s.mind bytes) (3 + entry_size entry)) (3 + entry_size entry)
    (does.other_text s.mind bytes)
    (other_is does s inputs e.few entry c.in_default-entry.not-Packet e.is bytes bytes_are more)
    (outside c.other.new.desk) (c.in_err-other-in_default-entry.ensures.err s.mind stands.mind))

pub returns-in_ok-other-in_default-entry-clause-gives : goal.returns-in_ok-other-in_default-entry-clause-gives
returns-in_ok-other-in_default-entry-clause-gives g c = λ s inputs stands told.
    let outside = g.D.Desk.outside in
    let does = g.C.LogCommand.rules in
    let m = c.args.self.now in
    let e = entered does.side s m.reader c.next.new.self c.in-Some.at c.in-Some.entry c.in-Some.entry
    (inputs Events) c.next.new.buf _ c.in_ok-at.field-0 stands.at stands.entries c.requires.side
    c.next.ensures.is_in c.in-Some.is refl
    (c.in_ok-at.ensures.gives (inputs Events) (told Events refl)) c.in_ok-at.ensures.moves
    in
    let entry = c.in-Some.entry in
    let bytes = take c.min-len.result c.deref.result.now in
    let bytes_are : bytes ≡ take (entry_size entry) (drop 3 (inputs Events)) =
    front_is m.buffer c.deref.result.now c.next.new.buf _ (entry_size entry) _ c.deref.ensures.value (c.next.auto.buf
    ∙ c.deref_mut.ensures.len) (c.min-len.ensures ∙ (λ i. min (c.len_of.ensures i) (c.len.ensures i))) e.bytes
    in
    let more : does.plays s.mind < 1048576 = subst (λ (n : ℕ). n < 1048576) (c.plays.ensures.is s.mind stands.mind)
    c.if-plays-ge-MAX_PLAYS.false in
    goes does c.turn_laws.ensures s inputs (outside c.args.desk.now) (outside c.next.new.desk) told
    c.next.ensures.others c.next.ensures.rest.written
    (after_entry s (does.other s.mind bytes) (3 + entry_size entry)) (3 + entry_size entry)
    (does.other_text s.mind bytes)
    (other_is does s inputs e.few entry c.in_default-entry.not-Packet e.is bytes bytes_are more)
    (outside c.other.new.desk)
    (LogStands g.C.LogCommand.stands (record {
      command = c.other.new.self;
      reader = c.next.new.self;
      buffer = with_items m.buffer c.next.new.buf;
    }))
    (record {
      mind = c.other.ensures.stands s.mind stands.mind;
      at = e.next_at;
      entries = e.next_count;
    })
    e.gone c.other.ensures.rest.left (c.in_ok-other-in_default-entry.ensures.ok s.mind stands.mind)

pub close-requires : goal.close-requires
close-requires g c =
    let m = c.args.self.now in
    ready_after (g.C.LogCommand.ready m.command) 16777216 m.reader.entries _ _ c.next.ensures.was_in.few
    c.next.ensures.rest.attached c.requires.command

pub packet-requires : goal.packet-requires
packet-requires g c =
    let m = c.args.self.now in
    let v = moved c.in_ok-at.field-0 (Some (c.in-Some.at, c.in-Some.entry)) m.reader c.next.new.self c.in-Some.is
    c.in_ok-at.ensures.moves in
    let n = v.2 in
    let few = c.next.ensures.is_in.few in
    ready_after (g.C.LogCommand.ready m.command) 16777215 m.reader.entries _ _
    (omega (arith, n, few)) c.next.ensures.rest.attached c.requires.command

pub other-requires-clause-ready : goal.other-requires-clause-ready
other-requires-clause-ready g c =
    let m = c.args.self.now in
    let v = moved c.in_ok-at.field-0 (Some (c.in-Some.at, c.in-Some.entry)) m.reader c.next.new.self c.in-Some.is
    c.in_ok-at.ensures.moves in
    let n = v.2 in
    let few = c.next.ensures.is_in.few in
    ready_after (g.C.LogCommand.ready m.command) 16777215 m.reader.entries _ _
    (omega (arith, n, few)) c.next.ensures.rest.attached c.requires.command

pub returns-in_ok-packet-in-Packet-clause-ready : goal.returns-in_ok-packet-in-Packet-clause-ready
returns-in_ok-packet-in-Packet-clause-ready g c =
    let ready = g.C.LogCommand.ready in
    let outside = g.D.Desk.outside in
    let m = c.args.self.now in
    let v = moved c.in_ok-at.field-0 (Some (c.in-Some.at, c.in-Some.entry)) m.reader c.next.new.self c.in-Some.is
    c.in_ok-at.ensures.moves in
    record {
      events = ap (λ (attached : Role → Bool). attached Events) (c.packet.ensures.rest.attached
          ∙ c.next.ensures.rest.attached) ∙ c.requires.events;
      command = subst (λ (n : ℕ). ready c.packet.new.self n (outside c.packet.new.desk).attached) (sym v.2)
          (c.packet.ensures.ready m.reader.entries
          (subst (λ (attached : Role → Bool). ready m.command m.reader.entries attached)
          (sym c.next.ensures.rest.attached) c.requires.command));
      buffer = still_long m.buffer c.next.new.buf (c.next.auto.buf ∙ c.deref_mut.ensures.len) c.requires.buffer;
      side = v.1 ∙ c.requires.side;
    }

pub returns-in_ok-other-in_default-entry-clause-ready : goal.returns-in_ok-other-in_default-entry-clause-ready
returns-in_ok-other-in_default-entry-clause-ready g c =
    let ready = g.C.LogCommand.ready in
    let outside = g.D.Desk.outside in
    let m = c.args.self.now in
    let v = moved c.in_ok-at.field-0 (Some (c.in-Some.at, c.in-Some.entry)) m.reader c.next.new.self c.in-Some.is
    c.in_ok-at.ensures.moves in
    record {
      events = ap (λ (attached : Role → Bool). attached Events) (c.other.ensures.rest.attached
          ∙ c.next.ensures.rest.attached) ∙ c.requires.events;
      command = subst (λ (n : ℕ). ready c.other.new.self n (outside c.other.new.desk).attached) (sym v.2)
          (c.other.ensures.ready m.reader.entries
          (subst (λ (attached : Role → Bool). ready m.command m.reader.entries attached)
          (sym c.next.ensures.rest.attached) c.requires.command));
      buffer = still_long m.buffer c.next.new.buf (c.next.auto.buf ∙ c.deref_mut.ensures.len) c.requires.buffer;
      side = v.1 ∙ c.requires.side;
    }
