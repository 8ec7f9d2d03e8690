-- One event of a trace, by its kind: what is done, or which refusal ends the run.
use Rattle.std.proofs.Common.{◌≡◌, ℕ, ◌<◌, List, ◌∷◌, ◌++◌, length, None, Result, Ok, Err, OnOk, refl, ap, subst, ◌∙◌, arith}
use Rattle.h263_types.specs.declared.params.Params.{Params}
use Rattle.h263_types.specs.declared.pace.FixedPace.{FixedPace}
use Rattle.loss_trace.specs.declared.event.Event.TheVariants as says
use Rattle.call_model.specs.IdealCall.{Deliver, Back, Play, Send, slices_at}
use Rattle.call_encoding.specs.Frames.{Frame}
use Rattle.one_way.specs.declared.refusals.EventRefusal.{EventRefusal}
use Rattle.one_way.specs.Refused.{refusal_after}
use Rattle.one_way.specs.Trace.{delivered}
use Rattle.one_way.specs.Way.{HoldsNetwork}
use Rattle.call_command.specs.declared.link.Link.{Link}
use Rattle.call_command.specs.Call.{by_ends}
use Rattle.call_command.specs.Standing.{HasDone, PartsStand, call_parts}
use Rattle.call_command.specs.Refused.{IsNotRefused}
use Rattle.call_command.specs.Turning.{Names, names_of}
use Rattle.call_command.proofs.AfterTurn.{asks_frame, count_same, done_here, event_goes, line_goes_on, line_stops, line_was_cut, none_so, message_is, packet_is, packets_is, play_cut, play_goes, refusal_here, stands_event}
use Rattle.call_command.proofs.Delivering.{delivered_goes_on}
use Rattle.call_command.proofs.Readying.{few_mbs, ready_so}
use Rattle.call_command.proofs.world.World.event_turn.Goals as goal

-- a play that is not refused is behind what was sent
ahead_so : (r : Result Unit EventRefusal) (played sent : ℕ) → IsNotRefused r → OnOk r (played < sent) → played < sent
ahead_so (Ok u) played sent free ahead = ahead
ahead_so (Err told) played sent free ahead = absurd free

pub returns-in-Nothing : goal.returns-in-Nothing
returns-in-Nothing g c =
    let old = g.D.Desk.outside c.args.desk.now in
    let m = c.args.self.now in
    let x = call_parts m in
    let r = c.requires.ready in
    line_goes_on m _ c.args.line c.args.event says.Nothing old old c.in-Nothing.is refl refl r
    (c.turning.ensures.steps.none old)
    (λ o s inputs b. event_goes x s inputs b.stood x.sender x.receiver x.link refl refl c.turning.ensures.turns o old
    b.taken says.Nothing s.past refl b.stood.holds)

-- ---- a frame

pub returns-in_err-allow-in-Send : goal.returns-in_err-allow-in-Send
returns-in_err-allow-in-Send g c =
    let old = g.D.Desk.outside c.args.desk.now in
    let m = c.args.self.now in
    let p = m.terms.params in
    line_stops m c.args.line c.args.event says.Send _ c.in_err-allow-in-Send.field-0.0 c.check_capture.result old
    c.in-Send.is c.from_residual.ensures.1 c.in_err-allow-in-Send.ensures.err
    c.requires.recorded c.turning.ensures.turns c.turning.ensures.steps
    (λ o s inputs b. c.check_capture.ensures p s.before s.frames s.past c.half-half.ensures
    (done_here (call_parts m) s inputs b.stood).way_holds.joined)

pub returns-in_ok-allow-in-Send : goal.returns-in_ok-allow-in-Send
returns-in_ok-allow-in-Send g c =
    let outside = g.D.Desk.outside in
    let m = c.args.self.now in
    let x = call_parts m in
    asks_frame m _ c.args.line c.args.event c.send_frame.result (outside c.args.desk.now)
    (outside c.send_frame.new.desk) c.in-Send.is c.send_frame.ensures
    (λ o s inputs b.
    refusal_here x s inputs b.stood Send ∙ none_so c.check_capture.result Send _ c.in_ok-allow-in-Send.ensures.ok
    (c.check_capture.ensures x.terms.params s.before s.frames s.past c.half-half.ensures
    (done_here x s inputs b.stood).way_holds.joined))

-- ---- a packet

pub returns-in_err-allow-in-Packet : goal.returns-in_err-allow-in-Packet
returns-in_err-allow-in-Packet g c =
    let old = g.D.Desk.outside c.args.desk.now in
    let m = c.args.self.now in
    let p = m.terms.params in
    line_stops m c.args.line c.args.event (says.Packet c.in-Packet.number c.in-Packet.place)
    _ c.in_err-allow-in-Packet.field-0.0 c.check_packet.result old c.in-Packet.is
    c.from_residual-in_err-allow-in-Packet.ensures.1 c.in_err-allow-in-Packet.ensures.err
    c.requires.recorded c.turning.ensures.turns c.turning.ensures.steps
    (λ o s inputs b. c.check_packet.ensures p s.before s.frames s.past c.in-Packet.place c.half-half.ensures
    (done_here (call_parts m) s inputs b.stood).way_holds.joined)

pub returns-in_err-allow-in-All : goal.returns-in_err-allow-in-All
returns-in_err-allow-in-All g c =
    let old = g.D.Desk.outside c.args.desk.now in
    let m = c.args.self.now in
    let p = m.terms.params in
    line_stops m c.args.line c.args.event (says.All c.in-All.number) _ c.in_err-allow-in-All.field-0.0
    c.check_packet-in-All.result old c.in-All.is c.from_residual-in_err-allow-in-All.ensures.1
    c.in_err-allow-in-All.ensures.err
    c.requires.recorded c.turning.ensures.turns c.turning.ensures.steps
    (λ o s inputs b. c.check_packet-in-All.ensures p s.before s.frames s.past 0 c.half-half.ensures
    (done_here (call_parts m) s inputs b.stood).way_holds.joined)

pub returns-in_ok-allow-in-Packet : goal.returns-in_ok-allow-in-Packet
returns-in_ok-allow-in-Packet g c =
    let m = c.args.self.now in
    let p = m.terms.params in
    let r = c.requires.ready in
    let n = c.in-Packet.number in
    let j = c.in-Packet.place in
    let done = c.deliver in
    delivered_goes_on m _ c.args.line c.args.event (says.Packet n j) n j (g.D.Desk.outside c.args.desk.now)
    done.new.self done.new.receiver (λ s. Deliver n j ∷ s.past) c.in-Packet.is refl refl
    r c.requires.recorded done.ensures.way done.ensures.played (omega (arith, done.ensures.few, c.requires.room))
    (c.turning.ensures.near p r.opens.params) c.turning.ensures.turns c.turning.ensures.steps
    (λ s inputs k. packet_is (call_parts m) s inputs k n j)
    (λ s frames begun h. none_so c.check_packet.result (Deliver n j) _ c.in_ok-allow-in-Packet.ensures.ok
    (c.check_packet.ensures p s.before frames s.past j c.half-half.ensures h.way_holds.joined))
    (λ s inputs k later may. done.ensures.holds p m.sender.now s.before (s.frames ++ later) s.past
    (k.holds later) may.0 may.1)

pub returns-in_ok-allow-in-All : goal.returns-in_ok-allow-in-All
returns-in_ok-allow-in-All g c =
    let m = c.args.self.now in
    let x = call_parts m in
    let p = x.terms.params in
    let r = c.requires.ready in
    let n = c.in-All.number in
    let done = c.deliver_all in
    delivered_goes_on m _ c.args.line c.args.event (says.All n) n 0 (g.D.Desk.outside c.args.desk.now) done.new.self
    done.new.receiver (λ s. delivered n (length (slices_at (by_ends s).coded n)) ++ s.past) c.in-All.is refl refl
    r c.requires.recorded done.ensures.way done.ensures.played (omega (
      arith,
      done.ensures.few,
      c.requires.room,
      r.can.most,
      few_mbs x.sender.params.format,
    )) (c.turning.ensures.near p r.opens.params) c.turning.ensures.turns
    c.turning.ensures.steps
    (λ s inputs k. packets_is x s inputs k n)
    (λ s frames begun h. none_so c.check_packet-in-All.result (Deliver n 0) _ c.in_ok-allow-in-All.ensures.ok
    (c.check_packet-in-All.ensures p s.before frames s.past 0 c.half-half.ensures h.way_holds.joined))
    (λ s inputs k later may.
    subst (λ (count : ℕ). HoldsNetwork p done.new.self x.sender done.new.receiver s.before (s.frames
    ++ later) (delivered n count ++ s.past)) (count_same x s inputs k (c.turning.ensures.later p) n later)
    (done.ensures.holds p x.sender s.before (s.frames ++ later) s.past (k.holds later) may.0 may.1))

-- ---- a message

pub returns-in_err-allow-in-Back : goal.returns-in_err-allow-in-Back
returns-in_err-allow-in-Back g c =
    let old = g.D.Desk.outside c.args.desk.now in
    let m = c.args.self.now in
    let p = m.terms.params in
    line_stops m c.args.line c.args.event (says.Back c.in-Back.message) _ c.in_err-allow-in-Back.field-0.0
    c.check_back.result old c.in-Back.is c.from_residual-in_err-allow-in-Back.ensures.1
    c.in_err-allow-in-Back.ensures.err
    c.requires.recorded c.turning.ensures.turns c.turning.ensures.steps
    (λ o s inputs b. c.check_back.ensures p m.receiver.now s.before s.frames s.past c.requires.ready.opens.params
    c.half-half.ensures b.stood.begun (done_here (call_parts m) s inputs b.stood))

pub returns-in_ok-allow-in-Back : goal.returns-in_ok-allow-in-Back
returns-in_ok-allow-in-Back g c =
    let old = g.D.Desk.outside c.args.desk.now in
    let m = c.args.self.now in
    let x = call_parts m in
    let p = x.terms.params in
    let r = c.requires.ready in
    let k = c.in-Back.message in
    let done = c.bring_back in
    let sender = done.new.sender in
    line_goes_on m _ c.args.line c.args.event (says.Back k) old old c.in-Back.is
    (ap (λ (q : FixedPace). let names : Names = record (names_of m) { pace = q } in names) done.ensures.same.pace) refl
    (ready_so x old.attached old.attached r refl x.video sender x.receiver x.link refl done.ensures.same.params
    (done.ensures.ready r.can) refl
    (omega (arith, r.sent, done.ensures.sent)) (omega (arith, r.played, done.ensures.sent))
    (λ plain. absurd (cc (plain, c.requires.recorded))) r.frame (λ plain. absurd (cc (plain, c.requires.recorded)))
    r.few r.counted (omega (arith, c.requires.room, done.ensures.sent)))
    (c.turning.ensures.steps.none old)
    (λ o s inputs b.
    let stood = b.stood in
    let near_laws = c.turning.ensures.near p r.opens.params in
    let none : (frames : List Frame) → HasDone x s.before frames s.past
    → refusal_after p s.before frames s.past (Back k) ≡ None =
    λ frames h. none_so c.check_back.result (Back k) _ c.in_ok-allow-in-Back.ensures.ok
    (c.check_back.ensures p m.receiver.now s.before frames s.past r.opens.params c.half-half.ensures stood.begun h)
    in
    event_goes x s inputs stood sender x.receiver x.link refl done.ensures.sent c.turning.ensures.turns o old b.taken
    (says.Back k) (Back k ∷ s.past)
    (message_is x s inputs stood k (none s.frames (done_here x s inputs stood)))
    (λ later.
    let frames = s.frames ++ later in
    let h = stood.holds later in
    done.ensures.holds p x.receiver s.before frames s.past r.opens.params (r.can.quant_is
    ∙ ap (λ (q : Params). q.quant) r.sender_params) stood.begun h
    (near_laws.back s.before frames s.past k (none frames h))))

-- ---- a play

pub returns-in_err-allow-in-Play : goal.returns-in_err-allow-in-Play
returns-in_err-allow-in-Play g c =
    let old = g.D.Desk.outside c.args.desk.now in
    let m = c.args.self.now in
    let p = m.terms.params in
    line_stops m c.args.line c.args.event says.Play _ c.in_err-allow-in-Play.field-0.0 c.check_play.result old
    c.in-Play.is c.from_residual-in_err-allow-in-Play.ensures.1 c.in_err-allow-in-Play.ensures.err
    c.requires.recorded c.turning.ensures.turns c.turning.ensures.steps
    (λ o s inputs b. c.check_play.ensures.refusal p s.before s.frames s.past
    (done_here (call_parts m) s inputs b.stood).way_holds.joined)

pub returns-in_err-play_next-in-Play : goal.returns-in_err-play_next-in-Play
returns-in_err-play_next-in-Play g c =
    let outside = g.D.Desk.outside in
    let old = outside c.args.desk.now in
    let new = outside c.play_next.new.desk in
    let m = c.args.self.now in
    let x = call_parts m in
    let p = x.terms.params in
    let r = c.requires.ready in
    line_was_cut m _ c.args.line c.args.event says.Play c.from_residual-in_err-play_next-in-Play.result
    c.in_err-play_next-in-Play.field-0.0 old new c.in-Play.is c.from_residual-in_err-play_next-in-Play.ensures.1
    refl
    c.in_err-play_next-in-Play.ensures.kind c.in_err-play_next-in-Play.ensures.cause
    (c.turning.ensures.steps.writes old new c.play_next.ensures.rest)
    (λ o s inputs b.
    let k = b.stood in
    let h = done_here x s inputs k in
    let near_laws = c.turning.ensures.near p r.opens.params in
    let none : refusal_after p s.before s.frames s.past Play ≡ None =
    none_so c.check_play.result Play _ c.in_ok-allow-in-Play.ensures.ok
    (c.check_play.ensures.refusal p s.before s.frames s.past h.way_holds.joined)
    in
    play_cut x s inputs k (c.turning.ensures.way p) o old new b.taken c.play_next.ensures.rest.left none
    (c.in_err-play_next-in-Play.ensures.err p x.sender s.before s.frames s.past k.begun h
    (near_laws.play s.before s.frames s.past none)))

pub returns-in_ok-play_next-in-Play : goal.returns-in_ok-play_next-in-Play
returns-in_ok-play_next-in-Play g c =
    let outside = g.D.Desk.outside in
    let old = outside c.args.desk.now in
    let new = outside c.play_next.new.desk in
    let m = c.args.self.now in
    let x = call_parts m in
    let p = x.terms.params in
    let r = c.requires.ready in
    let played = c.play_next.ensures in
    let ahead : x.receiver.played < x.sender.sent = ahead_so c.check_play.result x.receiver.played x.sender.sent
    c.in_ok-allow-in-Play.ensures.ok c.check_play.ensures.ahead in
    let link : Link = record x.link { network = c.play_next.new.network } in
    line_goes_on m _ c.args.line c.args.event says.Play old new c.in-Play.is refl refl
    (ready_so x old.attached new.attached r played.rest.attached x.video x.sender c.play_next.new.receiver link refl
    refl
    (played.way.can x.sender r.can) played.way.kept r.sent (omega (arith, played.played, ahead))
    (λ plain. absurd (cc (plain, c.requires.recorded))) r.frame (λ plain. absurd (cc (plain, c.requires.recorded)))
    r.few played.counted (omega (arith, played.few, c.requires.room)))
    (c.turning.ensures.steps.writes old new played.rest)
    (λ o s inputs b.
    let k = b.stood in
    let near_laws = c.turning.ensures.near p r.opens.params in
    let none : (frames : List Frame) → HasDone x s.before frames s.past → refusal_after p s.before frames s.past Play
    ≡ None =
    λ frames h. none_so c.check_play.result Play _ c.in_ok-allow-in-Play.ensures.ok
    (c.check_play.ensures.refusal p s.before frames s.past h.way_holds.joined)
    in
    let here = done_here x s inputs k in
    play_goes x s inputs k (c.turning.ensures.way p) o old new b.taken played.rest.left (none s.frames here)
    (PartsStand (record x { receiver = c.play_next.new.receiver; link = link }))
    (stands_event x s inputs k x.sender c.play_next.new.receiver link refl refl (Play ∷ s.past)
    (λ later. played.holds p x.sender s.before (s.frames ++ later) s.past (k.holds later)
    (near_laws.play s.before (s.frames ++ later) s.past (none (s.frames ++ later) (k.holds later)))))
    (c.in_ok-play_next-in-Play.ensures.ok p x.sender s.before s.frames s.past k.begun here
    (near_laws.play s.before s.frames s.past (none s.frames here))))

pub play_next-requires-clause-played : goal.play_next-requires-clause-played
play_next-requires-clause-played g c =
    let x = call_parts c.args.self.now in
    let ahead : x.receiver.played < x.sender.sent = ahead_so c.check_play.result x.receiver.played x.sender.sent
    c.in_ok-allow-in-Play.ensures.ok c.check_play.ensures.ahead in
    omega (arith, ahead, c.requires.ready.sent)
