-- One event of a party, by its kind: what is done, or which refusal ends the run.
use Rattle.std.proofs.Common.{◌≡◌, length, None, Err, refl, ap}
use Rattle.h263_outside.specs.declared.desk.Role.TheVariants.{Events}
use Rattle.loss_trace.specs.declared.event.Event.TheVariants as says
use Rattle.call_report.specs.declared.status.Status.TheVariants.{TraceRefused}
use Rattle.call_model.specs.IdealCall.{Send, Deliver, Play}
use Rattle.call_model.specs.Refusals.{NotSaid}
use Rattle.one_way.specs.declared.refusals.EventRefusal.TheVariants as told
use Rattle.loss_trace.specs.declared.fault.TraceFault.TheVariants as faults
use Rattle.duplex_call.specs.Duplex.{with_delivery, with_play}
use Rattle.duplex_ends.specs.Pair.{MayHappenToParty}
use Rattle.duplex_ends.specs.Ways.{sides, with_whole}
use Rattle.duplex_command.specs.declared.station.Station.{Station}
use Rattle.duplex_command.specs.Duplex.{party_refusal}
use Rattle.duplex_command.specs.Standing.{StationsStand}
use Rattle.duplex_command.proofs.Doing.{delivery_done, event_cut, event_done, event_goes, frame_asked, is_in_call, line_stops, may_happen, may_so, none_so, one_left, play_cut, play_goes, stands_event, station_kept}
use Rattle.duplex_command.proofs.event.party_turn.Goals as goal

pub returns-in-Nothing : goal.returns-in-Nothing
returns-in-Nothing g c =
    let old = g.D.Desk.outside c.args.desk.now in
    let own = c.args.own.now in
    let far = c.args.far.now in
    let said = c.args.said in
    let x = said.party in
    event_done x own far own far said.line (length c.args.frame.now) said.event says.Nothing old old c.in-Nothing.is
    c.requires.ready (c.turning.ensures.steps.none old)
    (λ trace o s inputs b. event_goes x own far said.line trace o old s inputs b c.turning.ensures.turns own far
    says.Nothing s.ways refl refl refl b.stood.holds)

-- no message comes back by a line
pub returns-in-Back : goal.returns-in-Back
returns-in-Back g c =
    let said = c.args.said in
    line_stops said.party c.args.own.now c.args.far.now said.line (length c.args.frame.now) said.event
    (says.Back c.in-Back.message) _ (TraceRefused (faults.NotSaid said.line)) (Err told.NotSaid)
    (g.D.Desk.outside c.args.desk.now) c.in-Back.is refl
    refl c.turning.ensures.lines c.turning.ensures.steps
    (λ trace o s inputs b. (NotSaid, refl, refl))

-- ---- a frame

pub check_send-requires : goal.check_send-requires
check_send-requires g c = is_in_call c.args.own.now.ends c.args.far.now.ends c.requires.ready.ends

pub returns-in_err-allow-in-Send : goal.returns-in_err-allow-in-Send
returns-in_err-allow-in-Send g c =
    let own = c.args.own.now in
    let far = c.args.far.now in
    let said = c.args.said in
    let x = said.party in
    line_stops x own far said.line (length c.args.frame.now) said.event says.Send _ c.in_err-allow-in-Send.field-0.0
    c.check_send.result (g.D.Desk.outside c.args.desk.now) c.in-Send.is c.from_residual.ensures.1
    c.in_err-allow-in-Send.ensures.err c.turning.ensures.lines c.turning.ensures.steps
    (λ trace o s inputs b. c.check_send.ensures.refusal s.params x far.ends s.ways b.stood.holds)

pub send_frame-requires-clause-held : goal.send_frame-requires-clause-held
send_frame-requires-clause-held g c = is_in_call c.args.own.now.ends c.args.far.now.ends c.requires.ready.ends

pub returns-in_ok-allow-in-Send : goal.returns-in_ok-allow-in-Send
returns-in_ok-allow-in-Send g c =
    let outside = g.D.Desk.outside in
    let own = c.args.own.now in
    let far = c.args.far.now in
    let said = c.args.said in
    let x = said.party in
    let room = length c.args.frame.now in
    let may : MayHappenToParty own.ends far.ends Send = may_so c.check_send.result c.in_ok-allow-in-Send.ensures.ok
    (c.check_send.ensures.may far.ends c.requires.ready.ends) in
    frame_asked x own far c.send_frame.new.own said.line room said.event c.send_frame.result (outside c.args.desk.now)
    (outside c.send_frame.new.desk) c.in-Send.is
    (c.send_frame.ensures far room (record { stations = c.requires.ready; may = may }))
    (λ trace o s inputs b. none_so c.check_send.result Send _ c.in_ok-allow-in-Send.ensures.ok
    (c.check_send.ensures.refusal s.params x far.ends s.ways b.stood.holds))

-- ---- packets

pub returns-in_err-allow-in-Packet : goal.returns-in_err-allow-in-Packet
returns-in_err-allow-in-Packet g c =
    let own = c.args.own.now in
    let far = c.args.far.now in
    let said = c.args.said in
    let x = said.party in
    line_stops x own far said.line (length c.args.frame.now) said.event
    (says.Packet c.in-Packet.number c.in-Packet.place) _ c.in_err-allow-in-Packet.field-0.0 c.check_delivery.result
    (g.D.Desk.outside c.args.desk.now) c.in-Packet.is c.from_residual-in_err-allow-in-Packet.ensures.1
    c.in_err-allow-in-Packet.ensures.err c.turning.ensures.lines c.turning.ensures.steps
    (λ trace o s inputs b. c.check_delivery.ensures.refusal s.params x s.ways (one_left s.params x s.ways)
    c.in-Packet.place b.stood.holds)

pub returns-in_err-allow-in-All : goal.returns-in_err-allow-in-All
returns-in_err-allow-in-All g c =
    let own = c.args.own.now in
    let far = c.args.far.now in
    let said = c.args.said in
    let x = said.party in
    line_stops x own far said.line (length c.args.frame.now) said.event (says.All c.in-All.number)
    _ c.in_err-allow-in-All.field-0.0 c.check_delivery-in-All.result (g.D.Desk.outside c.args.desk.now) c.in-All.is
    c.from_residual-in_err-allow-in-All.ensures.1
    c.in_err-allow-in-All.ensures.err c.turning.ensures.lines c.turning.ensures.steps
    (λ trace o s inputs b. c.check_delivery-in-All.ensures.refusal s.params x s.ways (one_left s.params x s.ways) 0
    b.stood.holds)

pub deliver-requires : goal.deliver-requires
deliver-requires g c = may_so c.check_delivery.result c.in_ok-allow-in-Packet.ensures.ok
    (c.check_delivery.ensures.may c.in-Packet.place)

pub returns-in_ok-allow-in-Packet : goal.returns-in_ok-allow-in-Packet
returns-in_ok-allow-in-Packet g c =
    let said = c.args.said in
    let x = said.party in
    let n = c.in-Packet.number in
    let j = c.in-Packet.place in
    let done = c.deliver in
    delivery_done x c.args.own.now c.args.far.now done.new.own done.new.far said.line (length c.args.frame.now)
    said.event (says.Packet n j) n j (g.D.Desk.outside c.args.desk.now)
    c.turning.ensures.turns c.turning.ensures.steps c.turning.ensures.refused c.in-Packet.is c.requires.ready
    done.ensures.ready done.ensures.keeps
    (λ p ways. with_delivery (sides p) x n j ways) (λ s inputs. refl)
    (λ s held. none_so c.check_delivery.result (Deliver n j) _ c.in_ok-allow-in-Packet.ensures.ok
    (c.check_delivery.ensures.refusal s.params x s.ways (one_left s.params x s.ways) j held))
    (λ p ways left. done.ensures.holds p x ways left)

pub deliver_all-requires : goal.deliver_all-requires
deliver_all-requires g c = may_so c.check_delivery-in-All.result c.in_ok-allow-in-All.ensures.ok
    (c.check_delivery-in-All.ensures.may 0)

pub returns-in_ok-allow-in-All : goal.returns-in_ok-allow-in-All
returns-in_ok-allow-in-All g c =
    let said = c.args.said in
    let x = said.party in
    let n = c.in-All.number in
    let done = c.deliver_all in
    delivery_done x c.args.own.now c.args.far.now done.new.own done.new.far said.line (length c.args.frame.now)
    said.event (says.All n) n 0 (g.D.Desk.outside c.args.desk.now)
    c.turning.ensures.turns c.turning.ensures.steps c.turning.ensures.refused c.in-All.is c.requires.ready
    done.ensures.ready done.ensures.keeps
    (λ p ways. with_whole p x n ways) (λ s inputs. refl)
    (λ s held. none_so c.check_delivery-in-All.result (Deliver n 0) _ c.in_ok-allow-in-All.ensures.ok
    (c.check_delivery-in-All.ensures.refusal s.params x s.ways (one_left s.params x s.ways) 0 held))
    (λ p ways left. done.ensures.holds p x ways left)

-- ---- a play

pub check_play-requires : goal.check_play-requires
check_play-requires g c = is_in_call c.args.own.now.ends c.args.far.now.ends c.requires.ready.ends

pub returns-in_err-allow-in-Play : goal.returns-in_err-allow-in-Play
returns-in_err-allow-in-Play g c =
    let own = c.args.own.now in
    let far = c.args.far.now in
    let said = c.args.said in
    let x = said.party in
    line_stops x own far said.line (length c.args.frame.now) said.event says.Play _ c.in_err-allow-in-Play.field-0.0
    c.check_play.result (g.D.Desk.outside c.args.desk.now) c.in-Play.is
    c.from_residual-in_err-allow-in-Play.ensures.1
    c.in_err-allow-in-Play.ensures.err c.turning.ensures.lines c.turning.ensures.steps
    (λ trace o s inputs b. c.check_play.ensures.refusal s.params x far.ends s.ways (one_left s.params x s.ways)
    b.stood.holds)

pub play_next-requires-clause-near : goal.play_next-requires-clause-near
play_next-requires-clause-near g c = may_so c.check_play.result c.in_ok-allow-in-Play.ensures.ok
    (c.check_play.ensures.may c.args.far.now.ends c.requires.ready.ends)

pub returns-in_err-play_next-in-Play : goal.returns-in_err-play_next-in-Play
returns-in_err-play_next-in-Play g c =
    let outside = g.D.Desk.outside in
    let old = outside c.args.desk.now in
    let new = outside c.play_next.new.desk in
    let own = c.args.own.now in
    let far = c.args.far.now in
    let said = c.args.said in
    let x = said.party in
    let own_new : Station = record own { ends = c.play_next.new.own } in
    let far_new : Station = record far { ends = c.play_next.new.far } in
    let failed = c.in_err-play_next-in-Play in
    event_cut x own far own_new far_new said.line (length c.args.frame.now) said.event says.Play old new c.in-Play.is
    c.from_residual-in_err-play_next-in-Play.result failed.field-0.0 c.from_residual-in_err-play_next-in-Play.ensures.1
    failed.ensures.kind failed.ensures.cause (c.turning.ensures.steps.writes old new c.play_next.ensures.rest)
    (λ trace o s inputs b.
    let none : party_refusal x s Play ≡ None =
    none_so c.check_play.result Play _ c.in_ok-allow-in-Play.ensures.ok
    (c.check_play.ensures.refusal s.params x far.ends s.ways (one_left s.params x s.ways) b.stood.holds)
    in
    play_cut x own far said.line trace o old s inputs b new c.play_next.ensures.rest.left none
    (failed.ensures.err s.params s.ways (one_left s.params x s.ways) b.stood.holds
    (may_happen c.turning.ensures.refused s.params x s.ways Play none)))

pub returns-in_ok-play_next-in-Play : goal.returns-in_ok-play_next-in-Play
returns-in_ok-play_next-in-Play g c =
    let outside = g.D.Desk.outside in
    let old = outside c.args.desk.now in
    let new = outside c.play_next.new.desk in
    let own = c.args.own.now in
    let far = c.args.far.now in
    let said = c.args.said in
    let x = said.party in
    let room = length c.args.frame.now in
    let r = c.requires.ready in
    let done = c.play_next.ensures in
    let own_new : Station = record own { ends = c.play_next.new.own } in
    let far_new : Station = record far { ends = c.play_next.new.far } in
    event_done x own far own_new far_new said.line room said.event says.Play old new c.in-Play.is
    (record {
      own_ready = station_kept own c.play_next.new.own room r.own_ready done.keeps.own_params
          (ap (λ s. s.sent) done.keeps.own_sender);
      far_ready = station_kept far c.play_next.new.far room r.far_ready done.keeps.far_params
          (ap (λ s. s.sent) done.keeps.far_sender);
      ends = done.ready;
    })
    (c.turning.ensures.steps.writes old new done.rest)
    (λ trace o s inputs b.
    let none : party_refusal x s Play ≡ None =
    none_so c.check_play.result Play _ c.in_ok-allow-in-Play.ensures.ok
    (c.check_play.ensures.refusal s.params x far.ends s.ways (one_left s.params x s.ways) b.stood.holds)
    in
    let may = may_happen c.turning.ensures.refused s.params x s.ways Play none in
    play_goes x own far said.line trace o old s inputs b new done.rest.left none
    (λ next rest. StationsStand x own_new far_new trace next (rest Events))
    (stands_event x own far said.line trace o old s inputs b own_new far_new (with_play (sides s.params) x s.ways) refl
    refl (done.holds s.params x s.ways (one_left s.params x s.ways) b.stood.holds may))
    (c.in_ok-play_next-in-Play.ensures.ok s.params s.ways (one_left s.params x s.ways) b.stood.holds may))
