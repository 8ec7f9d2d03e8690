-- One event of a receiver, by its kind: what is done, or which refusal ends the run.
use Rattle.std.proofs.Common.{◌≡◌, ◌+◌, ◌≤◌, length, Option, None, Ok, refl, ap, subst, arith}
use Rattle.h263_types.specs.Clocks.{half_of}
use Rattle.call_model.specs.IdealCall.{Deliver, Play, Back}
use Rattle.call_model.specs.JoinedRun.{SaidMessage}
use Rattle.receiver_end.specs.State.{run_of}
use Rattle.group_call.specs.Holding.{HoldsBroadcast}
use Rattle.group_call.specs.Refused.{view_refusal}
use Rattle.group_call.specs.Viewing.{coded_packets}
use Rattle.group_command.specs.declared.line.OwnEvent.TheVariants as own
use Rattle.group_command.specs.Group.{group_heard, played_texts}
use Rattle.group_command.specs.Standing.{Watches}
use Rattle.group_command.proofs.Doing.{delivery_plays, is_cast, may_play, message_kept, none_so, of_event, own_codes, places_play, refused_gives, written_gives}
use Rattle.group_command.proofs.event.own_turn.Goals as goal

pub returns-in_err-allow-in-Play-clause-gives : goal.returns-in_err-allow-in-Play-clause-gives
returns-in_err-allow-in-Play-clause-gives g c = λ p run view half period cast w.
    let old = (g.D.Desk.outside c.args.desk.now).written in
    let said = c.args.said in
    let r = c.from_residual-in_err-allow-in-Play.result in
    of_event r said.line said.place p run view (λ run view. Watches p run c.args.viewer.now view) c.args.cast.now old
    old said.event own.Play c.in-Play.is
    (refused_gives said.line Play (view_refusal p run view Play) _ (played_texts p said.place run view) old old r
    c.in_err-allow-in-Play.field-0.0 c.check_shown.result
    c.from_residual-in_err-allow-in-Play.ensures.1 c.in_err-allow-in-Play.ensures.err
    (c.check_shown.ensures.refusal p run view cast w.holds) refl)

pub returns-in_ok-allow-in-Packet-clause-gives : goal.returns-in_ok-allow-in-Packet-clause-gives
returns-in_ok-allow-in-Packet-clause-gives g c = λ p run view half period cast w.
    let old = (g.D.Desk.outside c.args.desk.now).written in
    let said = c.args.said in
    let n = c.in-Packet.number in
    let j = c.in-Packet.place in
    let none : view_refusal p run view (Deliver n j) ≡ None = none_so c.check_number.result (Deliver n j)
    _ c.in_ok-allow-in-Packet.ensures.ok (c.check_number.ensures.refusal p run view j half cast w.holds) in
    let among = is_cast p run view c.args.cast.now n j period w.near none in
    of_event (Ok tt) said.line said.place p run view (λ run view. Watches p run c.deliver.new.self view) c.args.cast.now
    old old said.event (own.Packet n j) c.in-Packet.is (
      none,
      (
        cast,
        record {
          holds = c.deliver.ensures.holds p run view cast among w.holds;
          near = omega (arith, w.near, delivery_plays p (coded_packets p run.coded n) n j view);
        },
      ),
      c.turn_laws.ensures.no_text old old refl,
    )

pub returns-in_ok-allow-in-All-clause-gives : goal.returns-in_ok-allow-in-All-clause-gives
returns-in_ok-allow-in-All-clause-gives g c = λ p run view half period cast w.
    let old = (g.D.Desk.outside c.args.desk.now).written in
    let said = c.args.said in
    let n = c.in-All.number in
    let none : view_refusal p run view (Deliver n 0) ≡ None = none_so c.check_number-in-All.result (Deliver n 0)
    _ c.in_ok-allow-in-All.ensures.ok (c.check_number-in-All.ensures.refusal p run view 0 half cast w.holds) in
    let among = is_cast p run view c.args.cast.now n 0 period w.near none in
    let packets = coded_packets p run.coded n in
    of_event (Ok tt) said.line said.place p run view (λ run view. Watches p run c.deliver_all.new.self view)
    c.args.cast.now old old said.event (own.All n) c.in-All.is (
      none,
      (
        cast,
        record {
          holds = c.deliver_all.ensures.holds p run view cast among w.holds;
          near = omega (arith, w.near, places_play p packets n (length packets) view);
        },
      ),
      c.turn_laws.ensures.no_text old old refl,
    )

pub returns-in_ok-allow-in-Back-clause-gives : goal.returns-in_ok-allow-in-Back-clause-gives
returns-in_ok-allow-in-Back-clause-gives g c = λ p run view half period cast w.
    let old = (g.D.Desk.outside c.args.desk.now).written in
    let said = c.args.said in
    let m = c.in-Back.message in
    let none : view_refusal p run view (Back m) ≡ None = none_so c.check_message.result (Back m)
    _ c.in_ok-allow-in-Back.ensures.ok (c.check_message.ensures p run view half cast w.holds) in
    of_event (Ok tt) said.line said.place p run view (λ run view. Watches p run c.args.viewer.now view) c.hear.new.cast
    old old said.event (own.Back m) c.in-Back.is (
      none,
      (
        subst (λ (o : Option SaidMessage). HoldsBroadcast p c.hear.new.cast (group_heard p said.place run view o))
            (message_kept p run view m none) (c.hear.ensures.holds p run view cast w.holds),
        record {
          holds = w.holds;
          near = omega (arith, w.near, ap (λ l. length l) (own_codes p said.place run view (own.Back m)));
        },
      ),
      c.turn_laws.ensures.no_text old old refl,
    )

pub returns-in_ok-allow-in-Play-clause-gives : goal.returns-in_ok-allow-in-Play-clause-gives
returns-in_ok-allow-in-Play-clause-gives g c = λ p run view half period cast w.
    let outside = g.D.Desk.outside in
    let old = (outside c.args.desk.now).written in
    let new = (outside c.play_next.new.desk).written in
    let said = c.args.said in
    let done = c.play_next.ensures in
    let played = (run_of p view.entries).played in
    let none : view_refusal p run view Play
    ≡ None = none_so c.check_shown.result Play _ c.in_ok-allow-in-Play.ensures.ok
    (c.check_shown.ensures.refusal p run view cast w.holds) in
    let some = may_play p run view none in
    let close : length run.coded ≤ played + 512 = omega (arith, w.near, half, c.requires.event.half_few) in
    let near : length run.coded ≤ played + 1 + half_of p.clock = omega (arith, w.near) in
    of_event c.play_next.result said.line said.place p run view (λ run view. Watches p run c.play_next.new.viewer view)
    c.args.cast.now old new said.event own.Play c.in-Play.is
    (written_gives said.line Play (view_refusal p run view Play) _ (played_texts p said.place run view) old new
    c.play_next.result none (cast, record { holds = done.holds p view w.holds; near = near })
    (done.ok p run view cast w.holds some close) (done.err p run view cast w.holds some close) done.kind)
