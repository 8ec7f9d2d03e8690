-- A frame that was read is sent to all; one that can't be read ends the run.
use Rattle.std.proofs.Common.{◌≡◌, ℕ, List, length, Bool, true, false, Ok, Err, refl, sym, ap, subst, ◌∙◌, arith}
use Rattle.std.specs.Vec.{with_items}
use Rattle.std.proofs.lemmas.List.{with_items_is}
use Rattle.h263_outside.specs.declared.desk.Role.TheVariants.{Video, Events}
use Rattle.h263_types.specs.Sizes.{size_of_picture}
use Rattle.h263_types.specs.declared.params.Params.{Params}
use Rattle.h263_planes.specs.Layout.{picture_of}
use Rattle.h263_planes.specs.Lent.{picture}
use Rattle.y4m.specs.Reader.{MovesVideo}
use Rattle.loss_trace.specs.declared.fault.TraceFault.TheVariants.{NoFrame}
use Rattle.call_report.specs.declared.status.Status.TheVariants.{TraceRefused}
use Rattle.call_report.specs.Status.{video_stop}
use Rattle.group_call.specs.Holding.{sent_in}
use Rattle.group_command.specs.declared.room.Room.{Room}
use Rattle.group_command.specs.Group.{group_capture_step}
use Rattle.group_command.specs.Standing.{GroupOpens, RoomStandsAt, viewers_in}
use Rattle.group_command.specs.Turning.{IsGroupAsked}
use Rattle.group_command.proofs.Capturing.{frame_missing, frame_sent, frame_stops, given, gives_so}
use Rattle.group_command.proofs.LineTurns.{gave_up, went_on}
use Rattle.group_command.proofs.Sending.{asked_format, asked_more, asked_place, lent, sent_stands}
use Rattle.group_command.proofs.Watching.{viewing_sent}
use Rattle.group_command.proofs.room.Room.send_frame.Goals as goal

pub returns-in_err-frame-clause-takes : goal.returns-in_err-frame-clause-takes
returns-in_err-frame-clause-takes g c =
    let outside = g.D.Desk.outside in
    let old = outside c.args.desk.now in
    let mid = outside c.frame.new.desk in
    let m = c.args.self.now in
    let line = c.args.line in
    let stop = c.in_err-frame.field-0.0 in
    let out = c.frame.new.out in
    gave_up _ old mid (IsGroupAsked m line old) (λ s inputs. group_capture_step s (inputs Events) (inputs Video))
    c.from_residual.result (video_stop stop) c.from_residual.ensures.1 (c.turning.ensures.steps.video_stops stop)
    (c.turning.ensures.steps.video_cause stop old.faults mid.faults (λ is. c.in_err-frame.ensures.cause
    (ap (λ e. Err e) is))) (c.turning.ensures.steps.reads old mid c.frame.ensures.rest)
    (λ o s inputs b.
    let taken = b.read.taken in
    let e = gives_so s (Err stop) m.video c.frame.new.self (inputs Video) out _ (asked_more m line old o s inputs b)
    (asked_place m line old o s inputs b) (asked_format m line old o s inputs b c.requires.format)
    (c.in_err-frame.ensures.gives (inputs Video) (taken.left Video refl))
    in
    frame_stops s c.turning.ensures.turns c.turning.ensures.lines c.turning.ensures.video inputs o old mid taken
    c.frame.ensures.others c.frame.ensures.rest.written c.frame.new.self out stop e)

pub returns-then-not-branch-clause-takes : goal.returns-then-not-branch-clause-takes
returns-then-not-branch-clause-takes g c =
    let outside = g.D.Desk.outside in
    let old = outside c.args.desk.now in
    let mid = outside c.frame.new.desk in
    let m = c.args.self.now in
    let line = c.args.line in
    let out = c.frame.new.out in
    let status = TraceRefused (NoFrame line) in
    gave_up _ old mid (IsGroupAsked m line old) (λ s inputs. group_capture_step s (inputs Events) (inputs Video))
    (Err status) status refl tt tt (c.turning.ensures.steps.reads old mid c.frame.ensures.rest)
    (λ o s inputs b.
    let taken = b.read.taken in
    let e = gives_so s (Ok false) m.video c.frame.new.self (inputs Video) out _ (asked_more m line old o s inputs b)
    (asked_place m line old o s inputs b) (asked_format m line old o s inputs b c.requires.format)
    (given (Ok c.in_ok-frame.field-0) (Ok false) m.video c.frame.new.self (inputs Video) out _
    (ap (λ (b : Bool). Ok b) c.if-not-branch.true) (c.in_ok-frame.ensures.gives (inputs Video)
    (taken.left Video refl)))
    in
    frame_missing s c.turning.ensures.turns c.turning.ensures.lines c.turning.ensures.video inputs o old mid taken
    c.frame.ensures.others c.frame.ensures.rest.written c.frame.new.self out line b.read.number e)

pub returns-clause-takes : goal.returns-clause-takes
returns-clause-takes g c =
    let outside = g.D.Desk.outside in
    let old = outside c.args.desk.now in
    let mid = outside c.frame.new.desk in
    let m = c.args.self.now in
    let line = c.args.line in
    let r = c.requires in
    let out = c.frame.new.out in
    let send = c.send-number in
    let moves = subst (λ (b : Bool). MovesVideo (Ok b) m.video c.frame.new.self) c.if-not-branch.false
    c.in_ok-frame.ensures.moves in
    let now : Room = record m { video = c.frame.new.self; frame = with_items m.frame out; cast = send.new.self } in
    let long : length now.frame.items ≡ size_of_picture m.params.format =
    ap (λ (l : List ℕ). length l) (with_items_is m.frame out (omega (
      arith,
      c.frame.auto.out,
      c.deref_mut.ensures.len,
      m.frame.ok.0,
    )))
    ∙ omega (arith, c.frame.auto.out, c.deref_mut.ensures.len, m.frame.ok.0, r.frame)
    in
    went_on now old mid (IsGroupAsked m line old) (λ s inputs. group_capture_step s (inputs Events) (inputs Video))
    (record {
      opens = subst (λ a. GroupOpens (length (viewers_in m.viewers)) a) (sym c.frame.ensures.rest.attached) r.opens;
      in_range = r.in_range;
      format = moves.0 ∙ r.format;
      frame = long;
      params = send.ensures.params ∙ r.params;
      period = send.ensures.kept ∙ r.period;
      casting = send.ensures.ready;
      sent = omega (arith, r.sent, send.ensures.sent, moves.1);
      few = r.few;
      viewing = viewing_sent (sent_in m.cast) (sent_in send.new.self) m.trace.lines m.viewers
          (omega (arith, send.ensures.sent)) r.viewing;
    })
    (c.turning.ensures.steps.reads old mid c.frame.ensures.rest)
    (λ o s inputs b.
    let taken = b.read.taken in
    let form = asked_format m line old o s inputs b r.format in
    let e = gives_so s (Ok true) m.video c.frame.new.self (inputs Video) out _ (asked_more m line old o s inputs b)
    (asked_place m line old o s inputs b) form
    (given (Ok c.in_ok-frame.field-0) (Ok true) m.video c.frame.new.self (inputs Video) out _
    (ap (λ (b : Bool). Ok b) c.if-not-branch.false) (c.in_ok-frame.ensures.gives (inputs Video)
    (taken.left Video refl)))
    in
    let out_is : c.deref.result.now ≡ out = lent m.frame out c.deref.result.now _ c.deref.ensures.value c.frame.auto.out
    c.deref_mut.ensures.len in
    let shown = picture c.new-frame.result in
    let picture_is : shown ≡ picture_of s.params.format out = c.new-frame.ensures.picture
    ∙ (λ i. picture_of ((ap (λ (p : Params). p.format) (sym b.read.stood.params)) i) (out_is i)) in
    frame_sent s c.turning.ensures.turns c.turning.ensures.lines c.turning.ensures.video inputs o old mid taken
    c.frame.ensures.others c.frame.ensures.rest.written c.frame.new.self out e
    (RoomStandsAt now)
    (sent_stands m line old o s inputs b now out shown refl refl refl e.2 moves.1 picture_is
    (send.ensures.holds s.params s.run b.read.stood.cast)))
