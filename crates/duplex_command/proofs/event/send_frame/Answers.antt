-- A party's frame that was read is sent; one that can't be read ends the run.
use Rattle.std.proofs.Common.{◌≡◌, Bool, true, false, Ok, Err, refl, sym, ap, subst, ◌∙◌, arith}
use Rattle.h263_outside.specs.declared.desk.Role.TheVariants.{Video, Events, Pictures}
use Rattle.h263_types.specs.Sizes.{size_of_picture}
use Rattle.h263_types.specs.declared.params.Params.{Params}
use Rattle.h263_planes.specs.Layout.{picture_of}
use Rattle.h263_planes.specs.Lent.{picture}
use Rattle.h263_planes.specs.Picture.{Picture}
use Rattle.y4m.specs.Reader.{MovesVideo}
use Rattle.loss_trace.specs.declared.fault.TraceFault.TheVariants.{NoFrame}
use Rattle.call_report.specs.declared.status.Status.TheVariants.{TraceRefused, VideoRefused}
use Rattle.call_report.specs.Status.{video_stop}
use Rattle.call_model.specs.IdealCall.{Send}
use Rattle.duplex_call.specs.Duplex.{with_capture}
use Rattle.duplex_ends.specs.Pair.{HoldsPair}
use Rattle.duplex_ends.specs.Ways.{sides}
use Rattle.duplex_command.specs.declared.station.Station.{Station}
use Rattle.duplex_command.specs.Duplex.{party_capture_step}
use Rattle.duplex_command.specs.Standing.{StationsStand}
use Rattle.duplex_command.specs.Turning.{IsPartyAsked}
use Rattle.duplex_command.proofs.Capturing.{frame_missing, frame_sent, frame_stops, given, gives_so}
use Rattle.duplex_command.proofs.Doing.{format_is, may_happen, one_left, own_place, stands_sent}
use Rattle.duplex_command.proofs.PartyTurns.{gave_up, went_on}
use Rattle.duplex_command.proofs.event.send_frame.Goals as goal

pub returns-in_err-frame : goal.returns-in_err-frame
returns-in_err-frame g c = λ far room m.
    let outside = g.D.Desk.outside in
    let old = outside c.args.desk.now in
    let mid = outside c.frame.new.desk in
    let x = c.args.said.party in
    let own = c.args.own.now in
    let line = c.args.said.line in
    let stop = c.in_err-frame.field-0.0 in
    let out = c.frame.new.out in
    gave_up x _ far old mid room (λ trace. IsPartyAsked x own far line trace old)
    (λ s inputs. party_capture_step Video Pictures VideoRefused x s (inputs Events) (inputs Video))
    c.from_residual.result (video_stop stop) c.from_residual.ensures.1 (c.turning.ensures.steps.video_stops stop)
    (c.turning.ensures.steps.video_cause stop old.faults mid.faults (λ is. c.in_err-frame.ensures.cause
    (ap (λ e. Err e) is))) (c.turning.ensures.steps.reads old mid c.frame.ensures.rest)
    (λ trace o s inputs b.
    let taken = b.read.taken in
    let e = gives_so x s (Err stop) own.video c.frame.new.self (inputs Video) out _
    (own_place x own far line trace o old s inputs b.read)
    (format_is x own far line trace o old s inputs b.read c.requires.format)
    (c.in_err-frame.ensures.gives (inputs Video) (taken.left Video refl))
    in
    frame_stops x s c.turning.ensures.turns c.turning.ensures.lines c.turning.ensures.video inputs o old mid taken
    c.frame.ensures.others c.frame.ensures.rest.written c.frame.new.self out stop e)

pub returns-then-not-branch : goal.returns-then-not-branch
returns-then-not-branch g c = λ far room m.
    let outside = g.D.Desk.outside in
    let old = outside c.args.desk.now in
    let mid = outside c.frame.new.desk in
    let x = c.args.said.party in
    let own = c.args.own.now in
    let line = c.args.said.line in
    let out = c.frame.new.out in
    let status = TraceRefused (NoFrame line) in
    gave_up x _ far old mid room (λ trace. IsPartyAsked x own far line trace old)
    (λ s inputs. party_capture_step Video Pictures VideoRefused x s (inputs Events) (inputs Video))
    (Err status) status refl tt tt (c.turning.ensures.steps.reads old mid c.frame.ensures.rest)
    (λ trace o s inputs b.
    let taken = b.read.taken in
    let e = gives_so x s (Ok false) own.video c.frame.new.self (inputs Video) out _
    (own_place x own far line trace o old s inputs b.read)
    (format_is x own far line trace o old s inputs b.read c.requires.format)
    (given (Ok c.in_ok-frame.field-0) (Ok false) own.video c.frame.new.self (inputs Video) out _
    (ap (λ (b : Bool). Ok b) c.if-not-branch.true) (c.in_ok-frame.ensures.gives (inputs Video)
    (taken.left Video refl)))
    in
    frame_missing x s c.turning.ensures.turns c.turning.ensures.lines c.turning.ensures.video inputs o old mid taken
    c.frame.ensures.others c.frame.ensures.rest.written c.frame.new.self out line b.read.number e)

pub send-requires-clause-left : goal.send-requires-clause-left
send-requires-clause-left g c =
    let moves = subst (λ (b : Bool). MovesVideo (Ok b) c.args.own.now.video c.frame.new.self) c.if-not-branch.false
    c.in_ok-frame.ensures.moves in
    omega (arith, moves.1, c.requires.sent)

pub returns : goal.returns
returns g c = λ far room m.
    let outside = g.D.Desk.outside in
    let old = outside c.args.desk.now in
    let mid = outside c.frame.new.desk in
    let x = c.args.said.party in
    let own = c.args.own.now in
    let line = c.args.said.line in
    let out = c.frame.new.out in
    let send = c.send in
    let ends = send.new.self in
    let moves = subst (λ (b : Bool). MovesVideo (Ok b) own.video c.frame.new.self) c.if-not-branch.false
    c.in_ok-frame.ensures.moves in
    let own_new : Station = record { video = c.frame.new.self; ends = ends } in
    let shown = picture c.new-picture.result in
    let laws = c.turning.ensures.refused in
    let same = ap (λ (p : Params). p.format) send.ensures.params in
    went_on x own_new far old mid room (λ trace. IsPartyAsked x own far line trace old)
    (λ s inputs. party_capture_step Video Pictures VideoRefused x s (inputs Events) (inputs Video))
    (record {
      own_ready = record {
        format = moves.0 ∙ c.requires.format ∙ sym same;
        frame = omega (arith, m.stations.own_ready.frame, ap size_of_picture same);
        sent = omega (arith, c.requires.sent, send.ensures.sent, moves.1);
      };
      far_ready = m.stations.far_ready;
      ends = send.ensures.ready far.ends m.may;
    })
    (c.turning.ensures.steps.reads old mid c.frame.ensures.rest)
    (λ trace o s inputs b.
    let taken = b.read.taken in
    let form = format_is x own far line trace o old s inputs b.read c.requires.format in
    let e = gives_so x s (Ok true) own.video c.frame.new.self (inputs Video) out _
    (own_place x own far line trace o old s inputs b.read) form
    (given (Ok c.in_ok-frame.field-0) (Ok true) own.video c.frame.new.self (inputs Video) out _
    (ap (λ (b : Bool). Ok b) c.if-not-branch.false) (c.in_ok-frame.ensures.gives (inputs Video)
    (taken.left Video refl)))
    in
    let picture_is : shown ≡ picture_of (s.params x).format out = c.new-picture.ensures.picture
    ∙ ap (λ f. picture_of f out) (sym c.requires.format ∙ form) in
    let holds : HoldsPair s.params x ends far.ends (with_capture (sides s.params) x (picture_of (s.params x).format out)
    s.ways) =
    subst (λ (q : Picture). HoldsPair s.params x ends far.ends (with_capture (sides s.params) x q s.ways)) picture_is
    (send.ensures.holds s.params x far.ends s.ways (one_left s.params x s.ways) b.read.stood.holds
    (may_happen laws s.params x s.ways Send b.none))
    in
    frame_sent x s c.turning.ensures.turns c.turning.ensures.lines c.turning.ensures.video inputs o old mid taken
    c.frame.ensures.others c.frame.ensures.rest.written c.frame.new.self out e
    (λ next rest. StationsStand x own_new far trace next (rest Events))
    (stands_sent x own far line trace o old s inputs b.read own_new _ out e.2 (moves.1
    ∙ sym (ap (λ p. p.more) (own_place x own far line trace o old s inputs b.read))) holds))
