-- A capture is the sender's next picture by the aim's quantiser; a fault of the video ends the run.
use Rattle.std.proofs.Common.{◌≡◌, Bool, true, false, [], refl, sym, ap, ◌∙◌, arith}
use Rattle.std.specs.Vec.{with_items}
use Rattle.h263_outside.specs.declared.desk.Role.{Role}
use Rattle.h263_outside.specs.declared.desk.Role.TheVariants.{Video, Events, Wire, Report}
use Rattle.h263_types.specs.declared.params.Params.{Params}
use Rattle.h263_planes.specs.Lent.{picture}
use Rattle.y4m.specs.Frame.{frame_size}
use Rattle.call_report.specs.Status.{phase, video_stop}
use Rattle.call_encoding.specs.Frames.{Frame}
use Rattle.desk_program.specs.Run.{left_after}
use Rattle.desk_program.specs.Ends.{GivesUp}
use Rattle.desk_program.specs.Texts.{of, and_of}
use Rattle.send_command.specs.declared.machine.Send.{Send}
use Rattle.send_command.specs.Send.{captured, entry_capture_step, picture_texts}
use Rattle.send_command.specs.Stands.{SendStands}
use Rattle.send_command.proofs.Answering.{if_cut, if_err, on_ok, on_ok_so}
use Rattle.send_command.proofs.Counting.{one_picture_more}
use Rattle.send_command.proofs.Framing.{captures, capture_cut, frame_missing, frame_stops, gave, lent, moved, one_less, place_is, whole_still}
use Rattle.send_command.proofs.Keeping.{keeps_capture, texts_are, video_at}
use Rattle.send_command.proofs.machine.Send.take_frame.Goals as goal

pub returns-in_err-frame-clause-err : goal.returns-in_err-frame-clause-err
returns-in_err-frame-clause-err g c = λ before s inputs stood place taken.
    let outside = g.D.Desk.outside in
    let m = c.args.self.now in
    let stop = c.in_err-frame.field-0.0 in
    if_err _ c.from_residual.result (video_stop stop) c.from_residual.ensures.1
    (frame_stops c.turn_laws.ensures c.cut_after.ensures.frame s inputs before (outside c.args.desk.now)
    (outside c.frame.new.desk) taken c.frame.ensures.others c.frame.ensures.rest.written
    m.video c.frame.new.self (video_at m s 3 stood c.requires.fit.format) c.frame.new.out stop
    (c.in_err-frame.ensures.gives (inputs Video) (taken.left Video refl)))

pub returns-then-not-branch-clause-err : goal.returns-then-not-branch-clause-err
returns-then-not-branch-clause-err g c = λ before s inputs stood place taken.
    let outside = g.D.Desk.outside in
    let m = c.args.self.now in
    frame_missing c.turn_laws.ensures c.cut_after.ensures.frame s inputs before (outside c.args.desk.now)
    (outside c.frame.new.desk) taken c.frame.ensures.others c.frame.ensures.rest.written
    m.video c.frame.new.self (video_at m s 3 stood c.requires.fit.format) c.frame.new.out c.args.at place
    (gave c.in_ok-frame.field-0 false m.video c.frame.new.self (inputs Video) c.frame.new.out _ c.if-not-branch.true
    (c.in_ok-frame.ensures.gives (inputs Video) (taken.left Video refl)))

pub returns-clause-ok : goal.returns-clause-ok
returns-clause-ok g c = λ before s inputs stood taken.
    let outside = g.D.Desk.outside in
    let m = c.args.self.now in
    let p = m.sender.params in
    let out = c.frame.new.out in
    let coded = c.capture-coded in
    let new : Send = record {
      video = c.frame.new.self;
      log = m.log;
      sender = coded.new.sender;
      aim = coded.new.aim;
      tally = c.picture.new.self;
      frame = with_items m.frame out;
      bytes = m.bytes;
    } in
    let at = video_at m s 3 stood c.requires.fit.format in
    let e = gave c.in_ok-frame.field-0 true m.video c.frame.new.self (inputs Video) out _ c.if-not-branch.false
    (c.in_ok-frame.ensures.gives (inputs Video) (taken.left Video refl)) in
    let moves = moved c.in_ok-frame.field-0 true m.video c.frame.new.self c.if-not-branch.false
    c.in_ok-frame.ensures.moves in
    let cap = coded.ensures.captured s.sent.run stood.sender in
    let bytes_are : c.deref.result.now
    ≡ out = lent m.frame out c.deref.result.now _ c.deref.ensures.value c.frame.auto.out c.deref_mut.ensures.len in
    let format_is : c.format.result ≡ s.params.format = c.format.ensures ∙ moves.0 ∙ sym at.format in
    let frame : Frame = record { picture = picture c.new-frame.result; messages = [] } in
    let same : frame ≡ captured s.params.format out =
    (λ i. record { picture = c.new-frame.ensures.picture i; messages = [] })
    ∙ (λ i. captured (format_is i) (bytes_are i))
    in
    let texts = picture_texts coded.new.sender.packets coded.result.number coded.result.reference in
    let text_is = texts_are m s 3 stood frame (captured s.params.format out) coded.new.sender coded.new.aim coded.result
    same cap in
    let place = place_is c.turn_laws.ensures c.cut_after.ensures.frame s inputs before (outside c.args.desk.now)
    (outside c.frame.new.desk) taken c.frame.ensures.others c.frame.ensures.rest.written m.video c.frame.new.self at
    out e (outside c.put_picture.new.desk) texts text_is in
    let size = frame_size s.params.format (inputs Video) in
    let kept : SendStands new _ (left_after inputs (and_of (of Events 3) (of Video size))) =
    keeps_capture m s 3 stood new frame (captured s.params.format out) coded.result size
    (left_after inputs (and_of (of Events 3) (of Video size))) refl same cap coded.ensures.count
    coded.ensures.params refl c.picture.ensures place moves.1
    in
    on_ok_so _ _ c.put_picture.result c.put_picture.ensures.ok
    (captures c.turn_laws.ensures c.cut_after.ensures.frame s inputs before (outside c.args.desk.now)
    (outside c.frame.new.desk) taken c.frame.ensures.others c.frame.ensures.rest.written m.video c.frame.new.self at
    out e (outside c.put_picture.new.desk) texts text_is
    (SendStands new) kept c.put_picture.ensures.rest.left)

pub returns-clause-err : goal.returns-clause-err
returns-clause-err g c = λ before s inputs stood place taken.
    let outside = g.D.Desk.outside in
    let m = c.args.self.now in
    let out = c.frame.new.out in
    let coded = c.capture-coded in
    let at = video_at m s 3 stood c.requires.fit.format in
    let e = gave c.in_ok-frame.field-0 true m.video c.frame.new.self (inputs Video) out _ c.if-not-branch.false
    (c.in_ok-frame.ensures.gives (inputs Video) (taken.left Video refl)) in
    let moves = moved c.in_ok-frame.field-0 true m.video c.frame.new.self c.if-not-branch.false
    c.in_ok-frame.ensures.moves in
    let cap = coded.ensures.captured s.sent.run stood.sender in
    let bytes_are : c.deref.result.now
    ≡ out = lent m.frame out c.deref.result.now _ c.deref.ensures.value c.frame.auto.out c.deref_mut.ensures.len in
    let format_is : c.format.result ≡ s.params.format = c.format.ensures ∙ moves.0 ∙ sym at.format in
    let frame : Frame = record { picture = picture c.new-frame.result; messages = [] } in
    let same : frame ≡ captured s.params.format out =
    (λ i. record { picture = c.new-frame.ensures.picture i; messages = [] })
    ∙ (λ i. captured (format_is i) (bytes_are i))
    in
    let texts = picture_texts coded.new.sender.packets coded.result.number coded.result.reference in
    let text_is = texts_are m s 3 stood frame (captured s.params.format out) coded.new.sender coded.new.aim coded.result
    same cap in
    if_cut _ (λ status. GivesUp (phase status) status (entry_capture_step s (inputs Video)) true inputs before
    (outside c.put_picture.new.desk)) c.put_picture.result c.put_picture.ensures.kind c.put_picture.ensures.err
    (capture_cut c.turn_laws.ensures c.cut_after.ensures.frame s inputs before (outside c.args.desk.now)
    (outside c.frame.new.desk) taken c.frame.ensures.others c.frame.ensures.rest.written m.video c.frame.new.self at
    out e (outside c.put_picture.new.desk) texts text_is)

pub returns-clause-ready : goal.returns-clause-ready
returns-clause-ready g c =
    let outside = g.D.Desk.outside in
    let m = c.args.self.now in
    let fit = c.requires.fit in
    let coded = c.capture-coded in
    let moves = moved c.in_ok-frame.field-0 true m.video c.frame.new.self c.if-not-branch.false
    c.in_ok-frame.ensures.moves in
    let attached = c.put_picture.ensures.rest.attached ∙ c.frame.ensures.rest.attached in
    let format : coded.new.sender.params.format ≡ c.frame.new.self.format =
    ap (λ (q : Params). q.format) coded.ensures.params ∙ fit.format ∙ sym moves.0
    in
    on_ok _ c.put_picture.result
    (record {
      fit = record {
        video = ap (λ (f : Role → Bool). f Video) attached ∙ fit.video;
        events = ap (λ (f : Role → Bool). f Events) attached ∙ fit.events;
        wire = ap (λ (f : Role → Bool). f Wire) attached ∙ fit.wire;
        report = ap (λ (f : Role → Bool). f Report) attached ∙ fit.report;
        format = format;
        aim = coded.ensures.aim;
        frame = whole_still m.frame c.frame.new.out _ m.video.format c.frame.new.self.format fit.frame c.frame.auto.out
            c.deref_mut.ensures.len moves.0;
        bytes = fit.bytes;
        side = fit.side;
        count = one_less c.frame.new.self.more m.video.more m.sender.sent coded.new.sender.sent fit.count moves.1
            coded.ensures.sent;
      };
      tally = one_picture_more m.log.entries coded.result.packets m.tally c.picture.new.self c.requires.some
          c.requires.tally (omega arith) c.picture.ensures;
    })
