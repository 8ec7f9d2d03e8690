-- A frame that was read is sent; one that can't be read ends the run as its fault says.
use Rattle.std.proofs.Common.{◌≡◌, ℕ, ◌+◌, ◌-◌, Bool, true, false, List, ◌∷◌, ◌++◌, length, Some, Ok, Err, refl, sym, ap, subst, ◌∙◌, arith}
use Rattle.std.specs.Prelude.{slice_get, if◌then◌else◌}
use Rattle.std.specs.Vec.{with_items}
use Rattle.std.proofs.lemmas.List.{with_items_is}
use Rattle.h263_outside.specs.declared.desk.Role.TheVariants.{Video, Events}
use Rattle.h263_types.specs.Sizes.{size_of_picture}
use Rattle.h263_types.specs.declared.pace.FixedPace.{FixedPace}
use Rattle.h263_planes.specs.Layout.{picture_of}
use Rattle.h263_planes.specs.Lent.{picture}
use Rattle.h263_planes.specs.Picture.{Picture}
use Rattle.y4m.specs.Reader.{MovesVideo}
use Rattle.y4m.specs.Frame.{frame_size}
use Rattle.loss_trace.specs.declared.fault.TraceFault.TheVariants.{NoFrame}
use Rattle.call_report.specs.declared.status.Status.TheVariants.{TraceRefused}
use Rattle.call_report.specs.Status.{video_stop}
use Rattle.call_model.specs.IdealCall.{Send}
use Rattle.call_encoding.specs.Frames.{Frame}
use Rattle.one_way.specs.Both.{bare}
use Rattle.one_way.specs.Counts.{total_of}
use Rattle.call_command.specs.declared.link.Link.{Link}
use Rattle.call_command.specs.Call.{capture_step}
use Rattle.call_command.specs.Standing.{HasDone, CallParts, PartsStand, more_of, call_parts}
use Rattle.call_command.specs.Turning.{IsAsked, Names, names_of}
use Rattle.call_command.proofs.After.{at_end, below_end}
use Rattle.call_command.proofs.AfterTurn.{format_is, refusal_here, refusal_later, stands_sent, video_format, video_more, video_place}
use Rattle.call_command.proofs.Capturing.{frame_missing, frame_sent, frame_stops}
use Rattle.call_command.proofs.Counting.{gave_up, goes_on, video_answers}
use Rattle.call_command.proofs.FrameTurning.{given_so, gives_so, lent}
use Rattle.call_command.proofs.Readying.{ready_so}
use Rattle.call_command.proofs.world.World.send_frame.Goals as goal

pub returns-in_err-frame : goal.returns-in_err-frame
returns-in_err-frame g c =
    let outside = g.D.Desk.outside in
    let old = outside c.args.desk.now in
    let mid = outside c.frame.new.desk in
    let m = c.args.self.now in
    let x = call_parts m in
    let stop = c.in_err-frame.field-0.0 in
    let out = c.frame.new.out in
    gave_up m _ old mid (IsAsked x c.args.line old) (λ s inputs. capture_step s (inputs Events) (inputs Video))
    (λ _. true) (more_of x + 1)
    c.from_residual.result (video_stop stop) c.from_residual.ensures.1 refl (video_answers m.terms.plain stop)
    (c.turning.ensures.steps.video_stops stop)
    (c.turning.ensures.steps.video_cause stop old.faults mid.faults (λ is. c.in_err-frame.ensures.cause
    (ap (λ e. Err e) is))) (c.turning.ensures.steps.reads old mid c.frame.ensures.rest)
    (λ o s inputs b.
    let k = b.read.stood in
    let taken = b.read.taken in
    let e = gives_so (Err stop) s x.video c.frame.new.self (inputs Video) out _ (video_more x s inputs k)
    (video_place x s inputs k) (video_format x s inputs k c.requires.ready.format)
    (c.in_err-frame.ensures.gives (inputs Video) (taken.left Video refl)) in
    frame_stops c.turning.ensures.turns c.turning.ensures.video s inputs o old mid taken c.frame.ensures.others
    c.frame.ensures.rest.written c.frame.new.self out stop e)
    (λ s stand. stand)

pub returns-then-not-branch : goal.returns-then-not-branch
returns-then-not-branch g c =
    let outside = g.D.Desk.outside in
    let old = outside c.args.desk.now in
    let mid = outside c.frame.new.desk in
    let m = c.args.self.now in
    let x = call_parts m in
    let out = c.frame.new.out in
    let status = TraceRefused (NoFrame c.args.line) in
    gave_up m _ old mid (IsAsked x c.args.line old) (λ s inputs. capture_step s (inputs Events) (inputs Video))
    (λ _. true) (more_of x + 1)
    (Err status) status refl refl c.requires.recorded tt tt (c.turning.ensures.steps.reads old mid c.frame.ensures.rest)
    (λ o s inputs b.
    let k = b.read.stood in
    let taken = b.read.taken in
    let e = given_so (Ok c.in_ok-frame.field-0) (Ok false) s x.video c.frame.new.self (inputs Video) out _
    (ap (λ (b : Bool). Ok b) c.if-not-branch.true) (video_more x s inputs k) (video_place x s inputs k)
    (video_format x s inputs k c.requires.ready.format) (c.in_ok-frame.ensures.gives (inputs Video)
    (taken.left Video refl)) in
    frame_missing c.turning.ensures.turns c.turning.ensures.video s inputs o old mid taken c.frame.ensures.others
    c.frame.ensures.rest.written c.frame.new.self out c.args.line b.read.number e)
    (λ s stand. stand)

pub returns : goal.returns
returns g c =
    let outside = g.D.Desk.outside in
    let old = outside c.args.desk.now in
    let mid = outside c.frame.new.desk in
    let m = c.args.self.now in
    let x = call_parts m in
    let p = x.terms.params in
    let r = c.requires.ready in
    let out = c.frame.new.out in
    let send = c.send in
    let sender = send.new.sender in
    let moves = subst (λ (b : Bool). MovesVideo (Ok b) x.video c.frame.new.self) c.if-not-branch.false
    c.in_ok-frame.ensures.moves in
    let link : Link = record x.link { frame = with_items x.link.frame out; network = send.new.self } in
    let long : length link.frame.items ≡ size_of_picture p.format =
    ap (λ (l : List ℕ). length l) (with_items_is x.link.frame out (omega (
      arith,
      c.frame.auto.out,
      c.deref_mut.ensures.len,
      x.link.frame.ok.0,
    )))
    ∙ omega (arith, c.frame.auto.out, c.deref_mut.ensures.len, x.link.frame.ok.0, r.frame)
    in
    goes_on m _ old mid (IsAsked x c.args.line old) (λ s inputs. capture_step s (inputs Events) (inputs Video))
    (λ _. true) (more_of x + 1)
    (ap (λ (q : FixedPace). let names : Names = record (names_of m) { pace = q } in names) send.ensures.same.pace)
    (subst (λ (b : Bool). (if b then c.frame.new.self.more else 16777216 - x.link.trace.lines) + 1
    ≡ (if b then x.video.more else 16777216 - x.link.trace.lines) + 1) (sym c.requires.recorded) refl)
    (ready_so x old.attached mid.attached r c.frame.ensures.rest.attached c.frame.new.self sender x.receiver link
    moves.0 send.ensures.same.params send.ensures.ready send.ensures.kept
    (omega (arith, r.sent, send.ensures.sent, moves.1)) (omega (arith, r.played, send.ensures.sent))
    (λ plain. absurd (cc (plain, c.requires.recorded))) long
    (λ plain. absurd (cc (plain, c.requires.recorded))) r.few (ap total_of send.ensures.tally
    ∙ r.counted) (omega (arith, r.said, send.ensures.messages.said, send.ensures.sent)))
    (c.turning.ensures.steps.reads old mid c.frame.ensures.rest)
    (λ o s inputs b.
    let k = b.read.stood in
    let taken = b.read.taken in
    let e = given_so (Ok c.in_ok-frame.field-0) (Ok true) s x.video c.frame.new.self (inputs Video) out _
    (ap (λ (b : Bool). Ok b) c.if-not-branch.false) (video_more x s inputs k) (video_place x s inputs k)
    (video_format x s inputs k r.format) (c.in_ok-frame.ensures.gives (inputs Video) (taken.left Video refl)) in
    let out_is : c.deref.result.now ≡ out = lent x.link.frame out c.deref.result.now
    _ c.deref.ensures.value c.frame.auto.out c.deref_mut.ensures.len in
    let picture_is : picture c.new-frame.result ≡ picture_of s.params.format out = c.new-frame.ensures.picture
    ∙ (λ i. picture_of (format_is x s inputs k i) (out_is i)) in
    let f : Frame = bare (picture_of s.params.format out) in
    let sent_parts : CallParts = record {
      terms = x.terms;
      video = c.frame.new.self;
      sender = sender;
      receiver = x.receiver;
      link = link;
    } in
    let sends : (later : List Frame) → HasDone sent_parts s.before (s.frames ++ f ∷ later) (Send ∷ s.past) = λ later.
    let all = s.frames ++ f ∷ later in
    let h = k.holds (f ∷ later) in
    let coded = (c.turning.ensures.way p).sent x.sender x.receiver s.before all s.past h.way_holds.joined in
    let none = refusal_later x s inputs k (c.turning.ensures.later p) Send (f ∷ later)
    ∙ sym (refusal_here x s inputs k Send) ∙ b.none in
    send.ensures.holds p x.receiver s.before all s.past h
    (ap (λ (i : ℕ). slice_get all i) k.sent ∙ at_end s.frames later f
    ∙ ap (λ (o : Picture). Some (bare o)) (sym picture_is))
    ((c.turning.ensures.near p r.opens.params).capture s.before all s.past none (omega (
      arith,
      coded,
      k.sent,
      below_end s.frames later f,
    )))
    in
    frame_sent c.turning.ensures.turns c.turning.ensures.video s inputs o old mid taken c.frame.ensures.others
    c.frame.ensures.rest.written c.frame.new.self out e (PartsStand sent_parts)
    (stands_sent x s inputs k out c.frame.new.self sender link refl (frame_size s.params.format (inputs Video)) e.2
    (moves.1 ∙ sym (video_more x s inputs k)) send.ensures.sent sends))
