-- Over the plain trace a turn is a frame, its packets and a play, or an end.
use Rattle.std.proofs.Common.{◌≡◌, ℕ, Bool, true, false, List, [], ◌∷◌, ◌++◌, Option, Some, Ok, Err, refl, sym, ap, subst, ◌∙◌}
use Rattle.std.specs.Prelude.{if◌then◌else◌}
use Rattle.std.specs.Vec.{with_items}
use Rattle.h263_outside.specs.declared.desk.Role.{Role}
use Rattle.h263_outside.specs.declared.desk.Role.TheVariants.{Video, Events}
use Rattle.h263_planes.specs.Layout.{picture_of}
use Rattle.h263_planes.specs.Lent.{picture}
use Rattle.h263_planes.specs.Picture.{Picture}
use Rattle.y4m.specs.Reader.{MovesVideo}
use Rattle.y4m.specs.Frame.{frame_size}
use Rattle.call_report.specs.declared.status.Status.TheVariants.{Ok as Fine}
use Rattle.call_report.specs.Status.{phase, video_stop}
use Rattle.desk_program.specs.Run.{Step, left_after}
use Rattle.desk_program.specs.Ends.{Ended, GainsFronts, GivesUp, Went, step_texts}
use Rattle.desk_program.specs.Texts.{of}
use Rattle.one_way.specs.Both.{bare}
use Rattle.call_command.specs.Counts.{counts_of}
use Rattle.one_way.specs.Trace.{delivered, passed_on}
use Rattle.one_way.specs.Way.{HoldsNetwork, tally_of, way_of}
use Rattle.call_encoding.specs.Frames.{Frame}
use Rattle.call_model.specs.IdealCall.{Send}
use Rattle.call_command.specs.declared.link.Link.{Link}
use Rattle.call_command.specs.Call.{CallState, may_read, talk_step}
use Rattle.call_command.specs.Standing.{PartsStand, call_parts, call_state_of}
use Rattle.call_command.proofs.Counting.{counts_are, given_up, plainly, written_in_part}
use Rattle.call_command.proofs.Framing.{among_last, at, count_of, may_deliver, may_play, may_send, stands_after, texts_are}
use Rattle.call_command.proofs.FrameTurning.{end_cut, frame_cut, frame_goes, frame_stops, given_so, gives_so, lent, video_ends}
use Rattle.call_command.proofs.Readying.{plain_keeps}
use Rattle.call_command.proofs.world.WorldTurns.turn.Goals as goal

pub returns-then-not-self-clause-gives : goal.returns-then-not-self-clause-gives
returns-then-not-self-clause-gives g c = λ s inputs k told.
    c.line_turn.ensures.gives (g.D.Desk.outside c.args.desk.now) s inputs (record {
      stands = k;
      told = told;
      same = refl;
    })

pub returns-then-not-self-clause-whole : goal.returns-then-not-self-clause-whole
returns-then-not-self-clause-whole g c = λ s inputs k told.
    c.line_turn.ensures.whole (g.D.Desk.outside c.args.desk.now) s inputs (record {
      stands = k;
      told = told;
      same = refl;
    })

pub returns-in_err-frame-clause-gives : goal.returns-in_err-frame-clause-gives
returns-in_err-frame-clause-gives g c = λ s inputs k told.
    let outside = g.D.Desk.outside in
    let old = outside c.args.desk.now in
    let mid = outside c.frame.new.desk in
    let x = call_parts c.args.self.now in
    let stop = c.in_err-frame.field-0.0 in
    let here = call_state_of x s.before s.frames s.past in
    let plain : x.terms.plain ≡ true = c.if-not-self.false in
    let e = gives_so (Err stop) here x.video c.frame.new.self (inputs Video) c.frame.new.out _ refl
    refl c.requires.format (c.in_err-frame.ensures.gives (inputs Video) (told Video refl)) in
    given_up (talk_step s inputs) _ (may_read s) inputs old mid c.from_residual.result
    (video_stop stop) c.from_residual.ensures.1
    (plainly x s inputs k.is plain (λ (step : Step CallState) (now : Bool). GivesUp (phase (video_stop stop))
    (video_stop stop) step now inputs old mid)
    (frame_stops c.turning.ensures.turns c.turning.ensures.video inputs old mid told c.frame.ensures.others
    c.frame.ensures.rest.written here (c.requires.unread plain) stop c.frame.new.out c.frame.new.self e))

pub returns-in_err-tell_counts-clause-gives : goal.returns-in_err-tell_counts-clause-gives
returns-in_err-tell_counts-clause-gives g c = λ s inputs k told.
    let outside = g.D.Desk.outside in
    let old = outside c.args.desk.now in
    let mid = outside c.frame.new.desk in
    let new = outside c.tell_counts.new.desk in
    let x = call_parts c.args.self.now in
    let counts = counts_of (tally_of (way_of x.link.network)) x.receiver.played x.sender.sent in
    let here = call_state_of x s.before s.frames s.past in
    let e = given_so (Ok c.in_ok-frame.field-0) (Ok false) here x.video c.frame.new.self (inputs Video) c.frame.new.out
    _ (ap (λ (b : Bool). Ok b) c.if-not-branch.true) refl refl c.requires.format
    (c.in_ok-frame.ensures.gives (inputs Video) (told Video refl)) in
    written_in_part (talk_step s inputs) _ (may_read s) inputs old new c.from_residual-in_err-tell_counts.result
    c.in_err-tell_counts.field-0.0 c.from_residual-in_err-tell_counts.ensures.1 c.in_err-tell_counts.ensures.kind
    (plainly x s inputs k.is c.if-not-self.false (λ (step : Step CallState) (now : Bool). GainsFronts
    (step_texts step) old.written new.written)
    (end_cut c.turning.ensures.turns c.turning.ensures.video inputs old mid told c.frame.ensures.others
    c.frame.ensures.rest.written new c.tell_counts.ensures.rest.left here c.frame.new.out c.frame.new.self e
    counts (counts_are x (c.turning.ensures.way x.terms.params) s inputs k) c.in_err-tell_counts.ensures.err))

pub returns-then-not-branch-clause-gives : goal.returns-then-not-branch-clause-gives
returns-then-not-branch-clause-gives g c = λ s inputs k told.
    let outside = g.D.Desk.outside in
    let old = outside c.args.desk.now in
    let mid = outside c.frame.new.desk in
    let new = outside c.tell_counts.new.desk in
    let x = call_parts c.args.self.now in
    let counts = counts_of (tally_of (way_of x.link.network)) x.receiver.played x.sender.sent in
    let here = call_state_of x s.before s.frames s.past in
    let e = given_so (Ok c.in_ok-frame.field-0) (Ok false) here x.video c.frame.new.self (inputs Video) c.frame.new.out
    _ (ap (λ (b : Bool). Ok b) c.if-not-branch.true) refl refl c.requires.format
    (c.in_ok-frame.ensures.gives (inputs Video) (told Video refl)) in
    plainly x s inputs k.is c.if-not-self.false (λ (step : Step CallState) (now : Bool). Ended step Fine inputs old new)
    (video_ends c.turning.ensures.turns c.turning.ensures.video inputs old mid told c.frame.ensures.others
    c.frame.ensures.rest.written new c.tell_counts.ensures.rest.left here c.frame.new.out c.frame.new.self e
    counts (counts_are x (c.turning.ensures.way x.terms.params) s inputs k) c.in_ok-tell_counts.ensures.ok)

pub returns-then-not-branch-clause-whole : goal.returns-then-not-branch-clause-whole
returns-then-not-branch-clause-whole g c = λ s inputs k told.
    let new = g.D.Desk.outside c.tell_counts.new.desk in
    let x = call_parts c.args.self.now in
    let here = call_state_of x s.before s.frames s.past in
    let e = given_so (Ok c.in_ok-frame.field-0) (Ok false) here x.video c.frame.new.self (inputs Video) c.frame.new.out
    _ (ap (λ (b : Bool). Ok b) c.if-not-branch.true) refl refl c.requires.format
    (c.in_ok-frame.ensures.gives (inputs Video) (told Video refl)) in
    let out = ap (λ (l : Role → Option (List ℕ)). l Video) c.tell_counts.ensures.rest.left ∙ e.1 in
    subst (λ (b : Bool). new.left (if b then Video else Events) ≡ Some []) (sym c.if-not-self.false) out

pub returns-in_err-play_next-clause-gives : goal.returns-in_err-play_next-clause-gives
returns-in_err-play_next-clause-gives g c = λ s inputs k told.
    let outside = g.D.Desk.outside in
    let old = outside c.args.desk.now in
    let mid = outside c.frame.new.desk in
    let new = outside c.play_next.new.desk in
    let x = call_parts c.args.self.now in
    let p = x.terms.params in
    let r = c.requires in
    let plain : x.terms.plain ≡ true = c.if-not-self.false in
    let out = c.frame.new.out in
    let n = c.send-sent.result in
    let here = call_state_of x s.before s.frames s.past in
    let level = r.level plain in
    let laws = c.turning.ensures.way p in
    let events = c.turning.ensures.events p in
    let later_law = c.turning.ensures.later p in
    let e = given_so (Ok c.in_ok-frame.field-0) (Ok true) here x.video c.frame.new.self (inputs Video) out _
    (ap (λ (b : Bool). Ok b) c.if-not-branch.false) refl refl r.format (c.in_ok-frame.ensures.gives (inputs Video)
    (told Video refl)) in
    let out_is : c.deref.result.now ≡ out = lent x.link.frame out c.deref.result.now
    _ c.deref.ensures.value c.frame.auto.out c.deref_mut.ensures.len in
    let picture_is : picture c.new-frame.result ≡ picture_of p.format out = c.new-frame.ensures.picture
    ∙ ap (λ (l : List ℕ). picture_of p.format l) out_is in
    let all = s.frames ++ bare (picture_of p.format out) ∷ [] in
    let h = k.holds (bare (picture_of p.format out) ∷ []) in
    let number = c.send-sent.ensures.number in
    let sent = c.send-sent.ensures.holds p x.receiver s.before all s.past h
    (at x laws events later_law s inputs k level out [] ∙ ap (λ (o : Picture). Some (bare o)) (sym picture_is))
    (may_send x laws events later_law s inputs k level out [])
    in
    let delivered = c.deliver_all.ensures.holds p c.send-sent.new.sender s.before all (Send ∷ s.past) sent
    (among_last x laws events later_law s inputs k level out [] (way_of c.send-sent.new.self) n number
    (plain_keeps x.terms _ (c.send-sent.ensures.kept ∙ r.period) plain))
    (may_deliver x laws events later_law s inputs k level out [] n number)
    in
    let texts = texts_are x laws events later_law s inputs k level out n c.deliver_all.new.receiver.played number
    c.deliver_all.ensures.played in
    written_in_part (talk_step s inputs) _ (may_read s) inputs old new c.from_residual-in_err-play_next.result
    c.in_err-play_next.field-0.0 c.from_residual-in_err-play_next.ensures.1 c.in_err-play_next.ensures.kind
    (plainly x s inputs k.is plain (λ (step : Step CallState) (now : Bool). GainsFronts (step_texts step) old.written
    new.written)
    (frame_cut c.turning.ensures.turns c.turning.ensures.video inputs old mid told c.frame.ensures.others
    c.frame.ensures.rest.written new c.play_next.ensures.rest.left here (r.unread plain) out c.frame.new.self e
    _ texts
    (c.in_err-play_next.ensures.err p c.send-sent.new.sender s.before all _ k.begun delivered
    (may_play x laws events later_law s inputs k level out [] n
    (count_of x laws events later_law s inputs k level out [] n)))))

pub returns-clause-gives : goal.returns-clause-gives
returns-clause-gives g c = λ s inputs k told.
    let outside = g.D.Desk.outside in
    let old = outside c.args.desk.now in
    let mid = outside c.frame.new.desk in
    let new = outside c.play_next.new.desk in
    let x = call_parts c.args.self.now in
    let p = x.terms.params in
    let r = c.requires in
    let plain : x.terms.plain ≡ true = c.if-not-self.false in
    let out = c.frame.new.out in
    let n = c.send-sent.result in
    let sender = c.send-sent.new.sender in
    let receiver = c.play_next.new.receiver in
    let network = c.play_next.new.network in
    let link : Link = record x.link { frame = with_items x.link.frame out; network = network } in
    let moves = subst (λ (b : Bool). MovesVideo (Ok b) x.video c.frame.new.self) c.if-not-branch.false
    c.in_ok-frame.ensures.moves in
    let level = r.level plain in
    let here = call_state_of x s.before s.frames s.past in
    let laws = c.turning.ensures.way p in
    let events = c.turning.ensures.events p in
    let later_law = c.turning.ensures.later p in
    let e = given_so (Ok c.in_ok-frame.field-0) (Ok true) here x.video c.frame.new.self (inputs Video) out _
    (ap (λ (b : Bool). Ok b) c.if-not-branch.false) refl refl r.format (c.in_ok-frame.ensures.gives (inputs Video)
    (told Video refl)) in
    let out_is : c.deref.result.now ≡ out = lent x.link.frame out c.deref.result.now
    _ c.deref.ensures.value c.frame.auto.out c.deref_mut.ensures.len in
    let picture_is : picture c.new-frame.result ≡ picture_of p.format out = c.new-frame.ensures.picture
    ∙ ap (λ (l : List ℕ). picture_of p.format l) out_is in
    let f : Frame = bare (picture_of p.format out) in
    let number = c.send-sent.ensures.number in
    let delivered : (later : List Frame)
    → HoldsNetwork p c.deliver_all.new.self sender c.deliver_all.new.receiver s.before (s.frames ++ f ∷ later)
    (delivered n (count_of x laws events later_law s inputs k level out later n) ++ Send ∷ s.past) =
    λ later.
    let all = s.frames ++ f ∷ later in
    let h = k.holds (f ∷ later) in
    let sent = c.send-sent.ensures.holds p x.receiver s.before all s.past h
    (at x laws events later_law s inputs k level out later ∙ ap (λ (o : Picture). Some (bare o)) (sym picture_is))
    (may_send x laws events later_law s inputs k level out later)
    in
    c.deliver_all.ensures.holds p sender s.before all (Send ∷ s.past) sent
    (among_last x laws events later_law s inputs k level out later (way_of c.send-sent.new.self) n number
    (plain_keeps x.terms _ (c.send-sent.ensures.kept ∙ r.period) plain))
    (may_deliver x laws events later_law s inputs k level out later n number)
    in
    let played : (later : List Frame) → HoldsNetwork p network sender receiver s.before (s.frames ++ f ∷ later)
    (passed_on n (count_of x laws events later_law s inputs k level out later n) s.past) =
    λ later. c.play_next.ensures.holds p sender s.before (s.frames ++ f ∷ later) _ (delivered later)
    (may_play x laws events later_law s inputs k level out later n
    (count_of x laws events later_law s inputs k level out later n))
    in
    let texts = texts_are x laws events later_law s inputs k level out n c.deliver_all.new.receiver.played number
    c.deliver_all.ensures.played in
    let stands = PartsStand (record {
      terms = x.terms;
      video = c.frame.new.self;
      sender = sender;
      receiver = receiver;
      link = link;
    }) in
    let size = frame_size p.format (inputs Video) in
    plainly x s inputs k.is plain (λ (step : Step CallState) (now : Bool). Went step stands may_read now inputs old new)
    (frame_goes c.turning.ensures.turns c.turning.ensures.video inputs old mid told c.frame.ensures.others
    c.frame.ensures.rest.written new c.play_next.ensures.rest.left here (r.unread plain) out c.frame.new.self e
    _ texts
    stands
    (stands_after x laws events later_law s inputs k level out c.frame.new.self sender receiver link n size
    (left_after inputs (of Video size)) number played refl c.send-sent.ensures.sent e.2 moves.1 refl)
    (c.in_ok-play_next.ensures.ok p sender s.before (s.frames ++ f ∷ []) _ k.begun (delivered [])
    (may_play x laws events later_law s inputs k level out [] n
    (count_of x laws events later_law s inputs k level out [] n))))
