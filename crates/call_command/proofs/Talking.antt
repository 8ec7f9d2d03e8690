-- With a receiver that had heard nothing, both ends do turn by turn what the ideal call does.
use Rattle.std.proofs.Common.{◌≡◌, ℕ, zero, suc, ◌+◌, ◌-◌, ◌<◌, Bool, true, false, List, [], ◌∷◌, ◌++◌, length, Option, Some, None, Result, Ok, Err, refl, sym, ap, subst, ◌∙◌, arith, nat_lt, if◌then◌else◌}
use Rattle.std.specs.Prelude.{slice_get}
use Rattle.h263_outside.specs.declared.desk.Role.{Role}
use Rattle.h263_outside.specs.declared.desk.Role.TheVariants.{Video, Events}
use Rattle.h263_types.specs.declared.blocks.Mb.{Mb}
use Rattle.h263_types.specs.declared.params.Params.{Params}
use Rattle.h263_planes.specs.Layout.{picture_of}
use Rattle.h263_planes.specs.Picture.{Picture}
use Rattle.y4m.specs.declared.fault.Y4mFault.{Y4mFault}
use Rattle.y4m.specs.Frame.{next_frame, frame_size}
use Rattle.loss_trace.specs.declared.event.Event.{Event as Line}
use Rattle.loss_trace.specs.declared.event.Event.TheVariants as says
use Rattle.loss_trace.specs.declared.fault.TraceFault.TheVariants.{TooMany}
use Rattle.loss_trace.specs.Lines.{first_line}
use Rattle.loss_trace.specs.Reading.{event_in}
use Rattle.desk_program.specs.Run.{Run, Step, left_after, follow, machine_run, silence}
use Rattle.desk_program.specs.Run.Step.{Goes, Ends}
use Rattle.call_model.specs.CodedPictures.{Coded}
use Rattle.call_model.specs.IdealCall.{Event, Send, Deliver, Play, Back, slices_at}
use Rattle.call_model.specs.JoinedRun.{AllMayHappenBoth, Joined}
use Rattle.call_model.specs.LaterFrames.{LaterFramesBoth}
use Rattle.call_model.specs.Receiving.{ReceiverRun}
use Rattle.call_model.specs.Refusals.{Refusal, first_refusal}
use Rattle.call_model.specs.Sending.{SenderRun}
use Rattle.call_decoding.specs.Rules.{rules_of}
use Rattle.call_decoding.specs.Styles.{Style}
use Rattle.call_encoding.specs.Frames.{Frame}
use Rattle.coded_call.specs.Coding.{coding}
use Rattle.receiver_end.specs.State as receiver_end
use Rattle.call_command.specs.declared.terms.Terms.{Terms}
use Rattle.one_way.specs.Trace.{delivered, passed_on}
use Rattle.one_way.specs.Both.{bare, both_after, next_of}
use Rattle.one_way.specs.Both.{steady}
use Rattle.call_command.specs.Call.{CallState, after_line, bad_line, by_ends, call_step, capture_step, captured_step, event_step, call_at_start, frame_step, line_step, refusal_at, talk_step, trace_step, unless_refused, video_step, with_frame}
use Rattle.one_way.specs.Laws.{EventLaws, NearLaws, ShowTheSame}
use Rattle.call_command.specs.Laws.{TalkIsTheCall}
use Rattle.one_way.specs.Seen.{Seen, in_both}
use Rattle.call_command.proofs.After.{at_end, longer}
use Rattle.call_command.proofs.Agreeing.{trace_agrees, video_agrees}
use Rattle.call_command.proofs.Half.{half_some}

-- ---- the states along the way

module _ (p : Params) (frames_law : LaterFramesBoth (coding p) (rules_of p)) (events_law : EventLaws p) where
  abbrev begin : ReceiverRun Style Mb Picture
  begin = receiver_end.run_of p []

  abbrev both : List Frame → List Event → Joined Style Mb Picture
  both frames past = both_after p (steady p) frames [] past

  abbrev Near : List Frame → List Event → Type 0
  Near frames past = AllMayHappenBoth (coding p) (rules_of p) begin (steady p) frames past

  abbrev state : Bool → List Frame → List Event → ℕ → ℕ → ℕ → Bool → CallState
  state plain frames past at more lines ended =
      record {
        params = p;
        plain = plain;
        before = [];
        frames = frames;
        past = past;
        at = at;
        more = more;
        lines = lines;
        ended = ended;
      }

  -- its events are near, and each of its frames was sent; over the plain trace each was played, too
  record IsOn (plain : Bool) (frames : List Frame) (past : List Event) : Type 0 where
    near : Near frames past
    sent : length (both frames past).sender.coded ≡ length frames
    level : plain ≡ true → (both frames past).receiver.played ≡ length frames

  record IsOnWay (plain : Bool) (s : CallState) : Type 0 where
    frames : List Frame
    past : List Event
    place : ℕ
    more : ℕ
    lines : ℕ
    ended : Bool
    is : s ≡ state plain frames past place more lines ended
    on : IsOn plain frames past

  -- a step leads along the way, or ends
  abbrev Keeps : Bool → Step CallState → Type 0
  Keeps plain (Goes next turn) = IsOnWay plain next
  Keeps plain (Ends last) = Unit {0}

  -- ---- one frame more

  module _ (frames : List Frame) (past : List Event) (near : Near frames past)
      (sent : length (both frames past).sender.coded ≡ length frames) (f : Frame) where
    abbrev all : List Frame
    all = frames ++ f ∷ []

    abbrev n : ℕ
    n = length frames

    near_all : Near all past
    near_all = (frames_law begin (steady p) frames (f ∷ []) past near).1

    same_all : both all past ≡ both frames past
    same_all = (frames_law begin (steady p) frames (f ∷ []) past near).0

    coded_all : length (both all past).sender.coded ≡ n
    coded_all = ap (λ (w : Joined Style Mb Picture). length w.sender.coded) same_all ∙ sent

    played_all : (both all past).receiver.played ≡ (both frames past).receiver.played
    played_all = ap (λ (w : Joined Style Mb Picture). w.receiver.played) same_all

    coded_now : length (both all (Send ∷ past)).sender.coded ≡ n + 1
    coded_now =
        ap (λ (l : List (Coded Style Mb Picture)). length l)
        (events_law.captured [] all past f (ap (λ (k : ℕ). slice_get all k) coded_all ∙ at_end frames [] f))
        ∙ longer (both all past).sender.coded (next_of p (steady p) f (both all past))
        ∙ ap (λ (k : ℕ). k + 1) coded_all

    sent_more : length (both all (Send ∷ past)).sender.coded ≡ length all
    sent_more = coded_now ∙ sym (longer frames f)

    near_sent : n < (both frames past).receiver.played + (rules_of p).half → Near all (Send ∷ past)
    near_sent few = ((omega (arith, coded_all, longer frames f), omega (arith, coded_all, played_all, few)), near_all)

    -- it is passed on, where all before it were played
    module _ (level : (both frames past).receiver.played ≡ n) where
      sends : Near all (Send ∷ past)
      sends = near_sent (omega (arith, level, half_some p.clock))

      module _ (count : ℕ) where
        abbrev after_it : List Event
        after_it = delivered n count ++ Send ∷ past

        near_after : Near all after_it
        near_after =
            events_law.near [] all n count 0 (Send ∷ past)
            (omega (arith, coded_now), omega (arith, played_all, level, half_some p.clock)) sends

        coded_after : length (both all after_it).sender.coded ≡ n + 1
        coded_after =
            ap (λ (run : SenderRun Style Mb Picture). length run.coded) (events_law.sender [] all n count (Send ∷ past))
            ∙ coded_now

        played_after : (both all after_it).receiver.played ≡ n
        played_after = events_law.played [] all n count (Send ∷ past) ∙ played_all ∙ level

        near_passed : Near all (passed_on n count past)
        near_passed = (omega (arith, played_after, coded_after), near_after)

        on_passed : IsOn true all (passed_on n count past)
        on_passed = record {
          near = near_passed;
          sent = coded_after ∙ sym (longer frames f);
          level = λ _. ap (λ (k : ℕ). k + 1) played_after ∙ sym (longer frames f);
        }

  -- ---- the steps

  module _ (near_laws : NearLaws p) (agree : (frames : List Frame) (past : List Event) → Near frames past
      → ShowTheSame p frames past) where
    -- over the plain trace

    module _ (frames : List Frame) (past : List Event) (place more lines : ℕ) (ended : Bool) (inputs : Role
        → List ℕ) (on : IsOn true frames past) where
      abbrev here : CallState
      here = state true frames past place more lines ended

      abbrev count_of_slices : Frame → ℕ
      count_of_slices f = length (slices_at (by_ends (with_frame here f)).coded (length frames))

      plain_same : video_step by_ends here (inputs Video) ≡ call_step here inputs
      plain_same =
          video_agrees here (inputs Video) (agree frames past on.near)
          (λ planes.
          let f = bare (picture_of p.format planes) in (
            agree (frames ++ f ∷ []) (Send ∷ past) (sends frames past on.near on.sent f (on.level refl)),
            agree (frames ++ f ∷ []) (passed_on (length frames) (count_of_slices f) past)
                (near_passed frames past on.near on.sent f (on.level refl) (count_of_slices f)),
          ))

      keeps_frame : (video : List ℕ) (r : Result (List ℕ) Y4mFault) → Keeps true (frame_step by_ends here video r)
      keeps_frame video (Ok planes) =
          let f = bare (picture_of p.format planes) in
          record {
            frames = frames ++ f ∷ [];
            past = passed_on (length frames) (count_of_slices f) past;
            place = place + frame_size p.format video;
            more = more - 1;
            lines = lines;
            ended = ended;
            is = refl;
            on = on_passed frames past on.near on.sent f (on.level refl) (count_of_slices f);
          }
      keeps_frame video (Err fault) = tt

      keeps_video : (video : List ℕ) → Keeps true (video_step by_ends here video)
      keeps_video [] = tt
      keeps_video (b ∷ rest) = keeps_frame (b ∷ rest) (next_frame more p.format place (b ∷ rest))

    -- over a recorded trace

    module _ (frames : List Frame) (past : List Event) (place more lines : ℕ) (ended : Bool) (inputs : Role
        → List ℕ) (on : IsOn false frames past) where
      abbrev now : CallState
      now = state false frames past place more lines ended

      abbrev w : Joined Style Mb Picture
      w = both frames past

      abbrev seen : Seen
      seen = in_both w

      near_play : refusal_at by_ends now Play ≡ None → Near frames (Play ∷ past)
      near_play none = (near_laws.play [] frames past none, on.near)

      near_packet : (n j : ℕ) → refusal_at by_ends now (Deliver n j) ≡ None → Near frames (Deliver n j ∷ past)
      near_packet n j none = (near_laws.deliver [] frames past n j none, on.near)

      near_back : (k : ℕ) → refusal_at by_ends now (Back k) ≡ None → Near frames (Back k ∷ past)
      near_back k none = (near_laws.back [] frames past k none, on.near)

      recorded_same : trace_step by_ends now inputs (inputs Events) ≡ call_step now inputs
      recorded_same = trace_agrees now inputs (inputs Events) (agree frames past on.near)
          (λ none. agree frames (Play ∷ past) (near_play none))

      -- events that leave the pictures as many as they are
      on_event : (events : List Event) → Near frames events → length (both frames events).sender.coded ≡ length frames
          → IsOn false frames events
      on_event events near sent = record { near = near; sent = sent; level = λ is. absurd (cc is) }

      leads : (trace : List ℕ) (events : List Event) → IsOn false frames events
          → IsOnWay false (after_line (state false frames events place more lines ended) trace)
      leads trace events on = record {
        frames = frames;
        past = events;
        place = place;
        more = more;
        lines = lines + 1;
        ended = (after_line now trace).ended;
        is = refl;
        on = on;
      }

      keeps_unless : (trace : List ℕ) (e : Event) (o : Option Refusal) (step : Step CallState)
          → (o ≡ None → Keeps false step) → Keeps false (unless_refused (now.lines + 1) trace e o step)
      keeps_unless trace e None step keeps = keeps refl
      keeps_unless trace e (Some r) step keeps = tt

      abbrev refusal_of : Seen → Option Refusal
      refusal_of x = first_refusal (rules_of p) (length x.coded + 1) (length x.coded) x.played x.abouts Send

      keeps_captured : (trace : List ℕ) (size : ℕ) (r : Result (List ℕ) Y4mFault) → refusal_at by_ends now Send ≡ None
          → Keeps false (captured_step now trace size r)
      keeps_captured trace size (Ok planes) none =
          let f = bare (picture_of p.format planes) in
          let all = frames ++ f ∷ [] in
          let same = same_all frames past on.near on.sent f in
          let there : length (both all past).sender.coded < length all = omega (
            arith,
            coded_all frames past on.near on.sent f,
            longer frames f,
          ) in
          let first = near_laws.capture [] all past (ap (λ (x : Joined Style Mb Picture). refusal_of (in_both x)) same
          ∙ none) there in
          record {
            frames = frames ++ f ∷ [];
            past = Send ∷ past;
            place = place + size;
            more = more - 1;
            lines = lines + 1;
            ended = (after_line now trace).ended;
            is = refl;
            on = record {
              near = (first, near_all frames past on.near on.sent f);
              sent = sent_more frames past on.near on.sent f;
              level = λ is. absurd (cc is);
            };
          }
      keeps_captured trace size (Err fault) none = tt

      keeps_capture : (trace video : List ℕ) → refusal_at by_ends now Send ≡ None
          → Keeps false (capture_step now trace video)
      keeps_capture trace [] none = tt
      keeps_capture trace (b ∷ video) none = keeps_captured trace _ (next_frame more p.format place (b ∷ video)) none

      keeps_event : (trace : List ℕ) (line : Line) → Keeps false (event_step by_ends now inputs trace line)
      keeps_event trace says.Nothing = leads trace past on
      keeps_event trace says.Send = keeps_unless trace Send (refusal_at by_ends now Send) _
          (keeps_capture trace (inputs Video))
      keeps_event trace (says.Packet n j) =
          keeps_unless trace (Deliver n j) (refusal_at by_ends now (Deliver n j)) _
          (λ none.
          leads trace (Deliver n j ∷ past) (on_event (Deliver n j ∷ past) (near_packet n j none)
          (ap (λ (run : SenderRun Style Mb Picture). length run.coded) (events_law.packet [] frames n j past)
          ∙ on.sent)))
      keeps_event trace (says.All n) =
          let count = length (slices_at seen.coded n) in
          keeps_unless trace (Deliver n 0) (refusal_at by_ends now (Deliver n 0)) _
          (λ none.
          let first = (near_packet n 0 none).0 in
          leads trace (delivered n count ++ past) (on_event (delivered n count ++ past)
          (events_law.near [] frames n count 0 past first on.near)
          (ap (λ (run : SenderRun Style Mb Picture). length run.coded) (events_law.sender [] frames n count past)
          ∙ on.sent)))
      keeps_event trace (says.Back k) =
          keeps_unless trace (Back k) (refusal_at by_ends now (Back k)) _
          (λ none. leads trace (Back k ∷ past) (on_event (Back k ∷ past) (near_back k none)
          (ap (λ (l : List (Coded Style Mb Picture)). length l) (events_law.message [] frames k past) ∙ on.sent)))
      keeps_event trace says.Play =
          keeps_unless trace Play (refusal_at by_ends now Play) _
          (λ none. leads trace (Play ∷ past) (on_event (Play ∷ past) (near_play none) on.sent))

      keeps_line : (trace : List ℕ) (o : Option Line) → Keeps false (line_step by_ends now inputs trace o)
      keeps_line trace None = tt
      keeps_line trace (Some line) = keeps_event trace line

      keeps_choice : (b : Bool) (trace : List ℕ) (o : Option Line)
          → Keeps false (if b then line_step by_ends now inputs trace o else Ends (bad_line (TooMany (lines + 1))))
      keeps_choice true trace o = keeps_line trace o
      keeps_choice false trace o = tt

      keeps_trace : (trace : List ℕ) → Keeps false (trace_step by_ends now inputs trace)
      keeps_trace [] = tt
      keeps_trace (b ∷ trace) = keeps_choice (nat_lt lines 16777216) (b ∷ trace) (event_in (first_line (b ∷ trace)))

    -- ---- a turn

    same_here : (plain : Bool) (frames : List Frame) (past : List Event) (place more lines : ℕ) (ended : Bool)
        (inputs : Role → List ℕ) → IsOn plain frames past
        → talk_step (state plain frames past place more lines ended) inputs
        ≡ call_step (state plain frames past place more lines ended) inputs
    same_here true frames past place more lines ended inputs on = plain_same frames past place more lines ended inputs
        on
    same_here false frames past place more lines ended inputs on = recorded_same frames past place more lines ended
        inputs on

    keeps_here : (plain : Bool) (frames : List Frame) (past : List Event) (place more lines : ℕ) (ended : Bool)
        (inputs : Role → List ℕ) → IsOn plain frames past
        → Keeps plain (talk_step (state plain frames past place more lines ended) inputs)
    keeps_here true frames past place more lines ended inputs on = keeps_video frames past place more lines ended inputs
        on (inputs Video)
    keeps_here false frames past place more lines ended inputs on =
        keeps_trace frames past place more lines ended inputs on (inputs Events)

    same_turn : (plain : Bool) (s : CallState) (inputs : Role → List ℕ) → IsOnWay plain s
        → talk_step s inputs ≡ call_step s inputs
    same_turn plain s inputs k =
        subst (λ (y : CallState). talk_step y inputs ≡ call_step y inputs) (sym k.is)
        (same_here plain k.frames k.past k.place k.more k.lines k.ended inputs k.on)

    keeps_turn : (plain : Bool) (s : CallState) (inputs : Role → List ℕ) → IsOnWay plain s
        → Keeps plain (talk_step s inputs)
    keeps_turn plain s inputs k =
        subst (λ (y : CallState). Keeps plain (talk_step y inputs)) (sym k.is)
        (keeps_here plain k.frames k.past k.place k.more k.lines k.ended inputs k.on)

    -- ---- a run

    follow_same : (plain : Bool) (step : Step CallState) (a b : CallState → (Role → ℕ) → Run) → Keeps plain step
        → ((next : CallState) → IsOnWay plain next → (taken : Role → ℕ) → a next taken ≡ b next taken)
        → follow step a ≡ follow step b
    follow_same plain (Goes next turn) a b keeps same =
        ap (λ (run : Run). let longer_run : Run = record { turns = turn ∷ run.turns; last = run.last } in
        longer_run) (same next keeps turn.taken)
    follow_same plain (Ends last) a b keeps same = refl

    same_run : (turns : ℕ) (plain : Bool) (s : CallState) (inputs : Role → List ℕ) → IsOnWay plain s
        → machine_run talk_step turns s inputs ≡ machine_run call_step turns s inputs
    unfolding machine_run
    same_run zero plain s inputs k = ap (λ (step : Step CallState). follow step (λ next taken. silence))
        (same_turn plain s inputs k)
    same_run (suc turns) plain s inputs k =
        follow_same plain (talk_step s inputs) (λ next taken. machine_run talk_step turns next
        (left_after inputs taken))
        (λ next taken. machine_run call_step turns next (left_after inputs taken)) (keeps_turn plain s inputs k)
        (λ next on taken. same_run turns plain next (left_after inputs taken) on)
        ∙ ap (λ (step : Step CallState). follow step (λ next taken. machine_run call_step turns next
        (left_after inputs taken))) (same_turn plain s inputs k)

-- from the first state on
pub talk_is_the_call : (t : Terms) → LaterFramesBoth (coding t.params) (rules_of t.params) → EventLaws t.params
    → NearLaws t.params
    → ((frames : List Frame) (past : List Event)
    → AllMayHappenBoth (coding t.params) (rules_of t.params) (receiver_end.run_of t.params [])
    (steady t.params) frames past → ShowTheSame t.params frames past)
    → TalkIsTheCall t
talk_is_the_call t frames_law events_law near_laws agree at turns inputs =
    same_run t.params frames_law events_law near_laws agree turns t.plain (call_at_start t [] at) inputs
    (record {
      frames = [];
      past = [];
      place = at;
      more = 1048576;
      lines = 0;
      ended = false;
      is = refl;
      on = record { near = tt; sent = refl; level = λ _. refl };
    })
