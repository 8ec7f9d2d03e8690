-- The run of a call over a recorded trace, line by line.
use Rattle.std.proofs.Common.{◌≡◌, ◌≢◌, ℕ, zero, suc, ◌+◌, ◌-◌, ◌<◌, ◌≤◌, Bool, true, false, not, List, [], ◌∷◌, ◌++◌, length, drop, Option, Some, None, Result, Ok, Err, refl, sym, ap, subst, ◌∙◌, arith, nat_lt, if◌then◌else◌}
use Rattle.std.specs.Prelude.{map, slice_get, option_and_then}
use Rattle.std.proofs.lemmas.Bool.{ltb-false, ltb-true}
use Rattle.std.proofs.lemmas.List.{append-nil, append_assoc, drop-drop}
use Rattle.h263_types.specs.declared.blocks.Mb.{Mb}
use Rattle.h263_types.specs.declared.params.Params.{Params}
use Rattle.h263_planes.specs.Layout.{picture_of}
use Rattle.h263_planes.specs.Picture.{Picture}
use Rattle.h263_outside.specs.declared.desk.Role.{Role}
use Rattle.h263_outside.specs.declared.desk.Role.TheVariants.{Video, Events, Pictures, Report}
use Rattle.y4m.specs.declared.fault.Y4mFault.{Y4mFault}
use Rattle.y4m.specs.Frame.{next_frame, frame_size}
use Rattle.y4m.specs.Laws.{FrameLaws}
use Rattle.y4m.specs.Text.{frame_text}
use Rattle.y4m.specs.Video.{after_frame, first_video_fault as video_fault_of, frames_of}
use Rattle.loss_trace.specs.declared.event.Event.{Event as Line}
use Rattle.loss_trace.specs.declared.event.Event.TheVariants as says
use Rattle.loss_trace.specs.declared.fault.TraceFault.{TraceFault}
use Rattle.loss_trace.specs.declared.fault.TraceFault.TheVariants.{TooMany}
use Rattle.loss_trace.specs.Lines.{later_lines, first_line, is_closed}
use Rattle.loss_trace.specs.Reading.{event_in}
use Rattle.loss_trace.specs.Trace.{events_from, events_of, fault_from, first_trace_fault as trace_fault_of}
use Rattle.call_report.specs.declared.status.Status.{Status}
use Rattle.call_report.specs.declared.status.Status.TheVariants.{TraceRefused, VideoRefused}
use Rattle.h263_types.specs.Texts.{Text}
use Rattle.call_report.specs.Text.{picture_text}
use Rattle.call_model.specs.Before.{CountsAreThose, played_before, sent_before}
use Rattle.call_model.specs.Coding.{Shown, pictures_of}
use Rattle.call_model.specs.CodedPictures.{Coded}
use Rattle.call_model.specs.IdealCall.{AllMayHappen, MayHappen, Call, Event, Send, Deliver, Play, Back, about, ideal, shown_at, slices_at}
use Rattle.call_model.specs.LaterFrames.{LaterFrames}
use Rattle.call_model.specs.Refusals.{NotSent, NotSaid, Far, PlayBeforeSend, NoFrame as NoPicture, NoneWhereItMayHappen, Refusal, first_refusal, refusal_in}
use Rattle.call_decoding.specs.Rules.{rules_of}
use Rattle.call_decoding.specs.Styles.{Style}
use Rattle.call_encoding.specs.Frames.{Frame}
use Rattle.coded_call.specs.Coding.{coding}
use Rattle.receiver_end.specs.Answers.{mark_from}
use Rattle.desk_program.specs.Run.{Run, Step, Turn, left_after, follow, machine_run, silence, taken_of, text_of, texts_of}
use Rattle.desk_program.specs.Run.Step.{Goes, Ends}
use Rattle.desk_program.specs.Texts.{and_of, no_texts, of, only_at_ok}
use Rattle.one_way.specs.Both.{bare, steady}
use Rattle.call_command.specs.Counts.{call_text}
use Rattle.one_way.specs.Seen.{in_call, reference_in}
use Rattle.one_way.specs.Trace.{delivered}
use Rattle.call_command.specs.Call.{CallState, after_line, all_played, bad_line, by_call, call_step, capture_step, captured_step, event_step, line_size, line_step, line_turn, play_texts, refusal_at, trace_step, unless_refused}
use Rattle.call_command.specs.Refused.{fault_told}
use Rattle.call_command.specs.Recorded.{IsCallEnd, IsRefusal, IsRefusedCapture, LineMayHappen, LinesMayHappen, capture_told, film, played_lines, shown_text, with_line, with_lines}
use Rattle.call_command.proofs.After.{longer, push_then}
use Rattle.call_command.proofs.FramesLeft.{any_message, any_packet, any_play, send_distance, send_far, send_out}
use Rattle.call_command.proofs.Lines.{line_gone}
use Rattle.call_command.proofs.Trace.{coded_delivered, near_delivered, played_delivered, plays_delivered, sent_delivered}

-- ---- lists

pub slice_left : {X : Type 0} (xs ys : List X) (n : ℕ) → n < length xs → slice_get (xs ++ ys) n ≡ slice_get xs n
slice_left [] ys n below = absurd (omega (arith, below))
slice_left (x ∷ xs) ys zero below = refl
slice_left (x ∷ xs) ys (suc n) below = slice_left xs ys n (omega (arith, below))

-- pictures that are coded later change no line
lines_stay : (coded extra : List (Coded Style Mb Picture)) (plays : List (Shown Picture)) → length plays ≤ length coded
    → played_lines (coded ++ extra) plays ≡ played_lines coded plays
lines_stay coded extra [] few = refl
lines_stay coded extra (x ∷ plays) few =
    let before : length plays ≤ length coded = omega (arith, few) in
    let below : length plays < length coded = omega (arith, few) in
    ap (λ (l : Text). l ++ picture_text (length plays) (Some (mark_from x.mark))
    (Some (reference_in (coded ++ extra) (length plays))) None) (lines_stay coded extra plays before)
    ∙ ap (λ (o : Option (Coded Style Mb Picture)). played_lines coded plays
    ++ picture_text (length plays) (Some (mark_from x.mark))
    (Some (option_and_then (λ (y : Coded Style Mb Picture). y.reference) o)) None)
    (slice_left coded extra (length plays) below)

abbrev status_with : TraceFault → Status
status_with fault = TraceRefused fault

more_bytes : (n : ℕ) → 0 + n ≡ n
more_bytes n = omega arith

no_more : (n : ℕ) → n + 0 ≡ n
no_more n = omega arith

-- a refusal for another reason than that no frame is left is told as itself
distance_told : (broken : Option Y4mFault) (number : ℕ) (r : Refusal) → r ≢ NoPicture
    → TraceRefused (fault_told number Send r) ≡ capture_told broken number r
distance_told None number r other = refl
distance_told (Some fault) number NotSent other = refl
distance_told (Some fault) number NotSaid other = refl
distance_told (Some fault) number (Far given seen) other = refl
distance_told (Some fault) number PlayBeforeSend other = refl
distance_told (Some fault) number NoPicture other = absurd (other refl)

module _ (p : Params) (all : List Frame) (broken : Option Y4mFault) (later : LaterFrames (coding p) (rules_of p))
    (none : NoneWhereItMayHappen (rules_of p) Style Mb Picture) (counts : (frames : List Frame)
    → CountsAreThose (coding p) (rules_of p) (steady p) frames) where
  abbrev call : List Frame → List Event → Call Style Mb Picture
  call frames past = ideal (coding p) (rules_of p) (steady p) frames past

  abbrev Near : List Frame → List Event → Type 0
  Near frames past = AllMayHappen (coding p) (rules_of p) (steady p) frames past

  abbrev rows : Call Style Mb Picture → Text
  rows c = played_lines c.coded c.plays

  plays_count : (frames : List Frame) (past : List Event) → length (call frames past).plays ≡ played_before past
  plays_count frames [] = refl
  plays_count frames (Send ∷ past) = plays_count frames past
  plays_count frames (Deliver n j ∷ past) = plays_count frames past
  plays_count frames (Play ∷ past) = omega (arith, plays_count frames past)
  plays_count frames (Back k ∷ past) = plays_count frames past

  -- ---- the states along the way

  -- its events are near, each of its frames was sent, and these are still to come
  pub record IsOn (frames : List Frame) (past : List Event) (ahead : List Frame) : Type 0 where
    pub whole : frames ++ ahead ≡ all
    pub near : Near frames past
    pub sent : sent_before past ≡ length frames
    pub behind : played_before past ≤ sent_before past

  module _ (frames : List Frame) (past : List Event) (ahead : List Frame) (k : IsOn frames past ahead) where
    same_call : call all past ≡ call frames past
    same_call = subst (λ (l : List Frame). call l past ≡ call frames past) k.whole
        (later (steady p) frames ahead past k.near).0

    near_all : Near all past
    near_all = subst (λ (l : List Frame). Near l past) k.whole (later (steady p) frames ahead past k.near).1

  -- ---- what a run from there comes to

  -- over the events before it, where these lines are still to come in this text
  pub record Comes (past : List Event) (ahead : List Line) (fault : Option TraceFault) (number : ℕ) (text : List ℕ)
      (run : Run) : Type 0 where
    pub lines : List Line
    pub refused : List Line
    pub read : ahead ≡ lines ++ refused
    pub taken : length run.turns ≡ length lines
    pub near : Near all (with_lines p all past lines)
    pub may : LinesMayHappen p all past lines
    pub behind : played_before (with_lines p all past lines) ≤ sent_before (with_lines p all past lines)
    pub pictures : shown_text (call all (with_lines p all past lines)).plays ≡ shown_text (call all past).plays
        ++ text_of run Pictures
    pub report : rows (call all (with_lines p all past lines))
        ++ only_at_ok run.last.status (call_text (in_call (call all (with_lines p all past lines))))
        ≡ rows (call all past) ++ text_of run Report
    pub end : IsCallEnd p all broken fault (number + length lines) (with_lines p all past lines) refused run.last.status
    pub others : (fault : Y4mFault) → run.last.status ≡ VideoRefused fault → run.last.taken Events
        ≡ Some (line_size (drop (taken_of run.turns Events) text))

  abbrev stopped : Status → (Role → Option ℕ) → Step CallState
  stopped status taken = Ends (record { status = status; taken = taken; texts = no_texts })

  comes_stopped : (frames : List Frame) (past : List Event) (ahead : List Frame) (k : IsOn frames past ahead)
      (E : List Line) (F : Option TraceFault) (m : ℕ) (text : List ℕ) (rest : CallState → (Role → ℕ) → Run)
      (status : Status) (taken : Role → Option ℕ) → ((counts : Text) → only_at_ok status counts ≡ [])
      → ((fault : Y4mFault) → status ≡ VideoRefused fault → taken Events ≡ Some (line_size text))
      → IsCallEnd p all broken F (m + 0) past E status → Comes past E F m text (follow (stopped status taken) rest)
  comes_stopped frames past ahead k E F m text rest status taken silent spares end = record {
    end = end;
    others = spares;
    may = tt;
    lines = [];
    refused = E;
    read = refl;
    taken = refl;
    near = near_all frames past ahead k;
    behind = k.behind;
    pictures = sym (append-nil (shown_text (call all past).plays));
    report = ap (λ (l : Text). rows (call all past) ++ l) (silent (call_text (in_call (call all past))));
  }

  comes_end : (frames : List Frame) (past : List Event) (ahead : List Frame) (k : IsOn frames past ahead) (m : ℕ)
      (text : List ℕ) (rest : CallState → (Role → ℕ) → Run)
      → Comes past [] None m text (follow (Ends (all_played (in_call (call frames past)))) rest)
  comes_end frames past ahead k m text rest = record {
    end = refl;
    others = λ fault is. absurd (cc is);
    may = tt;
    lines = [];
    refused = [];
    read = refl;
    taken = refl;
    near = near_all frames past ahead k;
    behind = k.behind;
    pictures = sym (append-nil (shown_text (call all past).plays));
    report = ap (λ (c : Call Style Mb Picture). rows (call all past) ++ call_text (in_call c))
        (same_call frames past ahead k);
  }

  one_further : (m j : ℕ) → m + 1 + j ≡ m + suc j
  one_further m j = omega arith

  -- a line more
  comes_more : (line : Line) (E : List Line) (F : Option TraceFault) (m : ℕ) (past past2 : List Event)
      (text text2 : List ℕ) (turn : Turn) (run : Run) → past2 ≡ with_line p all past line
      → LineMayHappen p all past line → drop (turn.taken Events) text ≡ text2
      → shown_text (call all past2).plays ≡ shown_text (call all past).plays ++ turn.texts Pictures
      → rows (call all past2) ≡ rows (call all past) ++ turn.texts Report
      → Comes past2 E F (m + 1) text2 run
      → Comes past (line ∷ E) F m text (record { turns = turn ∷ run.turns; last = run.last })
  comes_more line E F m past past2 text text2 turn run is may gone pictures2 report2 comes2 =
      let now = with_line p all past line in
      let comes : Comes now E F (m + 1) text2 run = subst (λ (q : List Event). Comes q E F (m + 1) text2 run) is comes2
      in
      let pictures : shown_text (call all now).plays ≡ shown_text (call all past).plays ++ turn.texts Pictures =
      subst (λ (q : List Event). shown_text (call all q).plays ≡ shown_text (call all past).plays
      ++ turn.texts Pictures) is pictures2
      in
      let report : rows (call all now) ≡ rows (call all past) ++ turn.texts Report =
      subst (λ (q : List Event). rows (call all q) ≡ rows (call all past) ++ turn.texts Report) is report2
      in
      record {
        others = λ fault refused.
            comes.others fault refused
            ∙ ap (λ (l : List ℕ). Some (line_size l)) (ap (λ (l : List ℕ). drop (taken_of run.turns Events) l)
            (sym gone) ∙ drop-drop (taken_of run.turns Events) (turn.taken Events) text);
        may = (may, comes.may);
        end = subst (λ (j : ℕ). IsCallEnd p all broken F j (with_lines p all now comes.lines) comes.refused
            run.last.status)
            (one_further m (length comes.lines)) comes.end;
        lines = line ∷ comes.lines;
        refused = comes.refused;
        read = ap (λ (l : List Line). line ∷ l) comes.read;
        taken = ap suc comes.taken;
        near = comes.near;
        behind = comes.behind;
        pictures =
            comes.pictures
            ∙ ap (λ (l : Text). l ++ text_of run Pictures) pictures
            ∙ append_assoc (shown_text (call all past).plays) (turn.texts Pictures) (text_of run Pictures)
            ∙ ap (λ (l : Text). shown_text (call all past).plays
            ++ l) (sym (append_assoc (turn.texts Pictures) (texts_of run.turns Pictures)
            (run.last.texts Pictures)));
        report =
            comes.report
            ∙ ap (λ (l : Text). l ++ text_of run Report) report
            ∙ append_assoc (rows (call all past)) (turn.texts Report) (text_of run Report)
            ∙ ap (λ (l : Text). rows (call all past)
            ++ l) (sym (append_assoc (turn.texts Report) (texts_of run.turns Report) (run.last.texts Report)));
      }

  -- ---- a turn

  abbrev state : List Frame → List Event → ℕ → ℕ → ℕ → Bool → CallState
  state frames past at more lines ended =
      record {
        params = p;
        plain = false;
        before = [];
        frames = frames;
        past = past;
        at = at;
        more = more;
        lines = lines;
        ended = ended;
      }

  abbrev ahead_of : ℕ → ℕ → List ℕ → List Frame
  ahead_of more at video = film p (frames_of p.format more at video)

  -- the video's first fault from there on
  abbrev fault_at : ℕ → ℕ → List ℕ → Option Y4mFault
  fault_at more at video = video_fault_of p.format more at video

  some_left : (m at : ℕ) (rest planes : List ℕ) → next_frame m p.format at rest ≡ Ok planes → m - 1 + 1 ≡ m
  some_left zero at rest planes is = absurd (cc is)
  some_left (suc m) at rest planes is = omega arith

  module _ (frame_laws : FrameLaws) (frames : List Frame) (past : List Event) (at more lines : ℕ) (ended : Bool)
      (inputs : Role → List ℕ) (k : IsOn frames past (ahead_of more at (inputs Video)))
      (still : fault_at more at (inputs Video) ≡ broken) (E : List Line) (F : Option TraceFault) (rest : CallState
      → (Role → ℕ) → Run) where
    abbrev now : CallState
    now = state frames past at more lines ended

    abbrev c : Call Style Mb Picture
    c = call frames past

    abbrev quiet_pictures : shown_text (call all past).plays ≡ shown_text (call all past).plays ++ []
    quiet_pictures = sym (append-nil (shown_text (call all past).plays))

    abbrev quiet_rows : rows (call all past) ≡ rows (call all past) ++ []
    quiet_rows = sym (append-nil (rows (call all past)))

    module _ (trace : List ℕ) (is : inputs Events ≡ trace)
        (go : (frames2 : List Frame) (past2 : List Event) (at2 more2 : ℕ) (ended2 : Bool) (taken : Role
        → ℕ) (left : List ℕ)
        → left_after inputs taken Events ≡ later_lines trace → left_after inputs taken Video ≡ left
        → IsOn frames2 past2 (ahead_of more2 at2 left) → fault_at more2 at2 left ≡ broken
        → Comes past2 E F (lines + 1 + 1) (left_after inputs taken Events)
        (rest (state frames2 past2 at2 more2 (lines + 1) ended2) taken)) where
      abbrev size : ℕ
      size = line_size trace

      gone : left_after inputs (of Events size) Events ≡ later_lines trace
      gone = ap (λ (l : List ℕ). drop size l) is ∙ line_gone trace

      abbrev Takes : Line → Step CallState → Type 0
      Takes line step = Comes past (line ∷ E) F (lines + 1) (inputs Events) (follow step rest)

      -- a refusal ends the call
      abbrev IsWhy : Line → Event → Type 0
      IsWhy line e = (r : Refusal) → refusal_at by_call now e ≡ Some r
          → IsCallEnd p all broken F (lines + 1 + 0) past (line ∷ E) (TraceRefused (fault_told (lines + 1) e r))

      unless_comes : (line : Line) (e : Event) (o : Option Refusal) (step : Step CallState) → refusal_at by_call now e
          ≡ o → IsWhy line e → (o ≡ None → Takes line step) → Takes line (unless_refused (now.lines + 1) trace e o step)
      unless_comes line e None step found why takes = takes refl
      unless_comes line e (Some r) step found why takes = comes_stopped frames past _ k (line ∷ E) F (lines + 1)
          (inputs Events) rest _ _ (λ text. refl) (λ fault is. absurd (cc is)) (why r found)

      told_at : (e : Event) (r : Refusal) → refusal_in (rules_of p) (length all) (call all past) e ≡ Some r
          → IsRefusal p all (lines + 1 + 0) past e (TraceRefused (fault_told (lines + 1) e r))
      told_at e r is = (r, is, ap (λ (j : ℕ). status_with (fault_told j e r)) (sym (no_more (lines + 1))))

      -- of all events but a capture it makes no difference how many pictures are there
      refused_so : (e : Event) (r : Refusal) → ((a b sent played : ℕ) (abouts : List ℕ)
          → first_refusal (rules_of p) a sent played abouts e ≡ first_refusal (rules_of p) b sent played abouts e)
          → refusal_at by_call now e ≡ Some r → refusal_in (rules_of p) (length all) (call all past) e ≡ Some r
      refused_so e r any is =
          ap (λ (x : Call Style Mb Picture). refusal_in (rules_of p) (length all) x e) (same_call frames past _ k)
          ∙ any (length all) (length c.coded + 1) (length c.coded) c.played (map about c.said)
          ∙ is

      captures_so : (left : ℕ) (r : Refusal) → refusal_at by_call now Send ≡ Some r
          → refusal_in (rules_of p) left (call all past) Send ≡ Some r
      captures_so left r is =
          ap (λ (x : Call Style Mb Picture). refusal_in (rules_of p) left x Send) (same_call frames past _ k)
          ∙ send_far (rules_of p) left (length c.coded) c.played (map about c.said) r is

      -- no frame is left
      none_left : ahead_of more at (inputs Video) ≡ [] → refusal_at by_call now Send ≡ None
          → refusal_in (rules_of p) (length all) (call all past) Send ≡ Some NoPicture
      none_left nothing is =
          let frames_all : frames ≡ all = sym (append-nil frames) ∙ ap (λ (l : List Frame). frames ++ l) (sym nothing)
          ∙ k.whole in
          let count : length frames ≡ length all = ap (λ (l : List Frame). length l) frames_all in
          ap (λ (x : Call Style Mb Picture). refusal_in (rules_of p) (length all) x Send) (same_call frames past _ k)
          ∙ send_out (rules_of p) (length all) (length c.coded) c.played (map about c.said)
          (omega (arith, count, (counts frames past).0 k.near, k.sent)) is

      -- a capture that is too far is told so, whatever fault the video has
      far_told : (r : Refusal) → refusal_at by_call now Send ≡ Some r
          → IsRefusedCapture p all broken (lines + 1 + 0) past (TraceRefused (fault_told (lines + 1) Send r))
      far_told r is = (
        r,
        captures_so (length all) r is,
        ap (λ (j : ℕ). status_with (fault_told j Send r)) (sym (no_more (lines + 1)))
            ∙ distance_told broken (lines + 1 + 0) r (send_distance (rules_of p) (length c.coded) c.played
            (map about c.said) r is),
      )

      -- events that leave what was sent, and show nothing
      quiet : (line : Line) (past2 : List Event) → past2 ≡ with_line p all past line
          → LineMayHappen p all past line → (call all past2).plays ≡ (call all past).plays → (call all past2).coded
          ≡ (call all past).coded → IsOn frames past2 (ahead_of more at (inputs Video))
          → Takes line (Goes (after_line (state frames past2 at more lines ended) trace) (line_turn trace no_texts))
      quiet line past2 same may plays coded on =
          comes_more line E F (lines + 1) past past2 (inputs Events) _ (line_turn trace no_texts) _ same may refl
          (ap shown_text plays ∙ quiet_pictures)
          ((λ i. played_lines (coded i) (plays i)) ∙ quiet_rows)
          (go frames past2 at more (not (is_closed trace)) (of Events size) (inputs Video) gone refl on still)

      packet_comes : (n j : ℕ) → refusal_at by_call now (Deliver n j) ≡ None
          → Takes (says.Packet n j) (Goes (after_line (state frames (Deliver n j ∷ past) at more lines ended) trace)
          (line_turn trace no_texts))
      packet_comes n j o =
          let on : IsOn frames (Deliver n j ∷ past) (ahead_of more at (inputs Video)) =
          record {
            whole = k.whole;
            near = ((none (length c.coded + 1) c (Deliver n j)).0 o, k.near);
            sent = k.sent;
            behind = k.behind;
          }
          in
          quiet (says.Packet n j) (Deliver n j ∷ past) refl (near_all frames (Deliver n j ∷ past) _ on).0 refl refl on

      back_comes : (m : ℕ) → refusal_at by_call now (Back m) ≡ None
          → Takes (says.Back m) (Goes (after_line (state frames (Back m ∷ past) at more lines ended) trace)
          (line_turn trace no_texts))
      back_comes m o =
          let on : IsOn frames (Back m ∷ past) (ahead_of more at (inputs Video)) =
          record {
            whole = k.whole;
            near = ((none (length c.coded + 1) c (Back m)).0 o, k.near);
            sent = k.sent;
            behind = k.behind;
          }
          in
          quiet (says.Back m) (Back m ∷ past) refl (near_all frames (Back m ∷ past) _ on).0 refl refl on

      all_comes : (n : ℕ) → refusal_at by_call now (Deliver n 0) ≡ None
          → Takes (says.All n) (Goes (after_line (state frames (delivered n (length (slices_at c.coded n))
          ++ past) at more lines ended) trace) (line_turn trace no_texts))
      all_comes n o =
          let count = length (slices_at c.coded n) in
          let may = (none (length c.coded + 1) c (Deliver n 0)).0 o in
          let by = counts frames past in
          let below : n < sent_before past = omega (arith, may.0, by.0 k.near) in
          let close : played_before past < n + (rules_of p).half = omega (arith, may.1, by.1) in
          quiet (says.All n) (delivered n count ++ past)
          (ap (λ (x : Call Style Mb Picture). delivered n (length (slices_at x.coded n))
          ++ past) (sym (same_call frames past _ k)))
          (subst (λ (x : Call Style Mb Picture). MayHappen (rules_of p) (length all) x (Deliver n 0))
          (sym (same_call frames past _ k)) may)
          (plays_delivered (coding p) (rules_of p) (steady p) all n count past)
          (coded_delivered (coding p) (rules_of p) (steady p) all n count past)
          (record {
            whole = k.whole;
            near = near_delivered (coding p) (rules_of p) (steady p) frames (counts frames) n count past k.near below
                close;
            sent = sent_delivered n count past ∙ k.sent;
            behind = omega (arith, sent_delivered n count past, played_delivered n count past, k.behind);
          })

      on_played : refusal_at by_call now Play ≡ None → IsOn frames (Play ∷ past) (ahead_of more at (inputs Video))
      on_played o =
          let may = (none (length c.coded + 1) c Play).0 o in
          let by = counts frames past in
          record {
            whole = k.whole;
            near = (may, k.near);
            sent = k.sent;
            behind = omega (arith, may, by.0 k.near, by.1);
          }

      -- what the play shows
      abbrev newest : Shown Picture
      newest = shown_at (pictures_of (coding p)) (call all past).coded (call all past).arrivals (call all past).plays
          (call all past).played

      play_comes : refusal_at by_call now Play ≡ None
          → Takes says.Play (Goes (after_line (state frames (Play ∷ past) at more lines ended) trace)
          (line_turn trace (play_texts (in_call (call frames (Play ∷ past))) c.played)))
      play_comes o =
          let on = on_played o in
          let texts_in : Role → Text = λ r. play_texts (in_call (call all (Play ∷ past))) (call all past).played r in
          let texts_are : (r : Role) → texts_in r ≡ play_texts (in_call (call frames (Play ∷ past))) c.played r =
          λ r. λ i. play_texts (in_call (same_call frames (Play ∷ past) _ on i)) (same_call frames past _ k i).played r
          in
          let a = call all past in
          let n : length a.plays ≡ a.played = plays_count all past ∙ sym (counts all past).1 in
          let row : ℕ → Text = λ m. picture_text m (Some (mark_from newest.mark)) (Some (reference_in a.coded m)) None
          in
          comes_more says.Play E F (lines + 1) past (Play ∷ past) (inputs Events) _
          (line_turn trace (play_texts (in_call (call frames (Play ∷ past))) c.played)) _ refl
          (near_all frames (Play ∷ past) _ on).0 refl
          (ap (λ (l : Text). shown_text a.plays
          ++ l) (sym (append-nil (frame_text (mark_from newest.mark) newest.picture)) ∙ texts_are Pictures))
          (ap (λ (l : Text). rows a ++ l) (ap row n ∙ texts_are Report))
          (go frames (Play ∷ past) at more (not (is_closed trace)) (of Events size) (inputs Video) gone refl on still)

      -- a frame is sent
      captured_comes : (b : ℕ) (v : List ℕ) → inputs Video ≡ b ∷ v → refusal_at by_call now Send ≡ None
          → (r : Result (List ℕ) Y4mFault) → next_frame more p.format at (b ∷ v) ≡ r
          → Takes says.Send (captured_step now trace (frame_size p.format (b ∷ v)) r)
      captured_comes b v video o (Err fault) found =
          let stops = frame_laws.stops p.format more at (b ∷ v) fault (omega arith) found in
          let nothing : ahead_of more at (inputs Video) ≡ [] =
          ap (λ (l : List ℕ). ahead_of more at l) video ∙ ap (λ (l : List (List ℕ)). film p l) stops.0
          in
          let fault_is : Some fault ≡ broken = sym (ap (λ (l : List ℕ). fault_at more at l) video ∙ stops.1) ∙ still in
          comes_stopped frames past _ k (says.Send ∷ E) F (lines + 1) (inputs Events) rest _ _ (λ text. refl)
          (λ other same. ap (λ (l : List ℕ). Some (line_size l)) (sym is)) (
            NoPicture,
            none_left nothing o,
            ap (λ (x : Option Y4mFault). capture_told x (lines + 1 + 0) NoPicture) fault_is,
          )
      captured_comes b v video o (Ok planes) found =
          let x = bare (picture_of p.format planes) in
          let frame = frame_size p.format (b ∷ v) in
          let left = after_frame p.format (b ∷ v) in
          let some : 0 < length (b ∷ v) = omega arith in
          let e = frame_laws.next p.format more (more - 1) at (b ∷ v) planes (some_left more at (b ∷ v) planes found)
          some found in
          let frames2 = frames ++ x ∷ [] in
          let ahead2 = ahead_of (more - 1) (at + frame) left in
          let laters = later (steady p) frames (x ∷ []) past k.near in
          let may = (none (length c.coded + 1) c Send).0 o in
          let by = counts frames past in
          let by2 = counts frames2 past in
          let by_all = counts all past in
          let near_now : Near all past = near_all frames past _ k in
          let few : length (call all past).plays ≤ length (call all past).coded = omega (
            arith,
            plays_count all past,
            by_all.0 near_now,
            k.behind,
          ) in
          let whole2 : frames2 ++ ahead2 ≡ all =
          push_then frames ahead2 x
          ∙ ap (λ (l : List (List ℕ)). frames ++ film p l) (sym e.frames)
          ∙ ap (λ (l : List ℕ). frames ++ ahead_of more at l) (sym video)
          ∙ k.whole
          in
          let below : length (call frames2 past).coded < length frames2 = omega (
            arith,
            by2.0 laters.1,
            k.sent,
            longer frames x,
          ) in
          let close : length (call frames2 past).coded < (call frames2 past).played + (rules_of p).half =
          omega (arith, by2.0 laters.1, by2.1, by.0 k.near, by.1, may.1)
          in
          let on : IsOn frames2 (Send ∷ past) ahead2 =
          record {
            whole = whole2;
            near = ((below, close), laters.1);
            sent = omega (arith, k.sent, longer frames x);
            behind = omega (arith, k.behind);
          }
          in
          comes_more says.Send E F (lines + 1) past (Send ∷ past) (inputs Events) _ _ _ refl
          (near_all frames2 (Send ∷ past) _ on).0 refl
          quiet_pictures
          (lines_stay (call all past).coded _ (call all past).plays few ∙ quiet_rows)
          (go frames2 (Send ∷ past) (at + frame) (more - 1) (not (is_closed trace))
          (and_of (of Events size) (of Video frame)) left
          (ap (λ (m : ℕ). drop m (inputs Events)) (no_more size) ∙ gone)
          (ap (λ (m : ℕ). drop m (inputs Video)) (more_bytes frame) ∙ ap (λ (l : List ℕ). drop frame l) video)
          on (sym e.fault ∙ sym (ap (λ (l : List ℕ). fault_at more at l) video) ∙ still))

      send_comes : (video : List ℕ) → inputs Video ≡ video → refusal_at by_call now Send ≡ None
          → Takes says.Send (capture_step now trace video)
      send_comes [] there o =
          let ends = frame_laws.ends p.format more at in
          let nothing : ahead_of more at (inputs Video) ≡ [] =
          ap (λ (l : List ℕ). ahead_of more at l) there ∙ ap (λ (l : List (List ℕ)). film p l) ends.0
          in
          let none_is : None ≡ broken = sym (ap (λ (l : List ℕ). fault_at more at l) there ∙ ends.1) ∙ still in
          comes_stopped frames past _ k (says.Send ∷ E) F (lines + 1) (inputs Events) rest _ _ (λ text. refl)
          (λ fault is. absurd (cc is)) (
            NoPicture,
            none_left nothing o,
            ap (λ (j : ℕ). status_with (fault_told j Send NoPicture)) (sym (no_more (lines + 1)))
                ∙ ap (λ (x : Option Y4mFault). capture_told x (lines + 1 + 0) NoPicture) none_is,
          )
      send_comes (b ∷ v) there o = captured_comes b v there o (next_frame more p.format at (b ∷ v)) refl

      event_comes : (line : Line) → Takes line (event_step by_call now inputs trace line)
      event_comes says.Nothing = quiet says.Nothing past refl tt refl refl k
      event_comes says.Send =
          unless_comes says.Send Send (refusal_at by_call now Send) _ refl far_told (send_comes (inputs Video) refl)
      event_comes (says.Packet n j) =
          unless_comes (says.Packet n j) (Deliver n j) (refusal_at by_call now (Deliver n j)) _ refl
          (λ r is. told_at (Deliver n j) r (refused_so (Deliver n j) r (any_packet (rules_of p) n j) is))
          (packet_comes n j)
      event_comes (says.All n) =
          unless_comes (says.All n) (Deliver n 0) (refusal_at by_call now (Deliver n 0)) _ refl
          (λ r is. told_at (Deliver n 0) r (refused_so (Deliver n 0) r (any_packet (rules_of p) n 0) is))
          (all_comes n)
      event_comes (says.Back m) =
          unless_comes (says.Back m) (Back m) (refusal_at by_call now (Back m)) _ refl
          (λ r is. told_at (Back m) r (refused_so (Back m) r (any_message (rules_of p) m) is)) (back_comes m)
      event_comes says.Play =
          unless_comes says.Play Play (refusal_at by_call now Play) _ refl
          (λ r is. told_at Play r (refused_so Play r (any_play (rules_of p)) is)) play_comes

      line_comes : (o : Option Line)
          → Comes past (events_from o E) (fault_from o (lines + 1) F) (lines + 1) (inputs Events)
          (follow (line_step by_call now inputs trace o) rest)
      line_comes None = comes_stopped frames past _ k [] _ (lines + 1) (inputs Events) rest _ _ (λ text. refl)
          (λ fault is. absurd (cc is)) refl
      line_comes (Some line) = event_comes line

  -- ---- the run

  abbrev or_many : Bool → ℕ → Step CallState → Step CallState
  or_many b lines step = if b then step else Ends (bad_line (TooMany (lines + 1)))

  module _ (frame_laws : FrameLaws) where
    -- after each line the run goes on with one turn less
    abbrev GoesOn : ℕ → ℕ → List ℕ → (Role → List ℕ) → Type 0
    GoesOn n lines trace inputs =
        (frames2 : List Frame) (past2 : List Event) (at2 more2 : ℕ) (ended2 : Bool) (taken : Role → ℕ) (left : List ℕ)
        → left_after inputs taken Events ≡ later_lines trace → left_after inputs taken Video ≡ left
        → IsOn frames2 past2 (ahead_of more2 at2 left) → fault_at more2 at2 left ≡ broken
        → Comes past2 (events_of n (later_lines trace)) (trace_fault_of n (lines + 1 + 1) (later_lines trace))
        (lines + 1 + 1) (left_after inputs taken Events)
        (machine_run call_step n (state frames2 past2 at2 more2 (lines + 1) ended2) (left_after inputs taken))

    module _ (frames : List Frame) (past : List Event) (at more lines : ℕ) (ended : Bool) (inputs : Role
        → List ℕ) (k : IsOn frames past (ahead_of more at (inputs Video))) (still : fault_at more at (inputs Video)
        ≡ broken) where
      abbrev here : CallState
      here = state frames past at more lines ended

      last_choice : (b : Bool) (step : Step CallState) → lines + 0 ≡ 16777216 → nat_lt lines 16777216 ≡ b
          → Comes past [] (Some (TooMany (lines + 1))) (lines + 1) (inputs Events)
          (follow (or_many b lines step) (λ next taken. silence))
      last_choice true step room few = absurd (omega (arith, ltb-true lines 16777216 few, room))
      last_choice false step room many = comes_stopped frames past _ k [] _ (lines + 1) (inputs Events)
          (λ next taken. silence) _ _ (λ text. refl) (λ fault is. absurd (cc is)) refl

      last_comes : (trace : List ℕ) → lines + 0 ≡ 16777216
          → Comes past [] (trace_fault_of 0 (lines + 1) trace) (lines + 1) (inputs Events)
          (follow (trace_step by_call here inputs trace) (λ next taken. silence))
      unfolding trace_fault_of
      last_comes [] room = comes_end frames past _ k (lines + 1) (inputs Events) (λ next taken. silence)
      last_comes (b ∷ trace) room = last_choice (nat_lt lines 16777216) _ room refl

      module _ (n : ℕ) where
        abbrev on_with : CallState → (Role → ℕ) → Run
        on_with next taken = machine_run call_step n next (left_after inputs taken)

        choice_comes : (b : Bool) (bytes : ℕ) (trace : List ℕ) → inputs Events ≡ bytes ∷ trace
            → GoesOn n lines (bytes ∷ trace) inputs → lines + suc n ≡ 16777216 → nat_lt lines 16777216 ≡ b
            → Comes past (events_from (event_in (first_line (bytes ∷ trace)))
            (events_of n (later_lines (bytes ∷ trace))))
            (fault_from (event_in (first_line (bytes ∷ trace))) (lines + 1)
            (trace_fault_of n (lines + 1 + 1) (later_lines (bytes ∷ trace)))) (lines + 1) (inputs Events)
            (follow (or_many b lines (line_step by_call here inputs (bytes ∷ trace)
            (event_in (first_line (bytes ∷ trace))))) on_with)
        choice_comes false bytes trace is go room many = absurd (omega (arith, ltb-false lines 16777216 many, room))
        choice_comes true bytes trace is go room few =
            line_comes frame_laws frames past at more lines ended inputs k still
            (events_of n (later_lines (bytes ∷ trace)))
            (trace_fault_of n (lines + 1 + 1) (later_lines (bytes ∷ trace))) on_with (bytes ∷ trace) is go
            (event_in (first_line (bytes ∷ trace)))

        step_comes : (trace : List ℕ) → inputs Events ≡ trace → GoesOn n lines trace inputs → lines + suc n ≡ 16777216
            → Comes past (events_of (suc n) trace) (trace_fault_of (suc n) (lines + 1) trace) (lines + 1)
            (inputs Events) (follow (trace_step by_call here inputs trace) on_with)
        unfolding events_of trace_fault_of
        step_comes [] is go room = comes_end frames past _ k (lines + 1) (inputs Events) on_with
        step_comes (bytes ∷ trace) is go room = choice_comes (nat_lt lines 16777216) bytes trace is go room refl

    one_less : (lines n : ℕ) → lines + suc n ≡ 16777216 → lines + 1 + n ≡ 16777216
    one_less lines n room = omega (arith, room)

    pub run_comes : (n : ℕ) (frames : List Frame) (past : List Event) (at more lines : ℕ) (ended : Bool) (inputs : Role
        → List ℕ) → IsOn frames past (ahead_of more at (inputs Video)) → fault_at more at (inputs Video) ≡ broken
        → lines + n ≡ 16777216 → Comes past (events_of n (inputs Events)) (trace_fault_of n (lines + 1) (inputs Events))
        (lines + 1) (inputs Events) (machine_run call_step n (state frames past at more lines ended) inputs)
    unfolding machine_run events_of trace_fault_of
    run_comes zero frames past at more lines ended inputs k still room =
        last_comes frames past at more lines ended inputs k still (inputs Events) room
    run_comes (suc n) frames past at more lines ended inputs k still room =
        step_comes frames past at more lines ended inputs k still n (inputs Events) refl
        (λ frames2 past2 at2 more2 ended2 taken left gone seen on still2.
        subst (λ (l : List ℕ). Comes past2 (events_of n l) (trace_fault_of n (lines + 1 + 1) l) (lines + 1 + 1)
        (left_after inputs taken Events) (machine_run call_step n (state frames2 past2 at2 more2 (lines + 1) ended2)
        (left_after inputs taken))) gone
        (run_comes n frames2 past2 at2 more2 (lines + 1) ended2 (left_after inputs taken)
        (subst (λ (l : List ℕ). IsOn frames2 past2 (ahead_of more2 at2 l)) (sym seen) on)
        (ap (λ (l : List ℕ). fault_at more2 at2 l) seen ∙ still2)
        (one_less lines n room)))
        room
