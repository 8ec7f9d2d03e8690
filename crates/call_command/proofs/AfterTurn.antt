-- A line that was read: it is refused, or its event is done.
use Rattle.std.proofs.Common.{◌≡◌, ℕ, ◌+◌, ◌-◌, Bool, true, false, not, List, [], ◌∷◌, ◌++◌, length, drop, Option, None, Result, Ok, Err, IsErrAnd, refl, sym, ap, subst, ◌∙◌, arith}
use Rattle.h263_types.specs.declared.params.Params.{Params}
use Rattle.h263_planes.specs.Layout.{picture_of}
use Rattle.h263_outside.specs.Desk.{Outside, Rose}
use Rattle.h263_outside.specs.declared.desk.Role.{Role}
use Rattle.h263_outside.specs.declared.desk.Role.TheVariants.{Video, Events}
use Rattle.y4m.specs.Place.{Y4mPlace}
use Rattle.loss_trace.specs.declared.event.Event.{Event as Line}
use Rattle.loss_trace.specs.declared.event.Event.TheVariants as says
use Rattle.loss_trace.specs.declared.fault.TraceFault.{TraceFault}
use Rattle.loss_trace.specs.Lines.{is_closed}
use Rattle.loss_trace.specs.Reader.{Passes}
use Rattle.loss_trace.specs.Place.{TracePlace}
use Rattle.call_report.specs.declared.status.Status.{Status}
use Rattle.call_report.specs.declared.status.Status.TheVariants.{TraceRefused, WriteFault}
use Rattle.desk_program.specs.Run.{Step, left_after}
use Rattle.desk_program.specs.Run.Step.{Goes}
use Rattle.desk_program.specs.Ends.{Ended, Gains, GainsFronts, KeepsRoles, TurnGives, Went, step_texts}
use Rattle.desk_program.specs.Laws.{StepLaws, TurnLaws}
use Rattle.desk_program.specs.Texts.{and_of, no_texts, of}
use Rattle.call_model.specs.IdealCall.{Event, Send, Deliver, Play, Back, slices_at}
use Rattle.call_model.specs.JoinedRun.{Joined}
use Rattle.call_model.specs.LaterFrames.{LaterFramesBoth}
use Rattle.call_model.specs.Refusals.{Refusal, first_refusal}
use Rattle.call_decoding.specs.Rules.{rules_of}
use Rattle.call_decoding.specs.Styles.{Style}
use Rattle.call_encoding.specs.Frames.{Frame}
use Rattle.coded_call.specs.Coding.{coding}
use Rattle.h263_types.specs.declared.blocks.Mb.{Mb}
use Rattle.h263_planes.specs.Picture.{Picture}
use Rattle.receiver_end.specs.declared.kept.Kept.{Kept}
use Rattle.receiver_end.specs.State as receiver_end
use Rattle.one_way.specs.declared.refusals.EventRefusal.{EventRefusal as Told}
use Rattle.one_way.specs.Both.{State, bare, both_after, steady}
use Rattle.one_way.specs.Laws.{WayLaws}
use Rattle.one_way.specs.Refused.{IsAllowed, refusal_after}
use Rattle.one_way.specs.Seen.{in_both}
use Rattle.call_command.specs.declared.link.Link.{Link}
use Rattle.call_command.specs.declared.world.World.{World}
use Rattle.call_command.specs.Call.{CallState, after_line, by_ends, capture_step, event_step, line_size, line_turn, may_read, play_texts, refusal_at, unless_refused, with_frame, with_message, with_packet_delivered, with_packets, with_next_play}
use Rattle.call_command.specs.Refused.{IsNotRefused, IsRefusedWith, fault_on_line, fault_told}
use Rattle.call_command.specs.Standing.{HasDone, HasTaken, CallParts, PartsReady, PartsStand, StoodBefore, more_of, call_parts, call_state_of}
use Rattle.call_command.specs.Turning.{IsAsked, IsChecked, IsRead, TakesFrame, TakesLine, names_of}
use Rattle.call_command.proofs.After.{longer, push_then}
use Rattle.call_command.proofs.Counting.{done_now, gave_up, goes_on, was_cut}
use Rattle.call_command.proofs.LineTurning.{line_goes, line_refused}
use Rattle.call_command.proofs.Lines.{nothing_after}

-- ---- a line that was read

-- the parts stood at the state before it
pub stood_after : (x : CallParts) (s : CallState) (inputs : Role → List ℕ) → PartsStand x s inputs → x.terms.plain
    ≡ false
    → (trace : TracePlace) (left : Option (List ℕ)) → trace.lines ≡ x.link.trace.lines + 1
    → Passes (inputs Events) trace left
    → StoodBefore (record x { link = record x.link { trace = trace } }) (call_state_of x s.before s.frames s.past)
    inputs
stood_after x s inputs k recorded trace left lines passes = record {
  is = λ i. record (call_state_of x s.before s.frames s.past) { lines = sym lines i; ended = sym passes.ends i };
  begun = k.begun;
  sent = k.sent;
  recorded = recorded;
  over = λ ended. nothing_after (inputs Events) (open_end (is_closed (inputs Events)) (sym passes.ends ∙ ended));
  holds = k.holds;
}
  where
    open_end : (b : Bool) → not b ≡ true → b ≡ false
    open_end true is = absurd (cc is)
    open_end false is = refl

module _ (x : CallParts) (s : CallState) (inputs : Role → List ℕ) (k : StoodBefore x s inputs) where
  abbrev trace : List ℕ
  trace = inputs Events

  abbrev p : Params
  p = x.terms.params

  abbrev taken_line : Role → ℕ
  taken_line = of Events (line_size trace)

  params_is : s.params ≡ p
  params_is = ap (λ (st : CallState). st.params) k.is

  pub done_here : HasDone x s.before s.frames s.past
  done_here = done_now x s k.holds

  -- the refusal by the state is that by both ends
  pub refusal_here : (e : Event) → refusal_at by_ends s e ≡ refusal_after p s.before s.frames s.past e
  refusal_here e = ap (λ (q : Params). refusal_after q s.before s.frames s.past e) params_is

  -- and it is the same whatever frames come after
  abbrev refusal_of : Joined Style Mb Picture → Event → Option Refusal
  refusal_of both e =
      let seen = in_both both in
      first_refusal (rules_of p) (length seen.coded + 1) (length seen.coded) seen.played seen.abouts e

  pub refusal_later : LaterFramesBoth (coding p) (rules_of p) → (e : Event) (later : List Frame)
      → refusal_after p s.before (s.frames ++ later) s.past e ≡ refusal_after p s.before s.frames s.past e
  refusal_later frames_law e later =
      ap (λ (both : Joined Style Mb Picture). refusal_of both e) (frames_law (receiver_end.run_of p s.before)
      (steady p) s.frames later s.past done_here.way_holds.near).0

  -- ---- a refused event

  module _ (laws : TurnLaws) (before mid : Outside) (taken : HasTaken inputs before mid) (told : Told) (line : ℕ)
      (number : line ≡ s.lines + 1) (fault : TraceFault) (fault_is : fault ≡ fault_on_line line told) where
    event_refused : (e : Event) (step : Step CallState)
        → IsAllowed (Err told) e (refusal_after p s.before s.frames s.past e)
        → Ended (unless_refused (s.lines + 1) trace e (refusal_at by_ends s e) step) (TraceRefused fault) inputs before
        mid
    event_refused e step refused =
        let told_so = refused.2 in
        line_refused s inputs before mid taken laws (TraceRefused fault) (fault_told (s.lines + 1) e refused.0) _
        (ap (λ (f : TraceFault). TraceRefused f) fault_is ∙ (λ i. TraceRefused (fault_on_line (number i) (told_so i))))
        (ap (λ (o : Option Refusal). unless_refused (s.lines + 1) trace e o step) (refusal_here e ∙ refused.1))

    pub line_is_refused : (event : Line) → IsChecked (Err told) event (refusal_after p s.before s.frames s.past)
        → Ended (event_step by_ends s inputs trace event) (TraceRefused fault) inputs before mid
    line_is_refused says.Nothing refused = absurd refused
    line_is_refused says.Send refused = event_refused Send _ refused
    line_is_refused (says.Packet n j) refused = event_refused (Deliver n j) _ refused
    line_is_refused (says.All n) refused = event_refused (Deliver n 0) _ refused
    line_is_refused (says.Back m) refused = event_refused (Back m) _ refused
    line_is_refused says.Play refused = event_refused Play _ refused

  -- ---- an event that may happen

  step_is : (e : Event) (step : Step CallState) → refusal_after p s.before s.frames s.past e ≡ None
      → unless_refused (s.lines + 1) trace e (refusal_at by_ends s e) step ≡ step
  step_is e step none = ap (λ (o : Option Refusal). unless_refused (s.lines + 1) trace e o step) (refusal_here e ∙ none)

  -- where a capture is not far, its frame is asked for
  pub capture_is : refusal_at by_ends s Send ≡ None → event_step by_ends s inputs trace says.Send
      ≡ capture_step s trace (inputs Video)
  capture_is none = ap (λ (o : Option Refusal). unless_refused (s.lines + 1) trace Send o (capture_step s trace
      (inputs Video))) none

  pub packet_is : (n j : ℕ) → refusal_after p s.before s.frames s.past (Deliver n j) ≡ None
      → event_step by_ends s inputs trace (says.Packet n j)
      ≡ Goes (after_line (with_packet_delivered s n j) trace) (line_turn trace no_texts)
  packet_is n j none = step_is (Deliver n j) _ none

  pub packets_is : (n : ℕ) → refusal_after p s.before s.frames s.past (Deliver n 0) ≡ None
      → event_step by_ends s inputs trace (says.All n) ≡ Goes (after_line (with_packets by_ends s n) trace)
      (line_turn trace no_texts)
  packets_is n none = step_is (Deliver n 0) _ none

  pub message_is : (m : ℕ) → refusal_after p s.before s.frames s.past (Back m) ≡ None
      → event_step by_ends s inputs trace (says.Back m)
      ≡ Goes (after_line (with_message s m) trace) (line_turn trace no_texts)
  message_is m none = step_is (Back m) _ none

  -- the reader of the video is where the state says
  pub video_more : s.more ≡ x.video.more
  video_more = ap (λ (st : CallState). st.more) k.is

  pub video_place : s.at ≡ x.video.at
  video_place = ap (λ (st : CallState). st.at) k.is

  pub video_format : x.video.format ≡ p.format → x.video.format ≡ s.params.format
  video_format is = is ∙ ap (λ (q : Params). q.format) (sym params_is)

  pub format_is : p.format ≡ s.params.format
  format_is = ap (λ (q : Params). q.format) (sym params_is)

  -- ---- an event that takes no frame

  module _ (sender : State) (receiver : Kept) (link : Link) (trace_same : link.trace ≡ x.link.trace)
      (sent_same : sender.sent ≡ x.sender.sent) where
    abbrev y : CallParts
    y = record { terms = x.terms; video = x.video; sender = sender; receiver = receiver; link = link }

    pub stands_event : (events : List Event) → ((later : List Frame) → HasDone y s.before (s.frames ++ later) events)
        → PartsStand y (after_line (record s { past = events }) trace) (left_after inputs taken_line)
    stands_event events holds = record {
      is = ap (λ (st : CallState). with_events st events) k.is ∙ (λ i. read_to (sym trace_same i) events);
      begun = k.begun;
      sent = sent_same ∙ k.sent;
      over = λ ended. k.over (ap (λ (r : TracePlace). r.ended) (sym trace_same) ∙ ended);
      holds = holds;
    }
      where
        with_events : CallState → List Event → CallState
        with_events st events = record st { past = events }

        read_to : TracePlace → List Event → CallState
        read_to reader events = record (call_state_of x s.before s.frames events) {
          lines = reader.lines;
          ended = reader.ended;
        }

    pub event_goes : TurnLaws → (before mid : Outside) → HasTaken inputs before mid
        → (event : Line) (events : List Event)
        → event_step by_ends s inputs trace event ≡ Goes (after_line (record s { past = events }) trace)
        (line_turn trace no_texts)
        → ((later : List Frame) → HasDone y s.before (s.frames ++ later) events)
        → Went (event_step by_ends s inputs trace event) (PartsStand y) may_read true inputs before mid
    event_goes laws before mid taken event events is holds =
        line_goes s inputs before mid taken (record s { past = events }) no_texts _ (PartsStand y) is
        (stands_event events holds) mid refl (laws.no_text mid.written mid.written refl)

  -- ---- all packets of a picture

  abbrev count_in : Params → List Frame → ℕ → ℕ
  count_in q frames n = length (slices_at (both_after q (steady q) frames s.before s.past).sender.coded n)

  -- their number is the same whatever frames come after, and by the state
  pub count_same : LaterFramesBoth (coding p) (rules_of p) → (n : ℕ) (later : List Frame)
      → count_in p (s.frames ++ later) n ≡ length (slices_at (by_ends s).coded n)
  count_same frames_law n later =
      ap (λ (both : Joined Style Mb Picture). length (slices_at both.sender.coded n))
      (frames_law (receiver_end.run_of p s.before) (steady p) s.frames later s.past done_here.way_holds.near).0
      ∙ sym (ap (λ (q : Params). count_in q s.frames n) params_is)

  -- ---- the frame that the line asks for was sent

  module _ (out : List ℕ) (video : Y4mPlace) (sender : State) (link : Link) (trace_same : link.trace
      ≡ x.link.trace) where
    abbrev f : Frame
    f = bare (picture_of s.params.format out)

    abbrev sent_parts : CallParts
    sent_parts = record { terms = x.terms; video = video; sender = sender; receiver = x.receiver; link = link }

    pub stands_sent : (size : ℕ) → video.at ≡ s.at + size → video.more + 1 ≡ s.more → sender.sent ≡ x.sender.sent + 1
        → ((later : List Frame) → HasDone sent_parts s.before (s.frames ++ f ∷ later) (Send ∷ s.past))
        → PartsStand sent_parts (record (after_line (with_frame s f) trace) { at = s.at + size; more = s.more - 1 })
        (left_after inputs (and_of taken_line (of Video size)))
    stands_sent size place fewer sent holds = record {
      is = let less : s.more - 1 ≡ video.more = omega (arith, fewer) in
          ap (λ (st : CallState). sent_from st (s.at + size) (s.more - 1)) k.is
          ∙ (λ i. read_to (sym trace_same i) (sym place i) (less i));
      begun = k.begun;
      sent = sent ∙ ap (λ (n : ℕ). n + 1) k.sent ∙ sym (longer s.frames f);
      over = λ ended. ap (λ (n : ℕ). drop n trace) (nothing_more (line_size trace))
          ∙ k.over (ap (λ (r : TracePlace). r.ended) (sym trace_same) ∙ ended);
      holds = λ later. subst (λ (l : List Frame). HasDone sent_parts s.before l (Send ∷ s.past))
          (sym (push_then s.frames later f)) (holds later);
    }
      where
        nothing_more : (n : ℕ) → n + 0 ≡ n
        nothing_more n = omega arith

        sent_from : CallState → ℕ → ℕ → CallState
        sent_from st at more = record st { frames = s.frames ++ f ∷ []; past = Send ∷ s.past; at = at; more = more }

        read_to : TracePlace → ℕ → ℕ → CallState
        read_to reader at more = record (call_state_of x s.before (s.frames ++ f ∷ []) (Send ∷ s.past)) {
          at = at;
          more = more;
          lines = reader.lines;
          ended = reader.ended;
        }

  -- ---- the next picture was played

  abbrev texts_at : Params → ℕ → Role → List ℕ
  texts_at q n = play_texts (in_both (both_after q (steady q) s.frames s.before (Play ∷ s.past))) n

  texts_are : WayLaws p → texts_at p x.receiver.played ≡ play_texts (by_ends (with_next_play s)) (by_ends s).played
  texts_are laws =
      ap (texts_at p) (laws.played x.sender x.receiver s.before s.frames s.past done_here.way_holds.joined)
      ∙ sym (ap (λ (q : Params). texts_at q (both_after q (steady q) s.frames s.before s.past).receiver.played)
      params_is)

  module _ (laws : WayLaws p) (before old new : Outside) (taken : HasTaken inputs before old) (still : new.left
      ≡ old.left) (none : refusal_after p s.before s.frames s.past Play ≡ None) where
    abbrev shown : Role → List ℕ
    shown = play_texts (by_ends (with_next_play s)) (by_ends s).played

    play_is : event_step by_ends s inputs trace says.Play
        ≡ Goes (after_line (with_next_play s) trace) (line_turn trace shown)
    play_is = step_is Play (Goes (after_line (with_next_play s) trace) (line_turn trace shown)) none

    pub play_goes : (stands : CallState → (Role → List ℕ) → Type 0)
        → stands (after_line (with_next_play s) trace) (left_after inputs taken_line)
        → Gains (texts_at p x.receiver.played) old.written new.written
        → Went (event_step by_ends s inputs trace says.Play) stands may_read true inputs before new
    play_goes stands kept gains =
        line_goes s inputs before old taken (with_next_play s) shown _ stands play_is kept new still
        (subst (λ (t : Role → List ℕ). Gains t old.written new.written) (texts_are laws) gains)

    pub play_cut : GainsFronts (texts_at p x.receiver.played) old.written new.written
        → GainsFronts (step_texts (event_step by_ends s inputs trace says.Play)) before.written new.written
    play_cut gains =
        subst (λ (step : Step CallState). GainsFronts (step_texts step) before.written new.written) (sym play_is)
        (subst (λ (w : Role → Option (List ℕ)). GainsFronts shown w new.written) taken.written
        (subst (λ (t : Role → List ℕ). GainsFronts t old.written new.written) (texts_are laws) gains))

-- ---- what a line's turn is, by what the line says

-- one that is not refused has no refusal
pub none_so : (r : Result Unit Told) (e : Event) (refusal : Option Refusal) → IsNotRefused r → IsAllowed r e refusal
    → refusal ≡ None
none_so (Ok u) e refusal free allowed = allowed
none_so (Err told) e refusal free allowed = absurd free

-- a line whose event is refused
pub line_stops : (x : World) (line : ℕ) (event said : Line) (r : Result Bool Status) (status : Status)
    (checked : Result Unit Told) (now : Outside) → event ≡ said
    → IsErrAnd r (λ z. z ≡ status) → IsRefusedWith line checked status → x.terms.plain ≡ false → TurnLaws → StepLaws
    → ((old : Outside) (s : CallState) (inputs : Role → List ℕ) → IsRead (call_parts x) line now old s inputs
    → IsChecked checked said (refusal_after x.terms.params s.before s.frames s.past))
    → TakesLine x x line event r now now
line_stops x line event said r status (Ok u) now is answer refused recorded laws steps checks = absurd refused
line_stops x line event said r status (Err told) now is answer refused recorded laws steps checks =
    subst (λ (e : Line). TakesLine x x line e r now now) (sym is)
    (gave_up x x now now (IsRead (call_parts x) line now) (λ s inputs. event_step by_ends s inputs (inputs Events) said)
    (λ _. true) (more_of (call_parts x) + 1)
    r (TraceRefused (fault_on_line line told)) (subst (λ (w : Status). IsErrAnd r (λ z. z ≡ w)) refused answer)
    refl recorded tt tt (steps.none now)
    (λ o s inputs b. line_is_refused (call_parts x) s inputs b.stood laws o now b.taken told line b.number
    (fault_on_line line told) refl said (checks o s inputs b))
    (λ s stand. stand))

-- a line whose event is done
pub line_goes_on : (x y : World) (line : ℕ) (event said : Line) (mid new : Outside) → event ≡ said
    → names_of y ≡ names_of x
    → more_of (call_parts y) ≡ more_of (call_parts x) → PartsReady (call_parts y) new.attached → KeepsRoles mid new
    → ((old : Outside) (s : CallState) (inputs : Role → List ℕ) → IsRead (call_parts x) line mid old s inputs
    → Went (event_step by_ends s inputs (inputs Events) said) (PartsStand (call_parts y)) may_read true inputs old new)
    → TakesLine x y line event (Ok true) mid new
line_goes_on x y line event said mid new is names more ready rest gives =
    subst (λ (e : Line). TakesLine x y line e (Ok true) mid new) (sym is)
    (goes_on x y mid new (IsRead (call_parts x) line mid) (λ s inputs. event_step by_ends s inputs (inputs Events) said)
    (λ _. true) (more_of (call_parts x) + 1)
    names (ap (λ (n : ℕ). n + 1) more) ready rest gives)

-- one that can't write
pub line_was_cut : (x y : World) (line : ℕ) (event said : Line) (r : Result Bool Status) (status : Status)
    (mid new : Outside) → event ≡ said → IsErrAnd r (λ z. z ≡ status) → names_of y ≡ names_of x
    → status ≡ WriteFault → Rose mid.faults.write new.faults.write → KeepsRoles mid new
    → ((old : Outside) (s : CallState) (inputs : Role → List ℕ) → IsRead (call_parts x) line mid old s inputs
    → GainsFronts (step_texts (event_step by_ends s inputs (inputs Events) said)) old.written new.written)
    → TakesLine x y line event r mid new
line_was_cut x y line event said r status mid new is answer names kind rose rest gives =
    subst (λ (e : Line). TakesLine x y line e r mid new) (sym is)
    (was_cut x y mid new (IsRead (call_parts x) line mid) (λ s inputs. event_step by_ends s inputs (inputs Events) said)
    (λ _. true) (more_of (call_parts x) + 1)
    r status answer names kind rose rest gives)

-- a line that asks for a frame
pub asks_frame : (x y : World) (line : ℕ) (event : Line) (r : Result Bool Status) (mid new : Outside)
    → event ≡ says.Send → TakesFrame x y line r mid new
    → ((old : Outside) (s : CallState) (inputs : Role → List ℕ) → IsRead (call_parts x) line mid old s inputs
    → refusal_at by_ends s Send ≡ None)
    → TakesLine x y line event r mid new
asks_frame x y line event r mid new is t none = subst (λ (e : Line). TakesLine x y line e r mid new) (sym is) (record {
  gives = λ old s inputs b.
      subst (λ (step : Step CallState). TurnGives r step (PartsStand (call_parts y)) may_read true inputs old new)
      (sym (capture_is (call_parts x) s inputs b.stood (none old s inputs b)))
      (t.gives old s inputs (is_asked old s inputs b));
  whole = λ old s inputs b. t.whole old s inputs (is_asked old s inputs b);
  keeps = t.keeps;
  lasts = t.lasts;
  falls = t.falls;
  ready = t.ready;
  answers = t.answers;
  stop = t.stop;
  cause = t.cause;
  rest = t.rest;
})
  where
    is_asked : (old : Outside) (s : CallState) (inputs : Role → List ℕ) → IsRead (call_parts x) line mid old s inputs
        → IsAsked (call_parts x) line mid old s inputs
    is_asked old s inputs b = record { read = b; none = none old s inputs b }
