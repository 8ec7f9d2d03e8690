-- The run of a group's call over a recorded trace, line by line.
use Rattle.std.proofs.Common.{◌≡◌, inl, inr, ℕ, zero, suc, ◌+◌, ◌-◌, ◌<◌, ◌≤◌, Bool, true, false, not, List, [], ◌∷◌, ◌++◌, length, drop, Option, Some, None, Result, Ok, Err, refl, sym, ap, subst, ◌∙◌, arith, eqb, nat_lt, if◌then◌else◌}
use Rattle.std.specs.Prelude.{slice_get, slice_set}
use Rattle.std.proofs.lemmas.Bool.{eqb-true, ltb-false, ltb-true}
use Rattle.std.proofs.lemmas.List.{append-nil, append_assoc, drop-drop}
use Rattle.h263_types.specs.declared.blocks.Mb.{Mb}
use Rattle.h263_types.specs.declared.params.Params.{Params}
use Rattle.h263_planes.specs.Layout.{picture_of}
use Rattle.h263_planes.specs.Picture.{Picture}
use Rattle.h263_outside.specs.declared.desk.Role.{Role}
use Rattle.h263_outside.specs.declared.desk.Role.TheVariants.{Video, Events, Report}
use Rattle.y4m.specs.declared.fault.Y4mFault.{Y4mFault}
use Rattle.y4m.specs.Frame.{next_frame, frame_size}
use Rattle.y4m.specs.Laws.{FrameLaws}
use Rattle.y4m.specs.Video.{after_frame, first_video_fault as video_fault_of, frames_of}
use Rattle.loss_trace.specs.declared.fault.TraceFault.{TraceFault}
use Rattle.loss_trace.specs.declared.fault.TraceFault.TheVariants.{TooMany}
use Rattle.loss_trace.specs.Lines.{later_lines, first_line, is_closed}
use Rattle.call_report.specs.declared.status.Status.{Status}
use Rattle.call_report.specs.declared.status.Status.TheVariants.{TraceRefused, VideoRefused}
use Rattle.h263_types.specs.Texts.{Text}
use Rattle.call_model.specs.CodedPictures.{Coded}
use Rattle.call_model.specs.IdealCall.{MayHappen, Call, Event, Send, Deliver, Play, Back, NumberedMessage, slices_at}
use Rattle.call_model.specs.Refusals.{NoFrame as NoPicture, NoneWhereItMayHappen, Refusal, refusal_in}
use Rattle.call_decoding.specs.Rules.{rules_of}
use Rattle.call_decoding.specs.Styles.{Style}
use Rattle.call_encoding.specs.Frames.{Frame}
use Rattle.receiver_end.specs.State as receiver_end
use Rattle.desk_program.specs.Run.{Run, Step, Turn, left_after, follow, machine_run, silence, taken_of, text_of, texts_of}
use Rattle.desk_program.specs.Run.Step.{Ends}
use Rattle.desk_program.specs.Texts.{and_of, no_texts, of, on, only_at_ok}
use Rattle.one_way.specs.Both.{bare, steady}
use Rattle.one_way.specs.Seen.{reference_in}
use Rattle.call_command.specs.Call.{bad_line, line_size, line_turn, unless_refused}
use Rattle.call_command.specs.Recorded.{capture_told, film, shown_text}
use Rattle.call_command.specs.Refused.{fault_told}
use Rattle.group_sender.specs.Holding.{Groups, group_after_code}
use Rattle.group_call.specs.One.{one_sends}
use Rattle.group_call.specs.Refused.{view_refusal}
use Rattle.group_call.specs.Viewing.{ViewerRun}
use Rattle.group_command.specs.declared.line.GroupLine.{GroupLine}
use Rattle.group_command.specs.declared.line.GroupLine.TheVariants.{Quiet, ForAll, Of}
use Rattle.group_command.specs.declared.line.OwnEvent.{OwnEvent}
use Rattle.group_command.specs.declared.line.OwnEvent.TheVariants as own
use Rattle.call_command.specs.Rows.{shown_texts}
use Rattle.group_command.specs.Group.{GroupState, all_viewers_played, group_capture_step, group_captured_step, counts_from, event_of, first_behind, group_step, group_line_step, or_refused, own_step, pictures_at, quiet_group_step, run_after, texts_after, group_trace_step, view_after, view_in, with_own_event}
use Rattle.group_command.specs.Lines.{group_line}
use Rattle.group_command.specs.Turning.{IsThere}
use Rattle.group_command.specs.Recorded.{Captured, Happening, IsGroupEnd, LineMayBe, LinesMayBe, Played, Reached, Returned, after_note, and_line, bad_line_or, call_at, call_with, counts_lines, events_at, far_from, group_at, lines_fault, group_lines, if_own, next_shown, its_refusal, play_lines, with_all_said, with_said, with_slices}
use Rattle.group_command.proofs.Lined.{line_there}
use Rattle.group_command.proofs.Lives as life
use Rattle.group_command.proofs.Lived.{AllLive, GroupLaws, all_captured, all_played as played_by_all, all_reached, all_returned, all_slices, group_slices}
use Rattle.group_command.proofs.Meeting.{coded_is, counts_are, heard_is, if_shown, in_ring, message_is, packet_is, pictures_texts, play_is, played_is, report_texts, send_is, shown_more, texts_are}

-- ---- lists

next_in : {X : Type 0} (xs : List X) (n : ℕ) (x : X) (more : List X) → drop n xs ≡ x ∷ more → slice_get xs n ≡ Some x
next_in [] zero x more is = absurd (cc is)
next_in [] (suc n) x more is = absurd (cc is)
next_in (y ∷ xs) zero x more is = cc is
next_in (y ∷ xs) (suc n) x more is = next_in xs n x more is

after_next : {X : Type 0} (xs : List X) (n : ℕ) (x : X) (more : List X) → drop n xs ≡ x ∷ more → drop (suc n) xs ≡ more
after_next [] zero x more is = absurd (cc is)
after_next [] (suc n) x more is = absurd (cc is)
after_next (y ∷ xs) zero x more is = cc is
after_next (y ∷ xs) (suc n) x more is = after_next xs n x more is

some_after : {X : Type 0} (xs : List X) (n : ℕ) (x : X) (more : List X) → drop n xs ≡ x ∷ more → n < length xs
some_after [] zero x more is = absurd (cc is)
some_after [] (suc n) x more is = absurd (cc is)
some_after (y ∷ xs) zero x more is = omega arith
some_after (y ∷ xs) (suc n) x more is = omega (arith, some_after xs n x more is)

none_after : {X : Type 0} (xs : List X) (n : ℕ) → drop n xs ≡ [] → length xs ≤ n
none_after [] n is = omega arith
none_after (y ∷ xs) zero is = absurd (cc is)
none_after (y ∷ xs) (suc n) is = omega (arith, none_after xs n is)

longer : {X : Type 0} (xs : List X) (x : X) → length (xs ++ x ∷ []) ≡ suc (length xs)
longer [] x = refl
longer (y ∷ xs) x = ap suc (longer xs x)

more_bytes : (n : ℕ) → 0 + n ≡ n
more_bytes n = omega arith

no_more : (n : ℕ) → n + 0 ≡ n
no_more n = omega arith

abbrev status_with : TraceFault → Status
status_with fault = TraceRefused fault

-- two refusals of which the first one is told: there is none where neither is
neither : (a b : Option Refusal) → or_refused a b ≡ None → (a ≡ None) × (b ≡ None)
neither None b is = (refl, is)
neither (Some r) b is = absurd (cc is)

-- counts are told in the report alone
counts_silent : (p : Params) (run : Groups) (k : ℕ) (views : List ViewerRun) (j : ℕ)
    → counts_from p run k views (pictures_at j) ≡ []
counts_silent p run k [] j = refl
counts_silent p run k (view ∷ views) zero = counts_silent p run (suc k) views zero
counts_silent p run k (view ∷ views) (suc zero) = counts_silent p run (suc k) views (suc zero)
counts_silent p run k (view ∷ views) (suc (suc j)) = counts_silent p run (suc k) views (suc (suc j))

-- ---- what shows nothing

-- a packet, or a message that comes back
packet_shows : (p : Params) (coded : List (Coded Style Mb Picture)) (b : Bool) (n j : ℕ) (events : List Event)
    → (call_with p coded (if_own b (Deliver n j) events)).plays ≡ (call_with p coded events).plays
packet_shows p coded true n j events = refl
packet_shows p coded false n j events = refl

message_shows : (p : Params) (coded : List (Coded Style Mb Picture)) (b : Bool) (m : ℕ) (events : List Event)
    → (call_with p coded (if_own b (Back m) events)).plays ≡ (call_with p coded events).plays
message_shows p coded true m events = refl
message_shows p coded false m events = refl

note_codes : (p : Params) (k : ℕ) (o : Option NumberedMessage) (run : Groups)
    → (after_note p k o run).coded ≡ run.coded
note_codes p k None run = refl
note_codes p k (Some note) run = refl

-- what the laws say of a whole run
pub record RunLaws (p : Params) : Type 0 where
  pub groups : GroupLaws p
  pub none : NoneWhereItMayHappen (rules_of p) Style Mb Picture
  pub gone : (trace : List ℕ) → drop (line_size trace) trace ≡ later_lines trace

module _ (p : Params) (count : ℕ) (frames : List Frame) (broken : Option Y4mFault) (laws : RunLaws p) (some : 1 ≤ count)
    (few : count ≤ 3) where
  pub in_places : count ≤ 16
  in_places = omega (arith, few)

  abbrev group : List Happening → Groups
  group past = group_at p count frames past

  abbrev call : ℕ → List Happening → Call Style Mb Picture
  call k past = call_at p count frames k past

  abbrev Live : List Happening → List ViewerRun → Type 0
  Live past views = AllLive p count frames laws.groups in_places past views

  abbrev With : List Happening → GroupLine → List Happening
  With past line = with_said p count frames past line

  abbrev Withs : List Happening → List GroupLine → List Happening
  Withs past lines = with_all_said p count frames past lines

  abbrev rows : List Happening → Text
  rows past = play_lines p count frames past

  abbrev counted : List Happening → Text
  counted past = counts_lines p count frames count 0 past

  abbrev state : Groups → List ViewerRun → ℕ → ℕ → ℕ → Bool → GroupState
  state run views at more lines ended =
      record { params = p; run = run; views = views; at = at; more = more; lines = lines; ended = ended }

  -- ---- what is seen of all receivers

  abbrev Each : List Happening → ℕ → List ViewerRun → Type 0
  Each past k views = (i j : ℕ) → i < length views → j ≡ k + i
      → life.Lives p laws.groups.views j (group past) (events_at j past) (view_in views i)

  each_of : (past : List Happening) (views : List ViewerRun) → Live past views → Each past 0 views
  each_of past views all i j below is =
      let same : i ≡ j = omega (arith, is) in
      subst (λ (m : ℕ). life.Lives p laws.groups.views m (group past) (events_at m past) (view_in views i)) same
      (all.lives i (omega (arith, below, all.long)))

  rest_of : (past : List Happening) (k : ℕ) (view : ViewerRun) (views : List ViewerRun) → Each past k (view ∷ views)
      → Each past (suc k) views
  rest_of past k view views each i j below is = each (suc i) j (omega (arith, below)) (omega (arith, is))

  behind_is : (past : List Happening) (k : ℕ) (views : List ViewerRun) → Each past k views
      → first_behind p (group past) views ≡ far_from p count frames (length views) k past
  behind_is past k [] each = refl
  behind_is past k (view ∷ views) each =
      let first = send_is p laws.groups.views k (group past) (events_at k past) view (each 0 k (omega arith)
      (omega arith)) in
      let others = behind_is past (suc k) views (rest_of past k view views each) in
      λ i. or_refused (first i) (others i)

  counts_is : (past : List Happening) (k : ℕ) (views : List ViewerRun) → Each past k views
      → counts_from p (group past) k views Report ≡ counts_lines p count frames (length views) k past
  counts_is past k [] each = refl
  counts_is past k (view ∷ views) each =
      let first = counts_are p laws.groups.views k (group past) (events_at k past) view (each 0 k (omega arith)
      (omega arith)) k in
      let others = counts_is past (suc k) views (rest_of past k view views each) in
      λ i. first i ++ others i

  -- none is far where the first refusal is none
  none_far : (past : List Happening) (n k : ℕ) → far_from p count frames n k past ≡ None → (i j : ℕ) → i < n
      → j ≡ k + i → refusal_in (rules_of p) (length (group past).coded + 1) (call j past) Send ≡ None
  none_far past zero k is i j below same = absurd (omega (arith, below))
  none_far past (suc n) k is zero j below same =
      let here : k ≡ j = omega (arith, same) in
      subst (λ (m : ℕ). refusal_in (rules_of p) (length (group past).coded + 1) (call m past) Send ≡ None) here
      (neither _ (far_from p count frames n (suc k) past) is).0
  none_far past (suc n) k is (suc i) j below same =
      none_far past n (suc k) (neither _ (far_from p count frames n (suc k) past) is).1 i j (omega (arith, below))
      (omega (arith, same))

  -- ---- what a run from there comes to

  -- over the events before it, where these lines are still to come in this text
  pub record Comes (past : List Happening) (ahead : List GroupLine) (fault : Option TraceFault) (number : ℕ)
      (text : List ℕ) (run : Run) : Type 0 where
    pub lines : List GroupLine
    pub refused : List GroupLine
    pub views : List ViewerRun
    pub read : ahead ≡ lines ++ refused
    pub taken : length run.turns ≡ length lines
    pub live : Live (Withs past lines) views
    pub may : LinesMayBe p count frames past lines
    pub pictures : (k : ℕ) → k < count → shown_text (call k (Withs past lines)).plays ≡ shown_text (call k past).plays
        ++ text_of run (pictures_at k)
    pub report : rows (Withs past lines) ++ only_at_ok run.last.status (counted (Withs past lines))
        ≡ rows past ++ text_of run Report
    pub end : IsGroupEnd p count frames broken fault (number + length lines) (Withs past lines) refused run.last.status
    pub others : (fault : Y4mFault) → run.last.status ≡ VideoRefused fault → run.last.taken Events
        ≡ Some (line_size (drop (taken_of run.turns Events) text))

  abbrev stopped : Status → (Role → Option ℕ) → Step GroupState
  stopped status taken = Ends (record { status = status; taken = taken; texts = no_texts })

  module _ (past : List Happening) (views : List ViewerRun) (all : Live past views) where
    comes_stopped : (E : List GroupLine) (F : Option TraceFault) (m : ℕ) (text : List ℕ) (rest : GroupState → (Role
        → ℕ) → Run) (status : Status) (taken : Role → Option ℕ) → ((counts : Text) → only_at_ok status counts ≡ [])
        → ((fault : Y4mFault) → status ≡ VideoRefused fault → taken Events ≡ Some (line_size text))
        → IsGroupEnd p count frames broken F (m + 0) past E status
        → Comes past E F m text (follow (stopped status taken) rest)
    comes_stopped E F m text rest status taken silent spares end = record {
      end = end;
      others = spares;
      may = tt;
      lines = [];
      refused = E;
      views = views;
      read = refl;
      taken = refl;
      live = all;
      pictures = λ k below. sym (append-nil (shown_text (call k past).plays));
      report = ap (λ (l : Text). rows past ++ l) (silent (counted past));
    }

    -- a fault of the trace ends it
    comes_faulty : (E : List GroupLine) (F : Option TraceFault) (m : ℕ) (text : List ℕ) (rest : GroupState → (Role
        → ℕ) → Run) (fault : TraceFault) (taken : Role → Option ℕ)
        → IsGroupEnd p count frames broken F (m + 0) past E (status_with fault)
        → Comes past E F m text (follow (stopped (status_with fault) taken) rest)
    comes_faulty E F m text rest fault taken end =
        comes_stopped E F m text rest (status_with fault) taken (λ l. refl) (λ other is. absurd (cc is)) end

    comes_end : (m at more lines : ℕ) (ended : Bool) (text : List ℕ) (rest : GroupState → (Role → ℕ) → Run)
        → Comes past [] None m text (follow (Ends (all_viewers_played (state (group past) views at more lines ended)))
        rest)
    comes_end m at more lines ended text rest = record {
      end = refl;
      others = λ fault is. absurd (cc is);
      may = tt;
      lines = [];
      refused = [];
      views = views;
      read = refl;
      taken = refl;
      live = all;
      pictures = λ k below. sym (append-nil (shown_text (call k past).plays))
          ∙ ap (λ (l : Text). shown_text (call k past).plays ++ l) (sym (counts_silent p (group past) 0 views k));
      report = ap (λ (l : Text). rows past ++ l) (sym (counts_is past 0 views (each_of past views all)
          ∙ ap (λ (n : ℕ). counts_lines p count frames n 0 past) all.long));
    }

  one_further : (m j : ℕ) → m + 1 + j ≡ m + suc j
  one_further m j = omega arith

  -- a line more
  comes_more : (line : GroupLine) (E : List GroupLine) (F : Option TraceFault) (m : ℕ) (past past2 : List Happening)
      (text text2 : List ℕ) (turn : Turn) (run : Run) → past2 ≡ With past line → LineMayBe p count frames past line
      → drop (turn.taken Events) text ≡ text2
      → ((k : ℕ) → k < count → shown_text (call k past2).plays ≡ shown_text (call k past).plays
      ++ turn.texts (pictures_at k))
      → rows past2 ≡ rows past ++ turn.texts Report
      → Comes past2 E F (m + 1) text2 run
      → Comes past (line ∷ E) F m text (record { turns = turn ∷ run.turns; last = run.last })
  comes_more line E F m past past2 text text2 turn run is may gone pictures2 report2 comes2 =
      let now = With past line in
      let comes : Comes now E F (m + 1) text2 run =
      subst (λ (q : List Happening). Comes q E F (m + 1) text2 run) is comes2 in
      let pictures : (k : ℕ) → k < count → shown_text (call k now).plays ≡ shown_text (call k past).plays
      ++ turn.texts (pictures_at k) =
      subst (λ (q : List Happening). (k : ℕ) → k < count → shown_text (call k q).plays ≡ shown_text (call k past).plays
      ++ turn.texts (pictures_at k)) is pictures2
      in
      let report : rows now ≡ rows past ++ turn.texts Report =
      subst (λ (q : List Happening). rows q ≡ rows past ++ turn.texts Report) is report2
      in
      record {
        others = λ fault refused.
            comes.others fault refused
            ∙ ap (λ (l : List ℕ). Some (line_size l)) (ap (λ (l : List ℕ). drop (taken_of run.turns Events) l)
            (sym gone) ∙ drop-drop (taken_of run.turns Events) (turn.taken Events) text);
        may = (may, comes.may);
        end = subst (λ (j : ℕ). IsGroupEnd p count frames broken F j (Withs now comes.lines) comes.refused
            run.last.status)
            (one_further m (length comes.lines)) comes.end;
        lines = line ∷ comes.lines;
        refused = comes.refused;
        views = comes.views;
        read = ap (λ (l : List GroupLine). line ∷ l) comes.read;
        taken = ap suc comes.taken;
        live = comes.live;
        pictures = λ k below.
            comes.pictures k below
            ∙ ap (λ (l : Text). l ++ text_of run (pictures_at k)) (pictures k below)
            ∙ append_assoc (shown_text (call k past).plays) (turn.texts (pictures_at k)) (text_of run (pictures_at k))
            ∙ ap (λ (l : Text). shown_text (call k past).plays
            ++ l) (sym (append_assoc (turn.texts (pictures_at k)) (texts_of run.turns (pictures_at k))
            (run.last.texts (pictures_at k))));
        report =
            comes.report
            ∙ ap (λ (l : Text). l ++ text_of run Report) report
            ∙ append_assoc (rows past) (turn.texts Report) (text_of run Report)
            ∙ ap (λ (l : Text). rows past
            ++ l) (sym (append_assoc (turn.texts Report) (texts_of run.turns Report) (run.last.texts Report)));
      }

  -- ---- a turn

  abbrev ahead_of : ℕ → ℕ → List ℕ → List Frame
  ahead_of more at video = film p (frames_of p.format more at video)

  -- the video's first fault from there on
  abbrev fault_at : ℕ → ℕ → List ℕ → Option Y4mFault
  fault_at more at video = video_fault_of p.format more at video

  -- these frames are still to come, up to the video's fault
  pub record IsOn (past : List Happening) (at more : ℕ) (video : List ℕ) : Type 0 where
    pub ahead : drop (length (group past).coded) frames ≡ ahead_of more at video
    pub fault : fault_at more at video ≡ broken

  some_left : (m at : ℕ) (rest planes : List ℕ) → next_frame m p.format at rest ≡ Ok planes → m - 1 + 1 ≡ m
  some_left zero at rest planes is = absurd (cc is)
  some_left (suc m) at rest planes is = omega arith

  module _ (frame_laws : FrameLaws) (past : List Happening) (views : List ViewerRun) (all : Live past views)
      (at more lines : ℕ) (ended : Bool) (inputs : Role → List ℕ) (on : IsOn past at more (inputs Video))
      (E : List GroupLine) (F : Option TraceFault) (rest : GroupState → (Role → ℕ) → Run) where
    abbrev s : GroupState
    s = state (group past) views at more lines ended

    abbrev trace : List ℕ
    trace = inputs Events

    abbrev view : ℕ → ViewerRun
    view k = view_in views k

    abbrev lives : (k : ℕ) → k < count → life.Lives p laws.groups.views k (group past) (events_at k past) (view k)
    lives k below = all.lives k below

    module _ (go : (past2 : List Happening) (run2 : Groups) (views2 : List ViewerRun) (at2 more2 : ℕ) (ended2 : Bool)
        (taken : Role → ℕ) (left : List ℕ) → run2 ≡ group past2 → Live past2 views2
        → left_after inputs taken Events ≡ later_lines trace → left_after inputs taken Video ≡ left
        → IsOn past2 at2 more2 left
        → Comes past2 E F (lines + 1 + 1) (left_after inputs taken Events)
        (rest (state run2 views2 at2 more2 (lines + 1) ended2) taken)) where
      abbrev size : ℕ
      size = line_size trace

      abbrev Takes : GroupLine → Step GroupState → Type 0
      Takes line step = Comes past (line ∷ E) F (lines + 1) trace (follow step rest)

      gone : drop size trace ≡ later_lines trace
      gone = laws.gone trace

      -- a refusal ends the call
      unless_comes : (line : GroupLine) (e : Event) (o : Option Refusal) (step : Step GroupState)
          → ((r : Refusal) → o ≡ Some r → IsGroupEnd p count frames broken F (lines + 1 + 0) past (line ∷ E)
          (TraceRefused (fault_told (lines + 1) e r)))
          → (o ≡ None → Takes line step) → Takes line (unless_refused (s.lines + 1) trace e o step)
      unless_comes line e None step why takes = takes refl
      unless_comes line e (Some r) step why takes =
          comes_faulty past views all (line ∷ E) F (lines + 1) trace rest _ _ (why r refl)

      numbered : (e : Event) (r : Refusal) → status_with (fault_told (lines + 1) e r)
          ≡ status_with (fault_told (lines + 1 + 0) e r)
      numbered e r = ap (λ (j : ℕ). status_with (fault_told j e r)) (sym (no_more (lines + 1)))

      -- ---- the events of one receiver

      module _ (k : ℕ) (there : k < count) where
        abbrev c : Call Style Mb Picture
        c = call k past

        -- what its line does, where the group is then this
        own_goes : (e : OwnEvent) (run2 : Groups) (past2 : List Happening)
            → past2 ≡ With past (Of k e) → LineMayBe p count frames past (Of k e)
            → run_after p k (group past) (view k) e ≡ run2 → run2 ≡ group past2
            → Live past2 (slice_set views k (view_after p k (group past) (view k) e))
            → (group past2).coded ≡ (group past).coded
            → ((i : ℕ) → i < count → shown_text (call i past2).plays ≡ shown_text (call i past).plays
            ++ texts_after p k (group past) (view k) e (pictures_at i))
            → rows past2 ≡ rows past ++ texts_after p k (group past) (view k) e Report
            → Takes (Of k e) (quiet_group_step trace (texts_after p k (group past) (view k) e)
            (record s {
              run = run_after p k (group past) (view k) e;
              views = slice_set views k
                  (view_after p k (group past) (view k) e);
            }))
        own_goes e run2 past2 is may run_is group_is live coded pictures report =
            comes_more (Of k e) E F (lines + 1) past past2 trace _
            (line_turn trace (texts_after p k (group past) (view k) e)) _ is may refl pictures report
            (go past2 (run_after p k (group past) (view k) e)
            (slice_set views k (view_after p k (group past) (view k) e))
            at more (not (is_closed trace)) (of Events size) (inputs Video) (run_is ∙ group_is) live gone refl
            (record {
              ahead = ap (λ (l : List (Coded Style Mb Picture)). drop (length l) frames) coded ∙ on.ahead;
              fault = on.fault;
            }))

        -- nothing is shown
        silent_pictures : (past2 : List Happening) → ((i : ℕ) → (call i past2).plays ≡ (call i past).plays) → (i : ℕ)
            → i < count → shown_text (call i past2).plays ≡ shown_text (call i past).plays ++ []
        silent_pictures past2 same i below = ap shown_text (same i) ∙ sym (append-nil (shown_text (call i past).plays))

        told_at : (e : OwnEvent) (r : Refusal) → its_refusal p count frames k past (event_of e) ≡ Some r
            → IsGroupEnd p count frames broken F (lines + 1 + 0) past (Of k e ∷ E)
            (TraceRefused (fault_told (lines + 1) (event_of e) r))
        told_at e r is = (r, is, numbered (event_of e) r)

        packet_goes : (n j : ℕ) → view_refusal p (group past) (view k) (Deliver n j) ≡ None
            → Takes (Of k (own.Packet n j)) (quiet_group_step trace no_texts (with_own_event s k (own.Packet n j)))
        packet_goes n j o =
            let may = (laws.none (length frames) c (Deliver n j)).0 (sym (packet_is p laws.groups.views k (group past)
            (events_at k past) (view k) (lives k there) (length frames) n j) ∙ o) in
            own_goes (own.Packet n j) (group past) (Reached k n j ∷ past) refl (there, may) refl refl
            (all_reached p count frames laws.groups in_places past views all k n j there may) refl
            (silent_pictures (Reached k n j ∷ past)
            (λ i. packet_shows p (group past).coded (eqb k i) n j (events_at i past)))
            (sym (append-nil (rows past)))

        abbrev slices : ℕ → ℕ → List Happening
        slices n m = with_slices p count frames k n m past

        slices_show : (n m i : ℕ) → (call i (slices n m)).plays ≡ (call i past).plays
        slices_show n zero i = refl
        slices_show n (suc m) i =
            packet_shows p (group (slices n m)).coded (eqb k i) n m (events_at i (slices n m)) ∙ slices_show n m i

        slices_rows : (n m : ℕ) → rows (slices n m) ≡ rows past
        slices_rows n zero = refl
        slices_rows n (suc m) = slices_rows n m

        all_goes : (n : ℕ) → view_refusal p (group past) (view k) (Deliver n 0) ≡ None
            → Takes (Of k (own.All n)) (quiet_group_step trace no_texts (with_own_event s k (own.All n)))
        all_goes n o =
            let m = length (slices_at (group past).coded n) in
            let may = (laws.none (length frames) c (Deliver n 0)).0 (sym (packet_is p laws.groups.views k (group past)
            (events_at k past) (view k) (lives k there) (length frames) n 0) ∙ o) in
            let same = group_slices p count frames laws.groups in_places past views all k n m in
            own_goes (own.All n) (group past) (slices n m) refl (there, may) refl (sym same)
            (all_slices p count frames laws.groups in_places past views all k n there may)
            (ap (λ (g : Groups). g.coded) same)
            (silent_pictures (slices n m) (λ i. slices_show n m i))
            (slices_rows n m ∙ sym (append-nil (rows past)))

        back_goes : (m : ℕ) → view_refusal p (group past) (view k) (Back m) ≡ None
            → Takes (Of k (own.Back m)) (quiet_group_step trace no_texts (with_own_event s k (own.Back m)))
        back_goes m o =
            let left = length frames in
            let message = message_is p laws.groups.views k (group past) (events_at k past) (view k)
            (lives k there) left m
            in
            let may = (laws.none left c (Back m)).0 (in_ring (length c.said) (length (group past).coded) m
            (refusal_in (rules_of p) left c (Back m)) (sym message ∙ o)) in
            let note = slice_get c.said m in
            own_goes (own.Back m) (after_note p k note (group past)) (Returned k m ∷ past) refl (there, may)
            (heard_is p laws.groups.views k (group past) (events_at k past) (view k) (lives k there) m) refl
            (all_returned p count frames laws.groups in_places past views all k m may.0 there may.1 may.2)
            (note_codes p k note (group past))
            (silent_pictures (Returned k m ∷ past)
            (λ i. ap (λ (l : List (Coded Style Mb Picture)).
            (call_with p l (if_own (eqb k i) (Back m) (events_at i past))).plays)
            (note_codes p k note (group past)) ∙ message_shows p (group past).coded (eqb k i) m (events_at i past)))
            (sym (append-nil (rows past)))

        -- what a receiver's play shows is its own
        own_shown : (i : ℕ) (b : Bool) → eqb k i ≡ b → if_shown b (next_shown p (call i past))
            ≡ if_shown b (next_shown p c)
        own_shown i true is = ap (λ (j : ℕ). if_shown true (next_shown p (call j past))) (sym (eqb-true k i is))
        own_shown i false is = refl

        play_goes : view_refusal p (group past) (view k) Play ≡ None
            → Takes (Of k own.Play) (quiet_group_step trace (texts_after p k (group past) (view k) own.Play)
            (with_own_event s k own.Play))
        play_goes o =
            let l = lives k there in
            let may = (laws.none (length frames) c Play).0 (sym (play_is p laws.groups.views k (group past)
            (events_at k past) (view k) l (length frames)) ∙ o) in
            let some_sent : (receiver_end.run_of p (view k).entries).played < length (group past).coded = omega (
              arith,
              may,
              played_is p laws.groups.views k (group past) (events_at k past) (view k) l,
              coded_is p laws.groups.views k (group past) (events_at k past) (view k) l,
            ) in
            let texts : texts_after p k (group past) (view k) own.Play
            ≡ shown_texts (pictures_at k) (Some (49 + k)) c.played (reference_in c.coded c.played) (next_shown p c) =
            texts_are p laws.groups.views k (group past) (events_at k past) (view k) l some_sent k in
            own_goes own.Play (group past) (Played k ∷ past) refl (there, may) refl refl
            (played_by_all p count frames laws.groups in_places past views all k there may) refl
            (λ i below. shown_more p (group past).coded (events_at i past) (eqb k i)
            ∙ ap (λ (t : Text). shown_text (call i past).plays ++ t) (own_shown i (eqb k i) refl
            ∙ sym (pictures_texts k i c.played (reference_in c.coded c.played) (next_shown p c)
            (omega (arith, there, few)) (omega (arith, below, few)))
            ∙ ap (λ (t : Role → Text). t (pictures_at i)) (sym texts)))
            (ap (λ (t : Text). rows past ++ t) (sym (report_texts k c.played (reference_in c.coded c.played)
            (next_shown p c)) ∙ ap (λ (t : Role → Text). t Report) (sym texts)))

        own_comes : (e : OwnEvent) → Takes (Of k e) (own_step s trace k e)
        own_comes (own.Packet n j) =
            unless_comes (Of k (own.Packet n j)) (Deliver n j) (view_refusal p (group past) (view k) (Deliver n j)) _
            (λ r is. told_at (own.Packet n j) r (sym (packet_is p laws.groups.views k (group past) (events_at k past)
            (view k) (lives k there) (length frames) n j) ∙ is)) (packet_goes n j)
        own_comes (own.All n) =
            unless_comes (Of k (own.All n)) (Deliver n 0) (view_refusal p (group past) (view k) (Deliver n 0)) _
            (λ r is. told_at (own.All n) r (sym (packet_is p laws.groups.views k (group past) (events_at k past)
            (view k) (lives k there) (length frames) n 0) ∙ is)) (all_goes n)
        own_comes (own.Back m) =
            unless_comes (Of k (own.Back m)) (Back m) (view_refusal p (group past) (view k) (Back m)) _
            (λ r is. told_at (own.Back m) r (sym (message_is p laws.groups.views k (group past) (events_at k past)
            (view k) (lives k there) (length frames) m) ∙ is)) (back_goes m)
        own_comes own.Play =
            unless_comes (Of k own.Play) Play (view_refusal p (group past) (view k) Play) _
            (λ r is. told_at own.Play r (sym (play_is p laws.groups.views k (group past) (events_at k past)
            (view k) (lives k there) (length frames)) ∙ is)) play_goes

      -- ---- a capture

      behind : first_behind p (group past) views ≡ far_from p count frames count 0 past
      behind = behind_is past 0 views (each_of past views all)
          ∙ ap (λ (n : ℕ). far_from p count frames n 0 past) all.long

      -- no frame is left
      none_left : ahead_of more at (inputs Video) ≡ [] → length frames ≤ length (group past).coded
      none_left nothing = none_after frames (length (group past).coded) (on.ahead ∙ nothing)

      -- a frame is sent
      captured_comes : (b : ℕ) (v : List ℕ) → inputs Video ≡ b ∷ v → far_from p count frames count 0 past ≡ None
          → (r : Result (List ℕ) Y4mFault) → next_frame more p.format at (b ∷ v) ≡ r
          → Takes ForAll (group_captured_step s trace (frame_size p.format (b ∷ v)) r)
      captured_comes b v video o (Err fault) found =
          let stops = frame_laws.stops p.format more at (b ∷ v) fault (omega arith) found in
          let nothing : ahead_of more at (inputs Video) ≡ [] =
          ap (λ (l : List ℕ). ahead_of more at l) video ∙ ap (λ (l : List (List ℕ)). film p l) stops.0
          in
          let fault_is : Some fault ≡ broken =
          sym (ap (λ (l : List ℕ). fault_at more at l) video ∙ stops.1) ∙ on.fault in
          comes_stopped past views all (ForAll ∷ E) F (lines + 1) trace rest _ _ (λ text. refl)
          (λ other same. refl)
          (inr (o, none_left nothing, ap (λ (x : Option Y4mFault). capture_told x (lines + 1 + 0) NoPicture) fault_is))
      captured_comes b v video o (Ok planes) found =
          let x = bare (picture_of p.format planes) in
          let frame = frame_size p.format (b ∷ v) in
          let left = after_frame p.format (b ∷ v) in
          let n = length (group past).coded in
          let some_bytes : 0 < length (b ∷ v) = omega arith in
          let e = frame_laws.next p.format more (more - 1) at (b ∷ v) planes (some_left more at (b ∷ v) planes found)
          some_bytes found in
          let stands : drop n frames ≡ x ∷ ahead_of (more - 1) (at + frame) left =
          on.ahead ∙ ap (λ (l : List ℕ). ahead_of more at l) video ∙ ap (λ (l : List (List ℕ)). film p l) e.frames
          in
          let there : slice_get frames n ≡ Some x = next_in frames n x (ahead_of (more - 1) (at + frame) left) stands in
          let many : n < length frames = some_after frames n x (ahead_of (more - 1) (at + frame) left) stands in
          let near : (k : ℕ) → k < count → MayHappen (rules_of p) (n + 1) (call k past) Send =
          λ k below. (laws.none (n + 1) (call k past) Send).0 (none_far past count 0 o k k below (omega arith)) in
          let may : LineMayBe p count frames past ForAll = λ k below. (
            omega (arith, many, ap (λ (l : List (Coded Style Mb Picture)). length l) (lives k below).own),
            (near k below).1,
          ) in
          let live = all_captured p count frames laws.groups in_places past views all x there
          (λ k below. (near k below).1) in
          let run_is : group_after_code p (steady p) x (group past) ≡ group (Captured ∷ past) =
          ap (λ (q : Option Frame). one_sends p q (group past)) (sym there) in
          let long : length (group (Captured ∷ past)).coded ≡ suc n =
          ap (λ (g : Groups). length g.coded) (sym run_is) ∙ longer (group past).coded _ in
          comes_more ForAll E F (lines + 1) past (Captured ∷ past) trace _ _ _ refl may refl
          (λ k below. ap shown_text (sym (live.lives k below).plays ∙ (lives k below).plays)
          ∙ sym (append-nil (shown_text (call k past).plays)))
          (sym (append-nil (rows past)))
          (go (Captured ∷ past) (group_after_code p (steady p) x (group past)) views (at + frame) (more - 1)
          (not (is_closed trace)) (and_of (of Events size) (of Video frame)) left run_is live
          (ap (λ (m : ℕ). drop m trace) (no_more size) ∙ gone)
          (ap (λ (m : ℕ). drop m (inputs Video)) (more_bytes frame) ∙ ap (λ (l : List ℕ). drop frame l) video)
          (record {
            ahead = ap (λ (m : ℕ). drop m frames) long
                ∙ after_next frames n x (ahead_of (more - 1) (at + frame) left) stands;
            fault = sym e.fault ∙ sym (ap (λ (l : List ℕ). fault_at more at l) video) ∙ on.fault;
          }))

      send_comes : (video : List ℕ) → inputs Video ≡ video → far_from p count frames count 0 past ≡ None
          → Takes ForAll (group_capture_step s trace video)
      send_comes [] there o =
          let ends = frame_laws.ends p.format more at in
          let nothing : ahead_of more at (inputs Video) ≡ [] =
          ap (λ (l : List ℕ). ahead_of more at l) there ∙ ap (λ (l : List (List ℕ)). film p l) ends.0
          in
          let none_is : None ≡ broken = sym (ap (λ (l : List ℕ). fault_at more at l) there ∙ ends.1) ∙ on.fault in
          comes_faulty past views all (ForAll ∷ E) F (lines + 1) trace rest _ _ (inr (
            o,
            none_left nothing,
            numbered Send NoPicture ∙ ap (λ (x : Option Y4mFault). capture_told x (lines + 1 + 0) NoPicture) none_is,
          ))
      send_comes (b ∷ v) there o = captured_comes b v there o (next_frame more p.format at (b ∷ v)) refl

      -- ---- any line

      quiet_comes : Takes Quiet (quiet_group_step trace no_texts s)
      quiet_comes =
          comes_more Quiet E F (lines + 1) past past trace _ (line_turn trace no_texts) _ refl tt refl
          (λ k below. sym (append-nil (shown_text (call k past).plays))) (sym (append-nil (rows past)))
          (go past (group past) views at more (not (is_closed trace)) (of Events size) (inputs Video) refl all gone refl
          on)

      line_comes : (o : Option GroupLine) → ((said : GroupLine) → o ≡ Some said → IsThere count said)
          → Comes past (and_line o E) (bad_line_or o (lines + 1) F) (lines + 1) trace
          (follow (group_line_step s inputs o) rest)
      line_comes None there = comes_faulty past views all [] _ (lines + 1) trace rest _ _ refl
      line_comes (Some Quiet) there = quiet_comes
      line_comes (Some ForAll) there =
          unless_comes ForAll Send (first_behind p (group past) views) _
          (λ r is. inl (r, sym behind ∙ is, numbered Send r))
          (λ none. send_comes (inputs Video) refl (sym behind ∙ none))
      line_comes (Some (Of k e)) there = own_comes k (there (Of k e) refl) e

  -- ---- the run

  abbrev or_many : Bool → ℕ → Step GroupState → Step GroupState
  or_many b lines step = if b then step else Ends (bad_line (TooMany (lines + 1)))

  module _ (frame_laws : FrameLaws) where
    -- after each line the run goes on with one turn less
    abbrev GoesOn : ℕ → ℕ → (Role → List ℕ) → Type 0
    GoesOn n lines inputs =
        (past2 : List Happening) (run2 : Groups) (views2 : List ViewerRun) (at2 more2 : ℕ) (ended2 : Bool)
        (taken : Role → ℕ) (left : List ℕ) → run2 ≡ group past2 → Live past2 views2
        → left_after inputs taken Events ≡ later_lines (inputs Events) → left_after inputs taken Video ≡ left
        → IsOn past2 at2 more2 left
        → Comes past2 (group_lines count n (later_lines (inputs Events)))
        (lines_fault count n (lines + 1 + 1) (later_lines (inputs Events))) (lines + 1 + 1)
        (left_after inputs taken Events)
        (machine_run group_step n (state run2 views2 at2 more2 (lines + 1) ended2) (left_after inputs taken))

    module _ (past : List Happening) (views : List ViewerRun) (all : Live past views) (at more lines : ℕ) (ended : Bool)
        (inputs : Role → List ℕ) (on : IsOn past at more (inputs Video)) where
      abbrev here : GroupState
      here = state (group past) views at more lines ended

      last_choice : (b : Bool) (step : Step GroupState) → lines + 0 ≡ 16777216 → nat_lt lines 16777216 ≡ b
          → Comes past [] (Some (TooMany (lines + 1))) (lines + 1) (inputs Events)
          (follow (or_many b lines step) (λ next taken. silence))
      last_choice true step room below = absurd (omega (arith, ltb-true lines 16777216 below, room))
      last_choice false step room many = comes_faulty past views all [] _ (lines + 1) (inputs Events)
          (λ next taken. silence) _ _ refl

      last_comes : (text : List ℕ) → lines + 0 ≡ 16777216
          → Comes past [] (lines_fault count 0 (lines + 1) text) (lines + 1) (inputs Events)
          (follow (group_trace_step here inputs text) (λ next taken. silence))
      unfolding lines_fault
      last_comes [] room = comes_end past views all (lines + 1) at more lines ended (inputs Events)
          (λ next taken. silence)
      last_comes (b ∷ text) room = last_choice (nat_lt lines 16777216) _ room refl

      module _ (n : ℕ) where
        abbrev on_with : GroupState → (Role → ℕ) → Run
        on_with next taken = machine_run group_step n next (left_after inputs taken)

        choice_comes : (b : Bool) (byte : ℕ) (trace : List ℕ) → inputs Events ≡ byte ∷ trace → GoesOn n lines inputs
            → lines + suc n ≡ 16777216 → nat_lt lines 16777216 ≡ b
            → Comes past (and_line (group_line count (first_line (byte ∷ trace)))
            (group_lines count n (later_lines (byte ∷ trace))))
            (bad_line_or (group_line count (first_line (byte ∷ trace))) (lines + 1)
            (lines_fault count n (lines + 1 + 1) (later_lines (byte ∷ trace)))) (lines + 1) (inputs Events)
            (follow (or_many b lines (group_line_step here inputs (group_line (length views)
            (first_line (byte ∷ trace)))))
            on_with)
        choice_comes false byte trace is go room many = absurd (omega (arith, ltb-false lines 16777216 many, room))
        choice_comes true byte trace is go room below =
            let line = first_line (byte ∷ trace) in
            subst (λ (c : ℕ). Comes past (and_line (group_line count line)
            (group_lines count n (later_lines (byte ∷ trace))))
            (bad_line_or (group_line count line) (lines + 1)
            (lines_fault count n (lines + 1 + 1) (later_lines (byte ∷ trace)))) (lines + 1) (inputs Events)
            (follow (group_line_step here inputs (group_line c line)) on_with)) (sym all.long)
            (subst (λ (l : List ℕ). Comes past (and_line (group_line count line) (group_lines count n (later_lines l)))
            (bad_line_or (group_line count line) (lines + 1) (lines_fault count n (lines + 1 + 1) (later_lines l)))
            (lines + 1) (inputs Events) (follow (group_line_step here inputs (group_line count line)) on_with)) is
            (line_comes frame_laws past views all at more lines ended inputs on
            (group_lines count n (later_lines (inputs Events)))
            (lines_fault count n (lines + 1 + 1) (later_lines (inputs Events))) on_with go (group_line count line)
            (λ said found. line_there count said line some found)))

        step_comes : (trace : List ℕ) → inputs Events ≡ trace → GoesOn n lines inputs → lines + suc n ≡ 16777216
            → Comes past (group_lines count (suc n) trace) (lines_fault count (suc n) (lines + 1) trace) (lines + 1)
            (inputs Events) (follow (group_trace_step here inputs trace) on_with)
        unfolding group_lines lines_fault
        step_comes [] is go room = comes_end past views all (lines + 1) at more lines ended (inputs Events) on_with
        step_comes (byte ∷ trace) is go room = choice_comes (nat_lt lines 16777216) byte trace is go room refl

    one_less : (lines n : ℕ) → lines + suc n ≡ 16777216 → lines + 1 + n ≡ 16777216
    one_less lines n room = omega (arith, room)

    pub run_comes : (n : ℕ) (past : List Happening) (views : List ViewerRun) (at more lines : ℕ) (ended : Bool)
        (inputs : Role → List ℕ) → Live past views → IsOn past at more (inputs Video) → lines + n ≡ 16777216
        → Comes past (group_lines count n (inputs Events)) (lines_fault count n (lines + 1) (inputs Events)) (lines + 1)
        (inputs Events) (machine_run group_step n (state (group past) views at more lines ended) inputs)
    unfolding machine_run group_lines lines_fault
    run_comes zero past views at more lines ended inputs all on room =
        last_comes past views all at more lines ended inputs on (inputs Events) room
    run_comes (suc n) past views at more lines ended inputs all on room =
        step_comes past views all at more lines ended inputs on n (inputs Events) refl
        (λ past2 run2 views2 at2 more2 ended2 taken left is live gone seen on2.
        subst (λ (g : Groups). Comes past2 (group_lines count n (later_lines (inputs Events)))
        (lines_fault count n (lines + 1 + 1) (later_lines (inputs Events))) (lines + 1 + 1)
        (left_after inputs taken Events)
        (machine_run group_step n (state g views2 at2 more2 (lines + 1) ended2) (left_after inputs taken))) (sym is)
        (subst (λ (l : List ℕ). Comes past2 (group_lines count n l) (lines_fault count n (lines + 1 + 1) l)
        (lines + 1 + 1) (left_after inputs taken Events)
        (machine_run group_step n (state (group past2) views2 at2 more2 (lines + 1) ended2) (left_after inputs taken)))
        gone
        (run_comes n past2 views2 at2 more2 (lines + 1) ended2 (left_after inputs taken) live
        (subst (λ (v : List ℕ). IsOn past2 at2 more2 v) (sym seen) on2) (one_less lines n room))))
        room
