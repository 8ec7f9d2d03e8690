-- The run of a call of two parties over a recorded trace, line by line.
use Rattle.std.proofs.Common.{◌≡◌, ◌≢◌, ℕ, zero, suc, ◌+◌, ◌-◌, ◌<◌, ◌≤◌, Bool, true, false, not, List, [], ◌∷◌, ◌++◌, length, drop, Option, Some, None, Result, Ok, Err, refl, sym, ap, subst, ◌∙◌, arith, nat_lt, if◌then◌else◌}
use Rattle.std.specs.Prelude.{map, slice_get, slice_index_or}
use Rattle.std.specs.Option.{option_map_or}
use Rattle.std.proofs.lemmas.Bool.{ltb-false, ltb-true}
use Rattle.std.proofs.lemmas.List.{append-nil, append_assoc}
use Rattle.h263_types.specs.declared.blocks.Mb.{Mb}
use Rattle.h263_types.specs.declared.format.Format.{Format}
use Rattle.h263_types.specs.declared.params.Params.{Params}
use Rattle.h263_planes.specs.Layout.{picture_of}
use Rattle.h263_planes.specs.Picture.{Picture}
use Rattle.h263_outside.specs.declared.desk.Role.{Role}
use Rattle.h263_outside.specs.declared.desk.Role.TheVariants.{Video, Events, Report, Video2}
use Rattle.y4m.specs.declared.fault.Y4mFault.{Y4mFault}
use Rattle.y4m.specs.Frame.{next_frame, frame_size}
use Rattle.y4m.specs.Laws.{FrameLaws}
use Rattle.y4m.specs.Video.{after_frame, first_video_fault as video_fault_of, frames_of}
use Rattle.loss_trace.specs.declared.event.Event.{Event as Line}
use Rattle.loss_trace.specs.declared.event.Event.TheVariants as says
use Rattle.loss_trace.specs.declared.fault.TraceFault.{TraceFault}
use Rattle.loss_trace.specs.declared.fault.TraceFault.TheVariants.{TooMany}
use Rattle.loss_trace.specs.Lines.{later_lines, first_line, is_closed}
use Rattle.call_report.specs.declared.status.Status.{Status}
use Rattle.call_report.specs.declared.status.Status.TheVariants.{Ok as Fine, TraceRefused}
use Rattle.h263_types.specs.Texts.{Text}
use Rattle.call_report.specs.Text.{picture_text}
use Rattle.call_model.specs.Before.{CountsAreThose, sent_before}
use Rattle.call_model.specs.Coding.{Shown, pictures_of as shown_pictures}
use Rattle.call_model.specs.IdealCall.{AllMayHappen, Call, Event, Send, Deliver, Play, Back, about, ideal, shown_at, slices_at}
use Rattle.call_model.specs.LaterFrames.{LaterFrames}
use Rattle.call_model.specs.Refusals.{NotSent, NotSaid, Far, PlayBeforeSend, NoFrame as NoPicture, Refusal}
use Rattle.call_decoding.specs.Rules.{rules_of}
use Rattle.call_decoding.specs.Styles.{Style}
use Rattle.call_encoding.specs.Frames.{Frame}
use Rattle.coded_call.specs.Coding.{coding}
use Rattle.receiver_end.specs.Answers.{mark_from}
use Rattle.desk_program.specs.Run.{Run, Step, Turn, left_after, follow, machine_run, silence, text_of, texts_of, video_refusal}
use Rattle.desk_program.specs.Run.Step.{Ends}
use Rattle.desk_program.specs.Texts.{and_of, no_texts, of, only_at_ok}
use Rattle.one_way.specs.Both.{steady}
use Rattle.one_way.specs.Seen.{reference_in}
use Rattle.call_command.specs.Call.{bad_line, line_size, line_turn, unless_refused}
use Rattle.call_command.specs.Laws.{FramesLeft}
use Rattle.call_command.specs.Recorded.{shown_text}
use Rattle.call_command.specs.Refused.{fault_told}
use Rattle.duplex_call.specs.declared.line.Party.{Party}
use Rattle.duplex_call.specs.declared.line.Party.TheVariants.{A, B}
use Rattle.duplex_call.specs.Duplex.{AllMayHappenOf, Lettered, WayRuns, other, way, with_delivery, with_play, with_capture}
use Rattle.duplex_call.specs.Lines.{party_event}
use Rattle.duplex_call.specs.Refused.{NoneWhereItMayHappenOf, earlier_refusal, heard_refusal, refusal_of}
use Rattle.duplex_ends.specs.Ways.{call_in, sides, with_places, with_whole}
use Rattle.duplex_command.specs.Duplex.{DuplexState, VideoPlace, after_party_line, both_counts, party_capture_step, party_captured_step, duplex_step, letter_of, lettered_step, party_step, pictures_role, video_place_of, play_step, party_play_texts, quiet_party_step, party_refusal, refused_party_video, seen_of, duplex_trace_step, video_of, with_party_frame, with_next}
use Rattle.duplex_command.specs.Recorded.{AreCallsEnded, IsPartyRefusal, IsRefusedPartyCapture, LineEvent, LetteredMayHappen, AllLetteredMayHappen, party_capture_told, bad_from, party_call_after, fault_in, and_event, line_events, told_line, told_lines, ways_of, with_event, with_lettered, with_all_lettered, with_party_packets}
use Rattle.duplex_command.proofs.Brought.{IsKept, kept_all, kept_delivery, kept_places, near_packets, told_packets, ways_packets}

-- ---- lists

-- what stands at a place, where the list goes on so from there
next_in : {X : Type 0} (xs : List X) (n : ℕ) (x : X) (more : List X) → drop n xs ≡ x ∷ more → slice_get xs n ≡ Some x
next_in [] zero x more is = absurd (cc is)
next_in [] (suc n) x more is = absurd (cc is)
next_in (y ∷ xs) zero x more is = cc is
next_in (y ∷ xs) (suc n) x more is = next_in xs n x more is

after_next : {X : Type 0} (xs : List X) (n : ℕ) (x : X) (more : List X) → drop n xs ≡ x ∷ more → drop (suc n) xs ≡ more
after_next [] zero x more is = absurd (cc is)
after_next [] (suc n) x more is = absurd (cc is)
after_next (y ∷ xs) zero x more is = cc is
after_next (y ∷ xs) (suc n) x more is = after_next xs n x more is

some_after : {X : Type 0} (xs : List X) (n : ℕ) (x : X) (more : List X) → drop n xs ≡ x ∷ more → n < length xs
some_after [] zero x more is = absurd (cc is)
some_after [] (suc n) x more is = absurd (cc is)
some_after (y ∷ xs) zero x more is = omega arith
some_after (y ∷ xs) (suc n) x more is = omega (arith, some_after xs n x more is)

none_after : {X : Type 0} (xs : List X) (n : ℕ) → drop n xs ≡ [] → length xs ≤ n
none_after [] n is = omega arith
none_after (y ∷ xs) zero is = absurd (cc is)
none_after (y ∷ xs) (suc n) is = omega (arith, none_after xs n is)

longer : {X : Type 0} (xs : List X) (x : X) → length (xs ++ x ∷ []) ≡ suc (length xs)
longer [] x = refl
longer (y ∷ xs) x = ap suc (longer xs x)

more_bytes : (n : ℕ) → 0 + n ≡ n
more_bytes n = omega arith

no_more : (n : ℕ) → n + 0 ≡ n
no_more n = omega arith

abbrev status_with : TraceFault → Status
status_with fault = TraceRefused fault

-- what the laws say of the ideal calls of both parties
pub record CallLaws (p : Party → Params) (captures : Party → List Picture) : Type 0 where
  pub later : (q : Params) → LaterFrames (coding q) (rules_of q)
  pub none : NoneWhereItMayHappenOf (sides p)
  pub counts : (q : Params) (frames : List Frame) → CountsAreThose (coding q) (rules_of q) (steady q) frames
  pub each : (past : List Lettered) → AllMayHappenOf (sides p) captures past → (x : Party)
      → AllMayHappen (coding (p x)) (rules_of (p x)) (steady (p x)) (way x (ways_of p captures past)).frames
      (way x (ways_of p captures past)).past
  pub left : FramesLeft
  pub gone : (trace : List ℕ) → drop (line_size trace) trace ≡ later_lines trace

-- a refusal for another reason than that no frame is left is told as itself
distance_told : (x : Party) (broken : Option Y4mFault) (number : ℕ) (r : Refusal) → r ≢ NoPicture
    → TraceRefused (fault_told number Send r) ≡ party_capture_told x broken number r
distance_told x None number r other = refl
distance_told x (Some fault) number NotSent other = refl
distance_told x (Some fault) number NotSaid other = refl
distance_told x (Some fault) number (Far given seen) other = refl
distance_told x (Some fault) number PlayBeforeSend other = refl
distance_told x (Some fault) number NoPicture other = absurd (other refl)

module _ (p : Party → Params) (captures : Party → List Picture) (broken : Party
    → Option Y4mFault) (laws : CallLaws p captures) where
  abbrev Near : List Lettered → Type 0
  Near past = AllMayHappenOf (sides p) captures past

  abbrev ways : List Lettered → WayRuns Frame
  ways past = ways_of p captures past

  abbrev call : Party → List Lettered → Call Style Mb Picture
  call x past = party_call_after p captures x past

  abbrev With : List Lettered → LineEvent → List Lettered
  With past line = with_lettered p captures past line

  abbrev Withs : List Lettered → List LineEvent → List Lettered
  Withs past lines = with_all_lettered p captures past lines

  abbrev rows : List Lettered → Text
  rows past = told_lines p captures past

  -- ---- the states along the way

  abbrev pub state : WayRuns Frame → VideoPlace → VideoPlace → ℕ → Bool → DuplexState
  state met va vb lines ended =
      record { params = p; ways = met; video_a = va; video_b = vb; lines = lines; ended = ended }

  abbrev captures_at : Party → VideoPlace → List ℕ → List Picture
  captures_at x place video =
      map (λ planes. picture_of (p x).format planes) (frames_of (p x).format place.more place.at video)

  -- the first fault of a party's video from there on
  abbrev fault_at : Party → VideoPlace → List ℕ → Option Y4mFault
  fault_at x place video = video_fault_of (p x).format place.more place.at video

  -- of each party all frames were sent, and these are still to come, up to the fault of its video
  pub record IsOn (met : WayRuns Frame) (s : DuplexState) (inputs : Role → List ℕ) : Type 0 where
    pub sent : (x : Party) → sent_before (way x met).past ≡ length (way x met).frames
    pub ahead : (x : Party) → drop (length (way x met).frames) (captures x)
        ≡ captures_at x (video_place_of x s) (inputs (video_of x))
    pub fault : (x : Party) → fault_at x (video_place_of x s) (inputs (video_of x)) ≡ broken x

  -- ---- what a run from there comes to

  -- where it refuses a video, nothing is taken of the other one
  abbrev Spares : Status → (Role → Option ℕ) → Type 0
  Spares status taken = (x : Party) (fault : Y4mFault) → status ≡ refused_party_video x fault
      → taken (video_of (other x))
      ≡ Some 0

  no_video_refused : (fault : TraceFault) (taken : Role → Option ℕ) → Spares (status_with fault) taken
  no_video_refused fault taken A broken is = absurd (cc is)
  no_video_refused fault taken B broken is = absurd (cc is)

  none_refused : (taken : Role → Option ℕ) → Spares Fine taken
  none_refused taken A broken is = absurd (cc is)
  none_refused taken B broken is = absurd (cc is)

  one_refused : (size : ℕ) (y : Party) (broken : Y4mFault)
      → Spares (refused_party_video y broken) (video_refusal (video_of y) (of Events size) (refused_party_video y
      broken)).taken
  one_refused size A broken A fault is = refl
  one_refused size A broken B fault is = absurd (cc is)
  one_refused size B broken A fault is = absurd (cc is)
  one_refused size B broken B fault is = refl

  -- over the events before it, where these lines are still to come
  pub record Comes (past : List Lettered) (ahead : List LineEvent) (fault : Option TraceFault) (number : ℕ)
      (run : Run) : Type 0 where
    pub lines : List LineEvent
    pub refused : List LineEvent
    pub read : ahead ≡ lines ++ refused
    pub taken : length run.turns ≡ length lines
    pub near : Near (Withs past lines)
    pub may : AllLetteredMayHappen p captures past lines
    pub pictures : (x : Party) → shown_text (call x (Withs past lines)).plays ≡ shown_text (call x past).plays
        ++ text_of run (pictures_role x)
    pub report : rows (Withs past lines) ++ only_at_ok run.last.status (both_counts p (ways (Withs past lines)) Report)
        ≡ rows past ++ text_of run Report
    pub end : AreCallsEnded p captures broken fault (number + length lines) (Withs past lines) refused run.last.status
    pub others : Spares run.last.status run.last.taken

  comes_stopped : (past : List Lettered) → Near past
      → (E : List LineEvent) (F : Option TraceFault) (m : ℕ) (rest : DuplexState → (Role → ℕ) → Run)
      (status : Status) (taken : Role → Option ℕ) → ((text : Text) → only_at_ok status text ≡ []) → Spares status taken
      → AreCallsEnded p captures broken F (m + 0) past E status
      → Comes past E F m (follow (Ends (record { status = status; taken = taken; texts = no_texts })) rest)
  comes_stopped past near E F m rest status taken silent spares end = record {
    end = end;
    may = tt;
    others = spares;
    lines = [];
    refused = E;
    read = refl;
    taken = refl;
    near = near;
    pictures = λ x. sym (append-nil (shown_text (call x past).plays));
    report = ap (λ (l : Text). rows past ++ l) (silent (both_counts p (ways past) Report));
  }

  -- a fault of the trace ends it
  comes_faulty : (past : List Lettered) → Near past
      → (E : List LineEvent) (F : Option TraceFault) (m : ℕ) (rest : DuplexState → (Role → ℕ) → Run)
      (fault : TraceFault) (taken : Role → Option ℕ) → AreCallsEnded p captures broken F (m + 0) past E
      (status_with fault)
      → Comes past E F m (follow (Ends (record { status = status_with fault; taken = taken; texts = no_texts })) rest)
  comes_faulty past near E F m rest fault taken end = comes_stopped past near E F m rest (status_with fault) taken
      (λ text. refl) (no_video_refused fault taken) end

  no_counts : (x : Party) (met : WayRuns Frame) → both_counts p met (pictures_role x) ≡ []
  no_counts A met = refl
  no_counts B met = refl

  comes_end : (past : List Lettered) → Near past → (m : ℕ) (rest : DuplexState → (Role → ℕ) → Run)
      → Comes past [] None m (follow (Ends (record {
        status = Fine;
        taken = λ _. Some 0;
        texts = both_counts p (ways past);
      })) rest)
  comes_end past near m rest = record {
    end = refl;
    may = tt;
    others = none_refused (λ _. Some 0);
    lines = [];
    refused = [];
    read = refl;
    taken = refl;
    near = near;
    pictures = λ x. sym (append-nil (shown_text (call x past).plays))
        ∙ ap (λ (l : Text). shown_text (call x past).plays ++ l) (sym (no_counts x (ways past)));
    report = refl;
  }

  one_further : (m j : ℕ) → m + 1 + j ≡ m + suc j
  one_further m j = omega arith

  -- a line more
  comes_more : (line : LineEvent) (E : List LineEvent) (F : Option TraceFault) (m : ℕ) (past past2 : List Lettered)
      (turn : Turn) (run : Run) → past2 ≡ With past line → LetteredMayHappen p captures past line
      → ((x : Party) → shown_text (call x past2).plays ≡ shown_text (call x past).plays ++ turn.texts (pictures_role x))
      → rows past2 ≡ rows past ++ turn.texts Report
      → Comes past2 E F (m + 1) run → Comes past (line ∷ E) F m (record { turns = turn ∷ run.turns; last = run.last })
  comes_more line E F m past past2 turn run is may pictures2 report2 comes2 =
      let now = With past line in
      let comes : Comes now E F (m + 1) run = subst (λ (q : List Lettered). Comes q E F (m + 1) run) is comes2 in
      let pictures : (x : Party) → shown_text (call x now).plays ≡ shown_text (call x past).plays
      ++ turn.texts (pictures_role x) =
      subst (λ (q : List Lettered). (x : Party) → shown_text (call x q).plays ≡ shown_text (call x past).plays
      ++ turn.texts (pictures_role x)) is pictures2
      in
      let report : rows now ≡ rows past ++ turn.texts Report =
      subst (λ (q : List Lettered). rows q ≡ rows past ++ turn.texts Report) is report2
      in
      record {
        may = (may, comes.may);
        end = subst (λ (j : ℕ). AreCallsEnded p captures broken F j (Withs now comes.lines) comes.refused
            run.last.status)
            (one_further m (length comes.lines)) comes.end;
        others = comes.others;
        lines = line ∷ comes.lines;
        refused = comes.refused;
        read = ap (λ (l : List LineEvent). line ∷ l) comes.read;
        taken = ap suc comes.taken;
        near = comes.near;
        pictures = λ x.
            comes.pictures x
            ∙ ap (λ (l : Text). l ++ text_of run (pictures_role x)) (pictures x)
            ∙ append_assoc (shown_text (call x past).plays) (turn.texts (pictures_role x)) (text_of run
            (pictures_role x))
            ∙ ap (λ (l : Text). shown_text (call x past).plays
            ++ l) (sym (append_assoc (turn.texts (pictures_role x)) (texts_of run.turns (pictures_role x))
            (run.last.texts (pictures_role x))));
        report =
            comes.report
            ∙ ap (λ (l : Text). l ++ text_of run Report) report
            ∙ append_assoc (rows past) (turn.texts Report) (text_of run Report)
            ∙ ap (λ (l : Text). rows past
            ++ l) (sym (append_assoc (turn.texts Report) (texts_of run.turns Report) (run.last.texts Report)));
      }

  -- ---- a turn

  some_left : (m at : ℕ) (f : Format) (rest planes : List ℕ) → next_frame m f at rest ≡ Ok planes → m - 1 + 1 ≡ m
  some_left zero at f rest planes is = absurd (cc is)
  some_left (suc m) at f rest planes is = omega arith

  -- all frames were sent and are coded
  coded_are : (past : List Lettered) → Near past → (x : Party) → sent_before (way x (ways past)).past
      ≡ length (way x (ways past)).frames
      → length (call x past).coded ≡ length (way x (ways past)).frames
  coded_are past near x sent = (laws.counts (p x) (way x (ways past)).frames (way x (ways past)).past).0
      (laws.each past near x) ∙ sent

  -- as many plays are told as pictures were played
  plays_count : (q : Params) (frames : List Frame) (past : List Event)
      → length (ideal (coding q) (rules_of q) (steady q) frames past).plays
      ≡ (ideal (coding q) (rules_of q) (steady q) frames past).played
  plays_count q frames [] = refl
  plays_count q frames (Send ∷ past) = plays_count q frames past
  plays_count q frames (Deliver n j ∷ past) = plays_count q frames past
  plays_count q frames (Play ∷ past) = omega (arith, plays_count q frames past)
  plays_count q frames (Back k ∷ past) = plays_count q frames past

  module _ (frame_laws : FrameLaws) (past : List Lettered) (near : Near past) (va vb : VideoPlace) (lines : ℕ)
      (ended : Bool) (inputs : Role → List ℕ)
      (on : IsOn (ways past) (state (ways past) va vb lines ended) inputs) (E : List LineEvent) (F : Option TraceFault)
      (rest : DuplexState → (Role → ℕ) → Run) where
    abbrev s : DuplexState
    s = state (ways past) va vb lines ended

    abbrev met : WayRuns Frame
    met = ways past

    abbrev trace : List ℕ
    trace = inputs Events

    module _ (go : (past2 : List Lettered) (met2 : WayRuns Frame) (va2 vb2 : VideoPlace) (ended2 : Bool) (taken : Role
        → ℕ) → met2 ≡ ways past2 → Near past2
        → IsOn met2 (state met2 va2 vb2 (lines + 1) ended2) (left_after inputs taken) → taken Events ≡ line_size trace
        → Comes past2 E F (lines + 1 + 1) (rest (state met2 va2 vb2 (lines + 1) ended2) taken)) where
      abbrev size : ℕ
      size = line_size trace

      abbrev Takes : LineEvent → Step DuplexState → Type 0
      Takes line step = Comes past (line ∷ E) F (lines + 1) (follow step rest)

      -- a refusal ends the call
      abbrev IsWhy : LineEvent → Party → Event → Type 0
      IsWhy line x e = (r : Refusal) → party_refusal x s e ≡ Some r
          → AreCallsEnded p captures broken F (lines + 1 + 0) past (line ∷ E) (TraceRefused (fault_told (lines + 1) e
          r))

      unless_comes : (line : LineEvent) (x : Party) (e : Event) (o : Option Refusal) (step : Step DuplexState)
          → party_refusal x s e ≡ o → IsWhy line x e → (o ≡ None → Takes line step)
          → Takes line (unless_refused (s.lines + 1) trace e o step)
      unless_comes line x e None step found why takes = takes refl
      unless_comes line x e (Some r) step found why takes = comes_faulty past near (line ∷ E) F (lines + 1) rest _ _
          (why r found)

      told_at : (x : Party) (e : Event) (r : Refusal) → refusal_of (sides p) (length (captures x)) x e met ≡ Some r
          → IsPartyRefusal p captures (lines + 1 + 0) past x e (TraceRefused (fault_told (lines + 1) e r))
      told_at x e r is = (r, is, ap (λ (j : ℕ). status_with (fault_told j e r)) (sym (no_more (lines + 1))))

      -- how many pictures are there makes a difference to a capture alone
      packet_so : (x : Party) (n j : ℕ) (r : Refusal) → party_refusal x s (Deliver n j) ≡ Some r
          → refusal_of (sides p) (length (captures x)) x (Deliver n j) met ≡ Some r
      packet_so x n j r is =
          let c = call x past in
          ap (λ (o : Option Refusal). earlier_refusal o (heard_refusal (sides p) (other x) (way (other x) met)
          (slice_index_or (way x met).carried n [])))
          (laws.left.packet (rules_of (p x)) n j (length (captures x)) (length c.coded + 1) (length c.coded) c.played
          (map about c.said))
          ∙ is

      play_so : (x : Party) (r : Refusal) → party_refusal x s Play ≡ Some r
          → refusal_of (sides p) (length (captures x)) x Play met ≡ Some r
      play_so x r is =
          let c = call x past in
          laws.left.play (rules_of (p x)) (length (captures x)) (length c.coded + 1) (length c.coded) c.played
          (map about c.said) ∙ is

      capture_so : (x : Party) (r : Refusal) → party_refusal x s Send ≡ Some r
          → refusal_of (sides p) (length (captures x)) x Send met ≡ Some r
      capture_so x r is =
          let c = call x past in
          laws.left.far (rules_of (p x)) (length (captures x)) (length c.coded) c.played (map about c.said) r is

      -- a capture that is too far is told so, whatever fault the video has
      far_told : (x : Party) (r : Refusal) → party_refusal x s Send ≡ Some r
          → IsRefusedPartyCapture p captures (broken x) (lines + 1 + 0) past x (TraceRefused (fault_told (lines + 1)
          Send r))
      far_told x r is =
          let c = call x past in (
            r,
            capture_so x r is,
            ap (λ (j : ℕ). status_with (fault_told j Send r)) (sym (no_more (lines + 1)))
                ∙ distance_told x (broken x) (lines + 1 + 0) r (laws.left.distance (rules_of (p x))
                (length c.coded) c.played (map about c.said) r is),
          )

      -- no frame is left
      none_left : (x : Party) → captures_at x (video_place_of x s) (inputs (video_of x)) ≡ [] → party_refusal x s Send
          ≡ None
          → refusal_of (sides p) (length (captures x)) x Send met ≡ Some NoPicture
      none_left x nothing is =
          let c = call x past in
          let few : length (captures x) ≤ length (way x met).frames =
          none_after (captures x) (length (way x met).frames) (on.ahead x ∙ nothing) in
          let coded : length c.coded ≡ length (way x met).frames = coded_are past near x (on.sent x) in
          laws.left.out (rules_of (p x)) (length (captures x)) (length c.coded) c.played (map about c.said)
          (omega (arith, few, coded)) is

      -- ---- events that capture nothing

      -- each video is as it was left
      same_ahead : (x : Party) (met2 : WayRuns Frame) (ended2 : Bool)
          → captures_at x (video_place_of x s) (inputs (video_of x))
          ≡ captures_at x (video_place_of x (state met2 va vb (lines + 1) ended2))
          (left_after inputs (of Events size) (video_of x))
      same_ahead A met2 ended2 = refl
      same_ahead B met2 ended2 = refl

      same_fault : (x : Party) (met2 : WayRuns Frame) (ended2 : Bool)
          → fault_at x (video_place_of x (state met2 va vb (lines + 1) ended2))
          (left_after inputs (of Events size) (video_of x)) ≡ fault_at x (video_place_of x s) (inputs (video_of x))
      same_fault A met2 ended2 = refl
      same_fault B met2 ended2 = refl

      on_after : (met2 : WayRuns Frame) (ended2 : Bool) → ((x : Party) → (way x met2).frames ≡ (way x met).frames)
          → ((x : Party) → sent_before (way x met2).past ≡ sent_before (way x met).past)
          → IsOn met2 (state met2 va vb (lines + 1) ended2) (left_after inputs (of Events size))
      on_after met2 ended2 frames sent = record {
        sent = λ x. sent x ∙ on.sent x ∙ ap (λ (l : List Frame). length l) (sym (frames x));
        ahead = λ x. ap (λ (l : List Frame). drop (length l) (captures x)) (frames x) ∙ on.ahead x
            ∙ same_ahead x met2 ended2;
        fault = λ x. same_fault x met2 ended2 ∙ on.fault x;
      }

      -- those that show nothing
      quiet : (line : LineEvent) (past2 : List Lettered) (met2 : WayRuns Frame) → past2 ≡ With past line
          → LetteredMayHappen p captures past line → met2 ≡ ways past2 → Near past2 → IsKept p met2 met
          → rows past2 ≡ rows past
          → Takes line (quiet_party_step s trace met2)
      quiet line past2 met2 same may is near2 kept told2 =
          let plays : (x : Party) → (call x past2).plays
          ≡ (call x past).plays = λ x. ap (λ (w : WayRuns Frame). (call_in p x w).plays) (sym is) ∙ kept.plays x in
          comes_more line E F (lines + 1) past past2 (line_turn trace no_texts) _ same may
          (λ x. ap shown_text (plays x) ∙ sym (append-nil (shown_text (call x past).plays)))
          (told2 ∙ sym (append-nil (rows past)))
          (go past2 met2 va vb (not (is_closed trace)) (of Events size) is near2
          (on_after met2 (not (is_closed trace)) kept.frames kept.sent) refl)

      packet_comes : (x : Party) (n j : ℕ) → party_refusal x s (Deliver n j) ≡ None
          → Takes (Some (x, says.Packet n j)) (quiet_party_step s trace (with_delivery (sides p) x n j met))
      packet_comes x n j o =
          let may = (laws.none (length (call x past).coded + 1) x (Deliver n j) met).0 o in
          quiet (Some (x, says.Packet n j)) (with_event p captures x (Deliver n j) past)
          (with_delivery (sides p) x n j met) refl may refl (may, near) (kept_delivery p x n j met)
          (append-nil (rows past))

      all_comes : (x : Party) (n : ℕ) → party_refusal x s (Deliver n 0) ≡ None
          → Takes (Some (x, says.All n)) (quiet_party_step s trace (with_whole p x n met))
      all_comes x n o =
          let count = length (slices_at (call x past).coded n) in
          let may = (laws.none (length (call x past).coded + 1) x (Deliver n 0) met).0 o in
          quiet (Some (x, says.All n)) (with_party_packets p captures x n count past) (with_places p x n count met) refl
          may
          (ways_packets p captures x n count past)
          (near_packets p captures x n 0 count past may near)
          (kept_places p x n count met) (told_packets p captures x n count past)

      -- ---- a play

      played_frames : (x y : Party) → (way y (with_play (sides p) x met)).frames ≡ (way y met).frames
      played_frames A A = refl
      played_frames A B = refl
      played_frames B A = refl
      played_frames B B = refl

      played_sent : (x y : Party) → sent_before (way y (with_play (sides p) x met)).past ≡ sent_before (way y met).past
      played_sent A A = refl
      played_sent A B = refl
      played_sent B A = refl
      played_sent B B = refl

      abbrev play_turn : Party → Turn
      play_turn x = line_turn trace (party_play_texts (pictures_role x) x (seen_of x (with_next x s))
          (seen_of x s).played)

      played_pictures : (x y : Party) → shown_text (call y (with_event p captures x Play past)).plays
          ≡ shown_text (call y past).plays ++ (play_turn x).texts (pictures_role y)
      played_pictures A A = ap (λ (l : Text). shown_text (call A past).plays ++ l) (sym (append-nil _))
      played_pictures A B = sym (append-nil (shown_text (call B past).plays))
      played_pictures B A = sym (append-nil (shown_text (call A past).plays))
      played_pictures B B = ap (λ (l : Text). shown_text (call B past).plays ++ l) (sym (append-nil _))

      -- what the play shows
      abbrev newest : Party → Shown Picture
      newest x = shown_at (shown_pictures (coding (p x))) (call x past).coded (call x past).arrivals (call x past).plays
          (call x past).played

      abbrev row_at : Party → ℕ → Text
      row_at x m = picture_text m (Some (mark_from (newest x).mark)) (Some (reference_in (call x past).coded m))
          (Some (letter_of x))

      row_is : (x : Party) → told_line p captures x Play past ≡ (play_turn x).texts Report
      row_is A = ap (row_at A) (plays_count (p A) (way A met).frames (way A met).past)
      row_is B = ap (row_at B) (plays_count (p B) (way B met).frames (way B met).past)

      play_comes : (x : Party) → party_refusal x s Play ≡ None
          → Takes (Some (x, says.Play)) (play_step (video_of x) (pictures_role x) (refused_party_video x) x s trace)
      play_comes x o =
          let may = (laws.none (length (call x past).coded + 1) x Play met).0 o in
          comes_more (Some (x, says.Play)) E F (lines + 1) past (with_event p captures x Play past) (play_turn x) _
          refl may
          (played_pictures x)
          (ap (λ (l : Text). rows past ++ l) (row_is x))
          (go (with_event p captures x Play past) (with_play (sides p) x met) va vb (not (is_closed trace))
          (of Events size) refl
          (may, near)
          (on_after (with_play (sides p) x met) (not (is_closed trace)) (played_frames x) (played_sent x)) refl)

      -- ---- a capture

      abbrev takes_frame : Party → ℕ → Role → ℕ
      takes_frame x frame = and_of (of Events size) (of (video_of x) frame)

      line_taken : (x : Party) (frame : ℕ) → takes_frame x frame Events ≡ size
      line_taken A frame = no_more size
      line_taken B frame = no_more size

      -- the frame is gone from its own video, and nothing from the other
      frame_gone : (x : Party) (frame : ℕ) → left_after inputs (takes_frame x frame) (video_of x)
          ≡ drop frame (inputs (video_of x))
      frame_gone A frame = ap (λ (m : ℕ). drop m (inputs Video)) (more_bytes frame)
      frame_gone B frame = ap (λ (m : ℕ). drop m (inputs Video2)) (more_bytes frame)

      captured_plays : (x y : Party) (captured : Picture)
          → shown_text (call_in p y (with_capture (sides p) x captured met)).plays ≡ shown_text (call y past).plays
      captured_plays A A captured = ap (λ (c : Call Style Mb Picture). shown_text c.plays)
          (laws.later (p A) (steady (p A)) (way A met).frames _ (way A met).past (laws.each past near A)).0
      captured_plays A B captured = refl
      captured_plays B A captured = refl
      captured_plays B B captured = ap (λ (c : Call Style Mb Picture). shown_text c.plays)
          (laws.later (p B) (steady (p B)) (way B met).frames _ (way B met).past (laws.each past near B)).0

      -- where the video of a party stands after a frame
      abbrev next_place : Party → ℕ → VideoPlace
      next_place x frame = record { at = (video_place_of x s).at + frame; more = (video_place_of x s).more - 1 }

      one_sent : (n m k : ℕ) → n ≡ m → k ≡ suc m → n + 1 ≡ k
      one_sent n m k is more = omega (arith, is, more)

      -- the run goes on after a capture
      frame_on : (x : Party) (planes : List ℕ) (frame : ℕ)
          → drop (suc (length (way x met).frames)) (captures x)
          ≡ captures_at x (next_place x frame) (drop frame (inputs (video_of x)))
          → fault_at x (next_place x frame) (drop frame (inputs (video_of x))) ≡ broken x
          → with_capture (sides p) x (picture_of (p x).format planes) met ≡ ways (with_event p captures x Send past)
          → Near (with_event p captures x Send past)
          → Comes (with_event p captures x Send past) E F (lines + 1 + 1)
          (rest (after_party_line (with_party_frame x s frame planes) trace) (takes_frame x frame))
      frame_on A planes frame ahead still is near2 =
          go (with_event p captures A Send past) (with_capture (sides p) A (picture_of (p A).format planes) met)
          (next_place A frame) vb (not (is_closed trace)) (takes_frame A frame) is near2
          (record { sent = sent; ahead = aheads; fault = faults }) (line_taken A frame)
        where
          sent : (y : Party) → sent_before (way y (with_capture (sides p) A (picture_of (p A).format planes) met)).past
              ≡ length (way y (with_capture (sides p) A (picture_of (p A).format planes) met)).frames
          sent A = one_sent (sent_before (way A met).past) (length (way A met).frames) _ (on.sent A)
              (longer (way A met).frames _)
          sent B = on.sent B

          aheads : (y : Party) → drop
              (length (way y (with_capture (sides p) A (picture_of (p A).format planes) met)).frames) (captures y)
              ≡ captures_at y (video_place_of y (after_party_line (with_party_frame A s frame planes) trace))
              (left_after inputs (takes_frame A frame) (video_of y))
          aheads A =
              ap (λ (m : ℕ). drop m (captures A)) (longer (way A met).frames _) ∙ ahead
              ∙ ap (λ (l : List ℕ). captures_at A (next_place A frame) l) (sym (frame_gone A frame))
          aheads B = on.ahead B

          faults : (y : Party) → fault_at y (video_place_of y (after_party_line (with_party_frame A s frame planes)
              trace))
              (left_after inputs (takes_frame A frame) (video_of y)) ≡ broken y
          faults A = ap (λ (l : List ℕ). fault_at A (next_place A frame) l) (frame_gone A frame) ∙ still
          faults B = on.fault B
      frame_on B planes frame ahead still is near2 =
          go (with_event p captures B Send past) (with_capture (sides p) B (picture_of (p B).format planes) met) va
          (next_place B frame) (not (is_closed trace)) (takes_frame B frame) is near2
          (record { sent = sent; ahead = aheads; fault = faults }) (line_taken B frame)
        where
          sent : (y : Party) → sent_before (way y (with_capture (sides p) B (picture_of (p B).format planes) met)).past
              ≡ length (way y (with_capture (sides p) B (picture_of (p B).format planes) met)).frames
          sent A = on.sent A
          sent B = one_sent (sent_before (way B met).past) (length (way B met).frames) _ (on.sent B)
              (longer (way B met).frames _)

          aheads : (y : Party) → drop
              (length (way y (with_capture (sides p) B (picture_of (p B).format planes) met)).frames) (captures y)
              ≡ captures_at y (video_place_of y (after_party_line (with_party_frame B s frame planes) trace))
              (left_after inputs (takes_frame B frame) (video_of y))
          aheads A = on.ahead A
          aheads B =
              ap (λ (m : ℕ). drop m (captures B)) (longer (way B met).frames _) ∙ ahead
              ∙ ap (λ (l : List ℕ). captures_at B (next_place B frame) l) (sym (frame_gone B frame))

          faults : (y : Party) → fault_at y (video_place_of y (after_party_line (with_party_frame B s frame planes)
              trace))
              (left_after inputs (takes_frame B frame) (video_of y)) ≡ broken y
          faults A = on.fault A
          faults B = ap (λ (l : List ℕ). fault_at B (next_place B frame) l) (frame_gone B frame) ∙ still

      untold : (x : Party) (fault : Y4mFault) (text : Text) → only_at_ok (refused_party_video x fault) text ≡ []
      untold A fault text = refl
      untold B fault text = refl

      -- a frame is sent
      captured_comes : (x : Party) (b : ℕ) (v : List ℕ) → inputs (video_of x) ≡ b ∷ v → party_refusal x s Send ≡ None
          → (r : Result (List ℕ) Y4mFault) → next_frame (video_place_of x s).more (p x).format (video_place_of x s).at
          (b ∷ v) ≡ r
          → Takes (Some (x, says.Send)) (party_captured_step (video_of x) (pictures_role x) (refused_party_video x) x s
          trace
          (frame_size (p x).format (b ∷ v)) r)
      captured_comes x b v video o (Err fault) found =
          let place = video_place_of x s in
          let stops = frame_laws.stops (p x).format place.more place.at (b ∷ v) fault (omega arith) found in
          let nothing : captures_at x place (inputs (video_of x)) ≡ [] =
          ap (λ (l : List ℕ). captures_at x place l) video
          ∙ ap (λ (l : List (List ℕ)). map (λ planes. picture_of (p x).format planes) l) stops.0
          in
          let fault_is : Some fault ≡ broken x = sym (ap (λ (l : List ℕ). fault_at x place l) video ∙ stops.1)
          ∙ on.fault x in
          comes_stopped past near (Some (x, says.Send) ∷ E) F (lines + 1) rest _ _ (untold x fault)
          (one_refused size x fault) (
            NoPicture,
            none_left x nothing o,
            ap (λ (q : Option Y4mFault). party_capture_told x q (lines + 1 + 0) NoPicture)
                fault_is,
          )
      captured_comes x b v video o (Ok planes) found =
          let f = (p x).format in
          let place = video_place_of x s in
          let frame = frame_size f (b ∷ v) in
          let captured = picture_of f planes in
          let count = length (way x met).frames in
          let some : 0 < length (b ∷ v) = omega arith in
          let e = frame_laws.next f place.more (place.more - 1) place.at (b ∷ v) planes
          (some_left place.more place.at f (b ∷ v) planes found) some found in
          let left = captures_at x (next_place x frame) (after_frame f (b ∷ v)) in
          let stands : drop count (captures x) ≡ captured ∷ left =
          on.ahead x ∙ ap (λ (l : List ℕ). captures_at x place l) video
          ∙ ap (λ (l : List (List ℕ)). map (λ planes. picture_of f planes) l) e.frames
          in
          let ahead : drop (suc count) (captures x)
          ≡ captures_at x (next_place x frame) (drop frame (inputs (video_of x))) =
          after_next (captures x) count captured left stands
          ∙ ap (λ (l : List ℕ). captures_at x (next_place x frame) (drop frame l)) (sym video)
          in
          let is : with_capture (sides p) x captured met ≡ ways (with_event p captures x Send past) =
          ap (λ (o : Option Picture). option_map_or (λ (q : Picture). with_capture (sides p) x q met) o met)
          (sym (next_in (captures x) count captured left stands))
          in
          let coded : length (call x past).coded ≡ count = coded_are past near x (on.sent x) in
          let many : count < length (captures x) = some_after (captures x) count captured left stands in
          let below : length (call x past).coded < length (captures x) = omega (arith, coded, many) in
          let may = (laws.none (length (call x past).coded + 1) x Send met).0 o in
          let still : fault_at x (next_place x frame) (drop frame (inputs (video_of x))) ≡ broken x =
          ap (λ (l : List ℕ). fault_at x (next_place x frame) (drop frame l)) video ∙ sym e.fault
          ∙ sym (ap (λ (l : List ℕ). fault_at x place l) video) ∙ on.fault x
          in
          comes_more (Some (x, says.Send)) E F (lines + 1) past (with_event p captures x Send past) _ _ refl (
            below,
            may.1,
          )
          (λ y. ap (λ (w : WayRuns Frame). shown_text (call_in p y w).plays) (sym is) ∙ captured_plays x y captured
          ∙ sym (append-nil (shown_text (call y past).plays)))
          refl
          (frame_on x planes frame ahead still is ((below, may.1), near))

      send_comes : (x : Party) (video : List ℕ) → inputs (video_of x) ≡ video → party_refusal x s Send ≡ None
          → Takes (Some (x, says.Send)) (party_capture_step (video_of x) (pictures_role x) (refused_party_video x) x s
          trace video)
      send_comes x [] there o =
          let place = video_place_of x s in
          let ends = frame_laws.ends (p x).format place.more place.at in
          let nothing : captures_at x place (inputs (video_of x)) ≡ [] =
          ap (λ (l : List ℕ). captures_at x place l) there
          ∙ ap (λ (l : List (List ℕ)). map (λ planes. picture_of (p x).format planes) l) ends.0
          in
          let none_is : None ≡ broken x = sym (ap (λ (l : List ℕ). fault_at x place l) there ∙ ends.1) ∙ on.fault x in
          comes_faulty past near (Some (x, says.Send) ∷ E) F (lines + 1) rest _ _ (
            NoPicture,
            none_left x nothing o,
            ap (λ (j : ℕ). status_with (fault_told j Send NoPicture)) (sym (no_more (lines + 1)))
                ∙ ap (λ (q : Option Y4mFault). party_capture_told x q (lines + 1 + 0) NoPicture) none_is,
          )
      send_comes x (b ∷ v) there o = captured_comes x b v there o (next_frame (video_place_of x s).more (p x).format
          (video_place_of x s).at (b ∷ v)) refl

      -- ---- any line

      party_comes : (x : Party) (line : Line) → Takes (Some (x, line)) (party_step x s inputs line)
      party_comes x says.Nothing = quiet (Some (x, says.Nothing)) past met refl tt refl near (kept_all p met) refl
      party_comes x says.Send = unless_comes (Some (x, says.Send)) x Send (party_refusal x s Send) _ refl (far_told x)
          (send_comes x (inputs (video_of x)) refl)
      party_comes x (says.Packet n j) =
          unless_comes (Some (x, says.Packet n j)) x (Deliver n j) (party_refusal x s (Deliver n j)) _ refl
          (λ r is. told_at x (Deliver n j) r (packet_so x n j r is)) (packet_comes x n j)
      party_comes x (says.All n) =
          unless_comes (Some (x, says.All n)) x (Deliver n 0) (party_refusal x s (Deliver n 0)) _ refl
          (λ r is. told_at x (Deliver n 0) r (packet_so x n 0 r is)) (all_comes x n)
      party_comes x (says.Back m) = comes_faulty past near (Some (x, says.Back m) ∷ E) F (lines + 1) rest _ _
          (told_at x (Back m) NotSaid refl)
      party_comes x says.Play = unless_comes (Some (x, says.Play)) x Play (party_refusal x s Play) _ refl
          (λ r is. told_at x Play r (play_so x r is)) (play_comes x)

      line_comes : (o : Option LineEvent)
          → Comes past (and_event o E) (bad_from o (lines + 1) F) (lines + 1) (follow (lettered_step s inputs o) rest)
      line_comes None = comes_faulty past near [] _ (lines + 1) rest _ _ refl
      line_comes (Some None) = quiet None past met refl tt refl near (kept_all p met) refl
      line_comes (Some (Some said)) = party_comes said.0 said.1

  -- ---- the run

  abbrev or_many : Bool → ℕ → Step DuplexState → Step DuplexState
  or_many b lines step = if b then step else Ends (bad_line (TooMany (lines + 1)))

  module _ (frame_laws : FrameLaws) where
    -- after each line the run goes on with one turn less
    abbrev GoesOn : ℕ → ℕ → (Role → List ℕ) → Type 0
    GoesOn n lines inputs =
        (past2 : List Lettered) (met2 : WayRuns Frame) (va2 vb2 : VideoPlace) (ended2 : Bool) (taken : Role → ℕ)
        → met2 ≡ ways past2 → Near past2
        → IsOn met2 (state met2 va2 vb2 (lines + 1) ended2) (left_after inputs taken)
        → taken Events ≡ line_size (inputs Events)
        → Comes past2 (line_events n (later_lines (inputs Events)))
        (fault_in n (lines + 1 + 1) (later_lines (inputs Events))) (lines + 1 + 1)
        (machine_run duplex_step n (state met2 va2 vb2 (lines + 1) ended2) (left_after inputs taken))

    module _ (past : List Lettered) (near : Near past) (va vb : VideoPlace) (lines : ℕ) (ended : Bool) (inputs : Role
        → List ℕ) (on : IsOn (ways past) (state (ways past) va vb lines ended) inputs) where
      abbrev here : DuplexState
      here = state (ways past) va vb lines ended

      last_choice : (b : Bool) (step : Step DuplexState) → lines + 0 ≡ 16777216 → nat_lt lines 16777216 ≡ b
          → Comes past [] (Some (TooMany (lines + 1))) (lines + 1)
          (follow (or_many b lines step) (λ next taken. silence))
      last_choice true step room few = absurd (omega (arith, ltb-true lines 16777216 few, room))
      last_choice false step room many = comes_faulty past near [] _ (lines + 1) (λ next taken. silence) _ _ refl

      last_comes : (text : List ℕ) → lines + 0 ≡ 16777216
          → Comes past [] (fault_in 0 (lines + 1) text) (lines + 1) (follow (duplex_trace_step here inputs text)
          (λ next taken. silence))
      unfolding fault_in
      last_comes [] room = comes_end past near (lines + 1) (λ next taken. silence)
      last_comes (b ∷ text) room = last_choice (nat_lt lines 16777216) _ room refl

      module _ (n : ℕ) where
        abbrev on_with : DuplexState → (Role → ℕ) → Run
        on_with next taken = machine_run duplex_step n next (left_after inputs taken)

        choice_comes : (b : Bool) (bytes : ℕ) (trace : List ℕ) → inputs Events ≡ bytes ∷ trace → GoesOn n lines inputs
            → lines + suc n ≡ 16777216 → nat_lt lines 16777216 ≡ b
            → Comes past (and_event (party_event (first_line (bytes ∷ trace)))
            (line_events n (later_lines (bytes ∷ trace))))
            (bad_from (party_event (first_line (bytes ∷ trace))) (lines + 1)
            (fault_in n (lines + 1 + 1) (later_lines (bytes ∷ trace)))) (lines + 1)
            (follow (or_many b lines (lettered_step here inputs (party_event (first_line (bytes ∷ trace))))) on_with)
        choice_comes false bytes trace is go room many = absurd (omega (arith, ltb-false lines 16777216 many, room))
        choice_comes true bytes trace is go room few =
            let o = party_event (first_line (bytes ∷ trace)) in
            subst (λ (l : List ℕ). Comes past (and_event o (line_events n (later_lines l)))
            (bad_from o (lines + 1) (fault_in n (lines + 1 + 1) (later_lines l))) (lines + 1)
            (follow (lettered_step here inputs o) on_with)) is
            (line_comes frame_laws past near va vb lines ended inputs on (line_events n (later_lines (inputs Events)))
            (fault_in n (lines + 1 + 1) (later_lines (inputs Events))) on_with go o)

        step_comes : (trace : List ℕ) → inputs Events ≡ trace → GoesOn n lines inputs → lines + suc n ≡ 16777216
            → Comes past (line_events (suc n) trace) (fault_in (suc n) (lines + 1) trace) (lines + 1)
            (follow (duplex_trace_step here inputs trace) on_with)
        unfolding line_events fault_in
        step_comes [] is go room = comes_end past near (lines + 1) on_with
        step_comes (bytes ∷ trace) is go room = choice_comes (nat_lt lines 16777216) bytes trace is go room refl

    one_less : (lines n : ℕ) → lines + suc n ≡ 16777216 → lines + 1 + n ≡ 16777216
    one_less lines n room = omega (arith, room)

    -- the bytes after a line, where a turn takes that line
    after_taken : (inputs : Role → List ℕ) (taken : Role → ℕ) → taken Events ≡ line_size (inputs Events)
        → left_after inputs taken Events ≡ later_lines (inputs Events)
    after_taken inputs taken is = ap (λ (m : ℕ). drop m (inputs Events)) is ∙ laws.gone (inputs Events)

    pub run_comes : (n : ℕ) (past : List Lettered) (va vb : VideoPlace) (lines : ℕ) (ended : Bool) (inputs : Role
        → List ℕ) → Near past → IsOn (ways past) (state (ways past) va vb lines ended) inputs
        → lines + n ≡ 16777216 → Comes past (line_events n (inputs Events)) (fault_in n (lines + 1) (inputs Events))
        (lines + 1) (machine_run duplex_step n (state (ways past) va vb lines ended) inputs)
    unfolding machine_run line_events fault_in
    run_comes zero past va vb lines ended inputs near on room = last_comes past near va vb lines ended inputs on
        (inputs Events) room
    run_comes (suc n) past va vb lines ended inputs near on room =
        step_comes past near va vb lines ended inputs on n (inputs Events) refl
        (λ past2 met2 va2 vb2 ended2 taken is near2 on2 gone.
        subst (λ (w : WayRuns Frame). IsOn w (state w va2 vb2 (lines + 1) ended2) (left_after inputs taken)
        → Comes past2 (line_events n (later_lines (inputs Events)))
        (fault_in n (lines + 1 + 1) (later_lines (inputs Events))) (lines + 1 + 1)
        (machine_run duplex_step n (state w va2 vb2 (lines + 1) ended2) (left_after inputs taken))) (sym is)
        (λ (on3 : IsOn (ways past2) (state (ways past2) va2 vb2 (lines + 1) ended2) (left_after inputs taken)).
        subst (λ (l : List ℕ). Comes past2 (line_events n l) (fault_in n (lines + 1 + 1) l) (lines + 1 + 1)
        (machine_run duplex_step n (state (ways past2) va2 vb2 (lines + 1) ended2) (left_after inputs taken)))
        (after_taken inputs taken gone)
        (run_comes n past2 va2 vb2 (lines + 1) ended2 (left_after inputs taken) near2 on3 (one_less lines n room)))
        on2)
        room
