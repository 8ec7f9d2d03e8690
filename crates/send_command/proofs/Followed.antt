-- The run of a sender over its log and its video, entry by entry.
use Rattle.std.proofs.Common.{◌≡◌, ℕ, zero, suc, ◌+◌, ◌-◌, ◌≤◌, ◌==◌, Bool, true, false, List, [], ◌∷◌, ◌++◌, take, drop, length, Option, Some, None, Result, Ok, Err, refl, sym, ap, subst, ◌∙◌, arith, nat_lt, if◌then◌else◌, length-take, length-drop, min}
use Rattle.std.proofs.lemmas.Bool.{ltb-false, ltb-true}
use Rattle.std.proofs.lemmas.List.{append-nil, append_assoc}
use borrow.Author.Tests.{eqb-true}
use Rattle.h263_outside.specs.declared.desk.Role.{Role}
use Rattle.h263_outside.specs.declared.desk.Role.TheVariants.{Video, Events, Wire, Report}
use Rattle.h263_types.specs.declared.format.Format.{Format}
use Rattle.h263_types.specs.declared.params.Params.{Params}
use Rattle.y4m.specs.declared.fault.Y4mFault.{Y4mFault}
use Rattle.y4m.specs.Frame.{next_frame, frame_size}
use Rattle.y4m.specs.Head.{head_of, head_size}
use Rattle.y4m.specs.Laws.{FrameLaws}
use Rattle.y4m.specs.Video.{after_frame, fault_after_head, first_video_fault as video_fault_of, frames_after_head, frames_of, video_fault, video_frames}
use Rattle.event_logs.specs.declared.entry.Side.TheVariants as sides
use Rattle.event_logs.specs.declared.entry.Entry.{Entry}
use Rattle.event_logs.specs.declared.entry.Entry.TheVariants as log_entry
use Rattle.event_logs.specs.declared.fault.LogFault.{LogFault}
use Rattle.event_logs.specs.declared.fault.LogFault.TheVariants.{BadRecord, TooMany}
use Rattle.event_logs.specs.Entry.{entry_begun, entry_size, entry_in, entry_with, reach, entry_reach}
use Rattle.event_logs.specs.Log.{Found, log_fault_from, first_log_fault, found_from, found_of, log_entries, log_fault}
use Rattle.call_report.specs.declared.status.Status.{Status}
use Rattle.call_model.specs.Sending.{SenderEntry, Capture, Feedback}
use Rattle.call_encoding.specs.Frames.{Frame}
use Rattle.sender_end.specs.Stands.{packets_after}
use Rattle.desk_program.specs.Run.{End, Run, Step, Turn, left_after, follow, run_from, machine_run, silence, text_of, texts_of}
use Rattle.desk_program.specs.Run.Step.{Ends}
use Rattle.desk_program.specs.Texts.{and_of, no_texts, of, only_at_ok}
use Rattle.fitted_sender.specs.declared.aim.Aim.{Aim}
use Rattle.send_command.specs.declared.sending.Sending.{Sending}
use Rattle.fitted_sender.specs.Aiming.{sent_by}
use Rattle.send_command.specs.Aimed.{aim_at_start}
use Rattle.send_command.specs.Send.{SendState, sender_read_all, bad_entry, entry_capture_step, capture_texts, captured, sender_entry_step, feedback_step, send_at_start, sender_frame_step, send_head_step, sender_log_step, most_entries, packets_text, send_begin, send_step}
use Rattle.send_command.specs.Tally.{sender_counts}
use Rattle.send_command.specs.Followed.{IsSenderEnd, SendsItsLog, Spares, counted_sent, sender_film, frames_after, frames_with, no_frame_left, past_with, sent_lines, sent_text, with_sender_entries}

-- ---- the entry that stands first

-- it is of a sender's log
abbrev IsSenders : Entry → Type 0
IsSenders log_entry.Capture = Unit {0}
IsSenders (log_entry.Back len) = Unit {0}
IsSenders (log_entry.Packet len) = ⊥
IsSenders log_entry.Play = ⊥

some_is : (known e : Entry) → Some known ≡ Some e → IsSenders known → IsSenders e
some_is known e is own = let same : known ≡ e = cc in subst IsSenders same own

of_capture : (len : ℕ) (e : Entry) → entry_with sides.Send 83 len ≡ Some e → IsSenders e
of_capture len e is = by_test (len == 0) is
  where
    by_test : (t : Bool) → (if t then Some log_entry.Capture else None) ≡ Some e → IsSenders e
    by_test true is = some_is log_entry.Capture e is tt
    by_test false is = absurd (cc is)

of_letter : (letter len : ℕ) (e : Entry) → entry_with sides.Send letter len ≡ Some e → IsSenders e
of_letter letter len e is = by_tests (83 == letter) (66 == letter) refl refl
  where
    by_tests : (a b : Bool) → (83 == letter) ≡ a → (66 == letter) ≡ b → IsSenders e
    by_tests true b one two = of_capture len e (subst (λ (l : ℕ). entry_with sides.Send l len
        ≡ Some e) (sym (eqb-true 83 letter one)) is)
    by_tests false true one two = some_is (log_entry.Back len) e (subst (λ (l : ℕ). entry_with sides.Send l len
        ≡ Some e) (sym (eqb-true 66 letter two)) is) tt
    by_tests false false one two = absurd (cc (rw one at (rw two at is)))

-- an entry that is read has a letter and so many bytes
abbrev pub IsSpelled : Type 0
IsSpelled = (log : List ℕ) (e : Entry) → entry_in sides.Send log ≡ Some e → (letter : ℕ) × (len : ℕ)
    × (entry_with sides.Send letter len ≡ Some e)

-- it is whole, and reaches to the end of its bytes
pub record IsWhole (log : List ℕ) (e : Entry) : Type 0 where
  pub reaches : reach sides.Send log ≡ 3 + entry_size e
  pub within : 3 + entry_size e ≤ length log
  pub own : IsSenders e

whole : IsSpelled → (log : List ℕ) (e : Entry) → entry_in sides.Send log ≡ Some e → IsWhole log e
whole spelled log e there = by_test (nat_lt (length log) (reach sides.Send log)) refl there
  where
    by_test : (t : Bool) → nat_lt (length log) (reach sides.Send log) ≡ t
        → (if t then None else entry_begun sides.Send log)
        ≡ Some e → IsWhole log e
    by_test true few is = absurd (cc is)
    by_test false few is =
        let reaches : reach sides.Send log ≡ 3 + entry_size e = ap entry_reach is in
        let within : reach sides.Send log ≤ length log = ltb-false (length log) (reach sides.Send log) few in
        let parts = spelled log e there in
        record { reaches = reaches; within = omega (arith, reaches, within); own = of_letter parts.0 parts.1 e parts.2 }

some_left : (m at : ℕ) (f : Format) (rest planes : List ℕ) → next_frame m f at rest ≡ Ok planes → m - 1 + 1 ≡ m
some_left zero at f rest planes is = absurd (cc is)
some_left (suc m) at f rest planes is = omega arith

more_bytes : (n : ℕ) → 0 + n ≡ n
more_bytes n = omega arith

no_more : (n : ℕ) → n + 0 ≡ n
no_more n = omega arith

module _ (p : Params) (aim : Aim) (spelled : IsSpelled) where
  -- ---- what a run comes to, where these frames and these entries are still to come

  pub record Comes (frames : List Frame) (past : List (SenderEntry Frame)) (ahead : List Found)
      (fault : Option LogFault) (broken : Option Y4mFault) (run : Run) : Type 0 where
    pub accepted : List Found
    pub refused : List Found
    pub read : ahead ≡ accepted ++ refused
    pub taken : length run.turns ≡ length accepted
    pub wire : sent_text p aim (with_sender_entries frames past accepted) ≡ sent_text p aim past ++ text_of run Wire
    pub report : sent_lines p aim (with_sender_entries frames past accepted)
        ++ only_at_ok run.last.status (sender_counts (counted_sent p aim (with_sender_entries frames past accepted)))
        ≡ sent_lines p aim past ++ text_of run Report
    pub end : IsSenderEnd fault broken (frames_after frames accepted) refused run.last.status
    pub others : Spares run.last.status run.last.taken

  abbrev stopped : End → Step SendState
  stopped last = Ends last

  comes_stopped : (frames : List Frame) (past : List (SenderEntry Frame)) (E : List Found) (F : Option LogFault)
      (B : Option Y4mFault) (rest : SendState → (Role → ℕ) → Run)
      (status : Status) (taken : Role → Option ℕ) → ((text : List ℕ) → only_at_ok status text ≡ [])
      → IsSenderEnd F B frames E status → Spares status taken
      → Comes frames past E F B (follow (stopped (record { status = status; taken = taken; texts = no_texts })) rest)
  comes_stopped frames past E F B rest status taken silent end spares = record {
    accepted = [];
    refused = E;
    read = refl;
    taken = refl;
    wire = sym (append-nil (sent_text p aim past));
    report = ap (λ (l : List ℕ). sent_lines p aim past ++ l) (silent (sender_counts (counted_sent p aim past)));
    end = end;
    others = spares;
  }

  -- at a capture for which no frame is left
  comes_unfilmed : (frames : List Frame) (past : List (SenderEntry Frame)) (found : Found) (E : List Found)
      (F : Option LogFault) (B : Option Y4mFault) (rest : SendState → (Role → ℕ) → Run)
      (status : Status) (taken : Role → Option ℕ) → ((text : List ℕ) → only_at_ok status text ≡ [])
      → found.entry ≡ log_entry.Capture → frames ≡ [] → status ≡ no_frame_left B found.at → Spares status taken
      → Comes frames past (found ∷ E) F B
      (follow (stopped (record { status = status; taken = taken; texts = no_texts })) rest)
  comes_unfilmed frames past found E F B rest status taken silent capture none is spares =
      comes_stopped frames past (found ∷ E) F B rest status taken silent (capture, none, is) spares

  comes_end : (frames : List Frame) (past : List (SenderEntry Frame)) (B : Option Y4mFault) (rest : SendState
      → (Role → ℕ) → Run)
      → Comes frames past [] None B (follow (stopped (sender_read_all (counted_sent p aim past))) rest)
  comes_end frames past B rest = record {
    accepted = [];
    refused = [];
    read = refl;
    taken = refl;
    wire = sym (append-nil (sent_text p aim past));
    report = refl;
    end = refl;
    others = (refl, refl);
  }

  -- an entry more
  comes_more : (found : Found) (frames : List Frame) (past : List (SenderEntry Frame)) (E : List Found)
      (F : Option LogFault) (B : Option Y4mFault) (turn : Turn) (run : Run)
      → sent_text p aim (past_with frames past found.entry found.bytes) ≡ sent_text p aim past ++ turn.texts Wire
      → sent_lines p aim (past_with frames past found.entry found.bytes) ≡ sent_lines p aim past ++ turn.texts Report
      → Comes (frames_with frames found.entry) (past_with frames past found.entry found.bytes) E F B run
      → Comes frames past (found ∷ E) F B (record { turns = turn ∷ run.turns; last = run.last })
  comes_more found frames past E F B turn run wire lines comes = record {
    accepted = found ∷ comes.accepted;
    refused = comes.refused;
    read = ap (λ (l : List Found). found ∷ l) comes.read;
    taken = ap suc comes.taken;
    wire =
        comes.wire
        ∙ ap (λ (l : List ℕ). l ++ text_of run Wire) wire
        ∙ append_assoc (sent_text p aim past) (turn.texts Wire) (text_of run Wire)
        ∙ ap (λ (l : List ℕ). sent_text p aim past
        ++ l) (sym (append_assoc (turn.texts Wire) (texts_of run.turns Wire) (run.last.texts Wire)));
    report =
        comes.report
        ∙ ap (λ (l : List ℕ). l ++ text_of run Report) lines
        ∙ append_assoc (sent_lines p aim past) (turn.texts Report) (text_of run Report)
        ∙ ap (λ (l : List ℕ). sent_lines p aim past
        ++ l) (sym (append_assoc (turn.texts Report) (texts_of run.turns Report) (run.last.texts Report)));
    end = comes.end;
    others = comes.others;
  }

  -- ---- a turn

  abbrev state : List (SenderEntry Frame) → ℕ → ℕ → ℕ → ℕ → SendState
  state past at read video_at more =
      record {
        params = p;
        sent = sent_by p aim past;
        tally = counted_sent p aim past;
        at = at;
        read = read;
        video_at = video_at;
        more = more;
      }

  abbrev ahead_of : ℕ → ℕ → List ℕ → List Frame
  ahead_of more at video = sender_film p (frames_of p.format more at video)

  abbrev broken_of : ℕ → ℕ → List ℕ → Option Y4mFault
  broken_of more at video = video_fault_of p.format more at video

  module _ (frame_laws : FrameLaws) (past : List (SenderEntry Frame)) (at read video_at more : ℕ) (inputs : Role
      → List ℕ) (n : ℕ) (rest : SendState → (Role → ℕ) → Run) where
    abbrev now : SendState
    now = state past at read video_at more

    abbrev frames : List Frame
    frames = ahead_of more video_at (inputs Video)

    abbrev broken : Option Y4mFault
    broken = broken_of more video_at (inputs Video)

    -- after so many bytes of the log it goes on with one turn less
    abbrev GoesOn : List ℕ → Type 0
    GoesOn log =
        (past2 : List (SenderEntry Frame)) (size video_at2 more2 : ℕ) (taken : Role → ℕ) (left : List ℕ)
        → left_after inputs taken Events ≡ drop size log → left_after inputs taken Video ≡ left
        → Comes (ahead_of more2 video_at2 left) past2 (found_of sides.Send n (at + size) (drop size log))
        (first_log_fault sides.Send n (at + size) (drop size log)) (broken_of more2 video_at2 left)
        (rest (state past2 (at + size) (read + 1) video_at2 more2) taken)

    module _ (log : List ℕ) (is_log : inputs Events ≡ log) (go : GoesOn log) where
      abbrev bytes : Entry → List ℕ
      bytes e = take (entry_size e) (drop 3 log)

      abbrev Takes : Entry → Step SendState → Type 0
      Takes e step =
          Comes frames past (found_from (Some e) at log (found_of sides.Send n (at + (3 + entry_size e))
          (drop (3 + entry_size e) log)))
          (log_fault_from (Some e) at (first_log_fault sides.Send n (at + (3 + entry_size e))
          (drop (3 + entry_size e) log))) broken
          (follow step rest)

      abbrev laters : ℕ → List Found
      laters size = found_of sides.Send n (at + size) (drop size log)

      abbrev later_fault : ℕ → Option LogFault
      later_fault size = first_log_fault sides.Send n (at + size) (drop size log)

      -- the capture that stands first
      abbrev this : Found
      this = record { at = at; entry = log_entry.Capture; bytes = bytes log_entry.Capture }

      -- a frame is captured
      frame_comes : (b : ℕ) (v : List ℕ) → inputs Video ≡ b ∷ v → (r : Result (List ℕ) Y4mFault)
          → next_frame more p.format video_at (b ∷ v) ≡ r
          → Takes log_entry.Capture (sender_frame_step now (frame_size p.format (b ∷ v)) r)
      frame_comes b v video (Err fault) found =
          let stop = frame_laws.stops p.format more video_at (b ∷ v) fault (omega arith) found in
          let none : frames ≡ [] = ap (λ (l : List ℕ). ahead_of more video_at l) video ∙ ap (sender_film p) stop.0 in
          let why : broken ≡ Some fault = ap (λ (l : List ℕ). broken_of more video_at l) video ∙ stop.1 in
          comes_unfilmed frames past this (laters 3) (later_fault 3) broken rest _ _ (λ text. refl) refl none
          (ap (λ (o : Option Y4mFault). no_frame_left o at) (sym why)) refl
      frame_comes b v video (Ok planes) found =
          let f = p.format in
          let size = frame_size f (b ∷ v) in
          let x = captured f planes in
          let e = frame_laws.next f more (more - 1) video_at (b ∷ v) planes
          (some_left more video_at f (b ∷ v) planes found) (omega arith) found in
          let left = after_frame f (b ∷ v) in
          let later = ahead_of (more - 1) (video_at + size) left in
          let frames_are : frames ≡ x ∷ later = ap (λ (l : List ℕ). ahead_of more video_at l) video
          ∙ ap (sender_film p) e.frames in
          let broken_is : broken ≡ broken_of (more - 1) (video_at + size) left =
          ap (λ (l : List ℕ). broken_of more video_at l) video ∙ e.fault in
          let comes = go (Capture x ∷ past) 3 (video_at + size) (more - 1) (and_of (of Events 3) (of Video size)) left
          (ap (λ (m : ℕ). drop m (inputs Events)) (no_more 3) ∙ ap (drop 3) is_log)
          (ap (λ (m : ℕ). drop m (inputs Video)) (more_bytes size) ∙ ap (drop size) video)
          in
          let turn : Turn = record {
            taken = and_of (of Events 3) (of Video size);
            whole = true;
            texts = capture_texts p x (sent_by p aim past);
          } in
          let after = rest (state (Capture x ∷ past) (at + 3) (read + 1) (video_at + size) (more - 1))
          (and_of (of Events 3) (of Video size)) in
          let run : Run = record { turns = turn ∷ after.turns; last = after.last } in
          subst (λ (l : List Frame). Comes l past (this ∷ laters 3) (later_fault 3) broken run) (sym frames_are)
          (subst (λ (o : Option Y4mFault). Comes (x ∷ later) past (this ∷ laters 3) (later_fault 3) o run)
          (sym broken_is)
          (comes_more this (x ∷ later) past (laters 3) (later_fault 3) (broken_of (more - 1) (video_at + size) left)
          turn after
          (append_twice (sent_text p aim past) (packets_text (packets_after p (sent_by p aim (Capture x ∷ past)).run)))
          refl comes))
        where
          append_twice : (l m : List ℕ) → l ++ m ≡ l ++ (m ++ [])
          append_twice l m = ap (λ (k : List ℕ). l ++ k) (sym (append-nil m))

      capture_comes : (video : List ℕ) → inputs Video ≡ video → Takes log_entry.Capture (entry_capture_step now video)
      capture_comes [] video =
          let stop = frame_laws.ends p.format more video_at in
          let none : frames ≡ [] = ap (λ (l : List ℕ). ahead_of more video_at l) video ∙ ap (sender_film p) stop.0 in
          let why : broken ≡ None = ap (λ (l : List ℕ). broken_of more video_at l) video ∙ stop.1 in
          comes_unfilmed frames past this (laters 3) (later_fault 3) broken rest _ _ (λ text. refl) refl none
          (ap (λ (o : Option Y4mFault). no_frame_left o at) (sym why)) (refl, refl)
      capture_comes (b ∷ v) video = frame_comes b v video (next_frame more p.format video_at (b ∷ v)) refl

      -- feedback
      feedback_comes : (len : ℕ) → 3 + len ≤ length log
          → Takes (log_entry.Back len) (feedback_step now (3 + len) (take len (drop 3 log)))
      feedback_comes len within =
          let got = bytes (log_entry.Back len) in
          let long : length got ≡ len = length-take len (drop 3 log)
          ∙ as_long len (length log) (length (drop 3 log)) (length-drop 3 log) within in
          let comes = go (Feedback got ∷ past) (3 + len) video_at more (of Events (3 + len)) (inputs Video)
          (ap (drop (3 + len)) is_log) refl in
          comes_more (record { at = at; entry = log_entry.Back len; bytes = got }) frames past (laters (3 + len))
          (later_fault (3 + len)) broken _ _ (sym (append-nil (sent_text p aim past)))
          (sym (append-nil (sent_lines p aim past)))
          (subst (λ (k : ℕ). Comes frames (Feedback got ∷ past) (laters (3 + len)) (later_fault (3 + len)) broken
          (rest (state (Feedback got ∷ past) (at + (3 + k)) (read + 1) video_at more) (of Events (3 + len))))
          (sym long) comes)
        where
          as_long : (len whole after : ℕ) → after ≡ whole - 3 → 3 + len ≤ whole → min len after ≡ len
          as_long len whole after is within = omega (arith, is, within)

      entry_comes : (e : Entry) → IsWhole log e → Takes e (sender_entry_step now inputs (Some e))
      entry_comes log_entry.Capture w = capture_comes (inputs Video) refl
      entry_comes (log_entry.Back len) w =
          subst (λ (l : List ℕ). Takes (log_entry.Back len) (feedback_step now (3 + len) (take len (drop 3 l))))
          (sym is_log) (feedback_comes len w.within)
      entry_comes (log_entry.Packet len) w = absurd w.own
      entry_comes log_entry.Play w = absurd w.own

      reached : (o : Option Entry) → entry_in sides.Send log ≡ o
          → Comes frames past (found_from o at log (found_of sides.Send n (at + reach sides.Send log)
          (drop (reach sides.Send log) log)))
          (log_fault_from o at (first_log_fault sides.Send n (at + reach sides.Send log)
          (drop (reach sides.Send log) log))) broken
          (follow (sender_entry_step now inputs o) rest)
      reached None is = comes_stopped frames past [] (Some (BadRecord at)) broken rest _ _ (λ text. refl) refl refl
      reached (Some e) is =
          let w = whole spelled log e is in
          subst (λ (k : ℕ). Comes frames past (found_from (Some e) at log (found_of sides.Send n (at + k) (drop k log)))
          (log_fault_from (Some e) at (first_log_fault sides.Send n (at + k) (drop k log))) broken
          (follow (sender_entry_step now inputs (Some e)) rest)) (sym w.reaches)
          (entry_comes e w)

  -- ---- the run

  abbrev or_many : Bool → ℕ → Step SendState → Step SendState
  or_many t at step = if t then step else Ends (bad_entry (TooMany at))

  module _ (frame_laws : FrameLaws) where
    module _ (past : List (SenderEntry Frame)) (at read video_at more : ℕ) (inputs : Role → List ℕ) where
      abbrev here : SendState
      here = state past at read video_at more

      abbrev still : List Frame
      still = ahead_of more video_at (inputs Video)

      abbrev fault_there : Option Y4mFault
      fault_there = broken_of more video_at (inputs Video)

      last_choice : (t : Bool) (step : Step SendState) → read + 0 ≡ 16777216 → nat_lt read 16777216 ≡ t
          → Comes still past [] (Some (TooMany at)) fault_there (follow (or_many t at step) (λ next taken. silence))
      last_choice true step room few = absurd (omega (arith, ltb-true read 16777216 few, room))
      last_choice false step room many = comes_stopped still past [] (Some (TooMany at)) fault_there
          (λ next taken. silence) _ _ (λ text. refl) refl refl

      last_comes : (log : List ℕ) → read + 0 ≡ 16777216
          → Comes still past (found_of sides.Send 0 at log) (first_log_fault sides.Send 0 at log) fault_there
          (follow (sender_log_step here inputs log) (λ next taken. silence))
      unfolding found_of first_log_fault
      last_comes [] room = comes_end still past fault_there (λ next taken. silence)
      last_comes (b ∷ log) room = last_choice (nat_lt read 16777216) _ room refl

      module _ (n : ℕ) (rest : SendState → (Role → ℕ) → Run) where
        choice_comes : (t : Bool) (log : List ℕ) → inputs Events ≡ log
            → GoesOn frame_laws past at read video_at more inputs n rest log → read + suc n ≡ 16777216
            → nat_lt read 16777216 ≡ t
            → Comes still past (found_from (entry_in sides.Send log) at log
            (found_of sides.Send n (at + reach sides.Send log) (drop (reach sides.Send log) log)))
            (log_fault_from (entry_in sides.Send log) at (first_log_fault sides.Send n (at + reach sides.Send log)
            (drop (reach sides.Send log) log))) fault_there
            (follow (or_many t at (sender_entry_step here inputs (entry_in sides.Send log))) rest)
        choice_comes false log is go room many = absurd (omega (arith, ltb-false read 16777216 many, room))
        choice_comes true log is go room few = reached frame_laws past at read video_at more inputs n rest log is go
            (entry_in sides.Send log) refl

        step_comes : (log : List ℕ) → inputs Events ≡ log
            → GoesOn frame_laws past at read video_at more inputs n rest log → read + suc n ≡ 16777216
            → Comes still past (found_of sides.Send (suc n) at log) (first_log_fault sides.Send (suc n) at log)
            fault_there
            (follow (sender_log_step here inputs log) rest)
        unfolding found_of first_log_fault
        step_comes [] is go room = comes_end still past fault_there rest
        step_comes (b ∷ log) is go room = choice_comes (nat_lt read 16777216) (b ∷ log) is go room refl

    one_less : (read n : ℕ) → read + suc n ≡ 16777216 → read + 1 + n ≡ 16777216
    one_less read n room = omega (arith, room)

    run_comes : (n : ℕ) (past : List (SenderEntry Frame)) (at read video_at more : ℕ) (inputs : Role → List ℕ)
        → read + n ≡ 16777216
        → Comes (ahead_of more video_at (inputs Video)) past (found_of sides.Send n at (inputs Events))
        (first_log_fault sides.Send n at (inputs Events)) (broken_of more video_at (inputs Video))
        (machine_run send_step n (state past at read video_at more) inputs)
    unfolding machine_run
    run_comes zero past at read video_at more inputs room = last_comes past at read video_at more inputs
        (inputs Events) room
    run_comes (suc n) past at read video_at more inputs room =
        step_comes past at read video_at more inputs n (λ next taken. machine_run send_step n next
        (left_after inputs taken))
        (inputs Events) refl
        (λ past2 size video_at2 more2 taken left gone seen.
        subst (λ (l : List ℕ). Comes (ahead_of more2 video_at2 left) past2 (found_of sides.Send n (at + size) l)
        (first_log_fault sides.Send n (at + size) l) (broken_of more2 video_at2 left)
        (machine_run send_step n (state past2 (at + size) (read + 1) video_at2 more2) (left_after inputs taken))) gone
        (subst (λ (l : List ℕ). Comes (ahead_of more2 video_at2 l) past2
        (found_of sides.Send n (at + size) (left_after inputs taken Events))
        (first_log_fault sides.Send n (at + size) (left_after inputs taken Events)) (broken_of more2 video_at2 l)
        (machine_run send_step n (state past2 (at + size) (read + 1) video_at2 more2) (left_after inputs taken))) seen
        (run_comes n past2 (at + size) (read + 1) video_at2 more2 (left_after inputs taken) (one_less read n room))))
        room

-- ---- a whole run

frames_are : (video : List ℕ) (f : Format) → head_of video ≡ Ok f
    → video_frames video ≡ frames_of f 1048576 (head_size video) (drop (head_size video) video)
unfolding video_frames
frames_are video f is = ap (λ (r : Result Format Y4mFault). frames_after_head r (head_size video)
    (drop (head_size video) video)) is

fault_is : (video : List ℕ) (f : Format) → head_of video ≡ Ok f
    → video_fault video ≡ video_fault_of f 1048576 (head_size video) (drop (head_size video) video)
unfolding video_fault
fault_is video f is = ap (λ (r : Result Format Y4mFault). fault_after_head r (head_size video)
    (drop (head_size video) video)) is

module _ (spelled : IsSpelled) (setup : Sending) (f : Format) (frame_laws : FrameLaws) (inputs : Role
    → List ℕ) (head : head_of (inputs Video) ≡ Ok f) where
  abbrev here_params : Params
  here_params = record setup.params { format = f }

  abbrev here_aim : Aim
  here_aim = aim_at_start setup f

  abbrev video : List ℕ
  video = inputs Video

  abbrev on_rest : SendState → (Role → ℕ) → Run
  on_rest next taken = machine_run send_step 16777216 next (left_after inputs taken)

  abbrev run : Run
  run = on_rest (send_at_start setup f (head_size video)) (of Video (head_size video))

  abbrev all : List Frame
  all = sender_film here_params (video_frames video)

  comes : Comes here_params here_aim spelled all [] (found_of sides.Send 16777216 0 (inputs Events))
      (first_log_fault sides.Send 16777216 0 (inputs Events)) (video_fault video) run
  comes =
      subst (λ (l : List (List ℕ)). Comes here_params here_aim spelled (sender_film here_params l) []
      (found_of sides.Send 16777216 0 (inputs Events)) (first_log_fault sides.Send 16777216 0 (inputs Events))
      (video_fault video) run) (sym (frames_are video f head))
      (subst (λ (o : Option Y4mFault). Comes here_params here_aim spelled
      (sender_film here_params (frames_of f 1048576 (head_size video) (drop (head_size video) video))) []
      (found_of sides.Send 16777216 0 (inputs Events)) (first_log_fault sides.Send 16777216 0 (inputs Events)) o run)
      (sym (fault_is video f head))
      (run_comes here_params here_aim spelled frame_laws 16777216 [] 0 0 (head_size video) 1048576
      (left_after inputs (of Video (head_size video))) (more_bytes 16777216)))

  read_is : log_entries sides.Send (inputs Events) ≡ comes.accepted ++ comes.refused
  unfolding log_entries
  read_is = comes.read

  end_is : IsSenderEnd (log_fault sides.Send (inputs Events)) (video_fault video) (frames_after all comes.accepted)
      comes.refused run.last.status
  unfolding log_fault
  end_is = comes.end

  one_more : (n : ℕ) → suc n ≡ n + 1
  one_more n = omega arith

  pub sends : SendsItsLog here_params here_aim inputs (run_from (send_begin setup inputs) send_step most_entries inputs)
  sends =
      subst (λ (r : Result Format Y4mFault). SendsItsLog here_params here_aim inputs
      (follow (send_head_step setup (head_size video) r) on_rest)) (sym head)
      (record {
        accepted = comes.accepted;
        refused = comes.refused;
        read = read_is;
        taken = ap suc comes.taken ∙ one_more (length comes.accepted);
        wire = sym comes.wire;
        report = sym comes.report;
        end = end_is;
        others = comes.others;
      })
