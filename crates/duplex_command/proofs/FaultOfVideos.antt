-- A video that a call of two parties refuses has that fault, whichever party's it is.
use Rattle.std.proofs.Common.{◌≡◌, ℕ, zero, suc, ◌+◌, ◌-◌, Bool, true, false, List, [], ◌∷◌, drop, Option, Some, None, Result, Ok, Err, refl, sym, ap, ◌∙◌, subst, arith, nat_lt}
use Rattle.h263_outside.specs.declared.desk.Role.{Role}
use Rattle.h263_outside.specs.declared.desk.Role.TheVariants.{Video, Events, Video2}
use Rattle.h263_types.specs.declared.format.Format.{Format}
use Rattle.h263_types.specs.declared.params.Params.{Params}
use Rattle.y4m.specs.declared.fault.Y4mFault.{Y4mFault}
use Rattle.y4m.specs.Frame.{next_frame, frame_size}
use Rattle.y4m.specs.Head.{head_of, head_size}
use Rattle.y4m.specs.Laws.{FrameLaws}
use Rattle.y4m.specs.Video.{first_video_fault, fault_after_head, most_frames, video_fault}
use Rattle.loss_trace.specs.declared.event.Event.{Event as Line}
use Rattle.loss_trace.specs.declared.event.Event.TheVariants as says
use Rattle.loss_trace.specs.Lines.{first_line}
use Rattle.call_report.specs.declared.status.Status.TheVariants.{VideoRefused, Video2Refused}
use Rattle.call_encoding.specs.Frames.{Frame}
use Rattle.call_model.specs.IdealCall.{Event, Send, Deliver, Play, Back}
use Rattle.call_model.specs.Refusals.{Refusal}
use Rattle.desk_program.specs.Run.{Run, Step, left_after, follow, machine_run, silence}
use Rattle.duplex_call.specs.declared.line.Party.{Party}
use Rattle.duplex_call.specs.declared.line.Party.TheVariants.{A, B}
use Rattle.duplex_call.specs.Duplex.{WayRuns}
use Rattle.duplex_call.specs.Lines.{party_event}
use Rattle.duplex_command.specs.Begin.{duplex_run, heads_step, heads_taken}
use Rattle.duplex_command.specs.Duplex.{DuplexState, VideoPlace, party_capture_step, party_captured_step, duplex_step, lettered_step, party_step, pictures_role, video_place_of, play_step, quiet_party_step, party_refusal, refused_party_video, duplex_trace_step, video_of}
use Rattle.call_command.specs.Call.{most_lines, unless_refused}

first_is : (a b : Y4mFault) → VideoRefused a ≡ VideoRefused b → a ≡ b
first_is a b is = cc is

second_is : (a b : Y4mFault) → Video2Refused a ≡ Video2Refused b → a ≡ b
second_is a b is = cc is

module _ (frame_laws : FrameLaws) (fault : Y4mFault) where
  -- the rest of a video has this first fault, where its next frame stands at such a place
  abbrev HasFault : Format → VideoPlace → List ℕ → Type 0
  HasFault f place video = first_video_fault f place.more place.at video ≡ Some fault

  some_left : (m at : ℕ) (f : Format) (video planes : List ℕ) → next_frame m f at video ≡ Ok planes → m - 1 + 1 ≡ m
  some_left zero at f video planes is = absurd (cc is)
  some_left (suc m) at f video planes is = omega arith

  -- it stands after the first frame
  after_it : (f : Format) (place : VideoPlace) (b : ℕ) (v planes video : List ℕ) → video ≡ b ∷ v
      → next_frame place.more f place.at (b ∷ v) ≡ Ok planes
      → let size = frame_size f (b ∷ v) in
      HasFault f (record { at = place.at + size; more = place.more - 1 }) (drop (0 + size) video)
      → HasFault f place (b ∷ v)
  after_it f place b v planes video same is later =
      let size = frame_size f (b ∷ v) in
      let e = frame_laws.next f place.more (place.more - 1) place.at (b ∷ v) planes
      (some_left place.more place.at f (b ∷ v) planes is) (omega arith) is in
      let taken : 0 + size ≡ size = omega arith in
      e.fault ∙ sym (λ i. first_video_fault f (place.more - 1) (place.at + size) (drop (taken i) (same i))) ∙ later

  at_fault : (f : Format) (place : VideoPlace) (b : ℕ) (v : List ℕ) (broken : Y4mFault)
      → next_frame place.more f place.at (b ∷ v) ≡ Err broken → broken ≡ fault → HasFault f place (b ∷ v)
  at_fault f place b v broken is same =
      (frame_laws.stops f place.more place.at (b ∷ v) broken (omega arith) is).1 ∙ ap (λ (x : Y4mFault). Some x) same

  -- what is left of a party's video has the fault
  abbrev IsFaulty : Party → DuplexState → (Role → List ℕ) → Type 0
  IsFaulty x s inputs = HasFault (s.params x).format (video_place_of x s) (inputs (video_of x))

  module _ (s : DuplexState) (inputs : Role → List ℕ) (rest : DuplexState → (Role → ℕ) → Run) where
    abbrev Refuses : Party → Step DuplexState → Type 0
    Refuses x step = (follow step rest).last.status ≡ refused_party_video x fault

    -- what comes later refuses the video only for its fault
    abbrev Later : Party → Type 0
    Later x = (next : DuplexState) (taken : Role → ℕ) → (rest next taken).last.status ≡ refused_party_video x fault
        → IsFaulty x next (left_after inputs taken)

    module _ (trace : List ℕ) where
      at_quiet : (x : Party) → Later x → (ways : WayRuns Frame) → Refuses x (quiet_party_step s trace ways)
          → IsFaulty x s inputs
      at_quiet A later ways ends = later _ _ ends
      at_quiet B later ways ends = later _ _ ends

      at_end : (x : Party) (e : Event) (o : Option Refusal) (step : Step DuplexState)
          → (Refuses x step → IsFaulty x s inputs) → Refuses x (unless_refused (s.lines + 1) trace e o step)
          → IsFaulty x s inputs
      at_end x e None step goes ends = goes ends
      at_end A e (Some refusal) step goes ends = absurd (cc ends)
      at_end B e (Some refusal) step goes ends = absurd (cc ends)

      -- a frame of party y is asked for
      at_captured : (x y : Party) → Later x → (b : ℕ) (v : List ℕ) → inputs (video_of y) ≡ b ∷ v
          → (r : Result (List ℕ) Y4mFault)
          → next_frame (video_place_of y s).more (s.params y).format (video_place_of y s).at (b ∷ v) ≡ r
          → Refuses x (party_captured_step (video_of y) (pictures_role y) (refused_party_video y) y s trace
          (frame_size (s.params y).format (b ∷ v)) r) → IsFaulty x s inputs
      at_captured A A later b v same (Ok planes) is ends =
          subst (λ (l : List ℕ). HasFault (s.params A).format s.video_a l) (sym same)
          (after_it (s.params A).format s.video_a b v planes (inputs Video) same is (later _ _ ends))
      at_captured B B later b v same (Ok planes) is ends =
          subst (λ (l : List ℕ). HasFault (s.params B).format s.video_b l) (sym same)
          (after_it (s.params B).format s.video_b b v planes (inputs Video2) same is (later _ _ ends))
      at_captured A B later b v same (Ok planes) is ends = later _ _ ends
      at_captured B A later b v same (Ok planes) is ends = later _ _ ends
      at_captured A A later b v same (Err broken) is ends =
          subst (λ (l : List ℕ). HasFault (s.params A).format s.video_a l) (sym same)
          (at_fault (s.params A).format s.video_a b v broken is (first_is broken fault ends))
      at_captured B B later b v same (Err broken) is ends =
          subst (λ (l : List ℕ). HasFault (s.params B).format s.video_b l) (sym same)
          (at_fault (s.params B).format s.video_b b v broken is (second_is broken fault ends))
      at_captured A B later b v same (Err broken) is ends = absurd (cc ends)
      at_captured B A later b v same (Err broken) is ends = absurd (cc ends)

      at_capture : (x y : Party) → Later x → (video : List ℕ) → inputs (video_of y) ≡ video
          → Refuses x (party_capture_step (video_of y) (pictures_role y) (refused_party_video y) y s trace video)
          → IsFaulty x s inputs
      at_capture A y later [] same ends = absurd (cc ends)
      at_capture B y later [] same ends = absurd (cc ends)
      at_capture x y later (b ∷ v) same ends =
          at_captured x y later b v same (next_frame (video_place_of y s).more (s.params y).format
          (video_place_of y s).at (b ∷ v))
          refl ends

      at_play : (x y : Party) → Later x → Refuses x (play_step (video_of y) (pictures_role y) (refused_party_video y) y
          s trace)
          → IsFaulty x s inputs
      at_play A y later ends = later _ _ ends
      at_play B y later ends = later _ _ ends

    at_party : (x y : Party) → Later x → (line : Line) → Refuses x (party_step y s inputs line) → IsFaulty x s inputs
    at_party x y later says.Nothing ends = at_quiet (inputs Events) x later _ ends
    at_party x y later says.Send ends =
        at_end (inputs Events) x Send (party_refusal y s Send) _ (at_capture (inputs Events) x y later
        (inputs (video_of y)) refl) ends
    at_party x y later (says.Packet n j) ends =
        at_end (inputs Events) x (Deliver n j) (party_refusal y s (Deliver n j)) _ (at_quiet (inputs Events) x later _)
        ends
    at_party x y later (says.All n) ends =
        at_end (inputs Events) x (Deliver n 0) (party_refusal y s (Deliver n 0)) _ (at_quiet (inputs Events) x later _)
        ends
    at_party x y later (says.Back k) ends =
        at_end (inputs Events) x (Back k) (party_refusal y s (Back k)) (quiet_party_step s (inputs Events) s.ways)
        (at_quiet (inputs Events) x later s.ways) ends
    at_party x y later says.Play ends =
        at_end (inputs Events) x Play (party_refusal y s Play) _ (at_play (inputs Events) x y later) ends

    at_line : (x : Party) → Later x → (o : Option (Option (Party × Line))) → Refuses x (lettered_step s inputs o)
        → IsFaulty x s inputs
    at_line A later None ends = absurd (cc ends)
    at_line B later None ends = absurd (cc ends)
    at_line x later (Some None) ends = at_quiet (inputs Events) x later _ ends
    at_line x later (Some (Some said)) ends = at_party x said.0 later said.1 ends

    not_many : (x : Party) (b : ℕ) (trace : List ℕ) → nat_lt s.lines 16777216 ≡ false
        → Refuses x (duplex_trace_step s inputs (b ∷ trace)) → ⊥
    not_many A b trace is ends = absurd (cc (rw is at ends))
    not_many B b trace is ends = absurd (cc (rw is at ends))

    at_trace : (x : Party) → Later x → (trace : List ℕ) → Refuses x (duplex_trace_step s inputs trace)
        → IsFaulty x s inputs
    at_trace A later [] ends = absurd (cc ends)
    at_trace B later [] ends = absurd (cc ends)
    at_trace x later (b ∷ trace) ends = within (nat_lt s.lines 16777216) refl ends
      where
        within : (t : Bool) → nat_lt s.lines 16777216 ≡ t → Refuses x (duplex_trace_step s inputs (b ∷ trace))
            → IsFaulty x s inputs
        within true is ends = at_line x later (party_event (first_line (b ∷ trace))) (rw is at ends)
        within false is ends = absurd (not_many x b trace is ends)

  no_fault : (x : Party) → silence.last.status ≡ refused_party_video x fault → ⊥
  no_fault A is = absurd (cc is)
  no_fault B is = absurd (cc is)

  run_refused : (n : ℕ) (x : Party) (s : DuplexState) (inputs : Role → List ℕ)
      → (machine_run duplex_step n s inputs).last.status ≡ refused_party_video x fault → IsFaulty x s inputs
  unfolding machine_run
  run_refused zero x s inputs ends = at_trace s inputs (λ next taken. silence) x
      (λ next taken is. absurd (no_fault x is)) (inputs Events) ends
  run_refused (suc n) x s inputs ends =
      at_trace s inputs (λ next taken. machine_run duplex_step n next (left_after inputs taken)) x
      (λ next taken is. run_refused n x next (left_after inputs taken) is) (inputs Events) ends

  module _ (p : Params) (inputs : Role → List ℕ) where
    abbrev Ends : Party → Result Format Y4mFault → Result Format Y4mFault → Type 0
    Ends x a b =
        (follow (heads_step p inputs a b) (λ next taken. machine_run duplex_step most_lines next
        (left_after inputs taken))).last.status ≡ refused_party_video x fault

    pub first_refused : (duplex_run p inputs).last.status ≡ VideoRefused fault → video_fault (inputs Video) ≡ Some fault
    unfolding video_fault
    first_refused ends = by_heads (head_of (inputs Video)) (head_of (inputs Video2)) ends
      where
        by_heads : (a b : Result Format Y4mFault) → Ends A a b
            → fault_after_head a (head_size (inputs Video)) (drop (head_size (inputs Video)) (inputs Video))
            ≡ Some fault
        by_heads (Err broken) b ends = ap (λ (x : Y4mFault). Some x) (first_is broken fault ends)
        by_heads (Ok f) (Err broken) ends = absurd (cc ends)
        by_heads (Ok f) (Ok g) ends =
            let size = head_size (inputs Video) in
            let taken : size + 0 ≡ size = omega arith in
            subst (λ (n : ℕ). first_video_fault f most_frames size (drop n (inputs Video)) ≡ Some fault) taken
            (run_refused most_lines A _ (left_after inputs (heads_taken inputs)) ends)

    pub second_refused : (duplex_run p inputs).last.status ≡ Video2Refused fault → video_fault (inputs Video2)
        ≡ Some fault
    unfolding video_fault
    second_refused ends = by_heads (head_of (inputs Video)) (head_of (inputs Video2)) ends
      where
        by_heads : (a b : Result Format Y4mFault) → Ends B a b
            → fault_after_head b (head_size (inputs Video2)) (drop (head_size (inputs Video2)) (inputs Video2))
            ≡ Some fault
        by_heads (Err broken) b ends = absurd (cc ends)
        by_heads (Ok f) (Err broken) ends = ap (λ (x : Y4mFault). Some x) (second_is broken fault ends)
        by_heads (Ok f) (Ok g) ends =
            let size = head_size (inputs Video2) in
            let taken : 0 + size ≡ size = omega arith in
            subst (λ (n : ℕ). first_video_fault g most_frames size (drop n (inputs Video2)) ≡ Some fault) taken
            (run_refused most_lines B _ (left_after inputs (heads_taken inputs)) ends)
