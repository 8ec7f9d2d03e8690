-- The turns of lines, by what the reader of the trace says and what was written.
use Rattle.std.proofs.Common.{◌≡◌, ℕ, ◌+◌, ◌<◌, ◌≤◌, Bool, true, false, not, List, [], ◌∷◌, length, take, drop, codes, Option, Some, None, Ok, Err, refl, sym, ap, ◌∙◌, subst, arith}
use Rattle.std.specs.Prelude.{if◌then◌else◌}
use Rattle.std.specs.Str.{bytes_eq}
use Rattle.std.proofs.lemmas.Bool.{lt-ltb, le-ltb, not-true}
use Rattle.h263_outside.specs.Desk.{Outside}
use Rattle.h263_outside.specs.declared.desk.Role.{Role}
use Rattle.h263_outside.specs.declared.desk.Role.TheVariants.{Events}
use Rattle.loss_trace.specs.declared.event.Event.{Event as Line}
use Rattle.loss_trace.specs.declared.fault.TraceFault.{TraceFault}
use Rattle.loss_trace.specs.declared.fault.TraceFault.TheVariants.{BadLine, TooMany}
use Rattle.loss_trace.specs.declared.fault.TraceStop.{TraceStop}
use Rattle.loss_trace.specs.declared.fault.TraceStop.TheVariants as stops
use Rattle.loss_trace.specs.Place.{TracePlace}
use Rattle.loss_trace.specs.Lines.{first_line, is_closed}
use Rattle.loss_trace.specs.Reader.{BytesGive, MovesTrace, Passes}
use Rattle.loss_trace.specs.Reading.{event_in}
use Rattle.call_report.specs.declared.status.Status.{Status}
use Rattle.call_report.specs.declared.status.Status.TheVariants.{Ok as Fine, TraceRefused}
use Rattle.call_report.specs.Status.{phase, trace_stop}
use Rattle.desk_program.specs.Run.{End, Step, left_after}
use Rattle.desk_program.specs.Run.Step.{Goes, Ends}
use Rattle.desk_program.specs.Ends.{Gains, GainsFronts, Went, Ended, EndsBy, GivesUp, step_texts}
use Rattle.desk_program.specs.Texts.{no_texts, of}
use Rattle.duplex_call.specs.declared.line.Party.{Party}
use Rattle.duplex_call.specs.declared.line.Party.TheVariants.{A, B}
use Rattle.duplex_call.specs.Duplex.{other}
use Rattle.duplex_call.specs.Lines.{lettered, of_party, party_event}
use Rattle.duplex_command.specs.Duplex.{DuplexState, after_party_line, both_played, both_counts, duplex_step, lettered_step, talk_may_read, video_place_of, duplex_trace_step}
use Rattle.call_command.specs.Call.{bad_line, line_size, line_turn, refused_line}
use Rattle.call_command.specs.Laws.{IsPlayedOut, LineLaws}
use Rattle.call_command.specs.Standing.{HasTaken, ReadsTrace}
use Rattle.duplex_command.specs.Standing.{StationsStand}
use Rattle.duplex_command.specs.declared.station.Station.{Station}
use Rattle.duplex_command.proofs.Cutting.{trace_part}

-- ---- a line of more than 64 bytes says no event

module _ (laws : LineLaws) where
  long_lettered : (x : Party) (line : List ℕ) → 64 < length line → lettered x (drop 2 line) ≡ None
  long_lettered x line long = ap (of_party x) (laws.long (drop 2 line) (two_less line long))
    where
      two_less : (l : List ℕ) → 64 < length l → 17 < length (drop 2 l)
      two_less [] long = absurd (omega (arith, long))
      two_less (a ∷ []) long = absurd (omega (arith, long))
      two_less (a ∷ b ∷ l) long = omega (arith, long)

  choice : {X : Type 0} (c : Bool) (x y z : X) → x ≡ z → y ≡ z → (if c then x else y) ≡ z
  choice true x y z one two = one
  choice false x y z one two = two

  pub long_is_bad : (line : List ℕ) → 64 < length line → party_event line ≡ None
  long_is_bad [] long = absurd (omega (arith, long))
  long_is_bad (b ∷ line) long =
      choice (bytes_eq (take 2 (b ∷ line)) (codes "a ")) (lettered A (drop 2 (b ∷ line))) _ None
      (long_lettered A (b ∷ line) long)
      (choice (bytes_eq (take 2 (b ∷ line)) (codes "b ")) (lettered B (drop 2 (b ∷ line))) None None
      (long_lettered B (b ∷ line) long) refl)

-- ---- which step it is

abbrev chosen : Bool → DuplexState → (Role → List ℕ) → Option (Option (Party × Line)) → Step DuplexState
chosen b s inputs o = if b then lettered_step s inputs o else Ends (bad_line (TooMany (s.lines + 1)))

line_is : (s : DuplexState) (inputs : Role → List ℕ) (trace : List ℕ) (o : Option (Option (Party × Line)))
    → 0 < length trace → s.lines < 16777216 → party_event (first_line trace) ≡ o
    → duplex_trace_step s inputs trace ≡ lettered_step s inputs o
line_is s inputs [] o some few is = absurd (omega arith)
line_is s inputs (b ∷ trace) o some few is =
    ap (λ (t : Bool). chosen t s inputs (party_event (first_line (b ∷ trace)))) (lt-ltb s.lines 16777216 few)
    ∙ ap (lettered_step s inputs) is

many_is : (s : DuplexState) (inputs : Role → List ℕ) (trace : List ℕ) → 0 < length trace → s.lines ≡ 16777216
    → duplex_trace_step s inputs trace ≡ Ends (bad_line (TooMany (s.lines + 1)))
many_is s inputs [] some many = absurd (omega arith)
many_is s inputs (b ∷ trace) some many =
    ap (λ (t : Bool). chosen t s inputs (party_event (first_line (b ∷ trace))))
    (le-ltb s.lines 16777216 (omega (arith, many)))

-- ---- a line that is done, or refused

abbrev step_of : End → Step DuplexState
step_of last = Ends last

pub double_not : (b : Bool) → not (not b) ≡ b
double_not true = refl
double_not false = refl

module _ (s : DuplexState) (inputs : Role → List ℕ) (before mid : Outside) (taken : HasTaken inputs before mid) where
  abbrev trace : List ℕ
  trace = inputs Events

  -- a refused line is taken, and nothing of the videos
  pub line_refused : LineLaws → (status : Status) (fault : TraceFault) (step : Step DuplexState)
      → status ≡ TraceRefused fault → step ≡ step_of (refused_line trace fault)
      → Ended step status inputs before mid
  line_refused laws status fault step status_is is = record {
    last = refused_line trace fault;
    is = is;
    by = subst (λ (z : Status). EndsBy (refused_line trace fault) z inputs before mid) (sym status_is)
        (laws.refused fault inputs before mid taken);
  }

  -- one that is done goes on, and writes these texts
  pub line_goes : (next : DuplexState) (texts : Role → List ℕ) (step : Step DuplexState) (stands : DuplexState
      → (Role → List ℕ) → Type 0)
      → step ≡ Goes (after_party_line next trace) (line_turn trace texts)
      → stands (after_party_line next trace) (left_after inputs (of Events (line_size trace)))
      → (new : Outside) → new.left ≡ mid.left → Gains texts mid.written new.written
      → Went step stands talk_may_read true inputs before new
  line_goes next texts step stands is kept new still gains = record {
    next = after_party_line next trace;
    turn = line_turn trace texts;
    could = refl;
    is = is;
    kept = kept;
    whole = sym (double_not (is_closed trace));
    left = λ r input. ap (λ (l : Role → Option (List ℕ)). l r) still ∙ taken.left r input;
    written = subst (λ (w : Role → Option (List ℕ)). Gains texts w new.written) taken.written gains;
  }

-- ---- the reader of the trace

-- a party's video stands where it stood, where both do
pub place_same : (y : Party) (s t : DuplexState) → s.video_a ≡ t.video_a → s.video_b ≡ t.video_b
    → video_place_of y s ≡ video_place_of y t
place_same A s t a b = a
place_same B s t a b = b

-- after a line the stations stand where it was passed
pub passed : LineLaws → (x : Party) (own far : Station) (s : DuplexState) (rest : List ℕ) (old after : TracePlace)
    (left : Option (List ℕ))
    → StationsStand x own far old s rest → after.lines ≡ old.lines + 1 → Passes rest after left
    → StationsStand x own far after (after_party_line s rest) (drop (line_size rest) rest)
passed laws x own far s rest old after left k lines passes = record {
  own_place = place_same x (after_party_line s rest) s refl refl ∙ k.own_place;
  far_place = place_same (other x) (after_party_line s rest) s refl refl ∙ k.far_place;
  lines = ap (λ (n : ℕ). n + 1) k.lines ∙ sym lines;
  ended = sym passes.ends;
  over = λ ended. laws.last rest (not-true (is_closed rest) (sym passes.ends ∙ ended));
  holds = k.holds;
}

-- the reader is where the state says
pub record IsReadAt (s : DuplexState) (reader : TracePlace) : Type 0 where
  pub lines_are : s.lines ≡ reader.lines
  pub ended_is : s.ended ≡ reader.ended

module _ (laws : LineLaws) (s : DuplexState) (inputs : Role
    → List ℕ) (old mid : Outside) (read : ReadsTrace inputs old mid) (reader after : TracePlace)
    (at : IsReadAt s reader) where
  going : reader.ended ≡ false → talk_may_read s ≡ true
  going is = ap not (at.ended_is ∙ is)

  bad_ends : (fault : TraceFault) (step : Step DuplexState) → step ≡ step_of (bad_line fault)
      → Ended step (TraceRefused fault) inputs old mid
  bad_ends fault step is = record { last = bad_line fault; is = is; by = laws.bad fault inputs old mid read }

  pub trace_stops : (buf : List ℕ) (stop : TraceStop)
      → BytesGive (Err stop) reader (inputs Events) buf after (mid.left Events)
      → MovesTrace {A = ℕ} (Err stop) reader after
      → GivesUp (phase (trace_stop stop)) (trace_stop stop) (duplex_step s inputs) (talk_may_read s) inputs old mid
  trace_stops buf stops.Read e moves = record {
    part = of Events e.taken;
    partly = trace_part laws s inputs e.taken e.free;
    could = going moves.0;
    left = laws.some inputs old mid e.taken read e.gone;
    written = read.written;
  }
  trace_stops buf (stops.Bad line) e moves =
      bad_ends (BadLine line) _
      (line_is s inputs (inputs Events) None (some_bytes (inputs Events) e.0) (omega (arith, moves.1, at.lines_are))
      (long_is_bad laws (first_line (inputs Events)) e.0)
      ∙ ap (λ (n : ℕ). step_of (bad_line (BadLine n))) (ap (λ (n : ℕ). n + 1) at.lines_are ∙ sym moves.2))
    where
      some_bytes : (trace : List ℕ) → 64 < length (first_line trace) → 0 < length trace
      some_bytes [] long = absurd (omega (arith, long))
      some_bytes (b ∷ trace) long = omega arith
  trace_stops buf (stops.TooMany line) e moves =
      bad_ends (TooMany line) _
      (many_is s inputs (inputs Events) e.0 (at.lines_are ∙ moves.1)
      ∙ ap (λ (n : ℕ). step_of (bad_line (TooMany n))) (omega (arith, at.lines_are, moves.1, moves.2)))

  -- after a line
  module _ (buf : List ℕ) (found : ℕ × ℕ) (e : BytesGive (Ok (Some found)) reader (inputs Events) buf after
      (mid.left Events)) (moves : MovesTrace (Ok (Some found)) reader after) where
    pub found_is : (o : Option (Option (Party × Line))) → party_event (take found.1 buf) ≡ o
        → duplex_step s inputs ≡ lettered_step s inputs o
    found_is o said = line_is s inputs (inputs Events) o e.0.some (omega (arith, moves.1, at.lines_are))
        (ap party_event (sym e.2) ∙ said)

    pub found_number : found.0 ≡ s.lines + 1
    found_number = moves.2 ∙ ap (λ (n : ℕ). n + 1) (sym at.lines_are)

    pub found_taken : HasTaken inputs old mid
    found_taken = laws.line inputs old mid read e.0.gone

    pub found_could : talk_may_read s ≡ true
    found_could = going moves.0

    -- a line that says nothing
    pub found_bad : party_event (take found.1 buf) ≡ None
        → Ended (duplex_step s inputs) (TraceRefused (BadLine found.0)) inputs old mid
    found_bad said = bad_ends (BadLine found.0) _ (found_is None said
        ∙ ap (λ (n : ℕ). step_of (bad_line (BadLine n))) (sym found_number))

    -- an empty line
    pub found_empty : party_event (take found.1 buf) ≡ Some None → (stands : DuplexState → (Role → List ℕ) → Type 0)
        → stands (after_party_line s (inputs Events)) (left_after inputs (of Events (line_size (inputs Events))))
        → Gains no_texts mid.written mid.written
        → Went (duplex_step s inputs) stands talk_may_read (talk_may_read s) inputs old mid
    found_empty said stands kept silent =
        subst (λ (b : Bool). Went (duplex_step s inputs) stands talk_may_read b inputs old mid) (sym found_could)
        (line_goes s inputs old mid found_taken s no_texts _ stands (found_is (Some None) said) kept mid refl silent)

  -- the end of the trace
  module _ (buf : List ℕ) (e : BytesGive (Ok None) reader (inputs Events) buf after (mid.left Events))
      (over : reader.ended ≡ true → inputs Events ≡ []) (new : Outside) (still : new.left ≡ mid.left) where
    out : IsPlayedOut inputs old mid new
    out = laws.over reader inputs old mid new read e over still

    end_is : duplex_step s inputs ≡ step_of (both_played s)
    end_is = ap (duplex_trace_step s inputs) out.nothing

    pub read_out : new.left Events ≡ Some []
    read_out = out.told Events refl ∙ ap (λ (l : List ℕ). Some l) out.nothing

    pub trace_ends : Gains (both_counts s.params s.ways) mid.written new.written
        → Ended (duplex_step s inputs) Fine inputs old new
    trace_ends gains = record { last = both_played s; is = end_is; by = out.ends (both_counts s.params s.ways) gains }

    pub trace_cut : GainsFronts (both_counts s.params s.ways) mid.written new.written
        → GainsFronts (step_texts (duplex_step s inputs)) old.written new.written
    trace_cut gains =
        subst (λ (x : Step DuplexState). GainsFronts (step_texts x) old.written new.written) (sym end_is)
        (subst (λ (w : Role → Option (List ℕ)). GainsFronts (both_counts s.params s.ways) w new.written) read.written
        gains)
