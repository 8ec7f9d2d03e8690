-- The turns of a call over a recorded trace, by what the reader of the trace says and what was
-- written.
use Rattle.std.proofs.Common.{◌≡◌, ℕ, ◌+◌, ◌<◌, Bool, true, false, not, List, [], ◌∷◌, length, Option, Some, None, Ok, Err, refl, sym, ap, ◌∙◌, subst, arith}
use Rattle.std.specs.Prelude.{if◌then◌else◌}
use Rattle.std.proofs.lemmas.Bool.{lt-ltb, le-ltb}
use Rattle.h263_outside.specs.Desk.{Outside}
use Rattle.h263_outside.specs.declared.desk.Role.{Role}
use Rattle.h263_outside.specs.declared.desk.Role.TheVariants.{Events, Report}
use Rattle.loss_trace.specs.declared.event.Event.{Event as Line}
use Rattle.loss_trace.specs.declared.fault.TraceFault.{TraceFault}
use Rattle.loss_trace.specs.declared.fault.TraceFault.TheVariants.{BadLine, TooMany}
use Rattle.loss_trace.specs.declared.fault.TraceStop.{TraceStop}
use Rattle.loss_trace.specs.declared.fault.TraceStop.TheVariants as stops
use Rattle.loss_trace.specs.Place.{TracePlace}
use Rattle.loss_trace.specs.Lines.{first_line, is_closed}
use Rattle.loss_trace.specs.Reader.{EventGives, MovesTrace}
use Rattle.loss_trace.specs.Reading.{event_in}
use Rattle.call_report.specs.declared.status.Status.{Status}
use Rattle.call_report.specs.declared.status.Status.TheVariants.{Ok as Fine, TraceRefused}
use Rattle.call_report.specs.Status.{phase, trace_stop}
use Rattle.desk_program.specs.Run.{End, Step, left_after}
use Rattle.desk_program.specs.Run.Step.{Goes, Ends}
use Rattle.desk_program.specs.Ends.{Gains, GainsFronts, Went, Ended, EndsBy, GivesUp, step_texts}
use Rattle.desk_program.specs.Texts.{of, on}
use Rattle.desk_program.specs.Laws.{TurnLaws}
use Rattle.call_command.specs.Call.{CallState, after_line, all_played, bad_line, by_ends, event_step, line_size, line_step, line_turn, may_read, refused_line, trace_step}
use Rattle.call_command.specs.Counts.{call_text}
use Rattle.call_command.specs.Laws.{IsPlayedOut}
use Rattle.call_command.specs.Standing.{HasTaken, ReadsTrace}
use Rattle.call_command.proofs.Cutting.{trace_part}
use Rattle.call_command.proofs.Lines.{bad_by, double_not, has_taken, over_by, refused_by, some_read}

-- ---- which step it is

abbrev chosen : Bool → CallState → (Role → List ℕ) → List ℕ → Option Line → Step CallState
chosen b s inputs trace o = if b then line_step by_ends s inputs trace o else Ends (bad_line (TooMany (s.lines + 1)))

pub line_is : (s : CallState) (inputs : Role → List ℕ) (trace : List ℕ) (o : Option Line) → 0 < length trace
    → s.lines < 16777216 → event_in (first_line trace) ≡ o
    → trace_step by_ends s inputs trace ≡ line_step by_ends s inputs trace o
line_is s inputs [] o some few is = absurd (omega arith)
line_is s inputs (b ∷ trace) o some few is =
    ap (λ (t : Bool). chosen t s inputs (b ∷ trace) (event_in (first_line (b ∷ trace)))) (lt-ltb s.lines 16777216 few)
    ∙ ap (line_step by_ends s inputs (b ∷ trace)) is

pub many_is : (s : CallState) (inputs : Role → List ℕ) (trace : List ℕ) → 0 < length trace → s.lines ≡ 16777216
    → trace_step by_ends s inputs trace ≡ Ends (bad_line (TooMany (s.lines + 1)))
many_is s inputs [] some many = absurd (omega arith)
many_is s inputs (b ∷ trace) some many =
    ap (λ (t : Bool). chosen t s inputs (b ∷ trace) (event_in (first_line (b ∷ trace))))
    (le-ltb s.lines 16777216 (omega (arith, many)))

-- ---- a line that is done, or refused

abbrev step_of : End → Step CallState
step_of last = Ends last

module _ (s : CallState) (inputs : Role → List ℕ) (before mid : Outside) (taken : HasTaken inputs before mid) where
  abbrev trace : List ℕ
  trace = inputs Events

  -- a refused line is taken, and nothing of the video
  pub line_refused : TurnLaws → (status : Status) (fault : TraceFault) (step : Step CallState)
      → status ≡ TraceRefused fault → step ≡ step_of (refused_line trace fault)
      → Ended step status inputs before mid
  line_refused laws status fault step status_is is = record {
    last = refused_line trace fault;
    is = is;
    by = subst (λ (z : Status). EndsBy (refused_line trace fault) z inputs before mid) (sym status_is)
        (refused_by laws fault inputs before mid taken);
  }

  -- one that is done goes on, and writes these texts
  pub line_goes : (next : CallState) (texts : Role → List ℕ) (step : Step CallState) (stands : CallState
      → (Role → List ℕ) → Type 0)
      → step ≡ Goes (after_line next trace) (line_turn trace texts)
      → stands (after_line next trace) (left_after inputs (of Events (line_size trace)))
      → (new : Outside) → new.left ≡ mid.left → Gains texts mid.written new.written
      → Went step stands may_read true inputs before new
  line_goes next texts step stands is kept new still gains = record {
    next = after_line next trace;
    turn = line_turn trace texts;
    could = refl;
    is = is;
    kept = kept;
    whole = sym (double_not (is_closed trace));
    left = λ r input. ap (λ (l : Role → Option (List ℕ)). l r) still ∙ taken.left r input;
    written = subst (λ (w : Role → Option (List ℕ)). Gains texts w new.written) taken.written gains;
  }

-- ---- the reader of the trace

-- the reader is where the state says
pub record IsReadAt (s : CallState) (reader : TracePlace) : Type 0 where
  pub lines_are : s.lines ≡ reader.lines
  pub ended_is : s.ended ≡ reader.ended

module _ (laws : TurnLaws) (s : CallState) (inputs : Role
    → List ℕ) (old mid : Outside) (read : ReadsTrace inputs old mid) (reader after : TracePlace)
    (at : IsReadAt s reader) where
  going : reader.ended ≡ false → may_read s ≡ true
  going is = ap not (at.ended_is ∙ is)

  bad_ends : (fault : TraceFault) (step : Step CallState) → step ≡ step_of (bad_line fault)
      → Ended step (TraceRefused fault) inputs old mid
  bad_ends fault step is = record { last = bad_line fault; is = is; by = bad_by laws inputs old mid read fault }

  pub trace_stops : (stop : TraceStop) → EventGives (Err stop) reader (inputs Events) after (mid.left Events)
      → MovesTrace {A = Line} (Err stop) reader after
      → GivesUp (phase (trace_stop stop)) (trace_stop stop) (trace_step by_ends s inputs (inputs Events))
      (may_read s) inputs old mid
  trace_stops stops.Read e moves = record {
    part = of Events e.taken;
    partly = trace_part s inputs (inputs Events) e.taken e.free;
    could = going moves.0;
    left = some_read laws inputs old mid read e.taken e.gone;
    written = read.written;
  }
  trace_stops (stops.Bad line) e moves =
      bad_ends (BadLine line) _
      (line_is s inputs (inputs Events) None (some_line (inputs Events) e.0) (omega (arith, moves.1, at.lines_are)) e.0
      ∙ ap (λ (n : ℕ). step_of (bad_line (BadLine n))) (ap (λ (n : ℕ). n + 1) at.lines_are ∙ sym moves.2))
    where
      -- an empty text has a line that says nothing
      some_line : (trace : List ℕ) → event_in (first_line trace) ≡ None → 0 < length trace
      some_line [] is = absurd (cc is)
      some_line (b ∷ trace) is = omega arith
  trace_stops (stops.TooMany line) e moves =
      bad_ends (TooMany line) _
      (many_is s inputs (inputs Events) e.0 (at.lines_are ∙ moves.1)
      ∙ ap (λ (n : ℕ). step_of (bad_line (TooMany n))) (omega (arith, at.lines_are, moves.1, moves.2)))

  -- after a line
  module _ (found : ℕ × Line) (e : EventGives (Ok (Some found)) reader (inputs Events) after (mid.left Events))
      (moves : MovesTrace (Ok (Some found)) reader after) where
    pub found_is : trace_step by_ends s inputs (inputs Events) ≡ event_step by_ends s inputs (inputs Events) found.1
    found_is = line_is s inputs (inputs Events) (Some found.1) e.0.some (omega (arith, moves.1, at.lines_are)) e.1

    pub found_number : found.0 ≡ s.lines + 1
    found_number = moves.2 ∙ ap (λ (n : ℕ). n + 1) (sym at.lines_are)

    pub found_taken : HasTaken inputs old mid
    found_taken = has_taken laws inputs old mid read e.0.gone

    pub found_could : may_read s ≡ true
    found_could = going moves.0

  -- the end of the trace
  module _ (e : EventGives (Ok None) reader (inputs Events) after (mid.left Events)) (over : reader.ended ≡ true
      → inputs Events ≡ []) (new : Outside) (still : new.left ≡ mid.left) where
    out : IsPlayedOut inputs old mid new
    out = over_by laws inputs old mid read reader new e over still

    end_is : trace_step by_ends s inputs (inputs Events) ≡ step_of (all_played (by_ends s))
    end_is = ap (trace_step by_ends s inputs) out.nothing

    pub read_out : new.left Events ≡ Some []
    read_out = out.told Events refl ∙ ap (λ (l : List ℕ). Some l) out.nothing

    pub trace_ends : (text : List ℕ) → text ≡ call_text (by_ends s) → Gains (on Report text) mid.written new.written
        → Ended (trace_step by_ends s inputs (inputs Events)) Fine inputs old new
    trace_ends text is gains = record {
      last = all_played (by_ends s);
      is = end_is;
      by = out.ends (on Report (call_text (by_ends s)))
          (subst (λ (l : List ℕ). Gains (on Report l) mid.written new.written) is gains);
    }

    pub trace_cut : (text : List ℕ) → text ≡ call_text (by_ends s)
        → GainsFronts (on Report text) mid.written new.written
        → GainsFronts (step_texts (trace_step by_ends s inputs (inputs Events))) old.written new.written
    trace_cut text is gains =
        subst (λ (x : Step CallState). GainsFronts (step_texts x) old.written new.written) (sym end_is)
        (subst (λ (w : Role → Option (List ℕ)). GainsFronts (on Report (call_text (by_ends s))) w new.written)
        read.written
        (subst (λ (l : List ℕ). GainsFronts (on Report l) mid.written new.written) is gains))
