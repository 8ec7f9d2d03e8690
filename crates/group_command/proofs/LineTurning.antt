-- The turns of lines, by what the reader of the trace says and what was written.
use Rattle.std.proofs.Common.{◌≡◌, ℕ, ◌+◌, ◌<◌, ◌≤◌, Bool, true, false, not, List, [], ◌∷◌, length, take, drop, codes, Option, Some, None, Ok, Err, refl, sym, ap, ◌∙◌, subst, arith}
use Rattle.std.specs.Prelude.{nat_le, if◌then◌else◌}
use Rattle.std.specs.Str.{bytes_eq}
use Rattle.std.proofs.lemmas.Slice.Eq.{bytes_eq-Decides}
use Rattle.std.proofs.lemmas.Bool.{lt-ltb, le-ltb, not-true}
use Rattle.h263_outside.specs.Desk.{Outside}
use Rattle.h263_outside.specs.declared.desk.Role.{Role}
use Rattle.h263_outside.specs.declared.desk.Role.TheVariants.{Events}
use Rattle.loss_trace.specs.declared.fault.TraceFault.{TraceFault}
use Rattle.loss_trace.specs.declared.fault.TraceFault.TheVariants.{BadLine, TooMany}
use Rattle.loss_trace.specs.declared.fault.TraceStop.{TraceStop}
use Rattle.loss_trace.specs.declared.fault.TraceStop.TheVariants as stops
use Rattle.loss_trace.specs.Place.{TracePlace}
use Rattle.loss_trace.specs.Lines.{first_line, is_closed}
use Rattle.loss_trace.specs.Reader.{BytesGive, MovesTrace, Passes}
use Rattle.loss_trace.specs.Reading.{event_in}
use Rattle.call_report.specs.declared.status.Status.{Status}
use Rattle.call_report.specs.declared.status.Status.TheVariants.{Ok as Fine, TraceRefused}
use Rattle.call_report.specs.Status.{phase, trace_stop}
use Rattle.desk_program.specs.Run.{End, Step, left_after}
use Rattle.desk_program.specs.Run.Step.{Goes, Ends}
use Rattle.desk_program.specs.Ends.{Gains, GainsFronts, Went, Ended, EndsBy, GivesUp, step_texts}
use Rattle.desk_program.specs.Texts.{no_texts, of}
use Rattle.call_command.specs.Call.{bad_line, line_size, line_turn, refused_line}
use Rattle.call_command.specs.Laws.{IsPlayedOut, LineLaws}
use Rattle.call_command.specs.Standing.{HasTaken, ReadsTrace}
use Rattle.group_command.specs.declared.line.GroupLine.{GroupLine}
use Rattle.group_command.specs.declared.line.GroupLine.TheVariants.{Quiet, ForAll}
use Rattle.group_command.specs.declared.room.Room.{Room}
use Rattle.group_command.specs.Group.{GroupState, after_group_line, all_viewers_played, counts_from, group_step, group_line_step, room_may_read, group_trace_step}
use Rattle.group_command.specs.Lines.{group_line, of_one}
use Rattle.group_command.specs.Standing.{RoomStands}
use Rattle.group_command.proofs.Cutting.{trace_part}

-- ---- a line of more than 64 bytes says no event

module _ (laws : LineLaws) where
  long_own : (k : ℕ) (line : List ℕ) → 64 < length line → of_one k (event_in (drop 2 line)) ≡ None
  long_own k line long = ap (of_one k) (laws.long (drop 2 line) (two_less line long))
    where
      two_less : (l : List ℕ) → 64 < length l → 17 < length (drop 2 l)
      two_less [] long = absurd (omega (arith, long))
      two_less (a ∷ []) long = absurd (omega (arith, long))
      two_less (a ∷ b ∷ l) long = omega (arith, long)

  choice : {X : Type 0} (c : Bool) (x y z : X) → x ≡ z → y ≡ z → (if c then x else y) ≡ z
  choice true x y z one two = one
  choice false x y z one two = two

  -- a long line is none of the short ones
  not_short : (word line : List ℕ) → length word < length line → bytes_eq line word ≡ false
  not_short word line longer = at_test (bytes_eq line word) refl
    where
      at_test : (t : Bool) → bytes_eq line word ≡ t → t ≡ false
      at_test true is = absurd
          (omega (arith, longer, ap (λ (l : List ℕ). length l) ((bytes_eq-Decides line word).0 is)))
      at_test false is = refl

  under_false : {X : Type 0} (c : Bool) (x y : X) → c ≡ false → (if c then x else y) ≡ y
  under_false true x y is = absurd (cc is)
  under_false false x y is = refl

  module _ (count : ℕ) (line : List ℕ) where
    abbrev third_or : Option GroupLine
    third_or = if bytes_eq (take 2 line) (codes "3 ") then (if nat_le 3 count then of_one 2 (event_in (drop 2 line))
        else None) else None

    abbrev second_or : Option GroupLine
    second_or = if bytes_eq (take 2 line) (codes "2 ") then (if nat_le 2 count then of_one 1 (event_in (drop 2 line))
        else None) else third_or

    abbrev first_or : Option GroupLine
    first_or = if bytes_eq (take 2 line) (codes "1 ") then of_one 0 (event_in (drop 2 line)) else second_or

    pub long_is_bad : 64 < length line → group_line count line ≡ None
    long_is_bad long =
        under_false (bytes_eq line (codes "")) (Some Quiet)
        (if bytes_eq line (codes "S") then Some ForAll else first_or)
        (not_short (codes "") line (omega (arith, long)))
        ∙ under_false (bytes_eq line (codes "S")) (Some ForAll) first_or
        (not_short (codes "S") line (omega (arith, long)))
        ∙ choice (bytes_eq (take 2 line) (codes "1 ")) (of_one 0 (event_in (drop 2 line))) second_or None
        (long_own 0 line long)
        (choice (bytes_eq (take 2 line) (codes "2 "))
        (if nat_le 2 count then of_one 1 (event_in (drop 2 line)) else None) third_or None
        (choice (nat_le 2 count) (of_one 1 (event_in (drop 2 line))) None None (long_own 1 line long) refl)
        (choice (bytes_eq (take 2 line) (codes "3 "))
        (if nat_le 3 count then of_one 2 (event_in (drop 2 line)) else None) None None
        (choice (nat_le 3 count) (of_one 2 (event_in (drop 2 line))) None None (long_own 2 line long) refl) refl))

-- ---- which step it is

abbrev chosen : Bool → GroupState → (Role → List ℕ) → Option GroupLine → Step GroupState
chosen b s inputs o = if b then group_line_step s inputs o else Ends (bad_line (TooMany (s.lines + 1)))

line_is : (s : GroupState) (inputs : Role → List ℕ) (trace : List ℕ) (o : Option GroupLine) → 0 < length trace
    → s.lines < 16777216 → group_line (length s.views) (first_line trace) ≡ o
    → group_trace_step s inputs trace ≡ group_line_step s inputs o
line_is s inputs [] o some few is = absurd (omega arith)
line_is s inputs (b ∷ trace) o some few is =
    ap (λ (t : Bool). chosen t s inputs (group_line (length s.views) (first_line (b ∷ trace))))
    (lt-ltb s.lines 16777216 few)
    ∙ ap (group_line_step s inputs) is

many_is : (s : GroupState) (inputs : Role → List ℕ) (trace : List ℕ) → 0 < length trace → s.lines ≡ 16777216
    → group_trace_step s inputs trace ≡ Ends (bad_line (TooMany (s.lines + 1)))
many_is s inputs [] some many = absurd (omega arith)
many_is s inputs (b ∷ trace) some many =
    ap (λ (t : Bool). chosen t s inputs (group_line (length s.views) (first_line (b ∷ trace))))
    (le-ltb s.lines 16777216 (omega (arith, many)))

-- ---- a line that is done, or refused

abbrev step_of : End → Step GroupState
step_of last = Ends last

pub double_not : (b : Bool) → not (not b) ≡ b
double_not true = refl
double_not false = refl

module _ (s : GroupState) (inputs : Role → List ℕ) (before mid : Outside) (taken : HasTaken inputs before mid) where
  abbrev trace : List ℕ
  trace = inputs Events

  -- a refused line is taken, and nothing of the videos
  pub line_refused : LineLaws → (status : Status) (fault : TraceFault) (step : Step GroupState)
      → status ≡ TraceRefused fault → step ≡ step_of (refused_line trace fault)
      → Ended step status inputs before mid
  line_refused laws status fault step status_is is = record {
    last = refused_line trace fault;
    is = is;
    by = subst (λ (z : Status). EndsBy (refused_line trace fault) z inputs before mid) (sym status_is)
        (laws.refused fault inputs before mid taken);
  }

  -- one that is done goes on, and writes these texts
  pub line_goes : (next : GroupState) (texts : Role → List ℕ) (step : Step GroupState) (stands : GroupState
      → (Role → List ℕ) → Type 0)
      → step ≡ Goes (after_group_line next trace) (line_turn trace texts)
      → stands (after_group_line next trace) (left_after inputs (of Events (line_size trace)))
      → (new : Outside) → new.left ≡ mid.left → Gains texts mid.written new.written
      → Went step stands room_may_read true inputs before new
  line_goes next texts step stands is kept new still gains = record {
    next = after_group_line next trace;
    turn = line_turn trace texts;
    could = refl;
    is = is;
    kept = kept;
    whole = sym (double_not (is_closed trace));
    left = λ r input. ap (λ (l : Role → Option (List ℕ)). l r) still ∙ taken.left r input;
    written = subst (λ (w : Role → Option (List ℕ)). Gains texts w new.written) taken.written gains;
  }

-- ---- the reader of the trace

-- after a line the machine stands where it was passed
pub passed : LineLaws → (m : Room) (s : GroupState) (rest : List ℕ) (after : TracePlace) (left : Option (List ℕ))
    → RoomStands m s rest → after.lines ≡ m.trace.lines + 1 → Passes rest after left
    → RoomStands (record m { trace = after }) (after_group_line s rest) (drop (line_size rest) rest)
passed laws m s rest after left k lines passes = record {
  params = k.params;
  place = k.place;
  more = k.more;
  lines = ap (λ (n : ℕ). n + 1) k.lines ∙ sym lines;
  ended = sym passes.ends;
  over = λ ended. laws.last rest (not-true (is_closed rest) (sym passes.ends ∙ ended));
  cast = k.cast;
  views = k.views;
}

-- the reader is where the state says
pub record IsReadAt (s : GroupState) (reader : TracePlace) : Type 0 where
  pub lines_are : s.lines ≡ reader.lines
  pub ended_is : s.ended ≡ reader.ended

module _ (laws : LineLaws) (s : GroupState) (inputs : Role
    → List ℕ) (old mid : Outside) (read : ReadsTrace inputs old mid) (reader after : TracePlace)
    (at : IsReadAt s reader) where
  going : reader.ended ≡ false → room_may_read s ≡ true
  going is = ap not (at.ended_is ∙ is)

  bad_ends : (fault : TraceFault) (step : Step GroupState) → step ≡ step_of (bad_line fault)
      → Ended step (TraceRefused fault) inputs old mid
  bad_ends fault step is = record { last = bad_line fault; is = is; by = laws.bad fault inputs old mid read }

  pub trace_stops : (buf : List ℕ) (stop : TraceStop)
      → BytesGive (Err stop) reader (inputs Events) buf after (mid.left Events)
      → MovesTrace {A = ℕ} (Err stop) reader after
      → GivesUp (phase (trace_stop stop)) (trace_stop stop) (group_step s inputs) (room_may_read s) inputs old mid
  trace_stops buf stops.Read e moves = record {
    part = of Events e.taken;
    partly = trace_part laws s inputs e.taken e.free;
    could = going moves.0;
    left = laws.some inputs old mid e.taken read e.gone;
    written = read.written;
  }
  trace_stops buf (stops.Bad line) e moves =
      bad_ends (BadLine line) _
      (line_is s inputs (inputs Events) None (some_bytes (inputs Events) e.0) (omega (arith, moves.1, at.lines_are))
      (long_is_bad laws (length s.views) (first_line (inputs Events)) e.0)
      ∙ ap (λ (n : ℕ). step_of (bad_line (BadLine n))) (ap (λ (n : ℕ). n + 1) at.lines_are ∙ sym moves.2))
    where
      some_bytes : (trace : List ℕ) → 64 < length (first_line trace) → 0 < length trace
      some_bytes [] long = absurd (omega (arith, long))
      some_bytes (b ∷ trace) long = omega arith
  trace_stops buf (stops.TooMany line) e moves =
      bad_ends (TooMany line) _
      (many_is s inputs (inputs Events) e.0 (at.lines_are ∙ moves.1)
      ∙ ap (λ (n : ℕ). step_of (bad_line (TooMany n))) (omega (arith, at.lines_are, moves.1, moves.2)))

  -- after a line
  module _ (buf : List ℕ) (found : ℕ × ℕ) (e : BytesGive (Ok (Some found)) reader (inputs Events) buf after
      (mid.left Events)) (moves : MovesTrace (Ok (Some found)) reader after) where
    pub found_is : (o : Option GroupLine) → group_line (length s.views) (take found.1 buf) ≡ o
        → group_step s inputs ≡ group_line_step s inputs o
    found_is o said = line_is s inputs (inputs Events) o e.0.some (omega (arith, moves.1, at.lines_are))
        (ap (group_line (length s.views)) (sym e.2) ∙ said)

    pub found_number : found.0 ≡ s.lines + 1
    found_number = moves.2 ∙ ap (λ (n : ℕ). n + 1) (sym at.lines_are)

    pub found_taken : HasTaken inputs old mid
    found_taken = laws.line inputs old mid read e.0.gone

    pub found_could : room_may_read s ≡ true
    found_could = going moves.0

    -- a line that says nothing
    pub found_bad : group_line (length s.views) (take found.1 buf) ≡ None
        → Ended (group_step s inputs) (TraceRefused (BadLine found.0)) inputs old mid
    found_bad said = bad_ends (BadLine found.0) _ (found_is None said
        ∙ ap (λ (n : ℕ). step_of (bad_line (BadLine n))) (sym found_number))

    -- an empty line
    pub found_empty : group_line (length s.views) (take found.1 buf) ≡ Some Quiet
        → (stands : GroupState → (Role → List ℕ) → Type 0)
        → stands (after_group_line s (inputs Events)) (left_after inputs (of Events (line_size (inputs Events))))
        → Gains no_texts mid.written mid.written
        → Went (group_step s inputs) stands room_may_read (room_may_read s) inputs old mid
    found_empty said stands kept silent =
        subst (λ (b : Bool). Went (group_step s inputs) stands room_may_read b inputs old mid) (sym found_could)
        (line_goes s inputs old mid found_taken s no_texts _ stands (found_is (Some Quiet) said) kept mid refl silent)

  -- the end of the trace
  module _ (buf : List ℕ) (e : BytesGive (Ok None) reader (inputs Events) buf after (mid.left Events))
      (over : reader.ended ≡ true → inputs Events ≡ []) (new : Outside) (still : new.left ≡ mid.left) where
    out : IsPlayedOut inputs old mid new
    out = laws.over reader inputs old mid new read e over still

    end_is : group_step s inputs ≡ step_of (all_viewers_played s)
    end_is = ap (group_trace_step s inputs) out.nothing

    pub read_out : new.left Events ≡ Some []
    read_out = out.told Events refl ∙ ap (λ (l : List ℕ). Some l) out.nothing

    pub trace_ends : Gains (counts_from s.params s.run 0 s.views) mid.written new.written
        → Ended (group_step s inputs) Fine inputs old new
    trace_ends gains = record {
      last = all_viewers_played s;
      is = end_is;
      by = out.ends (counts_from s.params s.run 0 s.views) gains;
    }

    pub trace_cut : GainsFronts (counts_from s.params s.run 0 s.views) mid.written new.written
        → GainsFronts (step_texts (group_step s inputs)) old.written new.written
    trace_cut gains =
        subst (λ (x : Step GroupState). GainsFronts (step_texts x) old.written new.written) (sym end_is)
        (subst (λ (w : Role → Option (List ℕ)). GainsFronts (counts_from s.params s.run 0 s.views) w new.written)
        read.written gains)
