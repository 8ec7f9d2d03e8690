-- The kinds of whole turns.
use Rattle.std.proofs.Common.{◌≡◌, ◌≢◌, ℕ, zero, suc, ◌+◌, ◌-◌, ◌≤◌, Bool, true, false, List, [], ◌∷◌, length, take, drop, Option, Some, None, Result, Ok, Err, IsErrAnd, refl, sym, ap, subst, ◌∙◌, arith}
use Rattle.h263_outside.specs.Desk.{OnlyReads, Outside, Rose}
use Rattle.h263_outside.specs.declared.desk.Role.{Role}
use Rattle.h263_outside.specs.declared.desk.Role.TheVariants.{Events}
use Rattle.loss_trace.specs.declared.fault.TraceFault.TheVariants.{BadLine}
use Rattle.loss_trace.specs.declared.fault.TraceStop.{TraceStop}
use Rattle.loss_trace.specs.Place.{TracePlace}
use Rattle.loss_trace.specs.Reader.{BytesGive, MovesTrace}
use Rattle.call_report.specs.declared.status.Status.{Status}
use Rattle.call_report.specs.declared.status.Status.TheVariants.{Ok as Fine, TraceRefused, WriteFault}
use Rattle.call_report.specs.Status.{Phase, phase}
use Rattle.call_report.specs.Status.Phase.{finished, refused, unread, unwritten, starved, unasked, unopened}
use Rattle.desk_program.specs.Run.{Step}
use Rattle.desk_program.specs.Ends.{Ended, Falls, Gains, GainsFronts, GivesUp, HasCause, IsStop, KeepsRoles, OnEnd, OnGoing, OnSettled, OnceSettled, Tells, TurnGives, Went, step_texts}
use Rattle.desk_program.specs.Texts.{no_texts}
use Rattle.call_command.specs.Call.{line_size}
use Rattle.desk_program.specs.Laws.{StepLaws}
use Rattle.call_command.specs.Laws.{LineLaws}
use Rattle.call_command.specs.Standing.{ReadsTrace}
use Rattle.group_call.specs.Holding.{sent_in}
use Rattle.group_command.specs.declared.line.GroupLine.{GroupLine}
use Rattle.group_command.specs.declared.line.GroupLine.TheVariants.{Quiet}
use Rattle.group_command.specs.declared.room.Room.{Room}
use Rattle.group_command.specs.Group.{GroupState, after_group_line, group_step, group_line_step, room_may_read}
use Rattle.group_command.specs.Lines.{group_line}
use Rattle.group_command.specs.Standing.{GroupOpens, RoomReady, RoomStands, RoomStandsAt, room_lines_left, viewers_in}
use Rattle.group_command.specs.Turning.{HasLine, IsGroupRead, TakesGroupLine, RoomTakesTurn}
use Rattle.group_command.proofs.LineTurning.{IsReadAt, found_bad, found_could, found_empty, found_is, found_number, found_taken, passed}
use Rattle.group_command.proofs.Watching.{viewing_later, watched_count}

-- what the reader says, where its answer is known
pub says : (r known : Result (Option (ℕ × ℕ)) TraceStop) (old new : TracePlace) (rest buf : List ℕ)
    (left : Option (List ℕ)) → r ≡ known → BytesGive r old rest buf new left → BytesGive known old rest buf new left
says r known old new rest buf left is gives =
    subst (λ (q : Result (Option (ℕ × ℕ)) TraceStop). BytesGive q old rest buf new left) is gives

pub moved : (r known : Result (Option (ℕ × ℕ)) TraceStop) (old new : TracePlace) → r ≡ known → MovesTrace r old new
    → MovesTrace known old new
moved r known old new is moves = subst (λ (q : Result (Option (ℕ × ℕ)) TraceStop). MovesTrace q old new) is moves

module _ (x y : Room) (old new : Outside) where
  -- one that gives up
  pub turn_gave_up : (r : Result Bool Status) (status : Status) → IsErrAnd r (λ z. z ≡ status) → IsStop status
      → HasCause status old.faults new.faults → KeepsRoles old new
      → ((s : GroupState) (inputs : Role → List ℕ) → RoomStandsAt x s inputs → Tells old inputs
      → GivesUp (phase status) status (group_step s inputs) (room_may_read s) inputs old new)
      → RoomTakesTurn x y r old new
  turn_gave_up (Ok b) status is stop cause rest gives = absurd is
  turn_gave_up (Err z) status is stop cause rest gives = subst (λ (w : Status). RoomTakesTurn x y (Err w) old new)
      (sym is)
      (record {
        gives = gives;
        whole = λ s inputs k told. tt;
        falls = tt;
        ready = tt;
        stop = stop;
        cause = cause;
        rest = rest;
      })

  -- one that can't write
  pub turn_was_cut : (r : Result Bool Status) (status : Status) → IsErrAnd r (λ z. z ≡ status) → status ≡ WriteFault
      → Rose old.faults.write new.faults.write → KeepsRoles old new
      → ((s : GroupState) (inputs : Role → List ℕ) → RoomStandsAt x s inputs → Tells old inputs
      → GainsFronts (step_texts (group_step s inputs)) old.written new.written)
      → RoomTakesTurn x y r old new
  turn_was_cut (Ok b) status is kind rose rest gives = absurd is
  turn_was_cut (Err z) status is kind rose rest gives = subst (λ (w : Status). RoomTakesTurn x y (Err w) old new)
      (sym (is
      ∙ kind)) (record {
        gives = gives;
        whole = λ s inputs k told. tt;
        falls = tt;
        ready = tt;
        stop = tt;
        cause = rose;
        rest = rest;
      })

  -- one that ends the call
  pub turn_is_over : KeepsRoles old new
      → ((s : GroupState) (inputs : Role → List ℕ) → RoomStandsAt x s inputs → Tells old inputs
      → Ended (group_step s inputs) Fine inputs old new)
      → ((s : GroupState) (inputs : Role → List ℕ) → RoomStandsAt x s inputs → Tells old inputs
      → new.left Events ≡ Some [])
      → RoomTakesTurn x y (Ok false) old new
  turn_is_over rest gives whole = record {
    gives = gives;
    whole = whole;
    falls = tt;
    ready = tt;
    stop = tt;
    cause = tt;
    rest = rest;
  }

  -- one that goes on
  pub turn_goes_on : room_lines_left y + 1 ≡ room_lines_left x → RoomReady y new.attached → KeepsRoles old new
      → ((s : GroupState) (inputs : Role → List ℕ) → RoomStandsAt x s inputs → Tells old inputs
      → Went (group_step s inputs) (RoomStandsAt y) room_may_read (room_may_read s) inputs old new)
      → RoomTakesTurn x y (Ok true) old new
  turn_goes_on falls ready rest gives = record {
    gives = gives;
    whole = λ s inputs k told. tt;
    falls = falls;
    ready = ready;
    stop = tt;
    cause = tt;
    rest = rest;
  }

-- ---- after a line was read

take_within : (n : ℕ) (l : List ℕ) → length (take n l) ≡ n → n ≤ length l
take_within zero l is = omega arith
take_within (suc n) [] is = absurd (omega (arith, is))
take_within (suc n) (x ∷ l) is = omega (arith, take_within n l (omega (arith, is)))

never : (r : Result Bool Status) (P : Type 0) → OnEnd r ⊥ → OnEnd r P
never (Ok true) P is = tt
never (Ok false) P is = absurd is
never (Err status) P is = tt

falls_so : (r : Result Bool Status) (old new : ℕ) → new + 1 ≡ old → Falls r old new
falls_so (Ok true) old new is = is
falls_so (Ok false) old new is = tt
falls_so (Err status) old new is = tt

-- what the reader of the trace has done
pub record WasRead (m : Room) (after : TracePlace) (buf : List ℕ) (found : ℕ × ℕ) (old mid : Outside) : Type 0 where
  pub gives : (rest : List ℕ) → old.left Events ≡ Some rest
      → BytesGive (Ok (Some found)) m.trace rest buf after (mid.left Events)
  pub moves : MovesTrace (Ok (Some found)) m.trace after
  pub others : (r : Role) → r ≢ Events → mid.left r ≡ old.left r
  pub rest : OnlyReads old mid

pub was_read : (m : Room) (after : TracePlace) (buf : List ℕ) (o : Option (ℕ × ℕ)) (found : ℕ × ℕ) (old mid : Outside)
    → o ≡ Some found → ((text : List ℕ) → old.left Events ≡ Some text
    → BytesGive (Ok o) m.trace text buf after (mid.left Events)) → MovesTrace (Ok o) m.trace after
    → ((r : Role) → r ≢ Events → mid.left r ≡ old.left r) → OnlyReads old mid → WasRead m after buf found old mid
was_read m after buf o found old mid is gives moves others rest =
    let known = ap (λ (x : Option (ℕ × ℕ)). let q : Result (Option (ℕ × ℕ)) TraceStop = Ok x in q) is in
    record {
      gives = λ text left. says (Ok o) (Ok (Some found)) m.trace after text buf (mid.left Events) known
          (gives text left);
      moves = moved (Ok o) (Ok (Some found)) m.trace after known moves;
      others = others;
      rest = rest;
    }

-- of the inputs nothing but the trace was read, by a reader that was where the state says
pub reads_trace : (old mid : Outside) → ((r : Role) → r ≢ Events → mid.left r ≡ old.left r) → OnlyReads old mid
    → (inputs : Role → List ℕ) → Tells old inputs → ReadsTrace inputs old mid
reads_trace old mid others rest inputs told = record { told = told; others = others; written = rest.written }

pub is_at : (m : Room) (s : GroupState) (inputs : Role → List ℕ) → RoomStandsAt m s inputs → IsReadAt s m.trace
is_at m s inputs k = record { lines_are = k.lines; ended_is = k.ended }

module _ (lines : LineLaws) (steps : StepLaws) (m : Room) (after : TracePlace) (buf : List ℕ) (found : ℕ
    × ℕ) (old mid : Outside) (w : WasRead m after buf found old mid) where
  abbrev now : Room
  now = record m { trace = after }

  module _ (s : GroupState) (inputs : Role → List ℕ) (k : RoomStandsAt m s inputs) (told : Tells old inputs) where
    abbrev e : BytesGive (Ok (Some found)) m.trace (inputs Events) buf after (mid.left Events)
    e = w.gives (inputs Events) (told Events refl)

    only : ReadsTrace inputs old mid
    only = reads_trace old mid w.others w.rest inputs told

    at : IsReadAt s m.trace
    at = is_at m s inputs k

    fits : found.1 ≤ length buf
    fits = take_within found.1 buf (ap (λ (l : List ℕ). length l) e.2 ∙ e.1)

    counted : length s.views ≡ length (viewers_in m.viewers)
    counted = watched_count s.params s.run (viewers_in m.viewers) s.views k.views

    step_is : (o : Option GroupLine) → group_line (length s.views) (take found.1 buf) ≡ o
        → group_step s inputs ≡ group_line_step s inputs o
    step_is o said = found_is lines s inputs old mid only m.trace after at buf found e w.moves o said

    could : room_may_read s ≡ true
    could = found_could lines s inputs old mid only m.trace after at buf found e w.moves

    stood : RoomStands now (after_group_line s (inputs Events)) (drop (line_size (inputs Events)) (inputs Events))
    stood = passed lines m s (inputs Events) after (mid.left Events) k w.moves.3 e.0

    line_read : IsGroupRead now found.0 mid old s inputs
    line_read = record {
      stood = stood;
      number = found_number lines s inputs old mid only m.trace after at buf found e w.moves;
      taken = found_taken lines s inputs old mid only m.trace after at buf found e w.moves;
    }

  -- what the line says, as the machine counts its receivers
  abbrev pub Says : Option GroupLine → Type 0
  Says o = found.1 ≤ length buf → group_line (length (viewers_in m.viewers)) (take found.1 buf) ≡ o

  said_so : (o : Option GroupLine) → Says o → (s : GroupState) (inputs : Role → List ℕ) (k : RoomStandsAt m s inputs)
      (told : Tells old inputs)
      → group_line (length s.views) (take found.1 buf) ≡ o
  said_so o said s inputs k told = ap (λ (n : ℕ). group_line n (take found.1 buf)) (counted s inputs k told)
      ∙ said (fits s inputs k told)

  -- a line that says nothing
  pub line_bad : Says None → (s : GroupState) (inputs : Role → List ℕ) → RoomStandsAt m s inputs → Tells old inputs
      → Ended (group_step s inputs) (TraceRefused (BadLine found.0)) inputs old mid
  line_bad said s inputs k told =
      found_bad lines s inputs old mid (only s inputs k told) m.trace after (at s inputs k told) buf found
      (e s inputs k told) w.moves (said_so None said s inputs k told)

  fewer : 16777216 - after.lines + 1 ≡ 16777216 - m.trace.lines
  fewer = omega (arith, w.moves.1, w.moves.3)

  -- the machine is ready after the line
  pub ready_after : RoomReady m old.attached → RoomReady now mid.attached
  ready_after r = record {
    opens = subst (λ (a : Role → Bool). GroupOpens (length (viewers_in m.viewers)) a) (sym w.rest.attached) r.opens;
    in_range = r.in_range;
    format = r.format;
    frame = r.frame;
    params = r.params;
    period = r.period;
    casting = r.casting;
    sent = r.sent;
    few = omega (arith, w.moves.1, w.moves.3);
    viewing = viewing_later (sent_in m.cast) m.trace.lines after.lines m.viewers (omega (arith, w.moves.3)) r.viewing;
  }

  pub has_line : RoomReady m old.attached → HasLine now found.0
  has_line r = record {
    number = w.moves.2 ∙ sym w.moves.3;
    some = omega (arith, w.moves.2);
    viewing = viewing_later (sent_in m.cast) m.trace.lines (found.0 - 1) m.viewers (omega (arith, w.moves.2)) r.viewing;
  }

  -- an empty line
  pub line_empty : Says (Some Quiet) → RoomReady m old.attached → Gains no_texts mid.written mid.written
      → RoomTakesTurn m now (Ok true) old mid
  line_empty said r silent =
      turn_goes_on m now old mid fewer (ready_after r) (steps.reads old mid w.rest)
      (λ s inputs k told.
      found_empty lines s inputs old mid (only s inputs k told) m.trace after (at s inputs k told) buf found
      (e s inputs k told) w.moves (said_so (Some Quiet) said s inputs k told)
      (RoomStandsAt now) (stood s inputs k told) silent)

  -- a line that says something
  pub line_done : (said : GroupLine) → Says (Some said) → (y : Room) (r : Result Bool Status) (new : Outside)
      → y.trace ≡ after
      → TakesGroupLine now y found.0 said r mid new → RoomTakesTurn m y r old new
  line_done said said_is y r new trace_is t = record {
    gives = λ s inputs k told.
        subst (λ (step : Step GroupState). TurnGives r step (RoomStandsAt y) room_may_read (room_may_read s) inputs old
        new)
        (sym (step_is s inputs k told (Some said) (said_so (Some said) said_is s inputs k told)))
        (subst (λ (b : Bool). TurnGives r (group_line_step s inputs (Some said)) (RoomStandsAt y) room_may_read b inputs
        old new)
        (sym (could s inputs k told))
        (t.gives old s inputs (line_read s inputs k told)));
    whole = λ s inputs k told. never r (new.left Events ≡ Some []) t.goes_on;
    falls = falls_so r (room_lines_left m) (room_lines_left y) (ap (λ (reader : TracePlace). 16777216 - reader.lines +
        1) trace_is
        ∙ fewer);
    ready = t.ready;
    stop = t.stop;
    cause = steps.since r old.faults mid.faults new.faults w.rest.faults t.stop t.cause;
    rest = steps.both old mid new (steps.reads old mid w.rest) t.rest;
  }
