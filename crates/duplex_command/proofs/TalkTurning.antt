-- The kinds of whole turns.
use Rattle.std.proofs.Common.{◌≡◌, ◌≢◌, ℕ, zero, suc, ◌+◌, ◌-◌, ◌≤◌, Bool, true, false, List, [], ◌∷◌, length, take, drop, Option, Some, None, Result, Ok, Err, IsErrAnd, refl, sym, ap, subst, ◌∙◌, arith}
use Rattle.h263_outside.specs.Desk.{OnlyReads, Outside, Rose}
use Rattle.h263_outside.specs.declared.desk.Role.{Role}
use Rattle.h263_outside.specs.declared.desk.Role.TheVariants.{Events}
use Rattle.loss_trace.specs.declared.event.Event.{Event as Line}
use Rattle.loss_trace.specs.declared.fault.TraceFault.TheVariants.{BadLine}
use Rattle.loss_trace.specs.declared.fault.TraceStop.{TraceStop}
use Rattle.loss_trace.specs.Place.{TracePlace}
use Rattle.loss_trace.specs.Reader.{BytesGive, MovesTrace}
use Rattle.call_report.specs.declared.status.Status.{Status}
use Rattle.call_report.specs.declared.status.Status.TheVariants.{Ok as Fine, TraceRefused, WriteFault}
use Rattle.call_report.specs.Status.{Phase, phase}
use Rattle.call_report.specs.Status.Phase.{finished, refused, unread, unwritten, starved, unasked, unopened}
use Rattle.desk_program.specs.Run.{Step}
use Rattle.desk_program.specs.Ends.{Ended, Falls, Gains, GainsFronts, GivesUp, HasCause, IsStop, KeepsRoles, OnEnd, OnGoing, OnSettled, OnceSettled, Tells, TurnGives, Went, step_texts}
use Rattle.desk_program.specs.Texts.{no_texts}
use Rattle.duplex_call.specs.declared.line.Party.{Party}
use Rattle.duplex_call.specs.declared.line.Party.TheVariants.{A}
use Rattle.duplex_call.specs.Lines.{party_event}
use Rattle.duplex_command.specs.declared.event.TraceLine.{TraceLine}
use Rattle.duplex_command.specs.declared.talk.Talk.{Talk}
use Rattle.duplex_command.specs.Duplex.{DuplexState, after_party_line, duplex_step, lettered_step, talk_may_read, party_step}
use Rattle.call_command.specs.Call.{line_size}
use Rattle.desk_program.specs.Laws.{StepLaws}
use Rattle.call_command.specs.Laws.{LineLaws}
use Rattle.call_command.specs.Standing.{ReadsTrace}
use Rattle.duplex_command.specs.Standing.{DuplexOpens, StationsReady, StationsStand, TalkReady, TalkStands, talk_lines_left}
use Rattle.duplex_command.specs.Turning.{IsPartyRead, TakesPartyLine, TalkTakesTurn}
use Rattle.duplex_command.proofs.AtParty.{ready_so}
use Rattle.duplex_command.proofs.LineTurning.{IsReadAt, found_bad, found_could, found_empty, found_is, found_number, found_taken, passed}

-- what the reader says, where its answer is known
pub says : (r known : Result (Option (ℕ × ℕ)) TraceStop) (old new : TracePlace) (rest buf : List ℕ)
    (left : Option (List ℕ)) → r ≡ known → BytesGive r old rest buf new left → BytesGive known old rest buf new left
says r known old new rest buf left is gives =
    subst (λ (q : Result (Option (ℕ × ℕ)) TraceStop). BytesGive q old rest buf new left) is gives

pub moved : (r known : Result (Option (ℕ × ℕ)) TraceStop) (old new : TracePlace) → r ≡ known → MovesTrace r old new
    → MovesTrace known old new
moved r known old new is moves = subst (λ (q : Result (Option (ℕ × ℕ)) TraceStop). MovesTrace q old new) is moves

-- what holds in any case holds where it is asked
pub where_going : (r : Result Bool Status) (P : Type 0) → P → OnGoing r P
where_going (Ok true) P p = p
where_going (Ok false) P p = tt
where_going (Err status) P p = tt

pub where_settled : (r : Result Bool Status) (P : Type 0) → P → OnSettled r P
where_settled (Ok true) P p = tt
where_settled (Ok false) P p = p
where_settled (Err status) P p = by_phase (phase status)
  where
    by_phase : (ph : Phase) → OnceSettled ph P
    by_phase finished = p
    by_phase refused = p
    by_phase unread = tt
    by_phase unwritten = tt
    by_phase starved = tt
    by_phase unasked = tt
    by_phase (unopened role) = tt

module _ (x y : Talk) (old new : Outside) where
  -- one that gives up
  pub turn_gave_up : (r : Result Bool Status) (status : Status) → IsErrAnd r (λ z. z ≡ status) → IsStop status
      → HasCause status old.faults new.faults → KeepsRoles old new
      → ((s : DuplexState) (inputs : Role → List ℕ) → TalkStands x s inputs → Tells old inputs
      → GivesUp (phase status) status (duplex_step s inputs) (talk_may_read s) inputs old new)
      → TalkTakesTurn x y r old new
  turn_gave_up (Ok b) status is stop cause rest gives = absurd is
  turn_gave_up (Err z) status is stop cause rest gives = subst (λ (w : Status). TalkTakesTurn x y (Err w) old new)
      (sym is)
      (record {
        gives = gives;
        whole = λ s inputs k told. tt;
        falls = tt;
        ready = tt;
        stop = stop;
        cause = cause;
        rest = rest;
      })

  -- one that can't write
  pub turn_was_cut : (r : Result Bool Status) (status : Status) → IsErrAnd r (λ z. z ≡ status) → status ≡ WriteFault
      → Rose old.faults.write new.faults.write → KeepsRoles old new
      → ((s : DuplexState) (inputs : Role → List ℕ) → TalkStands x s inputs → Tells old inputs
      → GainsFronts (step_texts (duplex_step s inputs)) old.written new.written)
      → TalkTakesTurn x y r old new
  turn_was_cut (Ok b) status is kind rose rest gives = absurd is
  turn_was_cut (Err z) status is kind rose rest gives = subst (λ (w : Status). TalkTakesTurn x y (Err w) old new)
      (sym (is
      ∙ kind)) (record {
        gives = gives;
        whole = λ s inputs k told. tt;
        falls = tt;
        ready = tt;
        stop = tt;
        cause = rose;
        rest = rest;
      })

  -- one that ends the call
  pub turn_is_over : KeepsRoles old new
      → ((s : DuplexState) (inputs : Role → List ℕ) → TalkStands x s inputs → Tells old inputs
      → Ended (duplex_step s inputs) Fine inputs old new)
      → ((s : DuplexState) (inputs : Role → List ℕ) → TalkStands x s inputs → Tells old inputs
      → new.left Events ≡ Some [])
      → TalkTakesTurn x y (Ok false) old new
  turn_is_over rest gives whole = record {
    gives = gives;
    whole = whole;
    falls = tt;
    ready = tt;
    stop = tt;
    cause = tt;
    rest = rest;
  }

  -- one that goes on
  pub turn_goes_on : talk_lines_left y + 1 ≡ talk_lines_left x → TalkReady y new.attached → KeepsRoles old new
      → ((s : DuplexState) (inputs : Role → List ℕ) → TalkStands x s inputs → Tells old inputs
      → Went (duplex_step s inputs) (TalkStands y) talk_may_read (talk_may_read s) inputs old new)
      → TalkTakesTurn x y (Ok true) old new
  turn_goes_on falls ready rest gives = record {
    gives = gives;
    whole = λ s inputs k told. tt;
    falls = falls;
    ready = ready;
    stop = tt;
    cause = tt;
    rest = rest;
  }

-- ---- after a line was read

take_within : (n : ℕ) (l : List ℕ) → length (take n l) ≡ n → n ≤ length l
take_within zero l is = omega arith
take_within (suc n) [] is = absurd (omega (arith, is))
take_within (suc n) (x ∷ l) is = omega (arith, take_within n l (omega (arith, is)))

never : (r : Result Bool Status) (P : Type 0) → OnEnd r ⊥ → OnEnd r P
never (Ok true) P is = tt
never (Ok false) P is = absurd is
never (Err status) P is = tt

falls_so : (r : Result Bool Status) (old new : ℕ) → new + 1 ≡ old → Falls r old new
falls_so (Ok true) old new is = is
falls_so (Ok false) old new is = tt
falls_so (Err status) old new is = tt

-- what the reader of the trace has done
pub record WasRead (m : Talk) (after : TracePlace) (buf : List ℕ) (found : ℕ × ℕ) (old mid : Outside) : Type 0 where
  pub gives : (rest : List ℕ) → old.left Events ≡ Some rest
      → BytesGive (Ok (Some found)) m.trace rest buf after (mid.left Events)
  pub moves : MovesTrace (Ok (Some found)) m.trace after
  pub others : (r : Role) → r ≢ Events → mid.left r ≡ old.left r
  pub rest : OnlyReads old mid

pub was_read : (m : Talk) (after : TracePlace) (buf : List ℕ) (o : Option (ℕ × ℕ)) (found : ℕ × ℕ) (old mid : Outside)
    → o ≡ Some found → ((text : List ℕ) → old.left Events ≡ Some text
    → BytesGive (Ok o) m.trace text buf after (mid.left Events)) → MovesTrace (Ok o) m.trace after
    → ((r : Role) → r ≢ Events → mid.left r ≡ old.left r) → OnlyReads old mid → WasRead m after buf found old mid
was_read m after buf o found old mid is gives moves others rest =
    let known = ap (λ (x : Option (ℕ × ℕ)). let q : Result (Option (ℕ × ℕ)) TraceStop = Ok x in q) is in
    record {
      gives = λ text left. says (Ok o) (Ok (Some found)) m.trace after text buf (mid.left Events) known
          (gives text left);
      moves = moved (Ok o) (Ok (Some found)) m.trace after known moves;
      others = others;
      rest = rest;
    }

-- of the inputs nothing but the trace was read, by a reader that was where the state says
pub reads_trace : (old mid : Outside) → ((r : Role) → r ≢ Events → mid.left r ≡ old.left r) → OnlyReads old mid
    → (inputs : Role → List ℕ) → Tells old inputs → ReadsTrace inputs old mid
reads_trace old mid others rest inputs told = record { told = told; others = others; written = rest.written }

pub is_at : (m : Talk) (s : DuplexState) (inputs : Role → List ℕ) → TalkStands m s inputs → IsReadAt s m.trace
is_at m s inputs k = record { lines_are = k.lines; ended_is = k.ended }

module _ (lines : LineLaws) (steps : StepLaws) (m : Talk) (after : TracePlace) (buf : List ℕ) (found : ℕ
    × ℕ) (old mid : Outside) (w : WasRead m after buf found old mid) where
  module _ (s : DuplexState) (inputs : Role → List ℕ) (k : TalkStands m s inputs) (told : Tells old inputs) where
    abbrev e : BytesGive (Ok (Some found)) m.trace (inputs Events) buf after (mid.left Events)
    e = w.gives (inputs Events) (told Events refl)

    only : ReadsTrace inputs old mid
    only = reads_trace old mid w.others w.rest inputs told

    at : IsReadAt s m.trace
    at = is_at m s inputs k

    fits : found.1 ≤ length buf
    fits = take_within found.1 buf (ap (λ (l : List ℕ). length l) e.2 ∙ e.1)

    step_is : (o : Option (Option (Party × Line))) → party_event (take found.1 buf) ≡ o
        → duplex_step s inputs ≡ lettered_step s inputs o
    step_is o said = found_is lines s inputs old mid only m.trace after at buf found e w.moves o said

    could : talk_may_read s ≡ true
    could = found_could lines s inputs old mid only m.trace after at buf found e w.moves

    stood : StationsStand A m.a m.b after (after_party_line s (inputs Events))
        (drop (line_size (inputs Events)) (inputs Events))
    stood = passed lines A m.a m.b s (inputs Events) m.trace after (mid.left Events) k w.moves.3 e.0

    line_read : IsPartyRead A m.a m.b found.0 after mid old s inputs
    line_read = record {
      stood = stood;
      number = found_number lines s inputs old mid only m.trace after at buf found e w.moves;
      taken = found_taken lines s inputs old mid only m.trace after at buf found e w.moves;
    }

  -- a line that says nothing
  pub line_bad : (found.1 ≤ length buf → party_event (take found.1 buf) ≡ None)
      → (s : DuplexState) (inputs : Role → List ℕ) → TalkStands m s inputs → Tells old inputs
      → Ended (duplex_step s inputs) (TraceRefused (BadLine found.0)) inputs old mid
  line_bad said s inputs k told =
      found_bad lines s inputs old mid (only s inputs k told) m.trace after (at s inputs k told) buf found
      (e s inputs k told) w.moves (said (fits s inputs k told))

  fewer : 16777216 - after.lines + 1 ≡ 16777216 - m.trace.lines
  fewer = omega (arith, w.moves.1, w.moves.3)

  opens_still : (new : Outside) → TalkReady m old.attached → KeepsRoles mid new → DuplexOpens new.attached
  opens_still new r rest = subst DuplexOpens (sym (rest.attached ∙ w.rest.attached)) r.opens

  -- an empty line
  pub line_empty : (found.1 ≤ length buf → party_event (take found.1 buf) ≡ Some None) → TalkReady m old.attached
      → Gains no_texts mid.written mid.written
      → TalkTakesTurn m (record m { trace = after }) (Ok true) old mid
  line_empty said r silent =
      turn_goes_on m (record m { trace = after }) old mid fewer (record {
        opens = opens_still mid r (steps.none mid);
        stations = r.stations;
      }) (steps.reads old mid w.rest)
      (λ s inputs k told.
      found_empty lines s inputs old mid (only s inputs k told) m.trace after (at s inputs k told) buf found
      (e s inputs k told) w.moves (said (fits s inputs k told))
      (TalkStands (record m { trace = after })) (stood s inputs k told) silent)

  -- a line that says an event of a party
  pub line_done : (said : TraceLine) → said.line ≡ found.0
      → (found.1 ≤ length buf → party_event (take found.1 buf) ≡ Some (Some (said.party, said.event)))
      → TalkReady m old.attached
      → (y : Talk) (r : Result Bool Status) (new : Outside) (room : ℕ) → y.trace ≡ after → length y.frame.items ≡ room
      → TakesPartyLine m.a m.b y.a y.b said r mid new room → TalkTakesTurn m y r old new
  line_done said number said_so ready y r new room trace_is frame_is t = record {
    gives = λ s inputs k told.
        let stands : DuplexState → (Role → List ℕ)
        → Type 0 = λ next rest. StationsStand A y.a y.b after next (rest Events) in
        subst (λ (reader : TracePlace). TurnGives r (duplex_step s inputs)
        (λ next rest. StationsStand A y.a y.b reader next (rest Events)) talk_may_read (talk_may_read s) inputs old new)
        (sym trace_is)
        (subst (λ (step : Step DuplexState). TurnGives r step stands talk_may_read (talk_may_read s) inputs old new)
        (sym (step_is s inputs k told (Some (Some (said.party, said.event))) (said_so (fits s inputs k told))))
        (subst (λ (b : Bool). TurnGives r (party_step said.party s inputs said.event) stands talk_may_read b inputs old
        new)
        (sym (could s inputs k told))
        (t.gives after old s inputs (subst (λ (n : ℕ). IsPartyRead A m.a m.b n after mid old s inputs) (sym number)
        (line_read s inputs k told)))));
    whole = λ s inputs k told. never r (new.left Events ≡ Some []) t.goes_on;
    falls = falls_so r (talk_lines_left m) (talk_lines_left y) (ap (λ (reader : TracePlace). 16777216 - reader.lines +
        1) trace_is
        ∙ fewer);
    ready = ready_so r (StationsReady y.a y.b room) (TalkReady y new.attached)
        (λ stations. record {
          opens = opens_still new ready t.rest;
          stations = subst (λ (n : ℕ). StationsReady y.a y.b n) (sym frame_is) stations;
        }) t.ready;
    stop = t.stop;
    cause = steps.since r old.faults mid.faults new.faults w.rest.faults t.stop t.cause;
    rest = steps.both old mid new (steps.reads old mid w.rest) t.rest;
  }
