-- A turn over a recorded trace is what its line says, once the line was read.
use Rattle.std.proofs.Common.{◌≡◌, ◌≢◌, ℕ, ◌+◌, ◌-◌, Bool, List, Option, Some, Result, Ok, refl, sym, subst, arith}
use Rattle.std.specs.Prelude.{if◌then◌else◌, false}
use Rattle.h263_outside.specs.Desk.{OnlyReads, Outside}
use Rattle.h263_outside.specs.declared.desk.Role.{Role}
use Rattle.h263_outside.specs.declared.desk.Role.TheVariants.{Events}
use Rattle.loss_trace.specs.declared.event.Event.{Event as Line}
use Rattle.loss_trace.specs.declared.fault.TraceStop.{TraceStop}
use Rattle.loss_trace.specs.Place.{TracePlace}
use Rattle.loss_trace.specs.Reader.{EventGives, MovesTrace}
use Rattle.call_report.specs.declared.status.Status.{Status}
use Rattle.desk_program.specs.Run.{Step}
use Rattle.desk_program.specs.Ends.{Falls, Tells, TurnGives}
use Rattle.desk_program.specs.Laws.{StepLaws, TurnLaws}
use Rattle.call_command.specs.declared.world.World.{World}
use Rattle.call_command.specs.Call.{CallState, by_ends, event_step, may_read, talk_step}
use Rattle.call_command.specs.Standing.{HasRoomToSay, CallParts, PartsReady, PartsStand, ReadsTrace, more_of, call_parts, call_state_of}
use Rattle.call_command.specs.Turning.{IsRead, TakesLine, TakesTurn}
use Rattle.call_command.proofs.AfterTurn.{stood_after}
use Rattle.call_command.proofs.Counting.{line_by_line}
use Rattle.call_command.proofs.LineTurning.{found_could, found_is, found_number, found_taken}
use Rattle.call_command.proofs.Readying.{ready_so}

-- the world with its trace read on
abbrev pub read_on : World → TracePlace → World
read_on m after = record m { trace = after }

-- this line of the trace was read, and nothing else was done
pub record IsLineRead (m : World) (after : TracePlace) (line : ℕ) (event : Line) (old mid : Outside) : Type 0 where
  pub laws : TurnLaws
  pub steps : StepLaws
  pub recorded : m.terms.plain ≡ false
  pub gives : (text : List ℕ) → old.left Events ≡ Some text
      → EventGives (Ok (Some (line, event))) m.trace text after (mid.left Events)
  pub moves : MovesTrace (Ok (Some (line, event))) m.trace after
  pub others : (r : Role) → r ≢ Events → mid.left r ≡ old.left r
  pub rest : OnlyReads old mid

-- by what the reader of the trace answers
pub line_read : (m : World) (after : TracePlace) (line : ℕ) (event : Line) (old mid : Outside)
    (answer : Result (Option (ℕ × Line)) TraceStop) → answer ≡ Ok (Some (line, event))
    → TurnLaws → StepLaws → m.terms.plain ≡ false
    → ((text : List ℕ) → old.left Events ≡ Some text → EventGives answer m.trace text after (mid.left Events))
    → MovesTrace answer m.trace after
    → ((r : Role) → r ≢ Events → mid.left r ≡ old.left r) → OnlyReads old mid → IsLineRead m after line event old mid
line_read m after line event old mid answer is laws steps recorded gives moves others rest = record {
  laws = laws;
  steps = steps;
  recorded = recorded;
  gives = λ text left. subst (λ (q : Result (Option (ℕ × Line)) TraceStop). EventGives q m.trace text after
      (mid.left Events)) is (gives text left);
  moves = subst (λ (q : Result (Option (ℕ × Line)) TraceStop). MovesTrace q m.trace after) is moves;
  others = others;
  rest = rest;
}

module _ {m : World} {after : TracePlace} {line : ℕ} {event : Line} {old mid : Outside}
    (w : IsLineRead m after line event old mid) where
  abbrev x : CallParts
  x = call_parts m

  pub room_read : PartsReady x old.attached → HasRoomToSay (call_parts (read_on m after))
  room_read ready = omega (arith, w.moves.3, ready.said)

  pub ready_read : PartsReady x old.attached → PartsReady (call_parts (read_on m after)) mid.attached
  ready_read ready =
      ready_so x old.attached mid.attached ready w.rest.attached x.video x.sender x.receiver
      (record x.link { trace = after })
      refl refl ready.can refl ready.sent ready.played ready.level ready.frame
      (λ plain. absurd (cc (plain, w.recorded))) (omega (arith, w.moves.1, w.moves.3)) ready.counted
      (omega (arith, ready.said, w.moves.3))

  only : {inputs : Role → List ℕ} → Tells old inputs → ReadsTrace inputs old mid
  only told = record { told = told; others = w.others; written = w.rest.written }

  was_read : (s : CallState) (inputs : Role → List ℕ) → PartsStand x s inputs → Tells old inputs
      → IsRead (call_parts (read_on m after)) line mid old (call_state_of x s.before s.frames s.past) inputs
  was_read s inputs k told =
      let here = call_state_of x s.before s.frames s.past in
      let e = w.gives (inputs Events) (told Events refl) in
      record {
        stood = stood_after x s inputs k w.recorded after _ w.moves.3 e.0;
        number = found_number w.laws here inputs old mid (only told) m.trace after (record {
          lines_are = refl;
          ended_is = refl;
        }) (line, event) e w.moves;
        taken = found_taken w.laws here inputs old mid (only told) m.trace after (record {
          lines_are = refl;
          ended_is = refl;
        }) (line, event) e w.moves;
      }

  -- what the line makes of the world and the desk, the turn makes of them
  pub line_taken : (y : World) (result : Result Bool Status) (new : Outside)
      → TakesLine (read_on m after) y line event result mid new → TakesTurn m y result old new
  line_taken y result new t = record {
    gives = λ o s inputs b.
        let here = call_state_of x s.before s.frames s.past in
        let stands = PartsStand (call_parts y) in
        let e = w.gives (inputs Events) (b.told Events refl) in
        let step_is = found_is w.laws here inputs old mid (only b.told) m.trace after (record {
          lines_are = refl;
          ended_is = refl;
        }) (line, event) e w.moves in
        let could = found_could w.laws here inputs old mid (only b.told) m.trace after (record {
          lines_are = refl;
          ended_is = refl;
        }) (line, event) e w.moves in
        subst (λ (q : Outside). TurnGives result (talk_step s inputs) stands may_read (may_read s) inputs q new)
        (sym b.same)
        (line_by_line x s inputs b.stands.is w.recorded (λ (step : Step CallState) (now : Bool). TurnGives result step
        stands may_read now inputs old new)
        (subst (λ (step : Step CallState). TurnGives result step stands may_read (may_read here) inputs old new)
        (sym step_is)
        (subst (λ (b : Bool). TurnGives result (event_step by_ends here inputs (inputs Events) event) stands may_read b
        inputs old new) (sym could)
        (t.gives old here inputs (was_read s inputs b.stands b.told)))));
    whole = λ o s inputs b. t.whole old _ inputs (was_read s inputs b.stands b.told);
    keeps = t.keeps;
    lasts = t.lasts;
    falls =
        subst (λ (n : ℕ). Falls result n (more_of (call_parts y)))
        (subst (λ (b : Bool). (if b then x.video.more else 16777216 - after.lines) + 1
        ≡ (if b then x.video.more else 16777216 - m.trace.lines)) (sym w.recorded)
        (omega (arith, w.moves.1, w.moves.3))) t.falls;
    ready = t.ready;
    answers = t.answers;
    stop = t.stop;
    cause = w.steps.since result old.faults mid.faults new.faults w.rest.faults t.stop t.cause;
    rest = w.steps.both old mid new (w.steps.reads old mid w.rest) t.rest;
  }
