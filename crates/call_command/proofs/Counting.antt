-- The parts of a call against the state at which they stand, and the kinds of turns.
use Rattle.std.proofs.Common.{◌≡◌, ℕ, ◌+◌, Bool, true, false, List, [], ◌++◌, Some, Result, Ok, Err, IsErrAnd, sym, subst, ap, ◌∙◌}
use Rattle.std.specs.Prelude.{if◌then◌else◌}
use Rattle.std.proofs.lemmas.List.{append-nil}
use Rattle.h263_outside.specs.Desk.{Outside, Rose}
use Rattle.h263_outside.specs.declared.desk.Role.{Role}
use Rattle.h263_outside.specs.declared.desk.Role.TheVariants.{Video, Events}
use Rattle.y4m.specs.declared.fault.VideoStop.{VideoStop}
use Rattle.y4m.specs.declared.fault.VideoStop.TheVariants as video
use Rattle.loss_trace.specs.declared.fault.TraceStop.{TraceStop}
use Rattle.loss_trace.specs.declared.fault.TraceStop.TheVariants as trace
use Rattle.call_report.specs.declared.status.Status.{Status}
use Rattle.call_report.specs.declared.status.Status.TheVariants.{Ok as Fine, WriteFault}
use Rattle.call_report.specs.Status.{Phase, phase, trace_stop, video_stop}
use Rattle.call_report.specs.Status.Phase.{finished, refused, unread, unwritten, starved, unasked, unopened}
use Rattle.desk_program.specs.Run.{Step}
use Rattle.desk_program.specs.Ends.{Ended, GainsFronts, GivesUp, HasCause, IsStop, KeepsRoles, OnceSettled, Tells, TurnGives, Went, step_texts}
use Rattle.call_encoding.specs.Frames.{Frame}
use Rattle.call_command.specs.Counts.{call_text, counts_of, counts_text}
use Rattle.one_way.specs.Laws.{WayLaws}
use Rattle.one_way.specs.Way.{tally_of, way_of}
use Rattle.call_command.specs.declared.world.World.{World}
use Rattle.call_command.specs.Call.{CallState, by_ends, may_read, talk_step, trace_step, video_step}
use Rattle.call_command.specs.Standing.{EndsStand, HasDone, CallParts, PartsReady, PartsStand, more_of, call_parts, source_of, call_state_of}
use Rattle.call_command.specs.Turning.{IsAnswer, IsTurnBegun, IsTurn, LeavesEnds, TakesTurn, names_of}

-- ---- which step it is

-- a step of the state at which the parts stand is one of the plain trace
pub plainly : (x : CallParts) (s : CallState) (inputs : Role → List ℕ) → s ≡ call_state_of x s.before s.frames s.past
    → x.terms.plain ≡ true
    → (P : Step CallState → Bool → Type 0)
    → P (video_step by_ends (call_state_of x s.before s.frames s.past) (inputs Video))
    (may_read (call_state_of x s.before s.frames s.past)) → P (talk_step s inputs) (may_read s)
plainly x s inputs is plain P holds =
    let here = call_state_of x s.before s.frames s.past in
    let same : talk_step here inputs ≡ video_step by_ends here (inputs Video) =
    ap (λ (b : Bool). if b then video_step by_ends here (inputs Video) else trace_step by_ends here inputs
    (inputs Events)) plain
    in
    subst (λ (y : CallState). P (talk_step y inputs) (may_read y)) (sym is)
    (subst (λ (step : Step CallState). P step (may_read here)) (sym same) holds)

-- or of a recorded one
pub line_by_line : (x : CallParts) (s : CallState) (inputs : Role → List ℕ) → s ≡ call_state_of x s.before s.frames
    s.past
    → x.terms.plain ≡ false
    → (P : Step CallState → Bool → Type 0)
    → P (trace_step by_ends (call_state_of x s.before s.frames s.past) inputs (inputs Events))
    (may_read (call_state_of x s.before s.frames s.past)) → P (talk_step s inputs) (may_read s)
line_by_line x s inputs is recorded P holds =
    let here = call_state_of x s.before s.frames s.past in
    let same : talk_step here inputs ≡ trace_step by_ends here inputs (inputs Events) =
    ap (λ (b : Bool). if b then video_step by_ends here (inputs Video) else trace_step by_ends here inputs
    (inputs Events)) recorded
    in
    subst (λ (y : CallState). P (talk_step y inputs) (may_read y)) (sym is)
    (subst (λ (step : Step CallState). P step (may_read here)) (sym same) holds)

-- ---- what holds of the frames that were read

pub done_now : (x : CallParts) (s : CallState) → ((later : List Frame) → HasDone x s.before (s.frames ++ later) s.past)
    → HasDone x s.before s.frames s.past
done_now x s holds = subst (λ (l : List Frame). HasDone x s.before l s.past) (append-nil s.frames) (holds [])

-- the line of the counts is that of the state
pub counts_are : (x : CallParts) → WayLaws x.terms.params → (s : CallState) (inputs : Role → List ℕ)
    → PartsStand x s inputs
    → counts_of (tally_of (way_of x.link.network)) x.receiver.played x.sender.sent
    ≡ call_text (by_ends (call_state_of x s.before s.frames s.past))
counts_are x laws s inputs k =
    let h = (done_now x s k.holds).way_holds in
    let played = laws.played x.sender x.receiver s.before s.frames s.past h.joined in
    let sent = laws.sent x.sender x.receiver s.before s.frames s.past h.joined in
    λ i. counts_text (played i) (sent i) (h.tally.exact i) (h.tally.patched i) (h.tally.held i)

-- ---- what is kept at the end

once : (ph : Phase) (P : Type 0) → P → OnceSettled ph P
once finished P p = p
once refused P p = p
once unread P p = tt
once unwritten P p = tt
once starved P p = tt
once unasked P p = tt
once (unopened role) P p = tt

pub ends_stand : (x : CallParts) (s : CallState) (inputs : Role → List ℕ) → PartsStand x s inputs
    → EndsStand x.terms x.sender x.receiver s
ends_stand x s inputs k = (done_now x s k.holds).way_holds.joined

-- ---- why a turn stops

pub video_answers : (plain : Bool) (stop : VideoStop) → IsAnswer plain (video_stop stop)
video_answers plain video.Read = tt
video_answers plain (video.Refused fault) = tt

pub trace_answers : (plain : Bool) → plain ≡ false → (stop : TraceStop) → IsAnswer plain (trace_stop stop)
trace_answers plain recorded trace.Read = tt
trace_answers plain recorded (trace.Bad line) = recorded
trace_answers plain recorded (trace.TooMany line) = recorded

-- ---- what a turn gives that stops

module _ (step : Step CallState) (stands : CallState → (Role → List ℕ) → Type 0) (now : Bool) (inputs : Role
    → List ℕ) (old new : Outside) where
  pub given_up : (r : Result Bool Status) (status : Status) → IsErrAnd r (λ z. z ≡ status)
      → GivesUp (phase status) status step now inputs old new → TurnGives r step stands may_read now inputs old new
  given_up (Ok b) status is gives = absurd is
  given_up (Err z) status is gives = subst (λ (w : Status). GivesUp (phase w) w step now inputs old new) (sym is) gives

  pub written_in_part : (r : Result Bool Status) (status : Status) → IsErrAnd r (λ z. z ≡ status) → status ≡ WriteFault
      → GainsFronts (step_texts step) old.written new.written → TurnGives r step stands may_read now inputs old new
  written_in_part r status is kind gains =
      given_up r status is (subst (λ (w : Status). GivesUp (phase w) w step now inputs old new) (sym kind) gains)

-- ---- turns

module _ (x y : World) (mid new : Outside) (Begins : Outside → CallState → (Role → List ℕ) → Type 0)
    (step : CallState → (Role → List ℕ) → Step CallState) (reads : CallState → Bool) (more : ℕ) where
  -- one that gives up
  pub gave_up : (r : Result Bool Status) (status : Status) → IsErrAnd r (λ z. z ≡ status) → names_of y ≡ names_of x
      → IsAnswer x.terms.plain status → IsStop status → HasCause status mid.faults new.faults → KeepsRoles mid new
      → ((old : Outside) (s : CallState) (inputs : Role → List ℕ) → Begins old s inputs
      → GivesUp (phase status) status (step s inputs) (reads s) inputs old new)
      → LeavesEnds x y
      → IsTurn x y r mid new Begins step reads more
  gave_up (Ok b) status is names answers stop cause rest gives keeps = absurd is
  gave_up (Err z) status is names answers stop cause rest gives keeps =
      subst (λ (w : Status). IsTurn x y (Err w) mid new Begins step reads more) (sym is) (record {
        gives = gives;
        whole = λ old s inputs k. tt;
        keeps = once (phase status) (LeavesEnds x y) keeps;
        lasts = names;
        falls = tt;
        ready = tt;
        answers = answers;
        stop = stop;
        cause = cause;
        rest = rest;
      })

  -- one that can't write: what was kept is not asked
  pub was_cut : (r : Result Bool Status) (status : Status) → IsErrAnd r (λ z. z ≡ status) → names_of y ≡ names_of x
      → status ≡ WriteFault → Rose mid.faults.write new.faults.write → KeepsRoles mid new
      → ((old : Outside) (s : CallState) (inputs : Role → List ℕ) → Begins old s inputs
      → GainsFronts (step_texts (step s inputs)) old.written new.written)
      → IsTurn x y r mid new Begins step reads more
  was_cut (Ok b) status is names kind rose rest gives = absurd is
  was_cut (Err z) status is names kind rose rest gives =
      subst (λ (w : Status). IsTurn x y (Err w) mid new Begins step reads more) (sym (is ∙ kind)) (record {
        gives = gives;
        whole = λ old s inputs k. tt;
        keeps = tt;
        lasts = names;
        falls = tt;
        ready = tt;
        answers = tt;
        stop = tt;
        cause = rose;
        rest = rest;
      })

  -- one that goes on
  pub goes_on : names_of y ≡ names_of x → more_of (call_parts y) + 1 ≡ more → PartsReady (call_parts y) new.attached
      → KeepsRoles mid new
      → ((old : Outside) (s : CallState) (inputs : Role → List ℕ) → Begins old s inputs
      → Went (step s inputs) (PartsStand (call_parts y)) may_read (reads s) inputs old new)
      → IsTurn x y (Ok true) mid new Begins step reads more
  goes_on names falls ready rest gives = record {
    gives = gives;
    whole = λ old s inputs k. tt;
    keeps = tt;
    lasts = names;
    falls = falls;
    ready = ready;
    answers = tt;
    stop = tt;
    cause = tt;
    rest = rest;
  }

  -- one that ends the call
  pub is_over : names_of y ≡ names_of x → KeepsRoles mid new
      → ((old : Outside) (s : CallState) (inputs : Role → List ℕ) → Begins old s inputs
      → Ended (step s inputs) Fine inputs old new)
      → ((old : Outside) (s : CallState) (inputs : Role → List ℕ) → Begins old s inputs → new.left (source_of x.terms)
      ≡ Some [])
      → LeavesEnds x y
      → IsTurn x y (Ok false) mid new Begins step reads more
  is_over names rest gives whole keeps = record {
    gives = gives;
    whole = whole;
    keeps = keeps;
    lasts = names;
    falls = tt;
    ready = tt;
    answers = tt;
    stop = tt;
    cause = tt;
    rest = rest;
  }

-- ---- whole turns

begun : (x : CallParts) (now : Outside) (P : Outside → CallState → (Role → List ℕ) → Type 0)
    → ((s : CallState) (inputs : Role → List ℕ) → PartsStand x s inputs → Tells now inputs → P now s inputs)
    → (old : Outside) (s : CallState) (inputs : Role → List ℕ) → IsTurnBegun x now old s inputs → P old s inputs
begun x now P at old s inputs b = subst (λ (o : Outside). P o s inputs) (sym b.same) (at s inputs b.stands b.told)

module _ (x y : World) (old new : Outside) where
  pub turn_gave_up : (r : Result Bool Status) (status : Status) → IsErrAnd r (λ z. z ≡ status) → names_of y ≡ names_of x
      → IsAnswer x.terms.plain status → IsStop status → HasCause status old.faults new.faults → KeepsRoles old new
      → ((s : CallState) (inputs : Role → List ℕ) → PartsStand (call_parts x) s inputs → Tells old inputs
      → GivesUp (phase status) status (talk_step s inputs) (may_read s) inputs old new)
      → LeavesEnds x y
      → TakesTurn x y r old new
  turn_gave_up r status is names answers stop cause rest gives keeps =
      gave_up x y old new _ _ _ _ r status is names answers stop cause rest
      (begun (call_parts x) old (λ o s inputs. GivesUp (phase status) status (talk_step s inputs)
      (may_read s) inputs o new) gives)
      keeps

  pub turn_was_cut : (r : Result Bool Status) (status : Status) → IsErrAnd r (λ z. z ≡ status) → names_of y ≡ names_of x
      → status ≡ WriteFault → Rose old.faults.write new.faults.write → KeepsRoles old new
      → ((s : CallState) (inputs : Role → List ℕ) → PartsStand (call_parts x) s inputs → Tells old inputs
      → GainsFronts (step_texts (talk_step s inputs)) old.written new.written)
      → TakesTurn x y r old new
  turn_was_cut r status is names kind rose rest gives =
      was_cut x y old new _ _ _ _ r status is names kind rose rest
      (begun (call_parts x) old (λ o s inputs. GainsFronts (step_texts (talk_step s inputs)) o.written new.written)
      gives)

  pub turn_is_over : names_of y ≡ names_of x → KeepsRoles old new
      → ((s : CallState) (inputs : Role → List ℕ) → PartsStand (call_parts x) s inputs → Tells old inputs
      → Ended (talk_step s inputs) Fine inputs old new)
      → ((s : CallState) (inputs : Role → List ℕ) → PartsStand (call_parts x) s inputs → Tells old inputs
      → new.left (source_of x.terms) ≡ Some [])
      → LeavesEnds x y
      → TakesTurn x y (Ok false) old new
  turn_is_over names rest gives whole keeps =
      is_over x y old new _ _ _ _ names rest
      (begun (call_parts x) old (λ o s inputs. Ended (talk_step s inputs) Fine inputs o new) gives)
      (λ o s inputs b. whole s inputs b.stands b.told)
      keeps
