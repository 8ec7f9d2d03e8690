-- What a machine makes of its inputs: a list of turns, and an end.
use Rattle.std.specs.Prelude.{ℕ, zero, suc, ◌+◌, ◌≡◌, Bool, true, List, [], ◌∷◌, ◌++◌, drop, Option, Some, None, if◌then◌else◌}
use Rattle.std.specs.List.{flat_map}
use Rattle.h263_outside.specs.Desk.{is_role}
use Rattle.h263_outside.specs.declared.desk.Role.{Role}
use Rattle.call_report.specs.declared.status.Status.{Status}
use Rattle.call_report.specs.declared.status.Status.TheVariants.{Ok as Fine}

-- one event that was handled: the bytes that it took of each input, whether these show by
-- themselves where it ends, and its text on each output
pub record Turn : Type 0 where
  pub taken : Role → ℕ
  pub whole : Bool
  pub texts : Role → List ℕ

-- the end: the status, the bytes that it took of each input as far as that is said, and its text on each output
pub record End : Type 0 where
  pub status : Status
  pub taken : Role → Option ℕ
  pub texts : Role → List ℕ

-- what a machine does next: it handles an event and goes on, or it ends
pub data Step (State : Type 0) : Type 0 where
  Goes : (next : State) (turn : Turn) → Step State
  Ends : (last : End) → Step State

-- all that it does
pub record Run : Type 0 where
  pub turns : List Turn
  pub last : End

-- what is left of each input after this many bytes
abbrev pub left_after : (Role → List ℕ) → (Role → ℕ) → Role → List ℕ
left_after inputs taken r = drop (taken r) (inputs r)

-- nothing at all
abbrev pub silence : Run
silence = record { turns = []; last = record { status = Fine; taken = λ _. None; texts = λ _. [] } }

abbrev pub follow : {State : Type 0} → Step State → (State → (Role → ℕ) → Run) → Run
follow (Goes next turn) rest =
    record { turns = turn ∷ (rest next turn.taken).turns; last = (rest next turn.taken).last }
follow (Ends last) rest = record { turns = []; last = last }

-- the run of a machine from a state, over what is left of each input, where this many turns may come before the end
unfoldable pub machine_run : {State : Type 0} → (State → (Role → List ℕ) → Step State) → ℕ → State → (Role → List ℕ)
    → Run
machine_run turn zero s inputs = follow (turn s inputs) (λ next taken. silence)
machine_run turn (suc n) s inputs = follow (turn s inputs) (λ next taken. machine_run turn n next
    (left_after inputs taken))

abbrev pub follow_state : {State : Type 0} → Step State → State → (State → (Role → ℕ) → State) → State
follow_state (Goes next turn) s rest = rest next turn.taken
follow_state (Ends last) s rest = s

-- the state in which it ends
unfoldable pub end_state : {State : Type 0}
    → (State → (Role → List ℕ) → Step State) → ℕ → State → (Role → List ℕ) → State
end_state turn zero s inputs = s
end_state turn (suc n) s inputs =
    follow_state (turn s inputs) s (λ next taken. end_state turn n next (left_after inputs taken))

-- the run of a command whose first step is this one
abbrev pub run_from : {State : Type 0} → Step State → (State → (Role → List ℕ) → Step State) → ℕ → (Role → List ℕ) → Run
run_from first turn most inputs = follow first (λ next taken. machine_run turn most next (left_after inputs taken))

-- the text of some turns on one output
abbrev pub texts_of : List Turn → Role → List ℕ
texts_of turns r = flat_map (λ t. t.texts r) turns

-- the text of a whole run on one output
abbrev pub text_of : Run → Role → List ℕ
text_of run r = texts_of run.turns r ++ run.last.texts r

-- the bytes that some turns take of one input
abbrev pub taken_of : List Turn → Role → ℕ
taken_of [] r = 0
taken_of (t ∷ turns) r = t.taken r + taken_of turns r

-- where the turn ends can be seen by its own bytes
abbrev pub IsWholeTurn : Turn → Type 0
IsWholeTurn t = t.whole ≡ true

-- an end that refuses: it writes nothing, and of what it takes nothing is said
abbrev pub refusal : Status → End
refusal status = record { status = status; taken = λ _. None; texts = λ _. [] }

-- an end that refuses a video: of what it takes of that video nothing is said, and of each other input
-- it takes this much
abbrev pub video_refusal : Role → (Role → ℕ) → Status → End
video_refusal video before status =
    record {
      status = status;
      taken = λ r. if is_role video r then None else Some (before r);
      texts = λ _. [];
    }
