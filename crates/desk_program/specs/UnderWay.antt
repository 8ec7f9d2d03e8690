-- A run in its middle.
use Rattle.std.specs.Prelude.{ℕ, ◌≡◌, Bool, true, List, ◌++◌, Option, All}
use Rattle.h263_outside.specs.Desk.{Outside}
use Rattle.h263_outside.specs.declared.desk.Role.{Role}
use Rattle.desk_program.specs.Run.{Turn, Step, Run, machine_run, end_state, left_after, texts_of, taken_of, IsWholeTurn}
use Rattle.desk_program.specs.Ends.{Tells, Gains}

-- some turns of the run are done, and the others are those of the state that the machine keeps in
-- mind, over what is left
pub record IsUnderWay {State : Type 0} (step : State → (Role → List ℕ) → Step State)
    (reads : State → Bool) (run : Run) (inputs : Role → List ℕ) (start : Role → Option (List ℕ))
    (stands : State → (Role → List ℕ) → Type 0) (more : ℕ) (now : Outside) : Type 0 where
  pub done : List Turn
  pub state : State
  pub rest : Role → List ℕ
  pub kept : stands state rest
  pub turns : done ++ (machine_run step more state rest).turns ≡ run.turns
  pub last : (machine_run step more state rest).last ≡ run.last
  pub place : rest ≡ left_after inputs (taken_of done)
  pub told : Tells now rest
  pub whole : reads state ≡ true → All IsWholeTurn done
  pub written : Gains (texts_of done) start now.written

-- besides, it will end in this state
pub record EndsIn {State : Type 0} (step : State → (Role → List ℕ) → Step State) (final : State)
    (stands : State → (Role → List ℕ) → Type 0) (more : ℕ) (now : Outside) : Type 0 where
  pub state : State
  pub rest : Role → List ℕ
  pub kept : stands state rest
  pub told : Tells now rest
  pub ends : end_state step more state rest ≡ final

-- what a machine has left that stood at this state before its last turn
pub record LeftIn {Machine State : Type 0} (stands : Machine → State → (Role → List ℕ) → Type 0)
    (leaves : Machine → Machine → Type 0) (final : State) (new : Machine) : Type 0 where
  pub last : Machine
  pub rest : Role → List ℕ
  pub stood : stands last final rest
  pub left : leaves last new
