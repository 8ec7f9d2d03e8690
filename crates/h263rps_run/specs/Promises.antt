-- What is promised of a run of the program, clause by clause.
use Rattle.std.specs.Prelude.{ℕ, ◌≡◌, ◌⊎◌, true, List, Option, Some, None}
use Rattle.h263_outside.specs.Desk.{NoneAttached, Outside, SomeRose}
use Rattle.h263_outside.specs.declared.desk.Role.{Role}
use Rattle.h263_outside.specs.declared.desk.Role.TheVariants.{Video, Video2, Report}
use Rattle.y4m.specs.declared.fault.Y4mFault.{Y4mFault}
use Rattle.y4m.specs.Video.{video_fault}
use Rattle.call_report.specs.declared.status.Status.{Status}
use Rattle.call_report.specs.declared.status.Status.TheVariants.{OutOfMemory, Usage, VideoRefused, Video2Refused}
use Rattle.call_report.specs.Status.{code_of, phase, before_reading}
use Rattle.command_words.specs.Asked.{Asked}
use Rattle.command_words.specs.declared.command.Command.{Command}
use Rattle.desk_program.specs.Run.{Run}
use Rattle.desk_program.specs.Ends.{Tells, HasCause, IsReadOut}
use Rattle.desk_program.specs.Attached.{AttachedAt}
use Rattle.desk_program.specs.Lines.{end_text}
use Rattle.h263rps_run.specs.Output.{output_of, order_from, run_of_command, source_from}
use Rattle.desk_program.specs.Promises.{HasPrefixes, HasStatus, HasTexts, IsFlushed, IsSettled, IsStopped, ReadsNothing, TakesInput}

-- no role is attached, and nothing was written
pub record IsUnbegun (old new : Outside) : Type 0 where
  pub attached : NoneAttached new.attached
  pub written : new.written ≡ old.written

-- each output has the texts of some first turns, the same for all, with the line of the status; or it
-- was cut in what came next
abbrev pub IsCutOff : Run → Status → Outside → Outside → Type 0
IsCutOff run status old new = HasPrefixes run end_text status old.written new.written ⊎ IsUnbegun old new

-- What is promised of a run with such an output, by what its inputs hold, whose roles are attached
-- in such an order, and which waits for the end of such an input.
pub record IsRunOf (output : (Role → List ℕ) → Run) (order : List (Role × List ℕ)) (source : Option Role)
    (result : Status) (old new : Outside) : Type 0 where
  -- with no fault of the desk the status is that of the output, or want of memory
  pub status : (inputs : Role → List ℕ) → Tells old inputs → HasStatus (output inputs) result old.faults new.faults
  -- at the end of the input and after a refusal exactly the texts of the output were written
  pub texts : (inputs : Role → List ℕ) → Tells old inputs → IsSettled result
      → HasTexts (output inputs) end_text result old.written new.written
  -- after want of memory and a fault of a read or a write a prefix of each was written
  pub prefixes : (inputs : Role → List ℕ)
      → Tells old inputs → IsStopped result → IsCutOff (output inputs) result old new
  -- where the words are no command, or a role could not be attached, nothing was read, and that line
  -- alone was written
  pub unread : before_reading (phase result) ≡ true → ReadsNothing result old new
  -- unless a write failed, all that was written was then seen to have come to its place
  pub flushed : new.attached Report ≡ true → IsFlushed result new
  -- each fault has its cause, and want of memory comes with no fault of the desk, whatever it tells
  pub causes : HasCause result old.faults new.faults
  -- the first roles of the order are attached, each by its name
  pub attached : AttachedAt order result new
  -- Ok says that the input was read to its end
  pub whole_input : (inputs : Role → List ℕ) → Tells old inputs → IsReadOut result source new
  -- just what the output takes is gone; after a failed read the texts are those of what was taken whole
  pub taken_input : (inputs : Role → List ℕ) → Tells old inputs
      → TakesInput result (output inputs) end_text inputs old.written new

-- what is promised of a run with these words, of which a command was asked or not
pub record IsRun (asked : Option Asked) (result : Status) (old new : Outside) : Type 0 where
  pub run : IsRunOf (output_of asked) (order_from asked) (source_from asked) result old new
  -- the words are no command where Usage comes, whatever the desk tells; where they are none Usage
  -- comes, or want of memory, or a fault of the desk
  pub usage : result ≡ Usage → asked ≡ None
  pub no_command : asked ≡ None → (result ≡ Usage) ⊎ (result ≡ OutOfMemory) ⊎ SomeRose old.faults new.faults
  -- a refused video has that fault, and no earlier one
  pub refused : (inputs : Role → List ℕ) → Tells old inputs → (fault : Y4mFault) → result ≡ VideoRefused fault
      → video_fault (inputs Video) ≡ Some fault
  -- and so has the second video
  pub second_refused : (inputs : Role → List ℕ) → Tells old inputs → (fault : Y4mFault) → result ≡ Video2Refused fault
      → video_fault (inputs Video2) ≡ Some fault

-- where a command's run refuses a video, the video has that fault
pub record IsRefusedRightly (c : Command) : Type 0 where
  pub first : (inputs : Role → List ℕ) (fault : Y4mFault) → (run_of_command c inputs).last.status ≡ VideoRefused fault
      → video_fault (inputs Video) ≡ Some fault
  pub second : (inputs : Role → List ℕ) (fault : Y4mFault) → (run_of_command c inputs).last.status ≡ Video2Refused fault
      → video_fault (inputs Video2) ≡ Some fault

-- the exit status is that of a run with these words
pub record IsExit (asked : Option Asked) (code : ℕ) (old new : Outside) : Type 0 where
  pub result : Status
  pub code_is : code ≡ code_of result
  pub run : IsRun asked result old new
