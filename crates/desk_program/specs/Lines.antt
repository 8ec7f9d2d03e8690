-- The line with which a run ends, on its report.
use Rattle.std.specs.Prelude.{ℕ, ◌≡◌, ◌⊎◌, true, List, [], if◌then◌else◌}
use Rattle.h263_outside.specs.Desk.{Outside, is_role, appended, GainsFront, Rose}
use Rattle.h263_outside.specs.declared.desk.Role.{Role}
use Rattle.h263_outside.specs.declared.desk.Role.TheVariants.{Report}
use Rattle.call_report.specs.declared.status.Status.{Status}
use Rattle.call_report.specs.declared.status.Status.TheVariants.{WriteFault}
use Rattle.call_report.specs.Text.{status_text}

-- what an end writes: its line on the report
abbrev pub end_text : Status → Role → List ℕ
end_text status r = if is_role Report r then status_text status else []

-- the line of the status was written, with no fault, and then all was flushed
pub record IsTold (status result : Status) (old new : Outside) : Type 0 where
  pub same : result ≡ status
  pub written : new.written ≡ appended old.written Report (status_text status)
  pub flushed : new.flushed ≡ true
  pub faults : new.faults ≡ old.faults

-- a prefix of it was written, or it wasn't flushed, and the run ends with that fault
pub record IsUntold (status result : Status) (old new : Outside) : Type 0 where
  pub fault : result ≡ WriteFault
  pub written : GainsFront Report (status_text status) old.written new.written
  pub cause : Rose old.faults.write new.faults.write

abbrev pub Finishes : Status → Status → Outside → Outside → Type 0
Finishes status result old new = IsTold status result old new ⊎ IsUntold status result old new
