-- What is written of the packets that a receiver gets, up to a write that failed.
use Rattle.std.proofs.Common.{◌≡◌, ℕ, ◌≤◌, List, Option, Result, Ok, Err, IfErr, OnOk, OnErr}
use Rattle.h263_outside.specs.Desk.{Outside, OnlyWrites, Rose}
use Rattle.h263_outside.specs.declared.desk.Role.{Role}
use Rattle.call_report.specs.declared.status.Status.{Status}
use Rattle.call_report.specs.declared.status.Status.TheVariants.{WriteFault}
use Rattle.desk_program.specs.Ends.{Gains, GainsFronts}
use Rattle.desk_program.specs.Laws.{TurnLaws}
use Rattle.desk_program.specs.Texts.{then_also}
use Rattle.recv_command.specs.Join.{HasWritten, Wrote}

-- a count that rose after some calls rose since before them
abbrev pub RoseSince : Type 0
RoseSince = (a b c : ℕ) → a ≤ b → Rose b c → Rose a c

abbrev pub WritesOn : Type 0
WritesOn = (a b c : Outside) → OnlyWrites a b → OnlyWrites b c → OnlyWrites a c

-- a write after others
pub written_more : RoseSince → WritesOn → (r : Result (Unit {0}) Status) (old mid new : Outside) → OnlyWrites old mid
    → IfErr r (λ status. status ≡ WriteFault) → OnErr r (Rose mid.faults.write new.faults.write) → OnlyWrites mid new
    → HasWritten r old new
written_more since on (Ok done) old mid new before kind cause rest = record {
  kind = tt;
  cause = tt;
  rest = on old mid new before rest;
}
written_more since on (Err status) old mid new before kind cause rest =
    record {
      kind = kind;
      cause = since old.faults.write mid.faults.write new.faults.write before.faults.write cause;
      rest = on old mid new before rest;
    }

pub text_more : TurnLaws → (texts more : Role → List ℕ) (r : Result (Unit {0}) Status) (old mid new : Role
    → Option (List ℕ)) → Gains texts old mid
    → OnOk r (Gains more mid new) → OnErr r (GainsFronts more mid new) → Wrote (then_also texts more) r old new
text_more laws texts more (Ok done) old mid new before ok err =
    record { ok = laws.both_texts texts more old mid new before ok; err = tt }
text_more laws texts more (Err status) old mid new before ok err = record {
  ok = tt;
  err = laws.front_of_second texts more old mid new before err;
}
