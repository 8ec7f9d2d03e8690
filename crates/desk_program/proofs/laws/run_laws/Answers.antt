use Rattle.std.proofs.Common.{ℕ, refl, sym, subst}
use Rattle.call_report.specs.declared.status.Status.TheVariants.{OutOfMemory}
use Rattle.call_report.specs.Status.{phase}
use Rattle.call_report.specs.Status.Phase.{starved}
use Rattle.desk_program.specs.Laws.{IsFrom}
use Rattle.desk_program.specs.Run.{run_from}
use Rattle.desk_program.specs.UnderWay.{IsUnderWay}
use Rattle.desk_program.proofs.Running.{at_start, gives_up, started, stops}
use Rattle.desk_program.proofs.laws.run_laws.Goals as goal

pub returns : goal.returns
returns g c =
    let stands = g.M.Turns.stands in
    record {
      begins = λ machine first step reads most inputs old new is w.
          subst (λ (n : ℕ). IsUnderWay step reads (run_from first step most inputs) inputs old.written
          (stands machine) n new) (sym is)
          (started first step reads most inputs old new (stands machine) w);
      begins_from = λ from first step reads most inputs old new w. started first step reads most inputs old new
          (IsFrom from) w;
      gives_up = λ first step most inputs old new status e. gives_up _ _ _ _ _ old new _
          (at_start first step most inputs old) (phase status) status e;
      no_memory = λ from step reads run inputs start more now p. stops step reads run inputs start now now
          (IsFrom from) more p starved OutOfMemory refl;
    }
