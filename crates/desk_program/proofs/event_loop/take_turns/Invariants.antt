use Rattle.std.proofs.Common.{◌≡◌, ℕ, List, Option}
use Rattle.h263_outside.specs.declared.desk.Role.{Role}
use Rattle.desk_program.specs.Run.{Run}
use Rattle.desk_program.specs.Ends.{KeepsRoles}
use Rattle.desk_program.specs.UnderWay.{IsUnderWay, EndsIn}
use Rattle.desk_program.proofs.event_loop.take_turns.Given as goal

abbrev pub invariant-loop-status : goal.invariant-loop-status
invariant-loop-status g l =
    let outside = g.D.Desk.outside in
    let m = g.M.Turns in
    record {
      plays : (run : Run) (inputs : Role → List ℕ) (start : Role → Option (List ℕ))
          → IsUnderWay m.step m.reads run inputs start (m.stands l.fn.machine) (m.more l.fn.machine) (outside l.fn.desk)
          → IsUnderWay m.step m.reads run inputs start (m.stands l.machine) (m.more l.machine) (outside l.desk);
      ends : (final : m.State) → EndsIn m.step final (m.stands l.fn.machine) (m.more l.fn.machine) (outside l.fn.desk)
          → EndsIn m.step final (m.stands l.machine) (m.more l.machine) (outside l.desk);
      stays : (first : g.row.M.Denot) → m.stays first l.fn.machine → m.stays first l.machine;
      ready : m.ready l.machine (outside l.desk).attached;
      source : m.reading l.machine ≡ m.reading l.fn.machine;
      rest : KeepsRoles (outside l.fn.desk) (outside l.desk);
    }

abbrev pub decreases-loop-status : goal.decreases-loop-status
decreases-loop-status g l = g.M.Turns.more l.machine
