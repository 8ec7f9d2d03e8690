use Rattle.std.proofs.Common.{◌≡◌, ◌≢◌, ℕ, List, drop, Some}
use Rattle.h263_outside.specs.Desk.{OnlyReads}
use Rattle.h263_outside.specs.declared.desk.Role.{Role}
use Rattle.h263_outside.specs.declared.desk.Role.TheVariants.{Events}
use Rattle.loss_trace.proofs.Firsts.{Came}
use Rattle.loss_trace.proofs.input.read_line.Given as goal

abbrev pub invariant-loop-i : goal.invariant-loop-i
invariant-loop-i g l =
    let outside = g.D.Desk.outside in
    record {
      told : (left : List ℕ) → (outside l.fn.desk).left Events ≡ Some left
          → Came left l.line l.i × ((outside l.desk).left Events ≡ Some (drop l.i left));
      others : (r : Role) → r ≢ Events → (outside l.desk).left r ≡ (outside l.fn.desk).left r;
      rest : OnlyReads (outside l.fn.desk) (outside l.desk);
    }
