use Rattle.std.proofs.Common.{◌≡◌, ◌≤◌, ◌-◌, length, take, IfSome}
use Rattle.h263_outside.specs.Desk.{consumed, OnlyReads}
use Rattle.h263_outside.proofs.whole.read_full.Given as goal

abbrev pub invariant-loop-done : goal.invariant-loop-done
invariant-loop-done g l =
    let outside = g.D.Desk.outside in
    record {
      within : l.done ≤ length l.buf;
      front : IfSome ((outside l.fn.desk).left l.role) (λ left. (l.done ≤ length left)
          × (take l.done l.buf ≡ take l.done left));
      lost : (outside l.desk).left ≡ consumed (outside l.fn.desk).left l.role l.done;
      faults : (outside l.desk).faults ≡ (outside l.fn.desk).faults;
      rest : OnlyReads (outside l.fn.desk) (outside l.desk);
    }

abbrev pub decreases-loop-done : goal.decreases-loop-done
decreases-loop-done g l = length l.initial.buf - l.done
