use Rattle.std.proofs.Common.{arith, refl}
use Rattle.playout_times.proofs.times.Times.may_come.Goals as goal

pub returns : goal.returns
returns c = (
  λ t.
      record {
        timed = record { captured = omega arith; at = omega arith };
        order = omega arith;
        near = omega arith;
      },
  λ m. refl,
)
