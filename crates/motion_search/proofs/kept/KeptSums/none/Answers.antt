use Rattle.std.proofs.Common.{arith, ℕ}
use Rattle.std.proofs.lemmas.List.{length-replicate}
use Rattle.motion_search.proofs.Held.{zeros_small}
use Rattle.motion_search.proofs.kept.KeptSums.none.Goals as goal

pub returns : goal.returns
returns c = λ p.
    record {
      whole = length-replicate {A = ℕ} 14976 0;
      order = omega arith;
      room = omega arith;
      sums = λ x k hx hk. absurd (omega (arith, hk));
      small = zeros_small 14976;
    }
