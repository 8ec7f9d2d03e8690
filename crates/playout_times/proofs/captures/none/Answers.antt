use Rattle.std.proofs.Common.{ℕ}
use Rattle.std.proofs.lemmas.List.{get_or-replicate, length-replicate}
use Rattle.playout_times.proofs.captures.none.Goals as goal

pub returns : goal.returns
returns c = λ next.
    record {
      long = length-replicate {A = ℕ} 64 18446744073709551615;
      each = λ k h. get_or-replicate {A = ℕ} 64 k 18446744073709551615 0 h;
      near = tt;
    }
