-- The settings of a run stay.
use Rattle.std.proofs.Common.{◌≡◌, ℕ, ◌≤◌, ap, ◌∙◌, arith}
use Rattle.h263_types.specs.declared.params.Params.{Params}
use Rattle.stream_numbers.specs.declared.rate.Rate.{Rate}
use Rattle.session_intake.specs.declared.settings.Settings.{Settings}
use Rattle.session_runs.specs.declared.kept.KeptRun.{KeptRun}
use Rattle.session_runs.specs.declared.three.ThreeRuns.{ThreeRuns}
use Rattle.session_runs.specs.Histories.{Config}
use Rattle.session_runs.specs.Kept.{IsKeptRun}
use Rattle.session_runs.specs.Three.{AreKept}

abbrev pub made : Params → Rate → ℕ → ℕ → Config
made p r lead wait = record { params = p; rate = r; lead = lead; wait = wait }

pub same : (p q : Params) (r t : Rate) (l m w v : ℕ) → p ≡ q → r ≡ t → l ≡ m → w ≡ v → made p r l w ≡ made q t m v
same p q r t l m w v a b c d =
    ap (λ (x : Params). made x r l w) a ∙ ap (λ (x : Rate). made q x l w) b
    ∙ ap (λ (x : ℕ). made q t x w) c ∙ ap (λ (x : ℕ). made q t m x) d

pub later : (s : Settings) (n m : ℕ) (k : KeptRun) → n ≤ m → IsKeptRun s n k → IsKeptRun s m k
later s n m k i x =
    let j = x.last in
    let l : k.run.timed.times.last ≤ m = omega arith in
    record { run = x.run; config = x.config; last = l; few = x.few }

pub all_later : (s : Settings) (n m : ℕ) (t : ThreeRuns) → n ≤ m → AreKept s n t → AreKept s m t
all_later s n m t i x =
    record {
      followed = later s n m t.followed i x.followed;
      former = later s n m t.former i x.former;
      tried = later s n m t.tried i x.tried;
    }
