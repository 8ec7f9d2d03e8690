-- What is kept of all that came.
use Rattle.std.specs.Prelude.{◌≡◌, ℕ, zero, suc, ◌+◌, ◌<◌, ◌≤◌, ◌==◌, Bool, List, [], ◌∷◌, map, filter, length, slice_index}
use Rattle.std.specs.List.{AllByRecursion}
use Rattle.playout_times.specs.declared.arrival.Arrival.{Arrival}
use Rattle.playout_times.specs.declared.recent.Recent.{Recent}
use Rattle.playout_times.specs.declared.runs.Runs.{Runs}
use Rattle.playout_times.specs.declared.times.Times.{Times}
use Rattle.playout_times.specs.Ways.{least_number, ways, quarter_of, runs}

-- ---- the least ways

-- it came so many quarters of a second before this one
abbrev pub is_before : ℕ → ℕ → Arrival → Bool
is_before gone quarter a = (quarter_of a.at + gone) == quarter

-- the least way of those
abbrev pub least_before : ℕ → ℕ → List Arrival → ℕ
least_before gone quarter past = least_number (ways (filter (is_before gone quarter) past))

-- a quarter of a second and the two before, each by its least way
pub record RecentStands (r : Recent) (quarter : ℕ) (past : List Arrival) : Type 0 where
  pub this : r.this ≡ least_before 0 quarter past
  pub before : r.before ≡ least_before 1 quarter past
  pub earlier : r.earlier ≡ least_before 2 quarter past
  pub order : AllByRecursion (λ a. quarter_of a.at ≤ quarter) past

-- the least way of a run, the last one being number 0
abbrev pub least_of_run : ℕ → List (List Arrival) → ℕ
least_of_run n [] = least_number []
least_of_run zero (run ∷ before) = least_number (ways run)
least_of_run (suc n) (run ∷ before) = least_of_run n before

-- the newest arrival, if there is one, is of this picture
abbrev pub IsOfPicture : ℕ → List Arrival → Type 0
IsOfPicture picture [] = Unit {0}
IsOfPicture picture (a ∷ past) = a.picture ≡ picture

pub record RunsStand (r : Runs) (past : List Arrival) : Type 0 where
  pub picture : IsOfPicture r.picture past
  pub last : r.last ≡ least_of_run 0 (runs past)
  pub before : r.before ≡ least_of_run 1 (runs past)
  pub earlier : r.earlier ≡ least_of_run 2 (runs past)

-- ---- the times of capture

-- the earliest time that a packet of this picture says
abbrev pub captured_of : ℕ → List Arrival → ℕ
captured_of picture past = least_number (map (λ a. a.captured) (filter (λ a. a.picture == picture) past))

-- these are the times of the next 64 pictures, and nothing came of a later one
pub record CapturesStand (captured : List ℕ) (next : ℕ) (past : List Arrival) : Type 0 where
  pub long : length captured ≡ 64
  pub each : (k : ℕ) → k < 64 → slice_index captured k ≡ captured_of (next + k) past
  pub near : AllByRecursion (λ a. a.picture < next + 64) past

-- ---- all of it

-- both times are below 2^62
pub record IsTimed (a : Arrival) : Type 0 where
  pub captured : a.captured < 4611686018427387904
  pub at : a.at < 4611686018427387904

-- the newest arrival, if there is one, came then
abbrev pub IsNewestArrival : ℕ → List Arrival → Type 0
IsNewestArrival time [] = Unit {0}
IsNewestArrival time (a ∷ past) = a.at ≡ time

-- these arrivals came, the newest first
pub record TimesStand (t : Times) (past : List Arrival) : Type 0 where
  pub newest : IsNewestArrival t.last past
  pub recent : RecentStands t.recent (quarter_of t.last) past
  pub runs : RunsStand t.runs past
  pub captured : CapturesStand t.captured t.next past
  pub timed : AllByRecursion IsTimed past
  pub wait : t.wait < 4611686018427387904

-- what may come: no earlier than what came before, and of no picture that is more than 63 after the
-- next one
pub record MayCome (t : Times) (a : Arrival) : Type 0 where
  pub timed : IsTimed a
  pub order : t.last ≤ a.at
  pub near : a.picture < t.next + 64
