-- What holds of the level and of the quantiser that follows it.
use Rattle.std.specs.Prelude.{◌≡◌, ℕ, ◌+◌, ◌*◌, ◌≤◌, ◌↔◌, List, ◌++◌, length, sum}
use Rattle.rate_control.specs.Level.{level_of, bucket_quant, NoneShrinks}

-- no suffix has more bytes than its target and the level together
abbrev pub BoundsSuffixes : ℕ → List ℕ → Type 0
BoundsSuffixes target sizes =
    (front back : List ℕ) → front ++ back ≡ sizes
    → sum back ≤ level_of target sizes + length back * target

-- some suffix has exactly this many
pub record IsSuffixReached (target : ℕ) (sizes : List ℕ) : Type 0 where
  pub front : List ℕ
  pub back : List ℕ
  pub whole : front ++ back ≡ sizes
  pub same : sum back ≡ level_of target sizes + length back * target

abbrev pub LevelIsGreatest : Type 0
LevelIsGreatest = (target : ℕ) (sizes : List ℕ) → BoundsSuffixes target sizes × IsSuffixReached target sizes

-- where no size shrinks, neither does the quantiser
abbrev pub NeverFiner : Type 0
NeverFiner =
    (target first : ℕ) (before after : List ℕ) → NoneShrinks before after
    → bucket_quant target first before ≤ bucket_quant target first after

-- a greater target never gives a coarser quantiser
abbrev pub NeverCoarser : Type 0
NeverCoarser =
    (target greater first : ℕ) (sizes : List ℕ) → 1 ≤ target → target ≤ greater
    → bucket_quant greater first sizes ≤ bucket_quant target first sizes

-- no suffix has more bytes than its length times the target
abbrev pub IsCalm : ℕ → List ℕ → Type 0
IsCalm target sizes =
    (front back : List ℕ) → front ++ back ≡ sizes → sum back ≤ length back * target

abbrev pub CalmExactly : Type 0
CalmExactly = (target : ℕ) (sizes : List ℕ) → (level_of target sizes ≡ 0) ↔ IsCalm target sizes
