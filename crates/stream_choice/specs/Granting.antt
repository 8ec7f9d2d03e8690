-- How many packets are looked at.
use Rattle.std.specs.Prelude.{◌≡◌, ℕ, ◌/◌, ◌==◌, ◌≤◌, Bool, List, [], ◌∷◌, count_by, nat_lt, if◌then◌else◌}
use Rattle.std.specs.List.{AllByRecursion}
use Rattle.stream_choice.specs.declared.budget.Budget.{Budget}

-- it lies in the same second of the clock
abbrev pub is_with : ℕ → ℕ → Bool
is_with now time = (time / 1000000000) == (now / 1000000000)

-- The times that are granted of those that are asked for, the newest first: as long as fewer than
-- so many of the same second were.
abbrev pub granted : ℕ → List ℕ → List ℕ
granted most [] = []
granted most (now ∷ past) =
    if nat_lt (count_by (is_with now) (granted most past)) most
    then now ∷ granted most past
    else granted most past

-- whether one more is granted
abbrev pub is_granted : ℕ → ℕ → List ℕ → Bool
is_granted most now past = nat_lt (count_by (is_with now) (granted most past)) most

-- These times were asked for. It has the second of the newest, and how many were granted of it.
pub record BudgetStands (b : Budget) (past : List ℕ) : Type 0 where
  pub order : AllByRecursion (λ time. time ≤ b.last) past
  pub taken : b.taken ≡ count_by (is_with b.last) (granted b.most past)
