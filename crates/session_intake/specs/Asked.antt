-- When packets were asked for, of the streams that have a budget of their own and of all others.
use Rattle.std.specs.Prelude.{◌≡◌, ℕ, ◌≤◌, List, [], ◌∷◌}
use Rattle.stream_choice.specs.declared.streams.Taker.{Taker}
use Rattle.stream_choice.specs.declared.streams.Taker.TheVariants as takers
use Rattle.stream_choice.specs.declared.budget.Budget.{Budget}
use Rattle.stream_choice.specs.Granting.{BudgetStands}
use Rattle.session_intake.specs.declared.budgets.Budgets.{Budgets}

pub record LookTimes : Type 0 where
  pub followed : List ℕ
  pub former : List ℕ
  pub others : List ℕ

abbrev pub no_asked : LookTimes
no_asked = record { followed = []; former = []; others = [] }

-- the times of those with this taker's budget
abbrev pub look_times_of : Taker → LookTimes → List ℕ
look_times_of takers.Followed a = a.followed
look_times_of takers.Former a = a.former
look_times_of takers.Tried a = a.others
look_times_of takers.Begins a = a.others
look_times_of takers.NoRun a = a.others

abbrev pub with_other : ℕ → LookTimes → LookTimes
with_other now a = record { followed = a.followed; former = a.former; others = now ∷ a.others }

-- one more
abbrev pub with_asked : Taker → ℕ → LookTimes → LookTimes
with_asked takers.Followed now a =
    record { followed = now ∷ a.followed; former = a.former; others = a.others }
with_asked takers.Former now a =
    record { followed = a.followed; former = now ∷ a.former; others = a.others }
with_asked takers.Tried now a = with_other now a
with_asked takers.Begins now a = with_other now a
with_asked takers.NoRun now a = with_other now a

-- a budget of so many in a second, that was asked for nothing later
pub record IsBudget (count now : ℕ) (b : Budget) : Type 0 where
  pub most : b.most ≡ count
  pub last : b.last ≤ now

pub record AreBudgets (now : ℕ) (b : Budgets) : Type 0 where
  pub followed : IsBudget 12000 now b.followed
  pub former : IsBudget 12000 now b.former
  pub others : IsBudget 12000 now b.others

pub record AskedStand (b : Budgets) (a : LookTimes) : Type 0 where
  pub followed : BudgetStands b.followed a.followed
  pub former : BudgetStands b.former a.former
  pub others : BudgetStands b.others a.others
