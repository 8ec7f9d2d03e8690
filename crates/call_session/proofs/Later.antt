-- What was asked for no later than one time was asked for no later than a later one.
use Rattle.std.proofs.Common.{ℕ, ◌≤◌, arith}
use Rattle.stream_choice.specs.declared.budget.Budget.{Budget}
use Rattle.session_intake.specs.declared.budgets.Budgets.{Budgets}
use Rattle.session_intake.specs.Asked.{AreBudgets, IsBudget}

pub budget : (count then now : ℕ) (b : Budget) → then ≤ now → IsBudget count then b → IsBudget count now b
budget count then now b i x =
    let j = x.last in let l : b.last ≤ now = omega arith in record { most = x.most; last = l }

pub budgets : (then now : ℕ) (b : Budgets) → then ≤ now → AreBudgets then b → AreBudgets now b
budgets then now b i x =
    record {
      followed = budget 12000 then now b.followed i x.followed;
      former = budget 12000 then now b.former i x.former;
      others = budget 12000 then now b.others i x.others;
    }
