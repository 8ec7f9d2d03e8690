use Rattle.std.proofs.Common.{◌≡◌, ℕ, ◌+◌, ◌≤◌, ◌<◌, Bool, false}
use Rattle.call_model.specs.Coding.{Rules}
use Rattle.reference_selector.specs.Stands.{SelectorStands}
use Rattle.reference_selector.proofs.Selector.choose.Given as goal

-- none of the numbers that were looked at is known
abbrev pub invariant-loop-back : goal.invariant-loop-back
invariant-loop-back l = (rules : Rules) (depth : ℕ → ℕ) (known : ℕ → Bool)
    → SelectorStands rules l.self l.number depth known → (m : ℕ) → m < l.number → l.number ≤ m + l.back
    → known m ≡ false
