use Rattle.std.proofs.Common.{◌≡◌, ℕ, ◌+◌, ◌≤◌, Bool, ◌&&◌, leb}
use Rattle.call_model.specs.Coding.{Rules}
use Rattle.reference_selector.specs.Stands.{SelectorStands}
use Rattle.sender_end.specs.Known.{count_below}
use Rattle.sender_end.proofs.next.known_from.Given as goal

-- those of the numbers that were looked at are counted
abbrev pub invariant-numbers : goal.invariant-numbers
invariant-numbers l = record {
  few : l.count ≤ l.number;
  low : l.first ≤ l.number;
  counted : (rules : Rules) (depth : ℕ → ℕ) (known : ℕ → Bool) → SelectorStands rules l.pictures l.sent depth known
      → l.sent ≤ l.first + rules.slots
      → l.count ≡ count_below l.number (λ m. leb l.first m && (leb l.floor m && known m));
}
