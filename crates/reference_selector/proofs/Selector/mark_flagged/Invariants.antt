use Rattle.std.proofs.Common.{◌≡◌, ℕ, ◌||◌, Bool}
use Rattle.call_model.specs.Coding.{Rules}
use Rattle.reference_selector.specs.Messages.{is_flagged, is_named}
use Rattle.reference_selector.specs.Stands.{SelectorStands}
use Rattle.reference_selector.proofs.Selector.mark_flagged.Given as goal

-- those of the first j numbers are known whose flags are set
abbrev pub invariant-loop-j : goal.invariant-loop-j
invariant-loop-j l = record {
  clock : l.self.clock ≡ l.fn.self.clock;
  known : (rules : Rules) (depth : ℕ → ℕ) (known : ℕ → Bool) → SelectorStands rules l.fn.self l.sent depth known
      → SelectorStands rules l.self l.sent depth (λ m. is_named l.t l.sent (is_flagged l.marks) l.j m || known m);
}
