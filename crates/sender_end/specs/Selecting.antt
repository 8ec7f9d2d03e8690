-- A selector that stands for some pictures.
use Rattle.std.specs.Prelude.{ℕ, Bool, nat_lt, Option, Some, None, option_and_then, if◌then◌else◌}
use Rattle.call_model.specs.Coding.{Rules}
use Rattle.reference_selector.specs.declared.Selector.{Selector}
use Rattle.reference_selector.specs.Stands.{SelectorStands}

-- this many pictures were coded, of the last of which it has depth and mark
pub record IsSelecting (selector : Selector) (sent : ℕ) : Type 0 where
  pub rules : Rules
  pub depth : ℕ → ℕ
  pub known : ℕ → Bool
  pub stands : SelectorStands rules selector sent depth known

-- a reference that was given, unless its chain may not grow
abbrev pub within_chain : Rules → (ℕ → ℕ) → Option ℕ → Option ℕ
within_chain rules depth reference =
    option_and_then (λ m. if nat_lt (depth m) rules.chain then Some m else None) reference
