-- What a selector keeps of the pictures that were coded.
use Rattle.std.specs.Prelude.{◌≡◌, ℕ, ◌+◌, ◌%◌, ◌<◌, ◌≤◌, Bool, false, slice_index, slice_index_or}
use Rattle.h263_types.specs.Clocks.{half_of}
use Rattle.call_model.specs.Coding.{Rules}
use Rattle.reference_selector.specs.declared.Selector.{Selector}

-- of each of the last `slots` numbers below sent the selector has the depth, and whether it is known
pub record SelectorStands (rules : Rules) (selector : Selector)
    (sent : ℕ) (depth : ℕ → ℕ) (known : ℕ → Bool) : Type 0 where
  pub slots : selector.slots ≡ rules.slots
  pub lead : selector.lead ≡ rules.lead
  pub half : rules.half ≡ half_of selector.clock
  pub chain : rules.chain ≡ 131
  pub depth_is : (m : ℕ) → m < sent → sent ≤ m + rules.slots → slice_index selector.depths (m % rules.slots) ≡ depth m
  pub known_is : (m : ℕ) → m < sent
      → sent ≤ m + rules.slots → slice_index_or selector.known (m % rules.slots) false ≡ known m
