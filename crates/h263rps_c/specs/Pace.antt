-- The pace of a sender, by its target as C has it.
use Rattle.std.specs.Prelude.{ℕ, List, Option, Some, None, ◌==◌, if◌then◌else◌}
use Rattle.h263_types.specs.declared.params.Params.{Params}
use Rattle.rate_control.specs.Pace as paces

-- the target in bytes per picture, where 0 is none
abbrev pub target_if_any : ℕ → Option ℕ
target_if_any target = if target == 0 then None else Some target

-- the pace with this target, and the parameters' quantiser as the first
abbrev pub target_pace : ℕ → Params → List ℕ → ℕ
target_pace target = paces.pace_of (target_if_any target)
