-- The pace of a sender: with a target in bytes per picture, or with none.
use Rattle.std.specs.Prelude.{ℕ, List, Option, Some, None}
use Rattle.h263_types.specs.declared.params.Params.{Params}
use Rattle.rate_control.specs.Level.{bucket_quant}
use Rattle.rate_control.specs.declared.send_pace.SendPace.{SendPace}
use Rattle.rate_control.specs.declared.send_pace.SendPace.TheVariants.{Fixed, Bucket}

-- the quantiser after pictures of these sizes: one for all, or, with a target, coarser the further
-- the level of the bucket lies above it
abbrev pub quant_after_sizes : Option ℕ → ℕ → List ℕ → ℕ
quant_after_sizes None first sizes = first
quant_after_sizes (Some target) first sizes = bucket_quant target first sizes

-- with the parameters' quantiser as the first
abbrev pub pace_of : Option ℕ → Params → List ℕ → ℕ
pace_of target p = quant_after_sizes target p.quant

-- the target of a pace, if it has one, and its first quantiser
abbrev pub target_of : SendPace → Option ℕ
target_of (Fixed pace) = None
target_of (Bucket pace) = Some pace.target

abbrev pub first_quant : SendPace → ℕ
first_quant (Fixed pace) = pace.quant
first_quant (Bucket pace) = pace.first
