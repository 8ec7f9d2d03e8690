-- Slots that are out: those that their user holds, while it claims them and after that.
use Rattle.std.specs.Prelude.{◌≡◌, ℕ, ◌<◌, ◌≤◌, List, length, slice_index}
use Rattle.std.specs.Vec.{vec_capacity}
use Rattle.std.specs.declared.vec.Vec.{Vec}
use Rattle.std.specs.declared.alloc.Global.{Global}
use Rattle.h263_region.specs.Slots.{Slots, IsOut, count_of, out_of}

-- these are all slots that are out, each once
pub record IsHeld (region : Slots) (slots : List ℕ) : Type 0 where
  pub out : (k : ℕ) → k < length slots → IsOut region (slice_index slots k)
  pub once : (j k : ℕ) → j < length slots → k < length slots → slice_index slots j ≡ slice_index slots k → j ≡ k
  pub all : out_of region ≡ length slots

-- while a region's slots are claimed, none of which was out before
pub record IsClaiming (before region : Slots) (slots : Vec ℕ Global) : Type 0 where
  pub held : IsHeld region slots.items
  pub size : region.size ≡ before.size
  pub bytes : region.bytes ≡ before.bytes
  pub count : count_of region ≡ count_of before
  pub room : count_of before ≤ vec_capacity slots
