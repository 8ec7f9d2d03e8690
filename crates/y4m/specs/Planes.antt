-- What the reading of a line or of planes leaves of the video.
use Rattle.std.specs.Prelude.{ℕ, ◌≡◌, ◌+◌, ◌<◌, ◌≤◌, List, length, take, drop, Option, Some, Result, Ok, Err}
use Rattle.y4m.specs.declared.fault.Y4mFault.TheVariants.{ShortFrame}
use Rattle.y4m.specs.declared.fault.VideoStop.{VideoStop}
use Rattle.y4m.specs.declared.fault.VideoStop.TheVariants.{Read, Refused}
use Rattle.h263_outside.specs.Lines.{NoNewline}

-- what the reading of planes says, which begin at this byte of the video, and what is left of it there
abbrev pub PlanesGive : Result (Unit {0}) VideoStop → ℕ → List ℕ → List ℕ → Option (List ℕ) → Type 0
PlanesGive (Ok _) at rest out left = (length out ≤ length rest)
    × (out ≡ take (length out) rest) × (left ≡ Some (drop (length out) rest))
PlanesGive (Err (Refused fault)) at rest out left = (length rest < length out) × (fault ≡ ShortFrame (at + length rest))
PlanesGive (Err Read) at rest out left = (k : ℕ) × (k < length out) × (left ≡ Some (drop k rest))

-- a line was cut off by a read that failed: what was taken of the rest is shorter than a line may
-- be, or has no newline
pub record IsVideoCut (least : ℕ) (rest : List ℕ) (left : Option (List ℕ)) : Type 0 where
  pub taken : ℕ
  pub gone : left ≡ Some (drop taken rest)
  pub free : least ≤ taken → NoNewline (take taken rest)
