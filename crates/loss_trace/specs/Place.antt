-- Where a reader is in a trace: all that a caller may know of it.
use Rattle.std.specs.Prelude.{ℕ, Bool}

-- how many of its lines were read, and whether the last of them had no newline
pub record TracePlace : Type 0 where
  pub lines : ℕ
  pub ended : Bool
