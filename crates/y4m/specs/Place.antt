-- Where a reader is in a video: all that a caller may know of it.
use Rattle.std.specs.Prelude.{ℕ, ◌+◌, ◌*◌, ◌^◌, ◌≤◌}
use Rattle.h263_types.specs.declared.format.Format.{Format}

-- the format of the frames, the byte where the next frame begins, and how many may still come
pub record Y4mPlace : Type 0 where
  pub format : Format
  pub at : ℕ
  pub more : ℕ

-- a frame and its line have less than 152,321 bytes
abbrev pub IsInVideo : Y4mPlace → Type 0
IsInVideo place = place.at + 152321 * place.more ≤ 2 ^ 38
