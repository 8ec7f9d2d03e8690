-- What the sender makes of the sizes of the latest pictures and a target in bytes a picture.
use Rattle.std.specs.Prelude.{◌≢◌, ℕ, ◌+◌, ◌-◌, ◌*◌, ◌/◌, ◌<◌, ◌≤◌, min}
use Rattle.line_follower.specs.declared.four.Four.{Four}
use Rattle.line_follower.specs.declared.sizes.Sizes.{Sizes}
use Rattle.line_follower.specs.Numbers.{four_moved, four_zeros}

abbrev pub no_sizes : Sizes
no_sizes = record { newest = four_zeros; newer = four_zeros; older = four_zeros; oldest = four_zeros }

abbrev pub sizes_with : ℕ → Sizes → Sizes
sizes_with bytes s =
    record {
      newest = four_moved bytes s.newest;
      newer = four_moved s.newest.fourth s.newer;
      older = four_moved s.newer.fourth s.older;
      oldest = four_moved s.older.fourth s.oldest;
    }

-- a picture pours its bytes into a bucket, and the target runs out
abbrev pub poured : ℕ → ℕ → ℕ → ℕ
poured target level bytes = level + bytes - target

-- the oldest first
unfoldable pub four_level : ℕ → ℕ → Four → ℕ
four_level target level f =
    poured target (poured target (poured target (poured target level f.fourth) f.third) f.second)
    f.first

unfoldable pub bucket_level : ℕ → Sizes → ℕ
bucket_level target s =
    four_level target
    (four_level target (four_level target (four_level target 0 s.oldest) s.older) s.newer)
    s.newest

-- four steps coarser than the finest for each target of bytes in the bucket
unfoldable pub quant_for : ℕ → ℕ → Sizes → ℕ
quant_for finest target s = min (finest + 4 * bucket_level target s / target) 31

-- The greatest target up to a limit that gives at least this quantiser, or 1.
pub record IsTargetFor (quant finest most : ℕ) (s : Sizes) (target : ℕ) : Type 0 where
  pub some : 1 ≤ target
  pub gives : target ≢ 1 → quant ≤ quant_for finest target s
  pub greatest : (t : ℕ) → target < t → t ≤ most → quant_for finest t s < quant
