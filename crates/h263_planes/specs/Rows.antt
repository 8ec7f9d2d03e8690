-- Rows of samples that are written into a picture's bytes.
use Rattle.std.specs.Prelude.{ℕ, ◌+◌, ◌*◌, zero, suc, List, slice_range}
use lib.Seq.{sets}

-- the bytes in which the first `count` rows of n samples are written: of samples whose rows stand `stride` apart, each
-- row `width` bytes after the one above it, the first from place `at` on
unfoldable pub sets_rows : ℕ → ℕ → ℕ → List ℕ → ℕ → ℕ → List ℕ → List ℕ
sets_rows width n stride samples at zero bytes = bytes
sets_rows width n stride samples at (suc k) bytes =
    sets (sets_rows width n stride samples at k bytes) (at + width * k)
    (slice_range samples (stride * k) (stride * k + n))
