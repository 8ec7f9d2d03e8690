-- What a picture shows of macroblocks, and what their reconstruction sets in it (H.263, 6).
use Rattle.std.specs.Prelude.{◌≡◌, ℕ, ◌+◌, ◌-◌, ◌<◌, ◌&&◌, nat_eq, nat_le, nat_lt, if◌then◌else◌, List, length, Option}
use Rattle.h263_types.specs.declared.format.Format.{Format}
use Rattle.h263_types.specs.declared.blocks.Mb.{Mb}
use Rattle.h263_types.specs.Blocks.{mb_in}
use Rattle.h263_planes.specs.declared.Plane.{Plane}
use Rattle.h263_planes.specs.Blocks.{mb_of}
use Rattle.h263_planes.specs.Picture.{Picture}
use Rattle.h263_planes.specs.Samples.{Inside, sample_at}
use Rattle.picture_recon.specs.Samples.{sample_in}

-- each sample of the first `count` macroblocks is the reconstructed one
abbrev pub ShowsFirst : Format → ℕ → Option Picture → List Mb → ℕ → Picture → Type 0
ShowsFirst f rounding reference mbs count p =
    (plane : Plane) (x y : ℕ) → Inside f plane x y 1 → mb_of f plane x y < count
    → sample_at p plane x y ≡ sample_in rounding reference (mb_in mbs (mb_of f plane x y)) plane x y

-- macroblock `at` is set: its samples are the reconstructed ones, and all others stay
abbrev pub SetsMb : Format → ℕ → Option Picture → ℕ → Mb → Picture → Picture → Type 0
SetsMb f rounding reference at mb old new =
    (plane : Plane) (x y : ℕ) → Inside f plane x y 1
    → sample_at new plane x y ≡ (if nat_eq (mb_of f plane x y) at
    then sample_in rounding reference mb plane x y else sample_at old plane x y)

-- the macroblocks of a slice, the first of which has number `first`, are set, and all other samples stay
abbrev pub SetsSlice : Format → ℕ → Option Picture → ℕ → List Mb → Picture → Picture → Type 0
SetsSlice f rounding reference first run old new =
    (plane : Plane) (x y : ℕ) → Inside f plane x y 1
    → sample_at new plane x y
    ≡ (if nat_le first (mb_of f plane x y) && nat_lt (mb_of f plane x y) (first + length run)
    then sample_in rounding reference (mb_in run (mb_of f plane x y - first)) plane x y
    else sample_at old plane x y)

-- the slice has the macroblocks of a picture from number `first` on
abbrev pub IsPartFrom : List Mb → ℕ → List Mb → Type 0
IsPartFrom mbs first run = (k : ℕ) → k < length run → mb_in run k ≡ mb_in mbs (first + k)
