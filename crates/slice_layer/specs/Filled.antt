-- What a slice's reader leaves in the picture's macroblocks.
use Rattle.std.specs.Prelude.{◌≡◌, ℕ, ◌+◌, ◌<◌, ◌≤◌, List, take, drop, Result, Ok, Err}
use Rattle.h263_types.specs.declared.blocks.Mb.{Mb}
use Rattle.h263_types.specs.declared.blocks.SliceHead.{SliceHead}
use Rattle.h263_types.specs.Blocks.{IsMb, IsOfKind, IsHeadOf, mb_in}
use Rattle.h263_types.specs.References.{ReachesInside}
use Rattle.h263_bits.specs.declared.fault.Fault.{Fault}
use Rattle.picture_header.specs.declared.header.Header.{Header}

-- this many macroblocks of a picture's from number `first` on
abbrev pub mbs_from : ℕ → ℕ → List Mb → List Mb
mbs_from first count out = take count (drop first out)

-- The call answered as a reading: its first macroblock, with the macroblocks in their places; or its fault.
abbrev pub Fills : Result SliceHead Fault → List Mb → Result (ℕ × List Mb) Fault → Type 0
Fills (Ok head) out read = read ≡ Ok (head.first, mbs_from head.first head.count out)
Fills (Err fault) out read = read ≡ Err fault

-- what macroblock k of a picture may be
pub record IsMbAt (h : Header) (k : ℕ) (m : Mb) : Type 0 where
  pub in_range : IsMb m
  pub of_kind : IsOfKind h.kind m
  pub reach : ReachesInside h.format k m

-- a slice of the picture, and its macroblocks
pub record IsSliceIn (h : Header) (out : List Mb) (slice : SliceHead) : Type 0 where
  pub head : IsHeadOf h.format slice
  pub each : (k : ℕ) → slice.first ≤ k → k < slice.first + slice.count → IsMbAt h k (mb_in out k)

-- all macroblocks of a picture but those of a slice
pub record AreOthersSame (old new : List Mb) (slice : SliceHead) : Type 0 where
  pub before : take slice.first new ≡ take slice.first old
  pub after : drop (slice.first + slice.count) new ≡ drop (slice.first + slice.count) old
