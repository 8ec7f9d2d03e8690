-- Which of a block's levels aren't 0.
use Rattle.std.specs.Prelude.{◌≡◌, ◌≢◌, ◌<◌, ◌*◌, ◌^◌, ◌%◌, ℕ, List, [], Bool, ℤ, pos, not, map, slice_index_or, if◌then◌else◌, bit_and}
use Rattle.std.specs.Ordering.{int_eq}
use Rattle.std.specs.Int.{bit_at, bit_not, trailing_zeros, w64}
use Rattle.std.specs.Simd.Lanes.{mask_l}
use Rattle.h263_types.specs.declared.blocks.Block.{Block}
use Rattle.h263_types.specs.declared.blocks.Mb.{Mb}
use Rattle.h263_types.specs.declared.blocks.Mb.TheVariants.{Skip, Intra, Inter}
use Rattle.h263_types.specs.declared.blocks.MarkedMb.{MarkedMb}

abbrev pub is_zero : ℤ → Bool
is_zero z = int_eq z (pos 0)

-- a bit for each level that isn't 0, the lowest for the first
unfoldable pub marks_of : List ℤ → ℕ
marks_of levels = mask_l (map (λ z. not (is_zero z)) levels)

-- the first `count` of these are the marks of the first `count` blocks
abbrev pub AreMarksOfFirst : ℕ → List Block → List ℕ → Type 0
AreMarksOfFirst count blocks marks =
    (k : ℕ) → k < count → slice_index_or marks k 0 ≡ marks_of (slice_index_or blocks k (record { levels = [] })).levels

-- the marks of a macroblock's six blocks, if it has any
abbrev pub HasMarks : Mb → List ℕ → Type 0
HasMarks Skip marks = Unit {0}
HasMarks (Intra quant blocks) marks = AreMarksOfFirst 6 blocks marks
HasMarks (Inter quant vector blocks) marks = AreMarksOfFirst 6 blocks marks

-- a macroblock that has its marks beside it
abbrev pub IsMarked : MarkedMb → Type 0
IsMarked m = HasMarks m.mb m.coded

-- a level whose bit isn't set is 0, and only such a one
abbrev pub EachIsMarked : Type 0
EachIsMarked = (levels : List ℤ) (k : ℕ)
    → bit_at (marks_of levels) k ≡ (if is_zero (slice_index_or levels k (pos 0)) then 0 else 1)

-- the marks but for the one at place k
abbrev pub without : ℕ → ℕ → ℕ
without marks k = bit_and marks (bit_not w64 (1 * 2 ^ k % 2 ^ 64))

-- place k has a mark, and that one is taken away alone, which leaves a smaller number
pub record IsMark (marks k : ℕ) : Type 0 where
  pub below : k < 64
  pub set : bit_at marks k ≡ 1
  pub gone : bit_at (without marks k) k ≡ 0
  pub others : (i : ℕ) → i < 64 → i ≢ k → bit_at (without marks k) i ≡ bit_at marks i
  pub fewer : without marks k < marks

-- where there are marks, as many places have none as there are zeros at the end, and the next one has one
abbrev pub HasLowest : Type 0
HasLowest = (marks : ℕ) → marks < 2 ^ 64 → marks ≢ 0 → IsMark marks (trailing_zeros w64 marks)
