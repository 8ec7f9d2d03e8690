-- What the blocks, macroblocks and slices of a picture may hold.
use Rattle.std.specs.Prelude.{ℕ, ◌+◌, ◌≡◌, ◌<◌, ◌≤◌, ℤ, pos, ◌≤ℤ◌, neg_ℤ, List, All, length, slice_index_or}
use Rattle.h263_types.specs.declared.Kind.{Kind}
use Rattle.h263_types.specs.declared.Kind.TheVariants.{I, P}
use Rattle.h263_types.specs.declared.format.Format.{Format}
use Rattle.h263_types.specs.declared.vector.Vector.{Vector}
use Rattle.h263_types.specs.declared.blocks.Block.{Block}
use Rattle.h263_types.specs.declared.blocks.Mb.{Mb}
use Rattle.h263_types.specs.declared.blocks.Mb.TheVariants.{Skip, Intra, Inter}
use Rattle.h263_types.specs.declared.blocks.SliceHead.{SliceHead}
use Rattle.h263_types.specs.Sizes.{mbs_of}

-- a quantiser (H.263, 5.1.19)
pub record IsQuant (q : ℕ) : Type 0 where
  pub low : 1 ≤ q
  pub high : q ≤ 31

-- a level other than INTRADC (H.263, 5.4.2)
pub record IsLevel (z : ℤ) : Type 0 where
  pub low : neg_ℤ (pos 127) ≤ℤ z
  pub high : z ≤ℤ pos 127

-- an INTRADC value (H.263, 5.4.1)
pub record IsDc (z : ℤ) : Type 0 where
  pub low : pos 1 ≤ℤ z
  pub high : z ≤ℤ pos 254

-- a value that a level stands for, as the inverse transform takes it (H.263, 6.2.2)
pub record IsValue (z : ℤ) : Type 0 where
  pub low : neg_ℤ (pos 2048) ≤ℤ z
  pub high : z ≤ℤ pos 2047

-- a coefficient, as the quantiser takes it
pub record IsCoefficient (z : ℤ) : Type 0 where
  pub low : neg_ℤ (pos 65535) ≤ℤ z
  pub high : z ≤ℤ pos 65535

-- a component of a vector in half samples (H.263, 6.1.1)
pub record IsComponent (z : ℤ) : Type 0 where
  pub low : neg_ℤ (pos 32) ≤ℤ z
  pub high : z ≤ℤ pos 31

pub record IsVector (v : Vector) : Type 0 where
  pub x : IsComponent v.x
  pub y : IsComponent v.y

-- the level at a place of the zigzag order
abbrev pub level_at : Block → ℕ → ℤ
level_at b k = slice_index_or b.levels k (pos 0)

-- a block of an inter macroblock
pub record IsInterBlock (b : Block) : Type 0 where
  pub levels : (k : ℕ) → k < 64 → IsLevel (level_at b k)

-- a block of an intra macroblock
pub record IsIntraBlock (b : Block) : Type 0 where
  pub dc : IsDc (level_at b 0)
  pub levels : (k : ℕ) → 1 ≤ k → k < 64 → IsLevel (level_at b k)

pub record IsIntraMb (quant : ℕ) (blocks : List Block) : Type 0 where
  pub quant_in_range : IsQuant quant
  pub each : All IsIntraBlock blocks

pub record IsInterMb (quant : ℕ) (vector : Vector) (blocks : List Block) : Type 0 where
  pub quant_in_range : IsQuant quant
  pub vector_in_range : IsVector vector
  pub each : All IsInterBlock blocks

-- a macroblock whose numbers are in their ranges
abbrev pub IsMb : Mb → Type 0
IsMb Skip = Unit {0}
IsMb (Intra quant blocks) = IsIntraMb quant blocks
IsMb (Inter quant vector blocks) = IsInterMb quant vector blocks

-- a macroblock that pictures of a kind may have: Skip and Inter stand only in P
abbrev pub IsOfKind : Kind → Mb → Type 0
IsOfKind P mb = Unit {0}
IsOfKind I Skip = ⊥
IsOfKind I (Intra quant blocks) = Unit {0}
IsOfKind I (Inter quant vector blocks) = ⊥

-- six blocks of 64 levels
pub record AreWhole (blocks : List Block) : Type 0 where
  pub count : length blocks ≡ 6
  pub each : All (λ b. length b.levels ≡ 64) blocks

abbrev pub HasWholeBlocks : Mb → Type 0
HasWholeBlocks Skip = Unit {0}
HasWholeBlocks (Intra quant blocks) = AreWhole blocks
HasWholeBlocks (Inter quant vector blocks) = AreWhole blocks

-- macroblock k of a picture's
abbrev pub mb_in : List Mb → ℕ → Mb
mb_in mbs k = slice_index_or mbs k Skip

-- the macroblock's quantiser, if it has one, is this one
abbrev pub HasQuant : ℕ → Mb → Type 0
HasQuant quant Skip = Unit {0}
HasQuant quant (Intra q blocks) = q ≡ quant
HasQuant quant (Inter q vector blocks) = q ≡ quant

-- one macroblock at least, and all of them in a picture of the format
pub record IsHeadOf (f : Format) (head : SliceHead) : Type 0 where
  pub some : 1 ≤ head.count
  pub within : head.first + head.count ≤ mbs_of f
