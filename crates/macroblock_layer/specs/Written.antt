-- The text that is written of a macroblock: without stuffing, of a plain class where the quantiser
-- is as before, and of a Q class else.
use Rattle.std.specs.Prelude.{ℕ, ◌+◌, ◌*◌, ◌≤◌, List, [], ◌∷◌, ◌++◌, slice_index_or, Bool, true, false, not, ◌==◌, if◌then◌else◌, ℤ, pos, ◌-ℤ◌}
use Rattle.h263_types.specs.declared.Kind.{Kind}
use Rattle.h263_types.specs.declared.Kind.TheVariants as kinds
use Rattle.h263_types.specs.declared.vector.Vector.{Vector}
use Rattle.h263_types.specs.declared.vector.Reach.{Reach}
use Rattle.h263_types.specs.declared.blocks.Block.{Block}
use Rattle.h263_types.specs.declared.blocks.Mb.{Mb}
use Rattle.h263_types.specs.declared.blocks.Mb.TheVariants.{Skip, Intra, Inter}
use Rattle.h263_types.specs.Vectors.{IsWithin}
use Rattle.code_tables.specs.declared.macroblock.MbClass.{MbClass}
use Rattle.code_tables.specs.declared.macroblock.MbClass.TheVariants as classes
use Rattle.code_tables.specs.declared.macroblock.Mcbpc.TheVariants.{Word}
use Rattle.code_tables.specs.Mcbpc.{mcbpc_text, dquant_text}
use Rattle.code_tables.specs.Tables.{cbpy_text, mvd_text, bit_of}
use Rattle.block_layer.specs.Text.{none_left, is_coded, intra_text, inter_text}
use Rattle.macroblock_layer.specs.Text.{wrapped}

-- ---- patterns

-- the levels of a block of the six
abbrev pub levels_at : List Block → ℕ → List ℤ
levels_at blocks k = (slice_index_or blocks k (record { levels = [] })).levels

-- whether a block of an inter macroblock is coded: a level isn't 0
abbrev pub has_levels : List ℤ → Bool
has_levels levels = not (none_left levels)

-- CBPY: a bit for each block of luma that is coded, the left one for the first
abbrev pub cbpy_of : (List ℤ → Bool) → List Block → ℕ
cbpy_of coded blocks =
    8 * bit_of (coded (levels_at blocks 0)) + 4 * bit_of (coded (levels_at blocks 1))
    + 2 * bit_of (coded (levels_at blocks 2)) + bit_of (coded (levels_at blocks 3))

-- CBPC: Cb and Cr
abbrev pub cbpc_of : (List ℤ → Bool) → List Block → ℕ
cbpc_of coded blocks = 2 * bit_of (coded (levels_at blocks 4)) + bit_of (coded (levels_at blocks 5))

-- ---- the parts of a text

-- the class, by whether it is intra and whether the quantiser is as before
abbrev pub class_of : Bool → Bool → MbClass
class_of true true = classes.Intra
class_of true false = classes.IntraQ
class_of false true = classes.Inter
class_of false false = classes.InterQ

-- COD of a macroblock that is coded: there is none in I
abbrev pub cod_text : Kind → List Bool
cod_text kinds.I = []
cod_text kinds.P = false ∷ []

-- COD and MCBPC
unfoldable pub class_text : Kind → MbClass → ℕ → List Bool
class_text kind class cbpc = cod_text kind ++ mcbpc_text kind (Word class cbpc)

-- DQUANT, where the quantiser changes
unfoldable pub step_text : ℕ → ℕ → List Bool
step_text quant new = if new == quant then [] else dquant_text (pos new -ℤ pos quant)

-- what stands before the vector and the blocks
unfoldable pub mb_head_text : Kind → ℕ → ℕ → Bool → ℕ → ℕ → List Bool
mb_head_text kind quant new intra cbpy cbpc = class_text kind (class_of intra (new == quant)) cbpc
    ++ (cbpy_text intra cbpy ++ step_text quant new)

-- the vector by its difference to the predictor, modulo 64 into -32 to 31 (H.263, 6.1.1)
unfoldable pub vector_text : Vector → Vector → List Bool
vector_text predictor v = mvd_text (wrapped (v.x -ℤ predictor.x)) ++ mvd_text (wrapped (v.y -ℤ predictor.y))

-- the texts of blocks one after the other
unfoldable pub blocks_text : (List ℤ → List Bool) → List Block → List Bool
blocks_text text [] = []
blocks_text text (b ∷ blocks) = text b.levels ++ blocks_text text blocks

-- ---- the whole text

unfoldable pub intra_mb_text : Kind → ℕ → ℕ → List Block → List Bool
intra_mb_text kind quant new blocks = mb_head_text kind quant new true
    (cbpy_of is_coded blocks) (cbpc_of is_coded blocks) ++ blocks_text intra_text blocks

-- an inter macroblock stands in P alone
unfoldable pub inter_mb_text : ℕ → Vector → ℕ → Vector → List Block → List Bool
inter_mb_text quant predictor new v blocks =
    mb_head_text kinds.P quant new false (cbpy_of has_levels blocks) (cbpc_of has_levels blocks)
    ++ (vector_text predictor v ++ blocks_text inter_text blocks)

-- the text that is written of a macroblock, with the quantiser before it and its predictor
abbrev pub mb_text : Kind → ℕ → Vector → Mb → List Bool
mb_text kind quant predictor Skip = true ∷ []
mb_text kind quant predictor (Intra new blocks) = intra_mb_text kind quant new blocks
mb_text kind quant predictor (Inter new v blocks) = inter_mb_text quant predictor new v blocks

-- ---- what a macroblock that is written keeps to

-- a quantiser that DQUANT reaches from the one before
pub record DquantReaches (quant new : ℕ) : Type 0 where
  pub up : new ≤ quant + 2
  pub down : quant ≤ new + 2

-- the macroblock's quantiser is within 2 of the one before it
abbrev pub IsStepped : ℕ → Mb → Type 0
IsStepped quant Skip = Unit {0}
IsStepped quant (Intra new blocks) = DquantReaches quant new
IsStepped quant (Inter new v blocks) = DquantReaches quant new

-- the macroblock's vector, if it has one, is in reach
abbrev pub IsReached : Reach → Mb → Type 0
IsReached reach Skip = Unit {0}
IsReached reach (Intra new blocks) = Unit {0}
IsReached reach (Inter new v blocks) = IsWithin reach v.x v.y
