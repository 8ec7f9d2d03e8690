-- The levels of a block's coefficients, which stand by rows.
use Rattle.std.specs.Prelude.{◌≡◌, ℕ, ◌+◌, ◌*◌, ◌/◌, ◌%◌, ◌<◌, ◌≤◌, pos, ℤ, List, All, length, nat_eq, nat_lt, replicate, slice_index_or, if◌then◌else◌}
use Rattle.std.specs.Int.{bit_at}
use Rattle.h263_types.specs.declared.blocks.Block.{Block}
use Rattle.h263_types.specs.Blocks.{IsLevel}
use Rattle.quantiser.specs.Levels.{inter_level, intra_level}
use Rattle.quantiser.specs.Zigzag.{block_place_of, zigzag_place_of}
use Rattle.mode_choice.specs.declared.coefficients.Coding.{Coding}
use Rattle.mode_choice.specs.declared.coefficients.Coding.TheVariants.{Intra, Inter}
use Rattle.mode_choice.specs.declared.order.Standing.{Standing}
use Rattle.mode_choice.specs.declared.order.Standing.TheVariants.{ByRows, ByColumns}

-- the level of a coefficient that has no INTRADC
abbrev pub level_by : Coding → ℕ → ℤ → ℤ
level_by Intra quant f = intra_level quant f
level_by Inter quant f = inter_level quant f

-- the size from which on it isn't 0
abbrev pub least_of : Coding → ℕ → ℕ
least_of Intra quant = 2 * quant
least_of Inter quant = 2 * quant + quant / 2

-- what is taken from its size before the steps of twice the quantiser are counted
abbrev pub half_quant : Coding → ℕ → ℕ
half_quant Intra quant = 0
half_quant Inter quant = quant / 2

-- the level at place k of the zigzag order as it is kept: 0 from place `keep` on
abbrev pub kept_level : ℕ → ℕ → ℤ → ℤ
kept_level keep k level = if nat_lt k keep then level else pos 0

-- the level of coefficient f at place k of the zigzag order
abbrev pub level_in : Coding → ℕ → ℕ → ℤ → ℕ → ℤ
level_in coding quant keep f k = kept_level keep k (level_by coding quant f)

-- ---- where levels stand before they are put in order

-- a place by columns, of a place by rows, and the other way
abbrev pub turned_place : ℕ → ℕ
turned_place at = 8 * (at % 8) + at / 8

-- the place where the level of place k of the zigzag order stands
abbrev pub standing_place : Standing → ℕ → ℕ
standing_place ByRows k = block_place_of k
standing_place ByColumns k = turned_place (block_place_of k)

-- the place in the zigzag order of the level that stands at a place
abbrev pub order_of : Standing → ℕ → ℕ
order_of ByRows at = zigzag_place_of at
order_of ByColumns at = zigzag_place_of (turned_place at)

-- a block before its levels are put into it
abbrev pub zero_block : Block
zero_block = record { levels = replicate 64 (pos 0) }

-- of a macroblock's blocks those from n on are so
abbrev pub AreZerosFrom : ℕ → List Block → Type 0
AreZerosFrom n blocks = (d : Block) (b : ℕ) → n ≤ b → b < 6 → slice_index_or blocks b d ≡ zero_block

-- of the levels of a block those whose marks aren't in the rest stand at their places of the zigzag
-- order, and zeros at the places of the others; a mark is the bit of a level's place
pub record AreSet (standing : Standing) (keep : ℕ) (block : List ℤ) (rest : ℕ) (levels : List ℤ) : Type 0 where
  pub long : length levels ≡ 64
  pub stand : (k : ℕ) → k < 64 → slice_index_or levels k (pos 0)
      ≡ (if nat_eq (bit_at rest (standing_place standing k)) 0
      then kept_level keep k (slice_index_or block (standing_place standing k) (pos 0)) else pos 0)
  pub range : All IsLevel levels
