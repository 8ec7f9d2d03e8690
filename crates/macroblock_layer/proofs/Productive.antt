-- The only repeated part of a macroblock before its blocks is stuffing.
use Rattle.std.proofs.Common.{ℕ, Bool}
use Rattle.h263_types.specs.declared.vector.Vector.{Vector}
use Rattle.h263_types.specs.declared.vector.Reach.{Reach}
use Rattle.h263_types.specs.declared.blocks.Block.{Block}
use Rattle.h263_bits.specs.Syntax.{Syntax, IsProductive, any, done, part}
use Rattle.h263_bits.proofs.SyntaxLaws.{either_productive}
use Rattle.code_tables.specs.declared.macroblock.MbClass.{MbClass}
use Rattle.code_tables.specs.declared.macroblock.MbClass.TheVariants as classes
use Rattle.code_tables.specs.Laws.{TableLaws}
use Rattle.block_layer.specs.Text.{inter_block, no_levels}
use Rattle.block_layer.specs.Laws.{BlockLaws}
use Rattle.macroblock_layer.specs.declared.reading.Lead.{Lead}
use Rattle.macroblock_layer.specs.declared.reading.Lead.TheVariants.{Skipped, Coded}
use Rattle.macroblock_layer.specs.Text.{is_intra, quantiser, difference, vector, block_of_levels, intra, inter, blocks, intra_mb, inter_mb, coded_mb, after_lead, mb}
use Rattle.macroblock_layer.specs.Laws.{AreMbsProductive}
use Rattle.macroblock_layer.proofs.Leads.{lead_productive}

pub quantiser_productive : TableLaws → (class : MbClass) (quant : ℕ) → IsProductive (quantiser class quant)
unfolding quantiser IsProductive
quantiser_productive tables classes.InterQ quant = (tables.productive.dquant, λ step. tt)
quantiser_productive tables classes.IntraQ quant = (tables.productive.dquant, λ step. tt)
quantiser_productive tables classes.Inter quant = tt
quantiser_productive tables classes.Inter4 quant = tt
quantiser_productive tables classes.Intra quant = tt

pub difference_productive : TableLaws → IsProductive difference
unfolding difference IsProductive
difference_productive tables = (tables.productive.mvd, λ x. (tables.productive.mvd, λ y. tt))

pub vector_productive : TableLaws → (reach : Reach) (predictor : Vector) → IsProductive (vector reach predictor)
unfolding vector IsProductive
vector_productive tables reach predictor = (difference_productive tables, λ d. tt)

pub intra_block_productive : BlockLaws → (coded : Bool) → IsProductive (intra coded)
unfolding intra IsProductive
intra_block_productive of_blocks coded = (of_blocks.productive.intra coded, λ levels. tt)

with_levels : Syntax Block
with_levels = part inter_block any λ levels. done (block_of_levels levels)

with_levels_productive : BlockLaws → IsProductive with_levels
unfolding with_levels IsProductive
with_levels_productive of_blocks = (of_blocks.productive.inter, λ levels. tt)

with_none : Syntax Block
with_none = done (block_of_levels no_levels)

with_none_productive : IsProductive with_none
unfolding with_none IsProductive
with_none_productive = tt

pub inter_block_productive : BlockLaws → (coded : Bool) → IsProductive (inter coded)
unfolding inter with_levels with_none
inter_block_productive of_blocks coded = either_productive coded with_levels with_none
    (with_levels_productive of_blocks) with_none_productive

blocks_productive : (block : Bool → Syntax Block) (cbpy cbpc : ℕ) → ((coded : Bool) → IsProductive (block coded))
    → IsProductive (blocks block cbpy cbpc)
unfolding blocks IsProductive
blocks_productive block cbpy cbpc each =
    (each _, λ a. (each _, λ b. (each _, λ c. (each _, λ d. (each _, λ e. (each _, λ f. tt))))))

intra_mb_productive : BlockLaws → (quant cbpy cbpc : ℕ) → IsProductive (intra_mb quant cbpy cbpc)
unfolding intra_mb IsProductive
intra_mb_productive of_blocks quant cbpy cbpc = (
  blocks_productive intra cbpy cbpc (intra_block_productive of_blocks),
  λ bs. tt,
)

inter_mb_productive : TableLaws → BlockLaws → (reach : Reach) (predictor : Vector) (quant cbpy cbpc : ℕ)
    → IsProductive (inter_mb reach predictor quant cbpy cbpc)
unfolding inter_mb IsProductive
inter_mb_productive tables of_blocks reach predictor quant cbpy cbpc = (
  vector_productive tables reach predictor,
  λ v. (blocks_productive inter cbpy cbpc (inter_block_productive of_blocks), λ bs. tt),
)

after_productive : TableLaws → BlockLaws → (quant : ℕ) (reach : Reach) (predictor : Vector) (l : Lead)
    → IsProductive (after_lead quant reach predictor l)
unfolding after_lead coded_mb IsProductive
after_productive tables of_blocks quant reach predictor Skipped = tt
after_productive tables of_blocks quant reach predictor (Coded class cbpc) = (
  tables.productive.cbpy (is_intra class),
  λ cbpy. (
    quantiser_productive tables class quant,
    λ q. either_productive (is_intra class) (intra_mb q cbpy cbpc) (inter_mb reach predictor q cbpy cbpc)
        (intra_mb_productive of_blocks q cbpy cbpc) (inter_mb_productive tables of_blocks reach predictor q cbpy cbpc),
  ),
)

-- each part of a macroblock that is repeated takes a bit at least
pub mb_productive : TableLaws → BlockLaws → AreMbsProductive
unfolding mb IsProductive
mb_productive tables of_blocks kind quant reach predictor = (
  lead_productive kind,
  λ l. after_productive tables of_blocks quant reach predictor l,
)
