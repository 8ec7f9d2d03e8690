-- Each turn of a block's events takes a bit at least.
use Rattle.std.proofs.Common.{ℕ, Bool, List}
use Rattle.std.specs.Prelude.{ℤ}
use Rattle.h263_bits.specs.Syntax.{Syntax, IsProductive, done}
use Rattle.h263_bits.proofs.SyntaxLaws.{either_productive}
use Rattle.code_tables.specs.Laws.{TableLaws}
use Rattle.block_layer.specs.Laws.{AreBlocksProductive}
use Rattle.block_layer.specs.Text.{Events, placed, event_turn, events, intra_dc, intra_block, inter_block, no_levels}
use Rattle.block_layer.proofs.Turns.{turn_some}

placed_productive : TableLaws → (place : ℕ) → IsProductive (placed place)
unfolding placed IsProductive
placed_productive tables place = (tables.productive.event, λ e. tt)

pub turn_productive : TableLaws → (s : Events) → IsProductive (event_turn s)
unfolding event_turn IsProductive
turn_productive tables s = (placed_productive tables s.place, λ p. tt)

events_productive : TableLaws → (place : ℕ) (levels : List ℤ) → IsProductive (events place levels)
unfolding events IsProductive
events_productive tables place levels = (turn_some, λ s. turn_productive tables s)

pub dc_productive : IsProductive intra_dc
unfolding intra_dc IsProductive
dc_productive = λ dc. tt

nothing : List ℤ → Syntax (List ℤ)
nothing levels = done levels

nothing_productive : (levels : List ℤ) → IsProductive (nothing levels)
unfolding nothing IsProductive
nothing_productive levels = tt

-- each event of an intra block takes a bit at least
pub intra_productive : TableLaws → (coded : Bool) → IsProductive (intra_block coded)
unfolding intra_block nothing IsProductive
intra_productive tables coded = (
  dc_productive,
  λ levels. either_productive coded (events 1 levels) (nothing levels)
      (events_productive tables 1 levels) (nothing_productive levels),
)

-- and each of an inter block
pub inter_productive : TableLaws → IsProductive inter_block
unfolding inter_block
inter_productive tables = events_productive tables 0 no_levels

pub are_productive : TableLaws → AreBlocksProductive
are_productive tables = record { intra = intra_productive tables; inter = inter_productive tables }
