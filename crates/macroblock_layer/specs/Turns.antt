-- What parts of the code read: a turn of the leading words, and an inter macroblock after its vector.
use Rattle.std.specs.Prelude.{◌≡◌, ℕ, Option, Some, None}
use Rattle.h263_bits.specs.Syntax.{Syntax, LoopTurn, again, finally, any, part, done}
use Rattle.h263_types.specs.declared.vector.Vector.{Vector}
use Rattle.h263_types.specs.declared.blocks.Mb.{Mb}
use Rattle.h263_types.specs.declared.blocks.Mb.TheVariants as mbs
use Rattle.macroblock_layer.specs.Text.{inter, blocks}
use Rattle.macroblock_layer.specs.declared.reading.Lead.{Lead}

abbrev pub turn_after_lead : Option Lead → LoopTurn (Unit {0}) Lead
turn_after_lead None = again tt
turn_after_lead (Some lead) = finally lead

-- macroblocks that are begun: of this quantiser, and of this vector
abbrev pub IsIntraOf : ℕ → Mb → Type 0
IsIntraOf quant (mbs.Intra q blocks) = q ≡ quant
IsIntraOf quant _ = ⊥

abbrev pub IsInterOf : ℕ → Mb → Type 0
IsInterOf quant (mbs.Inter q v blocks) = q ≡ quant
IsInterOf quant _ = ⊥

abbrev pub IsMovedOf : ℕ → Vector → Mb → Type 0
IsMovedOf quant vector (mbs.Inter q v blocks) = (q ≡ quant) × (v ≡ vector)
IsMovedOf quant vector _ = ⊥

abbrev pub moved_mb : ℕ → Vector → ℕ → ℕ → Syntax Mb
moved_mb quant v cbpy cbpc = part (blocks inter cbpy cbpc) any λ bs. done (mbs.Inter quant v bs)
