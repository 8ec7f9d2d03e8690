-- A macroblock: stuffing, COD, MCBPC, CBPY, DQUANT, the vector, and six blocks (H.263, 5.3).
use Rattle.std.specs.Prelude.{ℕ, List, [], ◌∷◌, Bool, true, false, ◌&&◌, Option, Some, None, nat_lt, ◌==◌, if◌then◌else◌, ℤ, pos, negsuc, ◌+ℤ◌, ◌-ℤ◌, int_le}
use Rattle.std.specs.Int.{int_rem_euclid}
use Rattle.h263_types.specs.declared.Kind.{Kind}
use Rattle.h263_types.specs.declared.Kind.TheVariants as kinds
use Rattle.h263_types.specs.declared.vector.Vector.{Vector}
use Rattle.h263_types.specs.declared.vector.Reach.{Reach}
use Rattle.h263_types.specs.declared.blocks.Block.{Block}
use Rattle.h263_types.specs.declared.blocks.Mb.{Mb}
use Rattle.h263_types.specs.declared.blocks.Mb.TheVariants as mbs
use Rattle.h263_bits.specs.declared.fault.Fault.{Fault}
use Rattle.h263_bits.specs.declared.fault.FaultKind.TheVariants as faults
use Rattle.h263_bits.specs.Bits.{is_set}
use Rattle.h263_bits.specs.Reading.{Bits, first_fault}
use Rattle.h263_bits.specs.Syntax.{Syntax, Allowed, LoopTurn, again, finally, any, done, field, part, repeat, either, Spells, reading}
use Rattle.code_tables.specs.declared.macroblock.MbClass.{MbClass}
use Rattle.code_tables.specs.declared.macroblock.MbClass.TheVariants as classes
use Rattle.code_tables.specs.declared.macroblock.Mcbpc.{Mcbpc}
use Rattle.code_tables.specs.declared.macroblock.Mcbpc.TheVariants.{Stuffing, Word}
use Rattle.code_tables.specs.Tables.{cbpy, mvd}
use Rattle.code_tables.specs.Mcbpc.{mcbpc, dquant}
use Rattle.block_layer.specs.Text.{intra_block, inter_block, no_levels}
use Rattle.macroblock_layer.specs.declared.reading.Lead.{Lead}
use Rattle.macroblock_layer.specs.declared.reading.Lead.TheVariants.{Skipped, Coded}

-- ---- what stands first: Skip, or a class with CBPC

-- four vectors are not read
abbrev pub no_four : Allowed Mcbpc
no_four Stuffing = None
no_four (Word classes.Inter4 n) = Some faults.FourVectors
no_four (Word _ n) = None

abbrev pub after_mcbpc : Mcbpc → LoopTurn (Unit {0}) Lead
after_mcbpc Stuffing = again tt
after_mcbpc (Word class cbpc) = finally (Coded class cbpc)

unfoldable pub class_turn : Kind → Syntax (LoopTurn (Unit {0}) Lead)
class_turn kind = part (mcbpc kind) no_four λ m. done (after_mcbpc m)

-- in P there is COD, and 1 is Skip; after stuffing it begins again
unfoldable pub lead_turn : Kind → Unit {0} → Syntax (LoopTurn (Unit {0}) Lead)
lead_turn kinds.I u = class_turn kinds.I
lead_turn kinds.P u = field 1 any λ cod. either (cod == 1) (done (finally Skipped)) (class_turn kinds.P)

-- whether the bits begin with a macroblock that isn't coded: one bit of COD, in P
abbrev pub begins_skipped : Kind → List Bool → Bool
begins_skipped kinds.I bits = false
begins_skipped kinds.P [] = false
begins_skipped kinds.P (cod ∷ bits) = cod

unfoldable pub lead : Kind → Syntax Lead
lead kind = repeat tt (lead_turn kind)

-- ---- quantiser and vector

abbrev pub is_intra : MbClass → Bool
is_intra classes.Intra = true
is_intra classes.IntraQ = true
is_intra _ = false

-- limited to 1 to 31
abbrev pub limited_quant : ℤ → ℕ
limited_quant (negsuc n) = 1
limited_quant (pos n) = if n == 0 then 1 else (if nat_lt 31 n then 31 else n)

-- the quantiser: as before in a plain class, changed by DQUANT in a Q class (5.3.6)
unfoldable pub quantiser : MbClass → ℕ → Syntax ℕ
quantiser classes.InterQ quant = part dquant any λ step. done (limited_quant (pos quant +ℤ step))
quantiser classes.IntraQ quant = part dquant any λ step. done (limited_quant (pos quant +ℤ step))
quantiser _ quant = done quant

-- modulo 64, into -32 to 31 (6.1.1)
abbrev pub wrapped : ℤ → ℤ
wrapped z = int_rem_euclid (z +ℤ pos 32) (pos 64) -ℤ pos 32

-- the vector by its difference to the predictor
abbrev pub moved : Vector → Vector → Vector
moved predictor d = record { x = wrapped (predictor.x +ℤ d.x); y = wrapped (predictor.y +ℤ d.y) }

abbrev pub is_within_across : Reach → Vector → Bool
is_within_across r v = int_le r.left v.x && int_le v.x r.right

abbrev pub is_within_along : Reach → Vector → Bool
is_within_along r v = int_le r.up v.y && int_le v.y r.down

-- whether a vector is in reach
abbrev pub is_within : Reach → Vector → Bool
is_within r v = is_within_across r v && is_within_along r v

-- the horizontal and the vertical difference
unfoldable pub difference : Syntax Vector
difference =
    part mvd any λ x.
    part mvd any λ y.
    done (record { x = x; y = y })

-- a vector out of reach is found with its last word, and stands at the first
abbrev pub allowed_in_reach : Reach → Vector → Allowed Vector
allowed_in_reach reach predictor d = if is_within reach (moved predictor d) then None else Some faults.BadVector

unfoldable pub vector : Reach → Vector → Syntax Vector
vector reach predictor = part difference (allowed_in_reach reach predictor) λ d. done (moved predictor d)

-- ---- blocks

abbrev pub block_of_levels : List ℤ → Block
block_of_levels levels = record { levels = levels }

unfoldable pub intra : Bool → Syntax Block
intra coded = part (intra_block coded) any λ levels. done (block_of_levels levels)

unfoldable pub inter : Bool → Syntax Block
inter coded = either coded (part inter_block any λ levels. done (block_of_levels levels))
    (done (block_of_levels no_levels))

-- six blocks, the left bit of CBPY for the first, then CBPC
unfoldable pub blocks : (Bool → Syntax Block) → ℕ → ℕ → Syntax (List Block)
blocks block cbpy cbpc =
    part (block (is_set cbpy 3)) any λ a.
    part (block (is_set cbpy 2)) any λ b.
    part (block (is_set cbpy 1)) any λ c.
    part (block (is_set cbpy 0)) any λ d.
    part (block (is_set cbpc 1)) any λ e.
    part (block (is_set cbpc 0)) any λ f.
    done (a ∷ b ∷ c ∷ d ∷ e ∷ f ∷ [])

-- ---- the whole macroblock

-- what follows MCBPC
unfoldable pub intra_mb : ℕ → ℕ → ℕ → Syntax Mb
intra_mb quant cbpy cbpc = part (blocks intra cbpy cbpc) any λ bs. done (mbs.Intra quant bs)

unfoldable pub inter_mb : Reach → Vector → ℕ → ℕ → ℕ → Syntax Mb
inter_mb reach predictor quant cbpy cbpc =
    part (vector reach predictor) any λ v.
    part (blocks inter cbpy cbpc) any λ bs.
    done (mbs.Inter quant v bs)

unfoldable pub coded_mb : ℕ → Reach → Vector → MbClass → ℕ → Syntax Mb
coded_mb quant reach predictor class cbpc =
    part (cbpy (is_intra class)) any λ cbpy.
    part (quantiser class quant) any λ quant.
    either (is_intra class) (intra_mb quant cbpy cbpc) (inter_mb reach predictor quant cbpy cbpc)

unfoldable pub after_lead : ℕ → Reach → Vector → Lead → Syntax Mb
after_lead quant reach predictor Skipped = done mbs.Skip
after_lead quant reach predictor (Coded class cbpc) = coded_mb quant reach predictor class cbpc

-- a macroblock, with the quantiser before it, its reach and its predictor
unfoldable pub mb : Kind → ℕ → Reach → Vector → Syntax Mb
mb kind quant reach predictor = part (lead kind) any λ l. after_lead quant reach predictor l

-- ---- in the format's words

-- the bits are a text of the macroblock, in a picture of this kind, where its quantiser before it,
-- its reach and its predictor are these
abbrev pub IsMbText : Kind → ℕ → Reach → Vector → Mb → List Bool → Type 0
IsMbText kind quant reach predictor m bits = Spells (mb kind quant reach predictor) m bits

-- the first fault of a macroblock in bits from a place on, if there is one
abbrev pub macroblock_fault : Kind → ℕ → Reach → Vector → Bits → Option Fault
macroblock_fault kind quant reach predictor b = first_fault (reading (mb kind quant reach predictor) b)
