-- THE FAULTS OF A MACROBLOCK (H.263, 5.3), element by element: COD, MCBPC, CBPY, DQUANT, the two
-- vector differences, and the blocks.
use Rattle.std.specs.Prelude.{◌≡◌, ◌↔◌, ℕ, ℤ, ◌+◌, List, ◌∷◌, ◌++◌, length, Bool, true, false, Err}
use Rattle.h263_types.specs.declared.Kind.{Kind}
use Rattle.h263_types.specs.declared.Kind.TheVariants as kinds
use Rattle.h263_types.specs.declared.vector.Vector.{Vector}
use Rattle.h263_types.specs.declared.vector.Reach.{Reach}
use Rattle.h263_types.specs.declared.blocks.Block.{Block}
use Rattle.h263_bits.specs.declared.fault.Fault.{Fault}
use Rattle.h263_bits.specs.declared.fault.FaultKind.{FaultKind}
use Rattle.h263_bits.specs.declared.fault.FaultKind.TheVariants as faults
use Rattle.h263_bits.specs.Bits.{is_set}
use Rattle.h263_bits.specs.Reading.{Bits}
use Rattle.h263_bits.specs.Syntax.{Syntax, IsIn, Spells, reading}
use Rattle.h263_bits.specs.Elements.{HasFault, IsFirstFault}
use Rattle.code_tables.specs.declared.macroblock.MbClass.{MbClass}
use Rattle.code_tables.specs.declared.macroblock.MbClass.TheVariants as classes
use Rattle.code_tables.specs.declared.macroblock.Mcbpc.TheVariants.{Word}
use Rattle.code_tables.specs.Words.{word}
use Rattle.code_tables.specs.Mcbpc.{mcbpc, mcbpc_words, dquant}
use Rattle.code_tables.specs.Tables.{cbpy, mvd}
use Rattle.block_layer.specs.Text.{intra_block, inter_block}
use Rattle.macroblock_layer.specs.declared.reading.Lead.{Lead}
use Rattle.macroblock_layer.specs.Text.{lead, is_intra, quantiser, moved, is_within, vector, blocks, intra, inter, intra_mb, inter_mb, coded_mb, after_lead, mb}

-- COD and MCBPC, after stuffing
pub record LeadFaults : Type 0 where
  pub intra : (text : List Bool) (kind : FaultKind) (place : ℕ)
      → HasFault (mcbpc kinds.I) text kind place → HasFault (lead kinds.I) text kind place
  pub inter : (text : List Bool) (kind : FaultKind) (place : ℕ)
      → HasFault (mcbpc kinds.P) text kind place
      → HasFault (lead kinds.P) (false ∷ text) kind (1 + place)
  -- four vectors: the fault stands at MCBPC, after COD
  pub four : (n : ℕ) (w : List Bool) → IsIn (w, Word classes.Inter4 n) (mcbpc_words kinds.P)
      → HasFault (lead kinds.P) (false ∷ w) faults.FourVectors 1
  pub intra_stuffing : (text : List Bool) (kind : FaultKind) (place : ℕ)
      → HasFault (lead kinds.I) text kind place
      → HasFault (lead kinds.I) (word "000000001" ++ text) kind (9 + place)
  pub inter_stuffing : (text : List Bool) (kind : FaultKind) (place : ℕ)
      → HasFault (lead kinds.P) text kind place
      → HasFault (lead kinds.P) (word "0000000001" ++ text) kind (10 + place)

-- the vector: a fault of a difference, and a vector out of reach, found with its last word, at the
-- first bit of its first
pub record VectorFaults : Type 0 where
  pub across : (reach : Reach) (predictor : Vector) (text : List Bool) (kind : FaultKind)
      (place : ℕ) → HasFault mvd text kind place → HasFault (vector reach predictor) text kind place
  pub along : (reach : Reach) (predictor : Vector) (x : ℤ) (a text : List Bool)
      (kind : FaultKind) (place : ℕ) → Spells mvd x a → HasFault mvd text kind place
      → HasFault (vector reach predictor) (a ++ text) kind (length a + place)
  pub out_of_reach : (reach : Reach) (predictor : Vector) (x y : ℤ) (a b : List Bool)
      → Spells mvd x a
      → Spells mvd y b → is_within reach (moved predictor (record { x = x; y = y })) ≡ false
      → HasFault (vector reach predictor) (a ++ b) faults.BadVector 0

-- what stands after MCBPC
pub record CodedFaults (quant : ℕ) (reach : Reach) (predictor : Vector) (class : MbClass) (cbpc : ℕ) : Type 0 where
  pub of_cbpy : (text : List Bool) (kind : FaultKind) (place : ℕ)
      → HasFault (cbpy (is_intra class)) text kind place
      → HasFault (coded_mb quant reach predictor class cbpc) text kind place
  pub of_quantiser : (pattern : ℕ) (a text : List Bool) (kind : FaultKind) (place : ℕ)
      → Spells (cbpy (is_intra class)) pattern a → HasFault (quantiser class quant) text kind place
      → HasFault (coded_mb quant reach predictor class cbpc) (a ++ text) kind (length a + place)
  pub of_intra : (pattern q : ℕ) (a b text : List Bool) (kind : FaultKind) (place : ℕ)
      → is_intra class ≡ true
      → Spells (cbpy (is_intra class)) pattern a → Spells (quantiser class quant) q b
      → HasFault (intra_mb q pattern cbpc) text kind place
      → HasFault (coded_mb quant reach predictor class cbpc)
      (a ++ (b ++ text)) kind (length a + (length b + place))
  pub of_inter : (pattern q : ℕ) (a b text : List Bool) (kind : FaultKind) (place : ℕ)
      → is_intra class ≡ false
      → Spells (cbpy (is_intra class)) pattern a → Spells (quantiser class quant) q b
      → HasFault (inter_mb reach predictor q pattern cbpc) text kind place
      → HasFault (coded_mb quant reach predictor class cbpc)
      (a ++ (b ++ text)) kind (length a + (length b + place))

-- a block of an intra macroblock, or of an inter macroblock
abbrev pub block_syntax : Bool → Bool → Syntax Block
block_syntax true coded = intra coded
block_syntax false coded = inter coded

-- the six blocks: the four of luma, left to right and top to bottom, Cb and Cr, each after the
-- texts of those before it
pub record SixBlocksFaults (is : Bool) (cbpy cbpc : ℕ) : Type 0 where
  pub of_first : (text : List Bool) (kind : FaultKind) (place : ℕ)
      → HasFault (block_syntax is (is_set cbpy 3)) text kind place
      → HasFault (blocks (λ coded. block_syntax is coded) cbpy cbpc) text kind place
  pub of_second : (xa : Block) (a text : List Bool) (kind : FaultKind) (place : ℕ)
      → Spells (block_syntax is (is_set cbpy 3)) xa a
      → HasFault (block_syntax is (is_set cbpy 2)) text kind place
      → HasFault (blocks (λ coded. block_syntax is coded) cbpy cbpc) (a ++ text) kind (length a + place)
  pub of_third : (xa xb : Block) (a b text : List Bool) (kind : FaultKind) (place : ℕ)
      → Spells (block_syntax is (is_set cbpy 3)) xa a → Spells (block_syntax is (is_set cbpy 2)) xb b
      → HasFault (block_syntax is (is_set cbpy 1)) text kind place
      → HasFault (blocks (λ coded. block_syntax is coded) cbpy cbpc) (a ++ (b ++ text)) kind
      (length a + (length b + place))
  pub of_fourth : (xa xb xc : Block) (a b c text : List Bool) (kind : FaultKind) (place : ℕ)
      → Spells (block_syntax is (is_set cbpy 3)) xa a
      → Spells (block_syntax is (is_set cbpy 2)) xb b → Spells (block_syntax is (is_set cbpy 1)) xc c
      → HasFault (block_syntax is (is_set cbpy 0)) text kind place
      → HasFault (blocks (λ coded. block_syntax is coded) cbpy cbpc)
      (a ++ (b ++ (c ++ text))) kind (length a + (length b + (length c + place)))
  pub of_cb : (xa xb xc xd : Block) (a b c d text : List Bool) (kind : FaultKind) (place : ℕ)
      → Spells (block_syntax is (is_set cbpy 3)) xa a → Spells (block_syntax is (is_set cbpy 2)) xb b
      → Spells (block_syntax is (is_set cbpy 1)) xc c → Spells (block_syntax is (is_set cbpy 0)) xd d
      → HasFault (block_syntax is (is_set cbpc 1)) text kind place
      → HasFault (blocks (λ coded. block_syntax is coded) cbpy cbpc) (a ++ (b ++ (c ++ (d ++ text))))
      kind (length a + (length b + (length c + (length d + place))))
  pub of_cr : (xa xb xc xd xe : Block) (a b c d e text : List Bool) (kind : FaultKind) (place : ℕ)
      → Spells (block_syntax is (is_set cbpy 3)) xa a
      → Spells (block_syntax is (is_set cbpy 2)) xb b → Spells (block_syntax is (is_set cbpy 1)) xc c
      → Spells (block_syntax is (is_set cbpy 0)) xd d → Spells (block_syntax is (is_set cbpc 1)) xe e
      → HasFault (block_syntax is (is_set cbpc 0)) text kind place
      → HasFault (blocks (λ coded. block_syntax is coded) cbpy cbpc)
      (a ++ (b ++ (c ++ (d ++ (e ++ text))))) kind
      (length a + (length b + (length c + (length d + (length e + place)))))

pub record MbFaults : Type 0 where
  -- the first fault is the one that the element after the longest list of elements without a fault has
  pub first : (kind : Kind) (quant : ℕ) (reach : Reach) (predictor : Vector)
      (b : Bits) (fault : Fault) → (reading (mb kind quant reach predictor) b ≡ Err fault)
      ↔ IsFirstFault (mb kind quant reach predictor) b fault
  pub leads : LeadFaults
  pub of_lead : (kind : Kind) (quant : ℕ) (reach : Reach) (predictor : Vector)
      (text : List Bool) (fault : FaultKind) (place : ℕ) → HasFault (lead kind) text fault place
      → HasFault (mb kind quant reach predictor) text fault place
  pub of_rest : (kind : Kind) (quant : ℕ) (reach : Reach)
      (predictor : Vector) (l : Lead) (front text : List Bool) (fault : FaultKind) (place : ℕ)
      → Spells (lead kind) l front → HasFault (after_lead quant reach predictor l) text fault place
      → HasFault (mb kind quant reach predictor) (front ++ text) fault (length front + place)
  pub coded : (quant : ℕ) (reach : Reach) (predictor : Vector) (class : MbClass) (cbpc : ℕ)
      → CodedFaults quant reach predictor class cbpc
  pub of_dquant : (quant : ℕ) (text : List Bool) (kind : FaultKind) (place : ℕ) → HasFault dquant text kind place
      → HasFault (quantiser classes.InterQ quant) text kind place
      × HasFault (quantiser classes.IntraQ quant) text kind place
  pub vectors : VectorFaults
  pub of_vector : (reach : Reach) (predictor : Vector) (quant cbpy cbpc : ℕ) (text : List Bool)
      (kind : FaultKind) (place : ℕ) → HasFault (vector reach predictor) text kind place
      → HasFault (inter_mb reach predictor quant cbpy cbpc) text kind place
  pub of_intra : (quant cbpy cbpc : ℕ) (text : List Bool) (kind : FaultKind) (place : ℕ)
      → HasFault (blocks intra cbpy cbpc) text kind place
      → HasFault (intra_mb quant cbpy cbpc) text kind place
  pub of_inter : (reach : Reach) (predictor v : Vector)
      (quant cbpy cbpc : ℕ) (a text : List Bool) (kind : FaultKind) (place : ℕ)
      → Spells (vector reach predictor) v a → HasFault (blocks inter cbpy cbpc) text kind place
      → HasFault (inter_mb reach predictor quant cbpy cbpc) (a ++ text) kind (length a + place)
  pub six_blocks : (is : Bool) (cbpy cbpc : ℕ) → SixBlocksFaults is cbpy cbpc
  -- a block's faults are the macroblock's: INTRADC and events, and an inter block's where its pattern bit is set
  pub of_intra_block : (coded : Bool) (text : List Bool) (kind : FaultKind) (place : ℕ)
      → HasFault (intra_block coded) text kind place → HasFault (intra coded) text kind place
  pub of_inter_block : (text : List Bool) (kind : FaultKind) (place : ℕ)
      → HasFault inter_block text kind place → HasFault (inter true) text kind place
