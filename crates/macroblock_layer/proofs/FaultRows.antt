-- The rows of the table of faults.
use Rattle.std.proofs.Common.{◌≡◌, ℕ, ◌+◌, Bool, true, false, refl, sym, subst, arith, List, [], ◌∷◌, ◌++◌, length, Some}
use Rattle.std.specs.Prelude.{ℤ}
use Rattle.std.proofs.lemmas.List.{append-nil}
use Rattle.h263_types.specs.declared.Kind.{Kind}
use Rattle.h263_types.specs.declared.Kind.TheVariants as kinds
use Rattle.h263_types.specs.declared.vector.Vector.{Vector}
use Rattle.h263_types.specs.declared.vector.Reach.{Reach}
use Rattle.h263_bits.specs.declared.fault.FaultKind.{FaultKind}
use Rattle.h263_bits.specs.declared.fault.FaultKind.TheVariants as faults
use Rattle.h263_bits.specs.Bits.{is_set, spelled}
use Rattle.h263_bits.specs.Syntax.{IsIn, IsProductive, Spells, again, any, either}
use Rattle.h263_bits.specs.Elements.{HasFault}
use Rattle.h263_bits.proofs.SyntaxLaws.{first_fault_is, fault_in_part, fault_after_part, fault_of_whole_part, fault_after_field, fault_in_turn, fault_after_turn, spells_field}
use Rattle.code_tables.specs.declared.macroblock.MbClass.{MbClass}
use Rattle.code_tables.specs.declared.macroblock.MbClass.TheVariants as classes
use Rattle.code_tables.specs.declared.macroblock.Mcbpc.TheVariants.{Stuffing, Word}
use Rattle.code_tables.specs.Words.{word}
use Rattle.code_tables.specs.Mcbpc.{mcbpc, mcbpc_table, mcbpc_words, mcbpc_text, dquant}
use Rattle.code_tables.specs.Tables.{cbpy, mvd}
use Rattle.code_tables.specs.Laws.{TableLaws}
use Rattle.h263_types.specs.declared.blocks.Block.{Block}
use Rattle.block_layer.specs.Text.{intra_block, inter_block}
use Rattle.block_layer.specs.Laws.{BlockLaws}
use Rattle.macroblock_layer.specs.declared.reading.Lead.{Lead}
use Rattle.macroblock_layer.specs.Text.{no_four, class_turn, lead_turn, lead, is_intra, quantiser, moved, is_within, allowed_in_reach, difference, vector, blocks, intra, inter, intra_mb, inter_mb, coded_mb, after_lead, mb}
use Rattle.macroblock_layer.specs.Faults.{LeadFaults, CodedFaults, block_syntax, SixBlocksFaults, MbFaults}
use Rattle.macroblock_layer.proofs.Leads.{lead_some, turn_productive, lead_productive}
use Rattle.macroblock_layer.proofs.Productive.{quantiser_productive, difference_productive, vector_productive, intra_block_productive, inter_block_productive, mb_productive}

-- ---- COD and MCBPC

intra_row : (text : List Bool) (kind : FaultKind) (place : ℕ) → HasFault (mcbpc kinds.I) text kind place
    → HasFault (lead kinds.I) text kind place
unfolding lead lead_turn class_turn
intra_row text kind place h = fault_in_turn tt (lead_turn kinds.I) text kind place
    (fault_in_part (mcbpc kinds.I) no_four _ text kind place h)

-- after COD
coded_row : (text : List Bool) (kind : FaultKind) (place : ℕ) → HasFault (class_turn kinds.P) text kind place
    → HasFault (lead kinds.P) (false ∷ text) kind (1 + place)
unfolding lead lead_turn spelled
coded_row text kind place h = fault_in_turn tt (lead_turn kinds.P) (false ∷ text) kind (1 + place)
    (fault_after_field 1 any _ 0 text kind place (omega arith) refl h)

inter_row : (text : List Bool) (kind : FaultKind) (place : ℕ) → HasFault (mcbpc kinds.P) text kind place
    → HasFault (lead kinds.P) (false ∷ text) kind (1 + place)
unfolding class_turn
inter_row text kind place h = coded_row text kind place (fault_in_part (mcbpc kinds.P) no_four _ text kind place h)

four_spelt : (n : ℕ) (w : List Bool) → IsIn (w, Word classes.Inter4 n) (mcbpc_words kinds.P)
    → Spells (mcbpc kinds.P) (Word classes.Inter4 n) w
unfolding mcbpc mcbpc_table Spells
four_spelt n w h = (w, Word classes.Inter4 n, [], h, sym (append-nil w), (refl, refl))

four_row : TableLaws → (n : ℕ) (w : List Bool) → IsIn (w, Word classes.Inter4 n) (mcbpc_words kinds.P)
    → HasFault (lead kinds.P) (false ∷ w) faults.FourVectors 1
unfolding class_turn
four_row tables n w h = coded_row w faults.FourVectors 0 (fault_of_whole_part (mcbpc kinds.P) no_four _
    (Word classes.Inter4 n) w faults.FourVectors (tables.productive.mcbpc kinds.P) (four_spelt n w h) refl)

stuffing_class : TableLaws → (kind : Kind) → Spells (class_turn kind) (again tt) (word "000000001")
unfolding class_turn Spells mcbpc_text
stuffing_class tables kinds.I = (
  Stuffing,
  word "000000001",
  [],
  refl,
  tables.spelt.mcbpc kinds.I Stuffing tt,
  refl,
  (refl, refl),
)
stuffing_class tables kinds.P = (
  Stuffing,
  word "000000001",
  [],
  refl,
  tables.spelt.mcbpc kinds.P Stuffing tt,
  refl,
  (refl, refl),
)

intra_stuffed : TableLaws → Spells (lead_turn kinds.I tt) (again tt) (word "000000001")
unfolding lead_turn
intra_stuffed tables = stuffing_class tables kinds.I

inter_stuffed : TableLaws → Spells (lead_turn kinds.P tt) (again tt) (word "0000000001")
unfolding lead_turn spelled
inter_stuffed tables = spells_field 1 any _ (again tt) 0 (word "000000001") (omega arith) refl
    (stuffing_class tables kinds.P)

intra_stuffing : TableLaws → (text : List Bool) (kind : FaultKind) (place : ℕ) → HasFault (lead kinds.I) text kind place
    → HasFault (lead kinds.I) (word "000000001" ++ text) kind (9 + place)
unfolding lead
intra_stuffing tables text kind place h = fault_after_turn tt tt (lead_turn kinds.I) (word "000000001") text kind place
    (turn_productive kinds.I) (lead_some kinds.I) (intra_stuffed tables) h

inter_stuffing : TableLaws → (text : List Bool) (kind : FaultKind) (place : ℕ) → HasFault (lead kinds.P) text kind place
    → HasFault (lead kinds.P) (word "0000000001" ++ text) kind (10 + place)
unfolding lead
inter_stuffing tables text kind place h = fault_after_turn tt tt (lead_turn kinds.P) (word "0000000001") text kind place
    (turn_productive kinds.P) (lead_some kinds.P) (inter_stuffed tables) h

lead_faults : TableLaws → LeadFaults
lead_faults tables = record {
  intra = intra_row;
  inter = inter_row;
  four = four_row tables;
  intra_stuffing = intra_stuffing tables;
  inter_stuffing = inter_stuffing tables;
}

-- ---- the vector

across_row : (reach : Reach) (predictor : Vector) (text : List Bool) (kind : FaultKind) (place : ℕ)
    → HasFault mvd text kind place → HasFault (vector reach predictor) text kind place
unfolding vector difference
across_row reach predictor text kind place h = fault_in_part difference (allowed_in_reach reach predictor)
    _ text kind place
    (fault_in_part mvd any _ text kind place h)

along_row : TableLaws → (reach : Reach) (predictor : Vector) (x : ℤ) (a text : List Bool) (kind : FaultKind) (place : ℕ)
    → Spells mvd x a → HasFault mvd text kind place
    → HasFault (vector reach predictor) (a ++ text) kind (length a + place)
unfolding vector difference
along_row tables reach predictor x a text kind place spelt h =
    fault_in_part difference (allowed_in_reach reach predictor) _ (a ++ text) kind (length a + place)
    (fault_after_part mvd any _ x a text kind place tables.productive.mvd spelt refl
    (fault_in_part mvd any _ text kind place h))

difference_spelt : (x y : ℤ) (a b : List Bool) → Spells mvd x a → Spells mvd y b
    → Spells difference (record { x = x; y = y }) (a ++ b)
unfolding difference Spells
difference_spelt x y a b p q = (x, a, b, refl, p, refl, (y, b, [], sym (append-nil b), q, refl, (refl, refl)))

out_of_reach : (reach : Reach) (predictor d : Vector) → is_within reach (moved predictor d) ≡ false
    → allowed_in_reach reach predictor d ≡ Some faults.BadVector
out_of_reach reach predictor d e = rw e refl

reach_row : TableLaws → (reach : Reach) (predictor : Vector) (x y : ℤ) (a b : List Bool) → Spells mvd x a
    → Spells mvd y b → is_within reach (moved predictor (record { x = x; y = y })) ≡ false
    → HasFault (vector reach predictor) (a ++ b) faults.BadVector 0
unfolding vector
reach_row tables reach predictor x y a b p q out =
    fault_of_whole_part difference (allowed_in_reach reach predictor) _ (record { x = x; y = y }) (a
    ++ b) faults.BadVector
    (difference_productive tables) (difference_spelt x y a b p q) (out_of_reach reach predictor (record {
      x = x;
      y = y;
    }) out)

-- ---- what stands after MCBPC

cbpy_row : (quant : ℕ) (reach : Reach) (predictor : Vector) (class : MbClass) (cbpc : ℕ) (text : List Bool)
    (kind : FaultKind) (place : ℕ) → HasFault (cbpy (is_intra class)) text kind place
    → HasFault (coded_mb quant reach predictor class cbpc) text kind place
unfolding coded_mb
cbpy_row quant reach predictor class cbpc text kind place h = fault_in_part (cbpy (is_intra class)) any
    _ text kind place h

step_row : TableLaws → (quant : ℕ) (reach : Reach) (predictor : Vector) (class : MbClass) (cbpc pattern : ℕ)
    (a text : List Bool) (kind : FaultKind) (place : ℕ) → Spells (cbpy (is_intra class)) pattern a
    → HasFault (quantiser class quant) text kind place
    → HasFault (coded_mb quant reach predictor class cbpc) (a ++ text) kind (length a + place)
unfolding coded_mb
step_row tables quant reach predictor class cbpc pattern a text kind place spelt h =
    fault_after_part (cbpy (is_intra class)) any _ pattern a text kind place (tables.productive.cbpy (is_intra class))
    spelt refl
    (fault_in_part (quantiser class quant) any _ text kind place h)

coded_intra_row : TableLaws → (quant : ℕ) (reach : Reach) (predictor : Vector) (class : MbClass) (cbpc pattern q : ℕ)
    (a b text : List Bool) (kind : FaultKind) (place : ℕ) → is_intra class ≡ true
    → Spells (cbpy (is_intra class)) pattern a → Spells (quantiser class quant) q b
    → HasFault (intra_mb q pattern cbpc) text kind place
    → HasFault (coded_mb quant reach predictor class cbpc) (a ++ (b ++ text)) kind (length a + (length b + place))
unfolding coded_mb
coded_intra_row tables quant reach predictor class cbpc pattern q a b text kind place is p s h =
    fault_after_part (cbpy (is_intra class)) any _ pattern a (b ++ text) kind (length b + place)
    (tables.productive.cbpy (is_intra class)) p refl
    (fault_after_part (quantiser class quant) any _ q b text kind place (quantiser_productive tables class quant) s refl
    (subst (λ (t : Bool). HasFault (either t (intra_mb q pattern cbpc) (inter_mb reach predictor q pattern cbpc))
    text kind place) (sym is) h))

coded_inter_row : TableLaws → (quant : ℕ) (reach : Reach) (predictor : Vector) (class : MbClass) (cbpc pattern q : ℕ)
    (a b text : List Bool) (kind : FaultKind) (place : ℕ) → is_intra class ≡ false
    → Spells (cbpy (is_intra class)) pattern a → Spells (quantiser class quant) q b
    → HasFault (inter_mb reach predictor q pattern cbpc) text kind place
    → HasFault (coded_mb quant reach predictor class cbpc) (a ++ (b ++ text)) kind (length a + (length b + place))
unfolding coded_mb
coded_inter_row tables quant reach predictor class cbpc pattern q a b text kind place is p s h =
    fault_after_part (cbpy (is_intra class)) any _ pattern a (b ++ text) kind (length b + place)
    (tables.productive.cbpy (is_intra class)) p refl
    (fault_after_part (quantiser class quant) any _ q b text kind place (quantiser_productive tables class quant) s refl
    (subst (λ (t : Bool). HasFault (either t (intra_mb q pattern cbpc) (inter_mb reach predictor q pattern cbpc))
    text kind place) (sym is) h))

coded_faults : TableLaws → (quant : ℕ) (reach : Reach) (predictor : Vector) (class : MbClass) (cbpc : ℕ)
    → CodedFaults quant reach predictor class cbpc
coded_faults tables quant reach predictor class cbpc = record {
  of_cbpy = cbpy_row quant reach predictor class cbpc;
  of_quantiser = step_row tables quant reach predictor class cbpc;
  of_intra = coded_intra_row tables quant reach predictor class cbpc;
  of_inter = coded_inter_row tables quant reach predictor class cbpc;
}

-- ---- the whole macroblock

lead_row : (kind : Kind) (quant : ℕ) (reach : Reach) (predictor : Vector) (text : List Bool) (fault : FaultKind)
    (place : ℕ) → HasFault (lead kind) text fault place → HasFault (mb kind quant reach predictor) text fault place
unfolding mb
lead_row kind quant reach predictor text fault place h = fault_in_part (lead kind) any _ text fault place h

after_row : (kind : Kind) (quant : ℕ) (reach : Reach) (predictor : Vector) (l : Lead) (front text : List Bool)
    (fault : FaultKind) (place : ℕ) → Spells (lead kind) l front
    → HasFault (after_lead quant reach predictor l) text fault place
    → HasFault (mb kind quant reach predictor) (front ++ text) fault (length front + place)
unfolding mb
after_row kind quant reach predictor l front text fault place spelt h = fault_after_part (lead kind) any
    _ l front text fault place (lead_productive kind) spelt refl h

dquant_inter_row : (quant : ℕ) (text : List Bool) (kind : FaultKind) (place : ℕ) → HasFault dquant text kind place
    → HasFault (quantiser classes.InterQ quant) text kind place
unfolding quantiser
dquant_inter_row quant text kind place h = fault_in_part dquant any _ text kind place h

dquant_intra_row : (quant : ℕ) (text : List Bool) (kind : FaultKind) (place : ℕ) → HasFault dquant text kind place
    → HasFault (quantiser classes.IntraQ quant) text kind place
unfolding quantiser
dquant_intra_row quant text kind place h = fault_in_part dquant any _ text kind place h

vector_row : (reach : Reach) (predictor : Vector) (quant cbpy cbpc : ℕ) (text : List Bool) (kind : FaultKind)
    (place : ℕ) → HasFault (vector reach predictor) text kind place
    → HasFault (inter_mb reach predictor quant cbpy cbpc) text kind place
unfolding inter_mb
vector_row reach predictor quant cbpy cbpc text kind place h = fault_in_part (vector reach predictor) any
    _ text kind place h

of_intra_row : (quant cbpy cbpc : ℕ) (text : List Bool) (kind : FaultKind) (place : ℕ)
    → HasFault (blocks intra cbpy cbpc) text kind place → HasFault (intra_mb quant cbpy cbpc) text kind place
unfolding intra_mb
of_intra_row quant cbpy cbpc text kind place h = fault_in_part (blocks intra cbpy cbpc) any _ text kind place h

of_inter_row : TableLaws → (reach : Reach) (predictor v : Vector) (quant cbpy cbpc : ℕ) (a text : List Bool)
    (kind : FaultKind) (place : ℕ) → Spells (vector reach predictor) v a
    → HasFault (blocks inter cbpy cbpc) text kind place
    → HasFault (inter_mb reach predictor quant cbpy cbpc) (a ++ text) kind (length a + place)
unfolding inter_mb
of_inter_row tables reach predictor v quant cbpy cbpc a text kind place spelt h =
    fault_after_part (vector reach predictor) any _ v a text kind place (vector_productive tables reach predictor) spelt
    refl (fault_in_part (blocks inter cbpy cbpc) any _ text kind place h)

intra_block_row : (coded : Bool) (text : List Bool) (kind : FaultKind) (place : ℕ)
    → HasFault (intra_block coded) text kind place → HasFault (intra coded) text kind place
unfolding intra
intra_block_row coded text kind place h = fault_in_part (intra_block coded) any _ text kind place h

inter_block_row : (text : List Bool) (kind : FaultKind) (place : ℕ) → HasFault inter_block text kind place
    → HasFault (inter true) text kind place
unfolding inter
inter_block_row text kind place h = fault_in_part inter_block any _ text kind place h

block_productive : BlockLaws → (is coded : Bool) → IsProductive (block_syntax is coded)
block_productive of_blocks true coded = intra_block_productive of_blocks coded
block_productive of_blocks false coded = inter_block_productive of_blocks coded

block_row_0 : BlockLaws → (is : Bool) (cbpy cbpc : ℕ) (text : List Bool) (kind : FaultKind) (place : ℕ)
    → HasFault (block_syntax is (is_set cbpy 3)) text kind place
    → HasFault (blocks (λ coded. block_syntax is coded) cbpy cbpc) text kind place
unfolding blocks
block_row_0 of_blocks is cbpy cbpc text kind place h =
    fault_in_part (block_syntax is (is_set cbpy 3)) any _ text kind place h

block_row_1 : BlockLaws → (is : Bool) (cbpy cbpc : ℕ) (xa : Block) (a text : List Bool) (kind : FaultKind) (place : ℕ)
    → Spells (block_syntax is (is_set cbpy 3)) xa a → HasFault (block_syntax is (is_set cbpy 2)) text kind place
    → HasFault (blocks (λ coded. block_syntax is coded) cbpy cbpc) (a ++ text) kind (length a + place)
unfolding blocks
block_row_1 of_blocks is cbpy cbpc xa a text kind place sa h =
    fault_after_part (block_syntax is (is_set cbpy 3)) any _ xa a text kind place
    (block_productive of_blocks is (is_set cbpy 3)) sa refl
    (fault_in_part (block_syntax is (is_set cbpy 2)) any _ text kind place h)

block_row_2 : BlockLaws → (is : Bool) (cbpy cbpc : ℕ) (xa xb : Block) (a b text : List Bool) (kind : FaultKind)
    (place : ℕ) → Spells (block_syntax is (is_set cbpy 3)) xa a → Spells (block_syntax is (is_set cbpy 2)) xb b
    → HasFault (block_syntax is (is_set cbpy 1)) text kind place
    → HasFault (blocks (λ coded. block_syntax is coded) cbpy cbpc) (a ++ (b ++ text)) kind
    (length a + (length b + place))
unfolding blocks
block_row_2 of_blocks is cbpy cbpc xa xb a b text kind place sa sb h =
    fault_after_part (block_syntax is (is_set cbpy 3)) any _ xa a (b ++ text) kind (length b + place)
    (block_productive of_blocks is (is_set cbpy 3)) sa refl
    (fault_after_part (block_syntax is (is_set cbpy 2)) any _ xb b text kind place
    (block_productive of_blocks is (is_set cbpy 2)) sb refl
    (fault_in_part (block_syntax is (is_set cbpy 1)) any _ text kind place h))

block_row_3 : BlockLaws → (is : Bool) (cbpy cbpc : ℕ) (xa xb xc : Block) (a b c text : List Bool) (kind : FaultKind)
    (place : ℕ) → Spells (block_syntax is (is_set cbpy 3)) xa a → Spells (block_syntax is (is_set cbpy 2)) xb b
    → Spells (block_syntax is (is_set cbpy 1)) xc c → HasFault (block_syntax is (is_set cbpy 0)) text kind place
    → HasFault (blocks (λ coded. block_syntax is coded) cbpy cbpc) (a ++ (b ++ (c ++ text))) kind
    (length a + (length b + (length c + place)))
unfolding blocks
block_row_3 of_blocks is cbpy cbpc xa xb xc a b c text kind place sa sb sc h =
    fault_after_part (block_syntax is (is_set cbpy 3)) any _ xa a (b ++ (c ++ text)) kind
    (length b + (length c + place))
    (block_productive of_blocks is (is_set cbpy 3)) sa refl
    (fault_after_part (block_syntax is (is_set cbpy 2)) any _ xb b (c ++ text) kind (length c + place)
    (block_productive of_blocks is (is_set cbpy 2)) sb refl
    (fault_after_part (block_syntax is (is_set cbpy 1)) any _ xc c text kind place
    (block_productive of_blocks is (is_set cbpy 1)) sc refl
    (fault_in_part (block_syntax is (is_set cbpy 0)) any _ text kind place h)))

block_row_4 : BlockLaws → (is : Bool) (cbpy cbpc : ℕ) (xa xb xc xd : Block) (a b c d text : List Bool)
    (kind : FaultKind) (place : ℕ) → Spells (block_syntax is (is_set cbpy 3)) xa a
    → Spells (block_syntax is (is_set cbpy 2)) xb b → Spells (block_syntax is (is_set cbpy 1)) xc c
    → Spells (block_syntax is (is_set cbpy 0)) xd d → HasFault (block_syntax is (is_set cbpc 1)) text kind place
    → HasFault (blocks (λ coded. block_syntax is coded) cbpy cbpc) (a ++ (b ++ (c ++ (d ++ text)))) kind
    (length a + (length b + (length c + (length d + place))))
unfolding blocks
block_row_4 of_blocks is cbpy cbpc xa xb xc xd a b c d text kind place sa sb sc sd h =
    fault_after_part (block_syntax is (is_set cbpy 3)) any _ xa a (b ++ (c ++ (d ++ text))) kind
    (length b + (length c + (length d + place))) (block_productive of_blocks is (is_set cbpy 3)) sa refl
    (fault_after_part (block_syntax is (is_set cbpy 2)) any _ xb b (c ++ (d ++ text)) kind
    (length c + (length d + place))
    (block_productive of_blocks is (is_set cbpy 2)) sb refl
    (fault_after_part (block_syntax is (is_set cbpy 1)) any _ xc c (d ++ text) kind (length d + place)
    (block_productive of_blocks is (is_set cbpy 1)) sc refl
    (fault_after_part (block_syntax is (is_set cbpy 0)) any _ xd d text kind place
    (block_productive of_blocks is (is_set cbpy 0)) sd refl
    (fault_in_part (block_syntax is (is_set cbpc 1)) any _ text kind place h))))

block_row_5 : BlockLaws → (is : Bool) (cbpy cbpc : ℕ) (xa xb xc xd xe : Block) (a b c d e text : List Bool)
    (kind : FaultKind) (place : ℕ) → Spells (block_syntax is (is_set cbpy 3)) xa a
    → Spells (block_syntax is (is_set cbpy 2)) xb b → Spells (block_syntax is (is_set cbpy 1)) xc c
    → Spells (block_syntax is (is_set cbpy 0)) xd d → Spells (block_syntax is (is_set cbpc 1)) xe e
    → HasFault (block_syntax is (is_set cbpc 0)) text kind place
    → HasFault (blocks (λ coded. block_syntax is coded) cbpy cbpc) (a ++ (b ++ (c ++ (d ++ (e ++ text))))) kind
    (length a + (length b + (length c + (length d + (length e + place)))))
unfolding blocks
block_row_5 of_blocks is cbpy cbpc xa xb xc xd xe a b c d e text kind place sa sb sc sd se h =
    fault_after_part (block_syntax is (is_set cbpy 3)) any _ xa a (b ++ (c ++ (d ++ (e ++ text)))) kind
    (length b + (length c + (length d + (length e + place)))) (block_productive of_blocks is (is_set cbpy 3)) sa
    refl
    (fault_after_part (block_syntax is (is_set cbpy 2)) any _ xb b (c ++ (d ++ (e ++ text))) kind
    (length c + (length d + (length e + place))) (block_productive of_blocks is (is_set cbpy 2)) sb refl
    (fault_after_part (block_syntax is (is_set cbpy 1)) any _ xc c (d ++ (e ++ text)) kind
    (length d + (length e + place))
    (block_productive of_blocks is (is_set cbpy 1)) sc refl
    (fault_after_part (block_syntax is (is_set cbpy 0)) any _ xd d (e ++ text) kind (length e + place)
    (block_productive of_blocks is (is_set cbpy 0)) sd refl
    (fault_after_part (block_syntax is (is_set cbpc 1)) any _ xe e text kind place
    (block_productive of_blocks is (is_set cbpc 1)) se refl
    (fault_in_part (block_syntax is (is_set cbpc 0)) any _ text kind place h)))))

six_rows : BlockLaws → (is : Bool) (cbpy cbpc : ℕ) → SixBlocksFaults is cbpy cbpc
six_rows of_blocks is cbpy cbpc = record {
  of_first = block_row_0 of_blocks is cbpy cbpc;
  of_second = block_row_1 of_blocks is cbpy cbpc;
  of_third = block_row_2 of_blocks is cbpy cbpc;
  of_fourth = block_row_3 of_blocks is cbpy cbpc;
  of_cb = block_row_4 of_blocks is cbpy cbpc;
  of_cr = block_row_5 of_blocks is cbpy cbpc;
}

pub mb_faults : TableLaws → BlockLaws → MbFaults
mb_faults tables of_blocks = record {
  first = λ kind quant reach predictor b fault. first_fault_is (mb kind quant reach predictor) b fault
      (mb_productive tables of_blocks kind quant reach predictor);
  leads = lead_faults tables;
  of_lead = lead_row;
  of_rest = after_row;
  coded = coded_faults tables;
  of_dquant = λ quant text kind place h. (
    dquant_inter_row quant text kind place h,
    dquant_intra_row quant text kind place h,
  );
  vectors = record { across = across_row; along = along_row tables; out_of_reach = reach_row tables };
  of_vector = vector_row;
  of_intra = of_intra_row;
  of_inter = of_inter_row tables;
  six_blocks = six_rows of_blocks;
  of_intra_block = intra_block_row;
  of_inter_block = inter_block_row;
}
