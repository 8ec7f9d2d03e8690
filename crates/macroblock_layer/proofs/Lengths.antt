-- How long a macroblock's text is at most.
use Rattle.std.proofs.Common.{◌≡◌, ℕ, zero, suc, ◌+◌, ◌*◌, ◌≤◌, Bool, true, false, cond, List, [], ◌∷◌, ◌++◌, length, refl, arith, length-append}
use Rattle.std.specs.Prelude.{ℤ, pos, negsuc, ◌-ℤ◌, All, nat_le, slice_index_or, ◌==◌}
use Rattle.std.specs.List.{list_all}
use Rattle.std.proofs.lemmas.Bool.{leb-true}
use Rattle.h263_types.specs.declared.Kind.{Kind}
use Rattle.h263_types.specs.declared.Kind.TheVariants as kinds
use Rattle.h263_types.specs.declared.vector.Vector.{Vector}
use Rattle.h263_types.specs.declared.blocks.Block.{Block}
use Rattle.h263_types.specs.declared.blocks.Mb.TheVariants.{Skip, Intra, Inter}
use Rattle.h263_types.specs.Blocks.{AreWhole}
use Rattle.h263_bits.proofs.SyntaxLaws.{and_both}
use Rattle.code_tables.specs.declared.macroblock.MbClass.{MbClass}
use Rattle.code_tables.specs.declared.macroblock.MbClass.TheVariants as classes
use Rattle.code_tables.specs.declared.macroblock.Mcbpc.TheVariants.{Word}
use Rattle.code_tables.specs.Words.{word, text_at}
use Rattle.code_tables.specs.Mcbpc.{class_texts, mcbpc_text, dquant_text}
use Rattle.code_tables.specs.Tables.{cbpy_texts, cbpy_text, magnitude_texts, mvd_text, size_of, sign_text}
use Rattle.block_layer.specs.Text.{is_coded, intra_text, inter_text}
use Rattle.block_layer.specs.Laws.{BlockLaws}
use Rattle.macroblock_layer.specs.Text.{wrapped}
use Rattle.macroblock_layer.specs.Written.{has_levels, cbpy_of, cbpc_of, class_of, cod_text, class_text, step_text, mb_head_text, vector_text, blocks_text, intra_mb_text, inter_mb_text}
use Rattle.macroblock_layer.specs.Laws.{AreMbsShort}

-- words of a table of at most this many bits
are_within : ℕ → List (List Bool) → Bool
are_within most words = list_all (λ w. nat_le (length w) most) words

word_within : (most : ℕ) (words : List (List Bool)) (k : ℕ) → are_within most words ≡ true
    → length (slice_index_or words k []) ≤ most
unfolding are_within
word_within most [] k e = omega arith
word_within most (w ∷ words) zero e = leb-true (length w) most
    (and_both (nat_le (length w) most) (are_within most words) e).0
word_within most (w ∷ words) (suc k) e = word_within most words k
    (and_both (nat_le (length w) most) (are_within most words) e).1

classes_within : (kind : Kind) (class : MbClass) → are_within 9 (class_texts kind class) ≡ true
unfolding class_texts are_within
classes_within kinds.I classes.Inter = refl
classes_within kinds.I classes.InterQ = refl
classes_within kinds.I classes.Inter4 = refl
classes_within kinds.I classes.Intra = refl
classes_within kinds.I classes.IntraQ = refl
classes_within kinds.P classes.Inter = refl
classes_within kinds.P classes.InterQ = refl
classes_within kinds.P classes.Inter4 = refl
classes_within kinds.P classes.Intra = refl
classes_within kinds.P classes.IntraQ = refl

mcbpc_short : (kind : Kind) (class : MbClass) (cbpc : ℕ) → length (mcbpc_text kind (Word class cbpc)) ≤ 9
unfolding mcbpc_text
mcbpc_short kind class cbpc = word_within 9 (class_texts kind class) cbpc (classes_within kind class)

cod_short : (kind : Kind) → length (cod_text kind) ≤ 1
cod_short kinds.I = omega arith
cod_short kinds.P = omega arith

class_short : (kind : Kind) (class : MbClass) (cbpc : ℕ) → length (class_text kind class cbpc) ≤ 10
unfolding class_text
class_short kind class cbpc = omega (
  arith,
  cod_short kind,
  mcbpc_short kind class cbpc,
  length-append (cod_text kind) (mcbpc_text kind (Word class cbpc)),
)

patterns_within : are_within 6 cbpy_texts ≡ true
unfolding cbpy_texts are_within
patterns_within = refl

cbpy_short : (intra : Bool) (pattern : ℕ) → length (cbpy_text intra pattern) ≤ 6
unfolding cbpy_text
cbpy_short intra pattern = word_within 6 cbpy_texts _ patterns_within

dquant_short : (z : ℤ) → length (dquant_text z) ≤ 2
unfolding dquant_text
dquant_short (pos n) = at (n == 1)
  where
    at : (t : Bool) → length (cond t (word "10") (word "11")) ≤ 2
    at true = omega arith
    at false = omega arith
dquant_short (negsuc n) = at (n == 0)
  where
    at : (t : Bool) → length (cond t (word "00") (word "01")) ≤ 2
    at true = omega arith
    at false = omega arith

step_short : (quant new : ℕ) → length (step_text quant new) ≤ 2
unfolding step_text
step_short quant new = at (new == quant)
  where
    at : (t : Bool) → length (cond t [] (dquant_text (pos new -ℤ pos quant))) ≤ 2
    at true = omega arith
    at false = dquant_short (pos new -ℤ pos quant)

-- what stands before the vector has 18 bits at most
pub head_short : (kind : Kind) (quant new : ℕ) (intra : Bool) (cbpy cbpc : ℕ)
    → length (mb_head_text kind quant new intra cbpy cbpc) ≤ 18
unfolding mb_head_text
head_short kind quant new intra cbpy cbpc =
    let class = class_of intra (new == quant) in
    omega (
      arith,
      class_short kind class cbpc,
      cbpy_short intra cbpy,
      step_short quant new,
      length-append (class_text kind class cbpc) (cbpy_text intra cbpy ++ step_text quant new),
      length-append (cbpy_text intra cbpy) (step_text quant new),
    )

magnitudes_within : are_within 12 magnitude_texts ≡ true
unfolding magnitude_texts are_within
magnitudes_within = refl

sign_short : (z : ℤ) → length (sign_text z) ≤ 1
sign_short (negsuc n) = omega arith
sign_short (pos n) = at (n == 0)
  where
    at : (t : Bool) → length (cond t [] (false ∷ [])) ≤ 1
    at true = omega arith
    at false = omega arith

mvd_short : (z : ℤ) → length (mvd_text z) ≤ 13
unfolding mvd_text
mvd_short z = omega (
  arith,
  word_within 12 magnitude_texts (size_of z) magnitudes_within,
  sign_short z,
  length-append (text_at magnitude_texts (size_of z)) (sign_text z),
)

pub vector_short : (predictor v : Vector) → length (vector_text predictor v) ≤ 26
unfolding vector_text
vector_short predictor v =
    let x = wrapped (v.x -ℤ predictor.x) in
    let y = wrapped (v.y -ℤ predictor.y) in
    omega (arith, mvd_short x, mvd_short y, length-append (mvd_text x) (mvd_text y))

blocks_within : (text : List ℤ → List Bool) → ((levels : List ℤ) → length levels ≡ 64 → length (text levels) ≤ 1408)
    → (blocks : List Block) → All (λ (b : Block). length b.levels ≡ 64) blocks
    → length (blocks_text text blocks) ≤ 1408 * length blocks
unfolding blocks_text
blocks_within text each [] all = omega arith
blocks_within text each (b ∷ blocks) all =
    let first : length (text b.levels) ≤ 1408 = each b.levels (all 0 b (omega arith)) in
    let more : length (blocks_text text blocks) ≤ 1408 * length blocks = blocks_within text each blocks
    (λ k d lt. all (suc k) d (omega arith)) in
    omega (arith, first, more, length-append (text b.levels) (blocks_text text blocks))

pub intra_blocks_short : BlockLaws → (blocks : List Block) → AreWhole blocks
    → length (blocks_text intra_text blocks) ≤ 8448
intra_blocks_short of_blocks blocks whole =
    let most : length (blocks_text intra_text blocks) ≤ 1408 * length blocks = blocks_within intra_text
    (λ levels long. omega (arith, of_blocks.short.intra levels long)) blocks whole.each in
    omega (arith, most, whole.count)

pub inter_blocks_short : BlockLaws → (blocks : List Block) → AreWhole blocks
    → length (blocks_text inter_text blocks) ≤ 8448
inter_blocks_short of_blocks blocks whole =
    let most : length (blocks_text inter_text blocks) ≤ 1408 * length blocks = blocks_within inter_text
    (λ levels long. of_blocks.short.inter levels long) blocks whole.each in
    omega (arith, most, whole.count)

pub intra_mb_length : (kind : Kind) (quant new : ℕ) (blocks : List Block)
    → length (intra_mb_text kind quant new blocks)
    ≡ length (mb_head_text kind quant new true (cbpy_of is_coded blocks) (cbpc_of is_coded blocks)) + length
    (blocks_text intra_text blocks)
unfolding intra_mb_text
intra_mb_length kind quant new blocks = length-append (mb_head_text kind quant new true (cbpy_of is_coded blocks)
    (cbpc_of is_coded blocks)) (blocks_text intra_text blocks)

pub inter_mb_length : (quant : ℕ) (predictor : Vector) (new : ℕ) (v : Vector) (blocks : List Block)
    → length (inter_mb_text quant predictor new v blocks)
    ≡ length (mb_head_text kinds.P quant new false (cbpy_of has_levels blocks) (cbpc_of has_levels blocks)) +
    (length (vector_text predictor v) + length (blocks_text inter_text blocks))
unfolding inter_mb_text
inter_mb_length quant predictor new v blocks =
    let head = mb_head_text kinds.P quant new false (cbpy_of has_levels blocks) (cbpc_of has_levels blocks) in
    omega (
      arith,
      length-append head (vector_text predictor v ++ blocks_text inter_text blocks),
      length-append (vector_text predictor v) (blocks_text inter_text blocks),
    )

intra_mb_short : BlockLaws → (kind : Kind) (quant new : ℕ) (blocks : List Block) → AreWhole blocks
    → length (intra_mb_text kind quant new blocks) ≤ 8492
intra_mb_short of_blocks kind quant new blocks whole =
    omega (
      arith,
      intra_mb_length kind quant new blocks,
      head_short kind quant new true (cbpy_of is_coded blocks)
          (cbpc_of is_coded blocks),
      intra_blocks_short of_blocks blocks whole,
    )

inter_mb_short : BlockLaws → (quant : ℕ) (predictor : Vector) (new : ℕ) (v : Vector) (blocks : List Block)
    → AreWhole blocks → length (inter_mb_text quant predictor new v blocks) ≤ 8492
inter_mb_short of_blocks quant predictor new v blocks whole =
    omega (
      arith,
      inter_mb_length quant predictor new v blocks,
      head_short kinds.P quant new false (cbpy_of has_levels blocks) (cbpc_of has_levels blocks),
      vector_short predictor v,
      inter_blocks_short of_blocks blocks whole,
    )

-- how many bits the text of a macroblock has at most
pub mb_short : BlockLaws → AreMbsShort
mb_short of_blocks kind quant predictor Skip whole = omega arith
mb_short of_blocks kind quant predictor (Intra new blocks) whole = intra_mb_short of_blocks kind quant new blocks whole
mb_short of_blocks kind quant predictor (Inter new v blocks) whole =
    inter_mb_short of_blocks quant predictor new v blocks whole
