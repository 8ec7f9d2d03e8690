-- The numbers of a macroblock that a text spells are in their ranges.
use Rattle.std.proofs.Common.{◌≡◌, ℕ, zero, suc, ◌-◌, ◌%◌, ◌<◌, Bool, true, false, cond, List, [], ◌∷◌, length, refl, sym, ap, subst, arith}
use Rattle.std.specs.Prelude.{ℤ, pos, negsuc, ◌+ℤ◌, ◌-ℤ◌, All, slice_index_or, nat_lt, ◌==◌}
use Rattle.std.specs.Int.{int_rem_euclid}
use Rattle.std.specs.List.{list_all}
use Rattle.std.proofs.lemmas.Int.{ints}
use Rattle.std.proofs.lemmas.Bool.{eqb-false, ltb-false}
use Rattle.h263_types.specs.declared.Kind.{Kind}
use Rattle.h263_types.specs.declared.Kind.TheVariants as kinds
use Rattle.h263_types.specs.declared.vector.Vector.{Vector}
use Rattle.h263_types.specs.declared.vector.Reach.{Reach}
use Rattle.h263_types.specs.declared.blocks.Block.{Block}
use Rattle.h263_types.specs.declared.blocks.Mb.{Mb}
use Rattle.h263_types.specs.declared.blocks.Mb.TheVariants as mbs
use Rattle.h263_types.specs.Blocks.{IsQuant, IsComponent, IsVector, IsIntraBlock, IsInterBlock, IsMb, IsOfKind}
use Rattle.h263_bits.specs.Bits.{is_set}
use Rattle.h263_bits.specs.Syntax.{Syntax, LoopTurn, finally, either, Turns, Spells}
use Rattle.h263_bits.proofs.SyntaxLaws.{stands_within}
use Rattle.code_tables.specs.declared.macroblock.MbClass.{MbClass}
use Rattle.code_tables.specs.declared.macroblock.MbClass.TheVariants as classes
use Rattle.code_tables.specs.declared.macroblock.Mcbpc.{Mcbpc}
use Rattle.code_tables.specs.declared.macroblock.Mcbpc.TheVariants.{Stuffing, Word}
use Rattle.code_tables.specs.Mcbpc.{mcbpc, mcbpc_table, mcbpc_words, class_texts}
use Rattle.block_layer.specs.Laws.{BlockLaws}
use Rattle.macroblock_layer.specs.declared.reading.Lead.{Lead}
use Rattle.macroblock_layer.specs.declared.reading.Lead.TheVariants.{Skipped, Coded}
use Rattle.macroblock_layer.specs.Text.{after_mcbpc, class_turn, lead_turn, lead, is_intra, limited_quant, quantiser, wrapped, vector, intra, inter, blocks, intra_mb, inter_mb, coded_mb, after_lead, mb}

-- ---- what stands first

-- a picture of kind I has intra classes alone
unfoldable pub LeadOfKind : Kind → Lead → Type 0
LeadOfKind kinds.P l = Unit {0}
LeadOfKind kinds.I Skipped = ⊥
LeadOfKind kinds.I (Coded class cbpc) = is_intra class ≡ true

is_intra_word : Mcbpc → Bool
is_intra_word Stuffing = true
is_intra_word (Word class n) = is_intra class

all_intra : list_all (λ w. is_intra_word w.1) (mcbpc_table kinds.I).list ≡ true
unfolding mcbpc_table mcbpc_words class_texts is_intra_word
all_intra = refl

word_intra : (m : Mcbpc) (text : List Bool) → Spells (mcbpc kinds.I) m text → is_intra_word m ≡ true
unfolding Spells mcbpc
word_intra m text h = subst (λ (w : Mcbpc). is_intra_word w ≡ true) (sym h.5.0)
    (stands_within is_intra_word (mcbpc_table kinds.I).list (h.0, h.1) all_intra h.3)

abbrev ended : Lead → LoopTurn (Unit {0}) Lead
ended l = finally l

after_intra : (m : Mcbpc) (l : Lead) → is_intra_word m ≡ true → ended l ≡ after_mcbpc m → LeadOfKind kinds.I l
unfolding is_intra_word LeadOfKind
after_intra Stuffing l is e = absurd cc
after_intra (Word class n) l is e = let same : l ≡ Coded class n = cc in
    subst (λ (k : Lead). LeadOfKind kinds.I k) (sym same) is

turns_intra : (n : ℕ) (u : Unit {0}) (l : Lead) (text : List Bool)
    → Turns (λ t x front. Spells (lead_turn kinds.I t) x front) n u l text → LeadOfKind kinds.I l
unfolding Spells lead_turn class_turn
turns_intra zero u l text h = after_intra h.0 l (word_intra h.0 h.1 h.4) h.6.0
turns_intra (suc n) u l text h = turns_intra n h.0 l h.2 h.5

pub lead_within : (kind : Kind) (l : Lead) (text : List Bool) → Spells (lead kind) l text → LeadOfKind kind l
unfolding Spells lead LeadOfKind
lead_within kinds.P l text h = tt
lead_within kinds.I l text h = turns_intra h.0 tt l text h.1

-- ---- quantiser and vector

limited_within : (z : ℤ) → IsQuant (limited_quant z)
limited_within (negsuc n) = record { low = omega arith; high = omega arith }
limited_within (pos n) = at (n == 0) refl (nat_lt 31 n) refl
  where
    at : (t : Bool) → (n == 0) ≡ t → (u : Bool) → nat_lt 31 n ≡ u → IsQuant (cond t 1 (cond u 31 n))
    at true e u f = record { low = omega arith; high = omega arith }
    at false e true f = record { low = omega arith; high = omega arith }
    at false e false f = record { low = omega (arith, eqb-false n 0 e); high = omega (arith, ltb-false 31 n f) }

quantiser_within : (class : MbClass) (quant q : ℕ) (text : List Bool) → IsQuant quant
    → Spells (quantiser class quant) q text → IsQuant q
unfolding Spells quantiser
quantiser_within classes.InterQ quant q text is h = subst (λ (k : ℕ). IsQuant k) (sym h.6.0)
    (limited_within (pos quant +ℤ h.0))
quantiser_within classes.IntraQ quant q text is h = subst (λ (k : ℕ). IsQuant k) (sym h.6.0)
    (limited_within (pos quant +ℤ h.0))
quantiser_within classes.Inter quant q text is h = subst (λ (k : ℕ). IsQuant k) (sym h.0) is
quantiser_within classes.Inter4 quant q text is h = subst (λ (k : ℕ). IsQuant k) (sym h.0) is
quantiser_within classes.Intra quant q text is h = subst (λ (k : ℕ). IsQuant k) (sym h.0) is

rem_within : (z : ℤ) → (n : ℕ) × (int_rem_euclid z (pos 64) ≡ pos n) × (n < 64)
rem_within (pos a) = (a % 64, refl, omega arith)
rem_within (negsuc a) = (64 - 1 - a % 64, refl, omega arith)

pub component_of : (z : ℤ) → IsComponent (wrapped z)
component_of z =
    let r = rem_within (z +ℤ pos 32) in
    let e : wrapped z ≡ pos r.0 -ℤ pos 32 = ap (λ (x : ℤ). x -ℤ pos 32) r.1 in
    subst (λ (x : ℤ). IsComponent x) (sym e) (record {
      low = omega (arith, ints, r.2);
      high = omega (arith, ints, r.2);
    })

vector_within : (reach : Reach) (predictor v : Vector) (text : List Bool) → Spells (vector reach predictor) v text
    → IsVector v
unfolding Spells vector
vector_within reach predictor v text h =
    subst (λ (w : Vector). IsVector w) (sym h.6.0) (record {
      x = component_of (predictor.x +ℤ h.0.x);
      y = component_of (predictor.y +ℤ h.0.y);
    })

-- ---- blocks

intra_is : BlockLaws → (coded : Bool) (b : Block) (text : List Bool) → Spells (intra coded) b text → IsIntraBlock b
unfolding Spells intra
intra_is of_blocks coded b text h = subst (λ (x : Block). IsIntraBlock x) (sym h.6.0)
    (of_blocks.in_range.intra coded h.0 h.1 h.4)

inter_is : BlockLaws → (coded : Bool) (b : Block) (text : List Bool) → Spells (inter coded) b text → IsInterBlock b
unfolding Spells inter
inter_is of_blocks true b text h = subst (λ (x : Block). IsInterBlock x) (sym h.6.0)
    (of_blocks.in_range.inter h.0 h.1 h.4)
inter_is of_blocks false b text h = subst (λ (x : Block). IsInterBlock x) (sym h.0) of_blocks.empty.in_range

none_all : {X : Type 0} (P : X → Type 0) → All P []
none_all P = λ k d lt. absurd (omega arith)

one_more : {X : Type 0} (P : X → Type 0) (x : X) (xs : List X) → P x → All P xs → All P (x ∷ xs)
one_more {X} P x xs one all = at
  where
    at : (k : ℕ) (d : X) → k < length (x ∷ xs) → P (slice_index_or (x ∷ xs) k d)
    at zero d lt = one
    at (suc k) d lt = all k d (omega arith)

six : {X : Type 0} (P : X → Type 0) (a b c d e f : X) → P a → P b → P c → P d → P e → P f
    → All P (a ∷ b ∷ c ∷ d ∷ e ∷ f ∷ [])
six P a b c d e f p q r s t u =
    one_more P a (b ∷ c ∷ d ∷ e ∷ f ∷ []) p (one_more P b (c ∷ d ∷ e ∷ f ∷ []) q (one_more P c (d ∷ e ∷ f ∷ []) r
    (one_more P d (e ∷ f ∷ []) s (one_more P e (f ∷ []) t (one_more P f [] u (none_all P))))))

blocks_within : (block : Bool → Syntax Block) (P : Block → Type 0) → ((coded : Bool) (b : Block) (text : List Bool)
    → Spells (block coded) b text → P b)
    → (cbpy cbpc : ℕ) (bs : List Block) (text : List Bool) → Spells (blocks block cbpy cbpc) bs text → All P bs
unfolding Spells blocks
blocks_within block P each cbpy cbpc bs text h =
    let b = h.6 in
    let c = b.6 in
    let d = c.6 in
    let e = d.6 in
    let f = e.6 in
    subst (λ (l : List Block). All P l) (sym f.6.0)
    (six P h.0 b.0 c.0 d.0 e.0 f.0 (each (is_set cbpy 3) h.0 h.1 h.4) (each (is_set cbpy 2) b.0 b.1 b.4)
    (each (is_set cbpy 1) c.0 c.1 c.4) (each (is_set cbpy 0) d.0 d.1 d.4) (each (is_set cbpc 1) e.0 e.1 e.4)
    (each (is_set cbpc 0) f.0 f.1 f.4))

-- ---- whole macroblocks

intra_mb_within : BlockLaws → (quant cbpy cbpc : ℕ) (m : Mb) (text : List Bool) → IsQuant quant
    → Spells (intra_mb quant cbpy cbpc) m text → IsMb m × IsOfKind kinds.I m
unfolding Spells intra_mb
intra_mb_within of_blocks quant cbpy cbpc m text is h =
    subst (λ (x : Mb). IsMb x × IsOfKind kinds.I x) (sym h.6.0) (
      record {
        quant_in_range = is;
        each = blocks_within intra (λ b. IsIntraBlock b) (intra_is of_blocks) cbpy cbpc h.0 h.1 h.4;
      },
      tt,
    )

inter_mb_within : BlockLaws → (reach : Reach) (predictor : Vector) (quant cbpy cbpc : ℕ) (m : Mb) (text : List Bool)
    → IsQuant quant → Spells (inter_mb reach predictor quant cbpy cbpc) m text → IsMb m
unfolding Spells inter_mb
inter_mb_within of_blocks reach predictor quant cbpy cbpc m text is h =
    let more = h.6 in
    subst (λ (x : Mb). IsMb x) (sym more.6.0)
    (record {
      quant_in_range = is;
      vector_in_range = vector_within reach predictor h.0 h.1 h.4;
      each = blocks_within inter (λ b. IsInterBlock b) (inter_is of_blocks) cbpy cbpc more.0 more.1 more.4;
    })

either_within : BlockLaws → (kind : Kind) (test : Bool) (reach : Reach) (predictor : Vector) (quant cbpy cbpc : ℕ)
    (m : Mb) (text : List Bool) → (kind ≡ kinds.I → test ≡ true) → IsQuant quant
    → Spells (either test (intra_mb quant cbpy cbpc) (inter_mb reach predictor quant cbpy cbpc)) m text
    → IsMb m × IsOfKind kind m
either_within of_blocks kinds.I true reach predictor quant cbpy cbpc m text only is h =
    intra_mb_within of_blocks quant cbpy cbpc m text is h
either_within of_blocks kinds.I false reach predictor quant cbpy cbpc m text only is h = let e : false
    ≡ true = only refl in absurd cc
either_within of_blocks kinds.P true reach predictor quant cbpy cbpc m text only is h =
    ((intra_mb_within of_blocks quant cbpy cbpc m text is h).0, tt)
either_within of_blocks kinds.P false reach predictor quant cbpy cbpc m text only is h =
    (inter_mb_within of_blocks reach predictor quant cbpy cbpc m text is h, tt)

only_intra : (kind : Kind) (class : MbClass) (cbpc : ℕ) → LeadOfKind kind (Coded class cbpc) → kind ≡ kinds.I
    → is_intra class ≡ true
unfolding LeadOfKind
only_intra kinds.I class cbpc is e = is
only_intra kinds.P class cbpc is e = absurd cc

skip_of : (kind : Kind) → LeadOfKind kind Skipped → IsOfKind kind mbs.Skip
unfolding LeadOfKind
skip_of kinds.I is = is
skip_of kinds.P is = tt

after_within : BlockLaws → (kind : Kind) (quant : ℕ) (reach : Reach) (predictor : Vector) (l : Lead) (m : Mb)
    (text : List Bool) → IsQuant quant → LeadOfKind kind l → Spells (after_lead quant reach predictor l) m text
    → IsMb m × IsOfKind kind m
unfolding Spells after_lead coded_mb
after_within of_blocks kind quant reach predictor Skipped m text is of h = subst (λ (x : Mb). IsMb x × IsOfKind kind x)
    (sym h.0) (tt, skip_of kind of)
after_within of_blocks kind quant reach predictor (Coded class cbpc) m text is of h =
    let more = h.6 in
    either_within of_blocks kind (is_intra class) reach predictor more.0 h.0 cbpc m more.2
    (only_intra kind class cbpc of) (quantiser_within class quant more.0 more.1 is more.4) more.6

pub mb_within : BlockLaws → (kind : Kind) (quant : ℕ) (reach : Reach) (predictor : Vector) → IsQuant quant
    → (m : Mb) (text : List Bool) → Spells (mb kind quant reach predictor) m text → IsMb m × IsOfKind kind m
unfolding Spells mb
mb_within of_blocks kind quant reach predictor is m text h = after_within of_blocks kind quant reach predictor h.0 m h.2
    is (lead_within kind h.0 h.1 h.4) h.6
