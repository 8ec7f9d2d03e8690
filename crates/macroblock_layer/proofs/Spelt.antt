-- What is written of a macroblock spells it.
use Rattle.std.proofs.Common.{◌≡◌, ℕ, ◌+◌, ◌-◌, ◌*◌, ◌/◌, ◌%◌, ◌<◌, ◌≤◌, Bool, true, false, cond, not, List, [], ◌∷◌, ◌++◌, length, None, refl, sym, ap, ◌∙◌, subst, inl, inr, append_assoc, arith, eqb, T}
use Rattle.std.specs.Prelude.{ℤ, pos, negsuc, ◌+ℤ◌, ◌-ℤ◌, ◌≤ℤ◌, int_le, All, ◌==◌, ◌⊎◌}
use Rattle.std.specs.Int.{int_rem_euclid}
use Rattle.std.proofs.lemmas.Int.{ints, int_rem_euclid_is}
use Rattle.std.proofs.lemmas.Bool.{cases_lt, eqb-true, eqb-false, ne_eqb, le-ltb}
use Rattle.std.proofs.lemmas.List.{append-nil}
use Rattle.h263_types.specs.declared.Kind.{Kind}
use Rattle.h263_types.specs.declared.Kind.TheVariants as kinds
use Rattle.h263_types.specs.declared.vector.Vector.{Vector}
use Rattle.h263_types.specs.declared.vector.Reach.{Reach}
use Rattle.h263_types.specs.declared.blocks.Block.{Block}
use Rattle.h263_types.specs.declared.blocks.Mb.{Mb}
use Rattle.h263_types.specs.declared.blocks.Mb.TheVariants as mbs
use Rattle.h263_types.specs.Blocks.{IsQuant, IsComponent, IsVector, IsIntraBlock, IsInterBlock, IsIntraMb, IsInterMb, AreWhole}
use Rattle.h263_types.specs.Vectors.{IsWithin}
use Rattle.h263_bits.specs.Bits.{spelled, is_set}
use Rattle.h263_bits.specs.Syntax.{Syntax, any, done, part, either, LoopTurn, finally, Spells}
use Rattle.h263_bits.proofs.SyntaxLaws.{spells_field, spells_part, spells_done, spells_last, spells_whole}
use Rattle.code_tables.specs.declared.macroblock.MbClass.{MbClass}
use Rattle.code_tables.specs.declared.macroblock.MbClass.TheVariants as classes
use Rattle.code_tables.specs.declared.macroblock.Mcbpc.TheVariants.{Word}
use Rattle.code_tables.specs.Mcbpc.{mcbpc, mcbpc_text, dquant, dquant_text, IsInTable, IsStep}
use Rattle.code_tables.specs.Tables.{cbpy, cbpy_text, mvd, mvd_text, bit_of}
use Rattle.code_tables.specs.Laws.{TableLaws}
use Rattle.block_layer.specs.Text.{none_left, is_coded, intra_block, inter_block, no_levels, intra_text, inter_text}
use Rattle.block_layer.specs.Laws.{BlockLaws}
use Rattle.macroblock_layer.specs.declared.reading.Lead.{Lead}
use Rattle.macroblock_layer.specs.declared.reading.Lead.TheVariants.{Skipped, Coded}
use Rattle.macroblock_layer.specs.Text.{no_four, after_mcbpc, class_turn, lead_turn, lead, limited_quant, quantiser, wrapped, moved, is_within, difference, allowed_in_reach, vector, block_of_levels, intra, inter, blocks, intra_mb, inter_mb, coded_mb, after_lead, mb}
use Rattle.macroblock_layer.proofs.Within.{component_of}
use Rattle.macroblock_layer.specs.Written.{levels_at, has_levels, cbpy_of, cbpc_of, class_of, class_text, step_text, mb_head_text, vector_text, blocks_text, intra_mb_text, inter_mb_text, DquantReaches}
use Rattle.macroblock_layer.specs.Laws.{AreMbsSpelt}

-- ---- COD and MCBPC

-- a class that is written is none of four vectors
one_vector : (a b : Bool) (cbpc : ℕ) → no_four (Word (class_of a b) cbpc) ≡ None
one_vector true true cbpc = refl
one_vector true false cbpc = refl
one_vector false true cbpc = refl
one_vector false false cbpc = refl

coded_turn : MbClass → ℕ → LoopTurn (Unit {0}) Lead
coded_turn class cbpc = finally (Coded class cbpc)

turn_spelt : TableLaws → (kind : Kind) (class : MbClass) (cbpc : ℕ) → IsInTable kind (Word class cbpc)
    → no_four (Word class cbpc) ≡ None
    → Spells (class_turn kind) (coded_turn class cbpc) (mcbpc_text kind (Word class cbpc))
unfolding class_turn coded_turn
turn_spelt tables kind class cbpc there one =
    spells_whole (class_turn kind) (coded_turn class cbpc) (mcbpc_text kind (Word class cbpc) ++ []) _ (append-nil _)
    (spells_part (mcbpc kind) no_four (λ m. done (after_mcbpc m)) (coded_turn class cbpc) (Word class cbpc)
    (mcbpc_text kind (Word class cbpc)) [] (tables.spelt.mcbpc kind (Word class cbpc) there) one
    (spells_done (coded_turn class cbpc)))

lead_spelt : TableLaws → (kind : Kind) (class : MbClass) (cbpc : ℕ) → IsInTable kind (Word class cbpc)
    → no_four (Word class cbpc) ≡ None → Spells (lead kind) (Coded class cbpc) (class_text kind class cbpc)
unfolding lead lead_turn class_text coded_turn spelled
lead_spelt tables kinds.I class cbpc there one = spells_last tt (lead_turn kinds.I) (Coded class cbpc)
    (mcbpc_text kinds.I (Word class cbpc)) (turn_spelt tables kinds.I class cbpc there one)
lead_spelt tables kinds.P class cbpc there one =
    spells_last tt (lead_turn kinds.P) (Coded class cbpc) (false ∷ mcbpc_text kinds.P (Word class cbpc))
    (spells_field 1 any (λ cod. either (cod == 1) (done (finally Skipped)) (class_turn kinds.P))
    (coded_turn class cbpc) 0 (mcbpc_text kinds.P (Word class cbpc)) (omega arith) refl
    (turn_spelt tables kinds.P class cbpc there one))

skip_spelt : Spells (lead kinds.P) Skipped (true ∷ [])
unfolding lead lead_turn spelled
skip_spelt =
    spells_last tt (lead_turn kinds.P) Skipped (true ∷ [])
    (spells_field 1 any (λ cod. either (cod == 1) (done (finally Skipped)) (class_turn kinds.P)) (finally Skipped) 1 []
    (omega arith) refl (spells_done (finally Skipped)))

-- ---- quantiser

is_step : (quant new : ℕ) → DquantReaches quant new → (new ≡ quant → ⊥) → IsStep (pos new -ℤ pos quant)
is_step quant new near other = at (cases_lt new quant)
  where
    at : (new < quant) ⊎ (quant ≤ new) → IsStep (pos new -ℤ pos quant)
    at (inl less) =
        let e : pos new -ℤ pos quant ≡ negsuc (quant - new - 1) = omega (arith, ints) in
        subst (λ (z : ℤ). IsStep z) (sym e) (elim (cases_lt 0 (quant - new - 1)) [
          | inl two ↦
              inr (omega (arith, near.down))
          | inr one ↦ inl (omega (arith, near.down))
        ])
    at (inr more) =
        let e : pos new -ℤ pos quant ≡ pos (new - quant) = omega (arith, ints) in
        subst (λ (z : ℤ). IsStep z) (sym e) (elim (cases_lt 1 (new - quant)) [
          | inl two ↦ inr (omega (arith, near.up))
          | inr one ↦ inl (omega (arith, near.up, other))
        ])

limited_same : (n : ℕ) → IsQuant n → limited_quant (pos n) ≡ n
limited_same n is =
    let some : eqb n 0 ≡ false = ne_eqb n 0 (λ (e : n ≡ 0). omega (arith, e, is.low)) in
    rw (some, le-ltb 31 n is.high) refl

back : (quant new : ℕ) → pos quant +ℤ (pos new -ℤ pos quant) ≡ pos new
back quant new = omega (arith, ints)

changed : TableLaws → (quant new : ℕ) → IsQuant new → DquantReaches quant new → (new ≡ quant → ⊥)
    → Spells (part dquant any λ step. done (limited_quant (pos quant +ℤ step))) new (dquant_text (pos new -ℤ pos quant))
changed tables quant new is near other =
    let step : ℤ = pos new -ℤ pos quant in
    let e : limited_quant (pos quant +ℤ step) ≡ new = ap (λ (z : ℤ). limited_quant z) (back quant new)
    ∙ limited_same new is in
    spells_whole _ new (dquant_text step ++ []) (dquant_text step) (append-nil _)
    (spells_part dquant any (λ step. done (limited_quant (pos quant +ℤ step))) new step (dquant_text step) []
    (tables.spelt.dquant step (is_step quant new near other)) refl (subst (λ (n : ℕ). Spells (done n) new [])
    (sym e) (spells_done new)))

as_before : (test : Bool) (quant new : ℕ) → new ≡ quant → Spells (quantiser (class_of test true) quant) new []
unfolding quantiser
as_before true quant new e = subst (λ (n : ℕ). Spells (done n) new []) e (spells_done new)
as_before false quant new e = subst (λ (n : ℕ). Spells (done n) new []) e (spells_done new)

other_spelt : TableLaws → (test : Bool) (quant new : ℕ) → IsQuant new → DquantReaches quant new → (new ≡ quant → ⊥)
    → Spells (quantiser (class_of test false) quant) new (dquant_text (pos new -ℤ pos quant))
unfolding quantiser
other_spelt tables true quant new is near other = changed tables quant new is near other
other_spelt tables false quant new is near other = changed tables quant new is near other

quantiser_spelt : TableLaws → (test : Bool) (quant new : ℕ) → IsQuant new → DquantReaches quant new
    → Spells (quantiser (class_of test (new == quant)) quant) new (step_text quant new)
unfolding step_text
quantiser_spelt tables test quant new is near = at (new == quant) refl test
  where
    at : (t : Bool) → (new == quant) ≡ t → (test : Bool)
        → Spells (quantiser (class_of test t) quant) new (cond t [] (dquant_text (pos new -ℤ pos quant)))
    at true e test = as_before test quant new (eqb-true new quant e)
    at false e test = other_spelt tables test quant new is near (eqb-false new quant e)

-- ---- vector

-- z modulo 64, and how many times 64 more or less that is
record Wraps (z : ℤ) : Type 0 where
  less : ℕ
  more : ℕ
  is : wrapped z +ℤ pos (64 * less) ≡ z +ℤ pos (64 * more)

wraps : (z : ℤ) → Wraps z
wraps z = at (z +ℤ pos 32) refl
  where
    at : (y : ℤ) → z +ℤ pos 32 ≡ y → Wraps z
    at (pos a) e =
        let w : wrapped z ≡ pos (a % 64) -ℤ pos 32 = ap (λ (y : ℤ). int_rem_euclid y (pos 64) -ℤ pos 32) e in
        record { less = a / 64; more = 0; is = rw w (omega (arith, ints, e)) }
    at (negsuc a) e =
        let w : wrapped z ≡ pos (64 - 1 - a % 64) -ℤ pos 32 = ap (λ (y : ℤ). int_rem_euclid y (pos 64) -ℤ pos 32) e in
        record { less = 0; more = a / 64 + 1; is = rw w (omega (arith, ints, e)) }

-- a component is what every number that is it modulo 64 is taken for
taken_for : (v w : ℤ) (i j : ℕ) → IsComponent v → w +ℤ pos (64 * i) ≡ v +ℤ pos (64 * j) → wrapped w ≡ v
taken_for v w i j is e = at (v +ℤ pos 32) refl
  where
    at : (y : ℤ) → v +ℤ pos 32 ≡ y → wrapped w ≡ v
    at (negsuc u) f = absurd (omega (arith, ints, f, is.low))
    at (pos u) f =
        let sum : (w +ℤ pos 32) +ℤ pos (i * 64) ≡ pos (u + 64 * j) = omega (arith, ints, e, f) in
        let r : int_rem_euclid (w +ℤ pos 32) (pos 64) ≡ pos ((u + 64 * j) % 64) = int_rem_euclid_is (w +ℤ pos 32)
        (pos 64) 64 i (u + 64 * j) (omega arith) refl sum in
        let low : (u + 64 * j) % 64 ≡ u = omega (arith, ints, f, is.high) in
        ap (λ (y : ℤ). y -ℤ pos 32) (r ∙ ap (λ (n : ℕ). pos n) low) ∙ omega (arith, ints, f)

wrapped_back : (v p : ℤ) → IsComponent v → wrapped (p +ℤ wrapped (v -ℤ p)) ≡ v
wrapped_back v p is =
    let w = wraps (v -ℤ p) in
    taken_for v (p +ℤ wrapped (v -ℤ p)) w.less w.more is (omega (arith, ints, w.is))

wrapped_within : (z : ℤ) → (negsuc 31 ≤ℤ wrapped z) × (wrapped z ≤ℤ pos 31)
wrapped_within z = let c = component_of z in (omega (arith, ints, c.low), omega (arith, ints, c.high))

-- the difference of a vector to its predictor
between : Vector → Vector → Vector
between predictor v = record { x = wrapped (v.x -ℤ predictor.x); y = wrapped (v.y -ℤ predictor.y) }

difference_spelt : TableLaws → (predictor v : Vector)
    → Spells difference (between predictor v) (vector_text predictor v)
unfolding difference vector_text between
difference_spelt tables predictor v =
    let x : ℤ = wrapped (v.x -ℤ predictor.x) in
    let y : ℤ = wrapped (v.y -ℤ predictor.y) in
    let a = wrapped_within (v.x -ℤ predictor.x) in
    let b = wrapped_within (v.y -ℤ predictor.y) in
    spells_whole difference (between predictor v) (mvd_text x ++ (mvd_text y ++ [])) _
    (ap (λ (t : List Bool). mvd_text x ++ t) (append-nil (mvd_text y)))
    (spells_part mvd any (λ x. part mvd any λ y. done (record { x = x; y = y })) (between predictor v) x (mvd_text x)
    (mvd_text y ++ []) (tables.spelt.mvd x a.0 a.1) refl
    (spells_part mvd any (λ y. done (record { x = x; y = y })) (between predictor v) y (mvd_text y) []
    (tables.spelt.mvd y b.0 b.1) refl (spells_done (between predictor v))))

moved_back : (predictor v : Vector) → IsVector v → moved predictor (between predictor v) ≡ v
unfolding between
moved_back predictor v is =
    let x = wrapped_back v.x predictor.x is.x in
    let y = wrapped_back v.y predictor.y is.y in
    vector_same (moved predictor (between predictor v)) v x y
  where
    vector_same : (a b : Vector) → a.x ≡ b.x → a.y ≡ b.y → a ≡ b
    vector_same a b p q = ap (λ (x : ℤ). make x a.y) p ∙ ap (λ (y : ℤ). make b.x y) q
      where
        make : ℤ → ℤ → Vector
        make x y = record { x = x; y = y }

is_true : (b : Bool) → T b → b ≡ true
is_true true h = refl
is_true false h = absurd h

le_true : (a b : ℤ) → a ≤ℤ b → int_le a b ≡ true
le_true a b h = is_true (int_le a b) h.le

reached : (reach : Reach) (v : Vector) → IsWithin reach v.x v.y → is_within reach v ≡ true
reached reach v h = rw (
  le_true reach.left v.x h.0.0,
  le_true v.x reach.right h.0.1,
  le_true reach.up v.y h.1.0,
  le_true v.y reach.down h.1.1,
) refl

vector_spelt : TableLaws → (reach : Reach) (predictor v : Vector) → IsVector v → IsWithin reach v.x v.y
    → Spells (vector reach predictor) v (vector_text predictor v)
unfolding vector
vector_spelt tables reach predictor v is within =
    let e = moved_back predictor v is in
    let test : is_within reach (moved predictor (between predictor v)) ≡ true = ap (λ (w : Vector). is_within reach w) e
    ∙ reached reach v within in
    let free : allowed_in_reach reach predictor (between predictor v) ≡ None = rw test refl in
    spells_whole (vector reach predictor) v (vector_text predictor v ++ []) _ (append-nil _)
    (spells_part difference (allowed_in_reach reach predictor) (λ d. done (moved predictor d)) v (between predictor v)
    (vector_text predictor v) [] (difference_spelt tables predictor v) free
    (subst (λ (w : Vector). Spells (done w) v []) (sym e) (spells_done v)))

-- ---- blocks

intra_spelt : BlockLaws → (b : Block) → length b.levels ≡ 64 → IsIntraBlock b
    → Spells (intra (is_coded b.levels)) b (intra_text b.levels)
unfolding intra
intra_spelt of_blocks b long is =
    spells_whole (intra (is_coded b.levels)) b (intra_text b.levels ++ []) _ (append-nil _)
    (spells_part (intra_block (is_coded b.levels)) any (λ levels. done (block_of_levels levels)) b b.levels
    (intra_text b.levels) [] (of_blocks.spelt.intra b long is) refl (spells_done b))

inter_spelt : BlockLaws → (b : Block) → length b.levels ≡ 64 → IsInterBlock b
    → Spells (inter (has_levels b.levels)) b (inter_text b.levels)
unfolding inter
inter_spelt of_blocks b long is = at (none_left b.levels) refl
  where
    at : (t : Bool) → none_left b.levels ≡ t
        → Spells (either (not t) (part inter_block any λ levels. done (block_of_levels levels))
        (done (block_of_levels no_levels))) b
        (inter_text b.levels)
    at true none =
        let zeros : b.levels ≡ no_levels = of_blocks.empty.levels b.levels long none in
        let same : b ≡ block_of_levels no_levels = ap block_of_levels zeros in
        spells_whole (done (block_of_levels no_levels)) b [] (inter_text b.levels)
        (sym (of_blocks.empty.text b.levels none))
        (subst (λ (c : Block). Spells (done c) b []) same (spells_done b))
    at false some =
        spells_whole (part inter_block any λ levels. done (block_of_levels levels)) b (inter_text b.levels
        ++ []) _ (append-nil _)
        (spells_part inter_block any (λ levels. done (block_of_levels levels)) b b.levels (inter_text b.levels) []
        (of_blocks.spelt.inter b long is some) refl (spells_done b))

-- the bits of a pattern
four_bits : (a b c d : Bool) → let n : ℕ = 8 * bit_of a + 4 * bit_of b + 2 * bit_of c + bit_of d in
    (is_set n 3 ≡ a) × (is_set n 2 ≡ b) × (is_set n 1 ≡ c) × (is_set n 0 ≡ d) × (n < 16)
four_bits true true true true = (refl, refl, refl, refl, omega arith)
four_bits true true true false = (refl, refl, refl, refl, omega arith)
four_bits true true false true = (refl, refl, refl, refl, omega arith)
four_bits true true false false = (refl, refl, refl, refl, omega arith)
four_bits true false true true = (refl, refl, refl, refl, omega arith)
four_bits true false true false = (refl, refl, refl, refl, omega arith)
four_bits true false false true = (refl, refl, refl, refl, omega arith)
four_bits true false false false = (refl, refl, refl, refl, omega arith)
four_bits false true true true = (refl, refl, refl, refl, omega arith)
four_bits false true true false = (refl, refl, refl, refl, omega arith)
four_bits false true false true = (refl, refl, refl, refl, omega arith)
four_bits false true false false = (refl, refl, refl, refl, omega arith)
four_bits false false true true = (refl, refl, refl, refl, omega arith)
four_bits false false true false = (refl, refl, refl, refl, omega arith)
four_bits false false false true = (refl, refl, refl, refl, omega arith)
four_bits false false false false = (refl, refl, refl, refl, omega arith)

two_bits : (a b : Bool) → let n : ℕ = 2 * bit_of a + bit_of b in (is_set n 1 ≡ a) × (is_set n 0 ≡ b) × (n < 4)
two_bits true true = (refl, refl, omega arith)
two_bits true false = (refl, refl, omega arith)
two_bits false true = (refl, refl, omega arith)
two_bits false false = (refl, refl, omega arith)

-- six elements
record Six (blocks : List Block) : Type 0 where
  a : Block
  b : Block
  c : Block
  d : Block
  e : Block
  f : Block
  are : blocks ≡ a ∷ b ∷ c ∷ d ∷ e ∷ f ∷ []

six_of : (blocks : List Block) → length blocks ≡ 6 → Six blocks
six_of [] n = absurd (omega arith)
six_of (a ∷ []) n = absurd (omega arith)
six_of (a ∷ b ∷ []) n = absurd (omega arith)
six_of (a ∷ b ∷ c ∷ []) n = absurd (omega arith)
six_of (a ∷ b ∷ c ∷ d ∷ []) n = absurd (omega arith)
six_of (a ∷ b ∷ c ∷ d ∷ e ∷ []) n = absurd (omega arith)
six_of (a ∷ b ∷ c ∷ d ∷ e ∷ f ∷ []) n = record { a = a; b = b; c = c; d = d; e = e; f = f; are = refl }
six_of (a ∷ b ∷ c ∷ d ∷ e ∷ f ∷ g ∷ more) n = absurd (omega arith)

module _ (block : Bool → Syntax Block) (text : List ℤ → List Bool) (coded : List ℤ → Bool) (P : Block → Type 0)
    (each : (b : Block) → length b.levels ≡ 64 → P b → Spells (block (coded b.levels)) b (text b.levels)) where
  one : (test : Bool) (b : Block) → test ≡ coded b.levels → length b.levels ≡ 64 → P b
      → Spells (block test) b (text b.levels)
  one test b e long is = subst (λ (t : Bool). Spells (block t) b (text b.levels)) (sym e) (each b long is)

  six_spelt : (a b c d e f : Block) → let bs : List Block = a ∷ b ∷ c ∷ d ∷ e ∷ f ∷ [] in
      All (λ (x : Block). length x.levels ≡ 64) bs → All P bs
      → Spells (blocks block (cbpy_of coded bs) (cbpc_of coded bs)) bs (blocks_text text bs)
  unfolding blocks blocks_text
  six_spelt a b c d e f long is =
      let bs : List Block = a ∷ b ∷ c ∷ d ∷ e ∷ f ∷ [] in
      let y = four_bits (coded a.levels) (coded b.levels) (coded c.levels) (coded d.levels) in
      let z = two_bits (coded e.levels) (coded f.levels) in
      spells_part (block (is_set (cbpy_of coded bs) 3)) any _ bs a (text a.levels) _
      (one _ a y.0 (long 0 a (omega arith)) (is 0 a (omega arith))) refl
      (spells_part (block (is_set (cbpy_of coded bs) 2)) any _ bs b (text b.levels) _
      (one _ b y.1 (long 1 a (omega arith)) (is 1 a (omega arith))) refl
      (spells_part (block (is_set (cbpy_of coded bs) 1)) any _ bs c (text c.levels) _
      (one _ c y.2 (long 2 a (omega arith)) (is 2 a (omega arith))) refl
      (spells_part (block (is_set (cbpy_of coded bs) 0)) any _ bs d (text d.levels) _
      (one _ d y.3 (long 3 a (omega arith)) (is 3 a (omega arith))) refl
      (spells_part (block (is_set (cbpc_of coded bs) 1)) any _ bs e (text e.levels) _
      (one _ e z.0 (long 4 a (omega arith)) (is 4 a (omega arith))) refl
      (spells_part (block (is_set (cbpc_of coded bs) 0)) any _ bs f (text f.levels) _
      (one _ f z.1 (long 5 a (omega arith)) (is 5 a (omega arith))) refl
      (spells_done bs))))))

  blocks_spelt : (bs : List Block) → AreWhole bs → All P bs
      → Spells (blocks block (cbpy_of coded bs) (cbpc_of coded bs)) bs (blocks_text text bs)
  blocks_spelt bs whole is =
      let s = six_of bs whole.count in
      let are : s.a ∷ s.b ∷ s.c ∷ s.d ∷ s.e ∷ s.f ∷ [] ≡ bs = sym s.are in
      subst (λ (l : List Block). Spells (blocks block (cbpy_of coded l) (cbpc_of coded l)) l (blocks_text text l)) are
      (six_spelt s.a s.b s.c s.d s.e s.f (subst (λ (l : List Block). All (λ (x : Block). length x.levels ≡ 64) l) s.are
      whole.each) (subst (λ (l : List Block). All P l) s.are is))

-- ---- whole macroblocks

regroup : (a b c d : List Bool) → a ++ (b ++ (c ++ (d ++ []))) ≡ (a ++ (b ++ c)) ++ d
regroup a b c d = simp (append_assoc, append-nil)

regroup_more : (a b c v d : List Bool) → a ++ (b ++ (c ++ (v ++ (d ++ [])))) ≡ (a ++ (b ++ c)) ++ (v ++ d)
regroup_more a b c v d = simp (append_assoc, append-nil)

intra_there : (kind : Kind) (same : Bool) (n : ℕ) → n < 4 → IsInTable kind (Word (class_of true same) n)
intra_there kinds.I true n lt = (lt, inl refl)
intra_there kinds.I false n lt = (lt, inr refl)
intra_there kinds.P same n lt = lt

module _ (tables : TableLaws) (quant : ℕ) (reach : Reach) (predictor : Vector) (new : ℕ) (bs : List Block)
    (pattern cbpc : ℕ) (step text : List Bool) (low : pattern < 16) where
  coded_intra : (same : Bool) → Spells (quantiser (class_of true same) quant) new step
      → Spells (blocks intra pattern cbpc) bs text
      → Spells (coded_mb quant reach predictor (class_of true same) cbpc) (mbs.Intra new bs) (cbpy_text true pattern
      ++ (step ++ (text ++ [])))
  unfolding coded_mb intra_mb
  coded_intra true q b =
      spells_part (cbpy true) any _ (mbs.Intra new bs) pattern (cbpy_text true pattern) _
      (tables.spelt.cbpy true pattern low) refl
      (spells_part (quantiser classes.Intra quant) any _ (mbs.Intra new bs) new step _ q refl
      (spells_part (blocks intra pattern cbpc) any _ (mbs.Intra new bs) bs text [] b refl
      (spells_done (mbs.Intra new bs))))
  coded_intra false q b =
      spells_part (cbpy true) any _ (mbs.Intra new bs) pattern (cbpy_text true pattern) _
      (tables.spelt.cbpy true pattern low) refl
      (spells_part (quantiser classes.IntraQ quant) any _ (mbs.Intra new bs) new step _ q refl
      (spells_part (blocks intra pattern cbpc) any _ (mbs.Intra new bs) bs text [] b refl
      (spells_done (mbs.Intra new bs))))

  coded_inter : (v : Vector) (vt : List Bool) (same : Bool) → Spells (quantiser (class_of false same) quant) new step
      → Spells (vector reach predictor) v vt → Spells (blocks inter pattern cbpc) bs text
      → Spells (coded_mb quant reach predictor (class_of false same) cbpc) (mbs.Inter new v bs) (cbpy_text false pattern
      ++ (step ++ (vt ++ (text ++ []))))
  unfolding coded_mb inter_mb
  coded_inter v vt true q w b =
      spells_part (cbpy false) any _ (mbs.Inter new v bs) pattern (cbpy_text false pattern) _
      (tables.spelt.cbpy false pattern low) refl
      (spells_part (quantiser classes.Inter quant) any _ (mbs.Inter new v bs) new step _ q refl
      (spells_part (vector reach predictor) any _ (mbs.Inter new v bs) v vt _ w refl
      (spells_part (blocks inter pattern cbpc) any _ (mbs.Inter new v bs) bs text [] b refl
      (spells_done (mbs.Inter new v bs)))))
  coded_inter v vt false q w b =
      spells_part (cbpy false) any _ (mbs.Inter new v bs) pattern (cbpy_text false pattern) _
      (tables.spelt.cbpy false pattern low) refl
      (spells_part (quantiser classes.InterQ quant) any _ (mbs.Inter new v bs) new step _ q refl
      (spells_part (vector reach predictor) any _ (mbs.Inter new v bs) v vt _ w refl
      (spells_part (blocks inter pattern cbpc) any _ (mbs.Inter new v bs) bs text [] b refl
      (spells_done (mbs.Inter new v bs)))))

pattern_low : (coded : List ℤ → Bool) (bs : List Block) → cbpy_of coded bs < 16
pattern_low coded bs = (four_bits (coded (levels_at bs 0)) (coded (levels_at bs 1)) (coded (levels_at bs 2))
    (coded (levels_at bs 3))).4

cbpc_low : (coded : List ℤ → Bool) (bs : List Block) → cbpc_of coded bs < 4
cbpc_low coded bs = (two_bits (coded (levels_at bs 4)) (coded (levels_at bs 5))).2

intra_mb_spelt : TableLaws → BlockLaws → (kind : Kind) (quant : ℕ) (reach : Reach) (predictor : Vector) (new : ℕ)
    (bs : List Block) → IsIntraMb new bs → DquantReaches quant new → AreWhole bs
    → Spells (mb kind quant reach predictor) (mbs.Intra new bs) (intra_mb_text kind quant new bs)
unfolding mb after_lead intra_mb_text mb_head_text
intra_mb_spelt tables of_blocks kind quant reach predictor new bs is near whole =
    let m : Mb = mbs.Intra new bs in
    let pattern : ℕ = cbpy_of is_coded bs in
    let cbpc : ℕ = cbpc_of is_coded bs in
    let class : MbClass = class_of true (new == quant) in
    let low = pattern_low is_coded bs in
    let lead_at = lead_spelt tables kind class cbpc (intra_there kind (new == quant) cbpc (cbpc_low is_coded bs))
    (one_vector true (new == quant) cbpc) in
    let q = quantiser_spelt tables true quant new is.quant_in_range near in
    let b = blocks_spelt intra intra_text is_coded (λ (x : Block). IsIntraBlock x) (intra_spelt of_blocks) bs whole
    is.each in
    let coded = coded_intra tables quant reach predictor new bs pattern cbpc (step_text quant new)
    (blocks_text intra_text bs) low (new == quant) q b in
    spells_whole (mb kind quant reach predictor) m _ _ (regroup (class_text kind class cbpc) (cbpy_text true pattern)
    (step_text quant new) (blocks_text intra_text bs))
    (spells_part (lead kind) any (λ l. after_lead quant reach predictor l) m (Coded class cbpc)
    (class_text kind class cbpc) _ lead_at refl coded)

inter_mb_spelt : TableLaws → BlockLaws → (quant : ℕ) (reach : Reach) (predictor : Vector) (new : ℕ) (v : Vector)
    (bs : List Block) → IsInterMb new v bs → DquantReaches quant new → AreWhole bs → IsWithin reach v.x v.y
    → Spells (mb kinds.P quant reach predictor) (mbs.Inter new v bs) (inter_mb_text quant predictor new v bs)
unfolding mb after_lead inter_mb_text mb_head_text
inter_mb_spelt tables of_blocks quant reach predictor new v bs is near whole within =
    let m : Mb = mbs.Inter new v bs in
    let pattern : ℕ = cbpy_of has_levels bs in
    let cbpc : ℕ = cbpc_of has_levels bs in
    let class : MbClass = class_of false (new == quant) in
    let low = pattern_low has_levels bs in
    let lead_at = lead_spelt tables kinds.P class cbpc (cbpc_low has_levels bs) (one_vector false (new == quant) cbpc)
    in
    let q = quantiser_spelt tables false quant new is.quant_in_range near in
    let w = vector_spelt tables reach predictor v is.vector_in_range within in
    let b = blocks_spelt inter inter_text has_levels (λ (x : Block). IsInterBlock x) (inter_spelt of_blocks) bs whole
    is.each in
    let coded = coded_inter tables quant reach predictor new bs pattern cbpc (step_text quant new)
    (blocks_text inter_text bs) low v (vector_text predictor v) (new == quant) q w b in
    spells_whole (mb kinds.P quant reach predictor) m _ _ (regroup_more (class_text kinds.P class cbpc)
    (cbpy_text false pattern) (step_text quant new) (vector_text predictor v) (blocks_text inter_text bs))
    (spells_part (lead kinds.P) any (λ l. after_lead quant reach predictor l) m (Coded class cbpc)
    (class_text kinds.P class cbpc) _ lead_at refl coded)

skip_mb_spelt : (quant : ℕ) (reach : Reach) (predictor : Vector)
    → Spells (mb kinds.P quant reach predictor) mbs.Skip (true ∷ [])
unfolding mb after_lead
skip_mb_spelt quant reach predictor =
    spells_part (lead kinds.P) any (λ l. after_lead quant reach predictor l) mbs.Skip Skipped (true ∷ []) [] skip_spelt
    refl (spells_done mbs.Skip)

-- what is written of a macroblock is a text of it, where its vector is in reach
pub mb_written : TableLaws → BlockLaws → AreMbsSpelt
mb_written tables of_blocks kinds.I quant reach predictor mbs.Skip is of near whole within = absurd of
mb_written tables of_blocks kinds.P quant reach predictor mbs.Skip is of near whole within =
    skip_mb_spelt quant reach predictor
mb_written tables of_blocks kind quant reach predictor (mbs.Intra new bs) is of near whole within =
    intra_mb_spelt tables of_blocks kind quant reach predictor new bs is near whole
mb_written tables of_blocks kinds.I quant reach predictor (mbs.Inter new v bs) is of near whole within = absurd of
mb_written tables of_blocks kinds.P quant reach predictor (mbs.Inter new v bs) is of near whole within =
    inter_mb_spelt tables of_blocks quant reach predictor new v bs is near whole within
