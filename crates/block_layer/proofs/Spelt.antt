-- What is written of a block spells its levels.
use Rattle.std.proofs.Common.{◌≡◌, ℕ, zero, suc, ◌^◌, ◌<◌, ◌≤◌, Bool, true, false, cond, List, [], ◌∷◌, ◌++◌, length, refl, sym, ap, ◌∙◌, subst, arith, eqb, inl, inr, None, not}
use Rattle.std.specs.Prelude.{ℤ, pos, negsuc, slice_set, replicate, ◌⊎◌}
use Rattle.std.specs.Ordering.{int_eq}
use Rattle.std.proofs.lemmas.Int.{ints}
use Rattle.std.proofs.lemmas.Bool.{ne_eqb, cases_lt}
use Rattle.std.proofs.lemmas.Bool.Decides.{Decides-int_eq}
use Rattle.std.proofs.lemmas.List.{append-nil}
use Rattle.h263_types.specs.declared.blocks.Block.{Block}
use Rattle.h263_types.specs.Blocks.{IsLevel, IsDc, IsIntraBlock, IsInterBlock}
use Rattle.h263_bits.specs.Bits.{spelled}
use Rattle.h263_bits.specs.Syntax.{Spells, any, done, either, repeat}
use Rattle.h263_bits.proofs.SyntaxLaws.{spells_field, spells_part, spells_done, spells_whole}
use Rattle.code_tables.specs.Laws.{TableLaws}
use Rattle.code_tables.specs.Tables.{size_of}
use Rattle.block_layer.specs.Laws.{AreBlocksSpelt, IsEmptyBlock}
use Rattle.block_layer.specs.Text.{events, event_turn, allowed_dc, dc_of, dc_code, intra_dc, intra_block, inter_block, no_levels, none_left, is_coded, levels_text, coded_text, intra_text, inter_text}
use Rattle.block_layer.specs.Step.{level_in_list}
use Rattle.block_layer.proofs.Written.{events_spelt, IsWritten, all_zeros}
use Rattle.block_layer.proofs.Turns.{at_place}
use Rattle.block_layer.proofs.Steps.{none_inter}
use Rattle.block_layer.proofs.Ranges.{no_levels_within}

-- a level's size has seven bits
pub size_is : (z : ℤ) → IsLevel z → size_of z < 128
size_is (pos n) is = omega (arith, ints, is.low, is.high)
size_is (negsuc n) is = omega (arith, ints, is.low, is.high)

past : (levels : List ℤ) (k : ℕ) → length levels ≤ k → level_in_list levels k ≡ pos 0
past [] k le = refl
past (z ∷ levels) zero le = absurd (omega arith)
past (z ∷ levels) (suc k) le = past levels k (omega arith)

-- levels that are in range up to the end can be written
all_written : (levels : List ℤ) → ((k : ℕ) → k < length levels → IsLevel (level_in_list levels k)) → (k : ℕ)
    → IsWritten (level_in_list levels k)
all_written levels each k = at (cases_lt k (length levels))
  where
    at : (k < length levels) ⊎ (length levels ≤ k) → IsWritten (level_in_list levels k)
    at (inl inside) = size_is (level_in_list levels k) (each k inside)
    at (inr outside) = rw (past levels k outside) (omega arith)

-- ---- INTRADC

not_128 : (n : ℕ) → int_eq (pos n) (pos 128) ≡ false → n ≡ 128 → ⊥
not_128 n e q = let h : int_eq (pos 128) (pos 128) ≡ false = subst (λ (k : ℕ). int_eq (pos k) (pos 128) ≡ false) q e in
    cc

dc_back : (z : ℤ) → IsDc z → (dc_code z < 2 ^ 8) × (allowed_dc (dc_code z) ≡ None) × (dc_of (dc_code z) ≡ z)
dc_back (negsuc n) is = absurd (omega (arith, ints, is.low))
dc_back (pos n) is = at (int_eq (pos n) (pos 128)) refl
  where
    at : (t : Bool) → int_eq (pos n) (pos 128) ≡ t → (cond t 255 n < 2 ^ 8) × (allowed_dc (cond t 255 n) ≡ None)
        × (dc_of (cond t 255 n) ≡ pos n)
    at true e = let same : pos n ≡ pos 128 = (Decides-int_eq (pos n) (pos 128)).0 e in (omega arith, refl, sym same)
    at false e =
        let other = not_128 n e in
        let mid : eqb n 128 ≡ false = ne_eqb n 128 other in
        let zero : eqb n 0 ≡ false = ne_eqb n 0 (λ (q : n ≡ 0). omega (arith, ints, q, is.low)) in
        let high : eqb n 255 ≡ false = ne_eqb n 255 (λ (q : n ≡ 255). omega (arith, ints, q, is.high)) in
        (omega (arith, ints, is.high), rw (zero, mid) refl, rw high refl)

-- INTRADC, in a block with no other level
alone : ℤ → List ℤ
alone z = z ∷ replicate 63 (pos 0)

dc_spelt : (z : ℤ) → IsDc z → Spells intra_dc (alone z) (spelled 8 (dc_code z))
unfolding intra_dc alone
dc_spelt z is =
    let back = dc_back z is in
    let done_at : Spells (done (slice_set no_levels 0 (dc_of (dc_code z)))) (alone z) [] =
    subst (λ (y : ℤ). Spells (done (y ∷ replicate 63 (pos 0))) (alone z) []) (sym back.2) (spells_done (alone z)) in
    spells_whole intra_dc (alone z) (spelled 8 (dc_code z) ++ []) (spelled 8 (dc_code z))
    (append-nil (spelled 8 (dc_code z)))
    (spells_field 8 allowed_dc (λ n. done (slice_set no_levels 0 (dc_of n))) (alone z) (dc_code z) [] back.0 back.1
    done_at)

-- ---- whole blocks

events_after : TableLaws → (z : ℤ) (rest : List ℤ) → length rest ≡ 63 → none_left rest ≡ false
    → ((k : ℕ) → IsWritten (level_in_list rest k)) → Spells (events 1 (alone z)) (z ∷ rest) (levels_text 1 (z ∷ rest))
unfolding events levels_text alone
events_after tables z rest long some range =
    subst (λ (n : ℕ). Spells (repeat (at_place 1 (z ∷ replicate n (pos 0))) event_turn) (z ∷ rest)
    (levels_text 1 (z ∷ rest))) long
    (events_spelt tables (z ∷ []) rest 1 0 refl (omega arith) some range)

nothing_after : (z : ℤ) (rest : List ℤ) → length rest ≡ 63 → none_left rest ≡ true → z ∷ rest ≡ alone z
unfolding alone
nothing_after z rest long none = ap (λ (l : List ℤ). z ∷ l) (all_zeros rest none
    ∙ ap (λ (n : ℕ). replicate n (pos 0)) long)

after_spelt : TableLaws → (z : ℤ) (rest : List ℤ) → length rest ≡ 63 → ((k : ℕ) → IsWritten (level_in_list rest k))
    → Spells (either (is_coded (z ∷ rest)) (events 1 (alone z)) (done (alone z))) (z ∷ rest) (coded_text (z ∷ rest))
after_spelt tables z rest long range = at (none_left rest) refl
  where
    at : (t : Bool) → none_left rest ≡ t → Spells (either (not t) (events 1 (alone z)) (done (alone z))) (z ∷ rest)
        (cond (not t) (levels_text 1 (z ∷ rest)) [])
    at true none =
        let same : z ∷ rest ≡ alone z = nothing_after z rest long none in
        subst (λ (l : List ℤ). Spells (done l) (z ∷ rest) []) same (spells_done (z ∷ rest))
    at false some = events_after tables z rest long some range

intra_at : TableLaws → (z : ℤ) (rest : List ℤ) → length rest ≡ 63 → IsDc z
    → ((k : ℕ) → IsWritten (level_in_list rest k))
    → Spells (intra_block (is_coded (z ∷ rest))) (z ∷ rest) (intra_text (z ∷ rest))
unfolding intra_block intra_text
intra_at tables z rest long dc range =
    spells_part intra_dc any (λ levels. either (is_coded (z ∷ rest)) (events 1 levels) (done levels)) (z ∷ rest)
    (alone z) (spelled 8 (dc_code z)) (coded_text (z ∷ rest)) (dc_spelt z dc) refl
    (after_spelt tables z rest long range)

pub intra_written : TableLaws → (b : Block) → length b.levels ≡ 64 → IsIntraBlock b
    → Spells (intra_block (is_coded b.levels)) b.levels (intra_text b.levels)
intra_written tables b long is = at b.levels long is.dc is.levels
  where
    at : (levels : List ℤ) → length levels ≡ 64 → IsDc (level_in_list levels 0)
        → ((k : ℕ) → 1 ≤ k → k < 64 → IsLevel (level_in_list levels k))
        → Spells (intra_block (is_coded levels)) levels (intra_text levels)
    at [] long dc each = absurd (omega arith)
    at (z ∷ rest) long dc each = intra_at tables z rest (omega arith) dc
        (all_written rest (λ k lt. each (suc k) (omega arith) (omega arith)))

pub inter_written : TableLaws → (b : Block) → length b.levels ≡ 64 → IsInterBlock b → none_left b.levels ≡ false
    → Spells inter_block b.levels (inter_text b.levels)
unfolding inter_block inter_text events levels_text
inter_written tables b long is some =
    subst (λ (n : ℕ). Spells (repeat (at_place 0 (replicate n (pos 0))) event_turn) b.levels (levels_text 0 b.levels))
    long
    (events_spelt tables [] b.levels 0 0 refl (omega arith) some
    (all_written b.levels (λ k lt. is.levels k (omega arith))))

-- the text that is written of a block is one of its texts
pub are_spelt : TableLaws → AreBlocksSpelt
are_spelt tables = record { intra = intra_written tables; inter = inter_written tables }

-- ---- a block whose levels are all 0

pub is_empty : IsEmptyBlock
is_empty = record {
  in_range = no_levels_within;
  levels = λ levels long none. all_zeros levels none ∙ ap (λ (n : ℕ). replicate n (pos 0)) long;
  text = none_inter;
}
