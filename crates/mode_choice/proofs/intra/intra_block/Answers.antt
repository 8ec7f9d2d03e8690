-- The levels are those of the coefficients, and their marks are set where they aren't 0.
use Rattle.std.proofs.Common.{◌≡◌, ◌≢◌, ◌∙◌, lit<, ℕ, zero, suc, ℤ, pos, List, ap, sym, subst, arith, length, length-set, slice_set, ◌<◌, ◌≤◌, ◌+ℤ◌, nat_eq, get_or, get_or-set_same, get_or-set_other, cond, to_z, of_z, w16}
use Rattle.std.specs.Prelude.{bit_or}
use Rattle.std.specs.Int.{int_shr}
use Rattle.std.proofs.lemmas.Int.{ints}
use Rattle.std.proofs.lemmas.Bool.Decides.{nat_tests}
use Rattle.std.proofs.lemmas.List.FromFn.{fill_by_all}
use Rattle.h263_types.specs.declared.blocks.Block.{Block}
use Rattle.h263_types.specs.Blocks.{IsCoefficient, IsDc}
use Rattle.mode_choice.specs.Choice.{coefficient_at, chosen_level, levels_of, limited_dc}
use Rattle.quantiser.specs.Zigzag.{block_place_of}
use Rattle.mode_choice.proofs.Levels.{coefficient_kept}
use Rattle.mode_choice.proofs.Marked.{set_mark}
use Rattle.mode_choice.proofs.intra.intra_block.Goals as goal

pub transformed-first-requires-clause-zeros : goal.transformed-first-requires-clause-zeros
transformed-first-requires-clause-zeros c = ap (λ (b : Block). b.levels) c.requires.zeros

pub intra_dc-requires : goal.intra_dc-requires
intra_dc-requires c = subst IsCoefficient
    (sym (coefficient_kept c.transformed-first.result.0 c.transformed-first.ensures.first_range))
    c.transformed-first.ensures.first_range

dc_kept : (z : ℤ) → IsDc z → to_z w16 (of_z w16 z) ≡ z
dc_kept z h = omega (arith, ints)

-- INTRADC, and after it the levels that stand already
with_first : (quant keep : ℕ) (samples levels : List ℤ) (dc : ℤ) → length levels ≡ 64
    → dc ≡ chosen_level quant keep 0 (coefficient_at samples 0) →
    ((k : ℕ) → 1 ≤ k → k < 64 → get_or levels k (pos 0) ≡ chosen_level quant keep k (coefficient_at samples k)) →
    (k : ℕ) → k < 64 → get_or (slice_set levels 0 dc) k (pos 0) ≡ chosen_level quant keep k (coefficient_at samples k)
with_first quant keep samples levels dc long first others zero h = get_or-set_same levels 0 dc (pos 0)
    (omega (arith, long)) ∙ first
with_first quant keep samples levels dc long first others (suc k) h = get_or-set_other levels 0 (suc k) dc (pos 0)
    (omega arith) ∙ others (suc k) (omega arith) h

-- a level after the first
behind : (k : ℕ) (dc l : ℤ) → 1 ≤ k → l ≡ cond (nat_eq k 0) dc l
behind k dc l h = grind (arith, nat_tests)

pub returns-clause-levels : goal.returns-clause-levels
unfolding levels_of block_place_of
returns-clause-levels c =
    let quant : ℕ = c.args.quantisation.quant in
    let keep : ℕ = c.args.quantisation.keep in
    let samples : List ℤ = c.args.samples.now in
    let levels : List ℤ = c.transformed-first.new.out in
    let dc : ℤ = to_z w16 (of_z w16 c.intra_dc.result) in
    let first : dc ≡ limited_dc (int_shr (coefficient_at samples 0 +ℤ pos 4) 3) =
    dc_kept c.intra_dc.result c.intra_dc.ensures.range
    ∙ c.intra_dc.ensures.value
    ∙ ap (λ (f : ℤ). limited_dc (int_shr (f +ℤ pos 4) 3))
    (coefficient_kept c.transformed-first.result.0 c.transformed-first.ensures.first_range
    ∙ c.transformed-first.ensures.first) in
    let block : List ℤ → Block = λ ls. record { levels = ls } in
    ap block (fill_by_all (λ (k : ℕ). chosen_level quant keep k (coefficient_at samples k)) (slice_set levels 0 dc) 64
    (pos 0) (length-set levels 0 dc ∙ c.transformed-first.ensures.long)
    (with_first quant keep samples levels dc c.transformed-first.ensures.long first
    (λ k some below. c.transformed-first.ensures.levels k below ∙ behind k _ _ some)))

dc_some : (z : ℤ) → IsDc z → z ≢ pos 0
dc_some z h = λ none. absurd (omega (arith, ints, h.low, none))

pub returns-clause-marks : goal.returns-clause-marks
returns-clause-marks c =
    let dc : ℤ = to_z w16 (of_z w16 c.intra_dc.result) in
    let some : dc ≢ pos 0 = subst (λ (z : ℤ). z ≢ pos 0) (sym (dc_kept c.intra_dc.result c.intra_dc.ensures.range))
    (dc_some c.intra_dc.result c.intra_dc.ensures.range) in
    ap (λ (n : ℕ). bit_or n 1) c.transformed-first.ensures.marks
    ∙ set_mark c.marks.ensures c.transformed-first.new.out 0 dc (lit< tt)
    (omega (arith, c.transformed-first.ensures.long)) some
