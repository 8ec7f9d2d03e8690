-- The values of the levels whose marks are gone stand at their places of the block.
use Rattle.std.proofs.Common.{◌≢◌, ℕ, ◌<◌, arith, ap, ◌∙◌, subst, sym, to_z, of_z, w16, w64, lit<, slice_set}
use Rattle.std.specs.Int.{trailing_zeros}
use Rattle.std.proofs.lemmas.Nat.Bits.{bit_at_clear_same, bit_at_clear_other}
use Rattle.h263_types.specs.Blocks.{IsLevel, IsValue, level_at}
use Rattle.h263_types.specs.Marks.{without}
use Rattle.quantiser.specs.Levels.{value_of}
use Rattle.picture_recon.specs.Marks.{ArePut}
use Rattle.picture_recon.proofs.Kept.{kept, kept_level}
use Rattle.picture_recon.proofs.Clear.{unmarked_value}
use Rattle.picture_recon.proofs.Walk.{starts, put, ends, not_first}
use Rattle.picture_recon.proofs.values.put_values_but_first.Goals as goal

pub marks-init : goal.marks-init
marks-init c = (
  starts c.one_order.ensures c.args.quant c.args.block.now c.args.marks _ c.requires.marked
      (λ i less differs. bit_at_clear_other w64 c.args.marks 0 (lit< tt) i less differs),
  bit_at_clear_same w64 c.args.marks 0 (lit< tt),
)

pub value-requires-clause-level : goal.value-requires-clause-level
value-requires-clause-level c =
    let k = trailing_zeros w64 c.marks.rest in
    let mark = c.lowest.ensures c.marks.rest c.marks.auto.rest-fits.fits c.marks-test.true in
    let level = c.requires.levels k (not_first c.marks.rest k mark c.marks.invariant.1) mark.below in
    subst IsLevel (sym (kept_level (level_at c.args.block.now k) level)) level

pub marks-smaller : goal.marks-smaller
marks-smaller c =
    let mark = c.lowest.ensures c.marks.rest c.marks.auto.rest-fits.fits c.marks-test.true in
    mark.fewer

pub marks-preserved : goal.marks-preserved
marks-preserved c =
    let quant = c.args.quant in
    let block = c.args.block.now in
    let rest = c.marks.rest in
    let k = trailing_zeros w64 rest in
    let mark = c.lowest.ensures rest c.marks.auto.rest-fits.fits c.marks-test.true in
    let past = not_first rest k mark c.marks.invariant.1 in
    let level = c.requires.levels k past mark.below in
    let same = kept c.value.result c.value.ensures.range in
    let v = to_z w16 (of_z w16 c.value.result) in
    let next = put c.one_order.ensures quant block k rest c.marks.values v mark past
    (subst (λ (n : ℕ). n < 64) c.block_place.ensures.place c.block_place.ensures.range)
    (same ∙ c.value.ensures.value ∙ ap (value_of quant) (kept_level (level_at block k) level))
    (subst IsValue (sym same) c.value.ensures.range) c.marks.invariant.0 in
    let first : 0 ≢ k = let h = past in omega arith in (
      subst (λ (n : ℕ). ArePut quant block (without rest k) (slice_set c.marks.values n v))
          (sym c.block_place.ensures.place) next,
      mark.others 0 (lit< tt) first ∙ c.marks.invariant.1,
    )

pub returns-clause-values : goal.returns-clause-values
returns-clause-values c =
    ends c.one_order.ensures c.args.quant c.args.block.now
    c.marks.rest c.marks.values c.marks-test.false c.marks.invariant.0

pub returns-clause-first : goal.returns-clause-first
returns-clause-first c = c.marks.invariant.0.first

pub returns-clause-marked : goal.returns-clause-marked
returns-clause-marked c = λ at some less none.
    returns-clause-values c at some less
    ∙ unmarked_value c.one_order.ensures c.args.quant c.args.block.now c.args.marks c.requires.marked at some less
    none
