-- The levels whose marks are gone stand at their places of the zigzag order.
use Rattle.std.proofs.Common.{◌≡◌, ◌≢◌, ◌<◌, ap, ◌∙◌, subst, sym, ℕ, ℤ, pos, get_or, to_z, of_z, w16, w64}
use Rattle.std.specs.Int.{bit_at, trailing_zeros}
use Rattle.h263_types.specs.Blocks.{IsLevel}
use Rattle.h263_types.specs.Marks.{without}
use Rattle.mode_choice.specs.Walk.{AreSet, kept_level}
use Rattle.mode_choice.proofs.Levels.{level_kept}
use Rattle.mode_choice.proofs.Marked.{marked_some, none_in_zeros}
use Rattle.mode_choice.proofs.Walk.{starts, set_one, ends, kept_range, left_marks, not_yet}
use Rattle.mode_choice.proofs.order.put_in_order.Goals as goal

pub marks-init : goal.marks-init
marks-init c = record {
  set =
      subst (AreSet c.args.standing c.args.keep c.args.levels.now _) (sym c.requires.zeros)
      (starts c.marks-2.ensures c.args.standing c.args.keep c.args.levels.now _ c.marks-rest.ensures.marks);
  some = λ i mark. marked_some c.marks-2.ensures c.args.levels.now i
      (ap (λ (n : ℕ). bit_at n i) (sym c.marks-rest.ensures.marks) ∙ mark);
  marks = none_in_zeros c.args.out.now c.requires.zeros;
}

pub marks-smaller : goal.marks-smaller
marks-smaller c =
    let mark = c.lowest.ensures c.marks.rest c.marks.auto.rest-fits.fits c.marks-test.true in
    mark.fewer

pub put_level-kept-requires-clause-some : goal.put_level-kept-requires-clause-some
put_level-kept-requires-clause-some c =
    let rest = c.marks.rest in
    let at = trailing_zeros w64 rest in
    let mark = c.lowest.ensures rest c.marks.auto.rest-fits.fits c.marks-test.true in
    let level : ℤ = get_or c.args.levels.now at (pos 0) in
    let own : to_z w16 (of_z w16 level)
    ≡ level = level_kept level
    (c.requires.levels at (pos 0) (subst (λ (n : ℕ). at < n) (sym c.told-levels) mark.below)) in
    subst (λ (z : ℤ). z ≢ pos 0) (sym own) (c.marks.invariant.some at mark.set)

pub put_level-kept-requires-clause-none : goal.put_level-kept-requires-clause-none
put_level-kept-requires-clause-none c =
    let rest = c.marks.rest in
    let mark = c.lowest.ensures rest c.marks.auto.rest-fits.fits c.marks-test.true in
    not_yet c.one_order.ensures c.args.standing c.args.keep c.args.levels.now (trailing_zeros w64 rest)
    c.place_in_order-k.result rest c.marks.out
    mark c.place_in_order-k.ensures.place c.place_in_order-k.ensures.range c.marks.invariant.set

pub marks-preserved : goal.marks-preserved
marks-preserved c =
    let rest = c.marks.rest in
    let at = trailing_zeros w64 rest in
    let mark = c.lowest.ensures rest c.marks.auto.rest-fits.fits c.marks-test.true in
    let level : ℤ = get_or c.args.levels.now at (pos 0) in
    let is : IsLevel level = c.requires.levels at (pos 0) (subst (λ (n : ℕ). at < n) (sym c.told-levels) mark.below) in
    let own : to_z w16 (of_z w16 level) ≡ level = level_kept level is in
    let k : ℕ = c.place_in_order-k.result in
    let v : ℤ = kept_level c.args.keep k (to_z w16 (of_z w16 level)) in
    record {
      set =
          subst (AreSet c.args.standing c.args.keep c.args.levels.now (without rest at))
          (sym c.put_level-kept.ensures.levels)
          (set_one c.one_order.ensures c.args.standing c.args.keep c.args.levels.now at k rest c.marks.out v
          mark c.place_in_order-k.ensures.place c.place_in_order-k.ensures.range
          (ap (kept_level c.args.keep k) own)
          (kept_range c.args.keep k (to_z w16 (of_z w16 level)) (subst IsLevel (sym own) is)) c.marks.invariant.set);
      some = λ i left. c.marks.invariant.some i (left_marks rest at i left);
      marks = c.put_level-kept.ensures.marks;
    }

pub returns-clause-levels : goal.returns-clause-levels
returns-clause-levels c = ends c.args.standing c.args.keep c.args.levels.now c.marks.rest c.marks.out c.marks-test.false
    c.marks.invariant.set
