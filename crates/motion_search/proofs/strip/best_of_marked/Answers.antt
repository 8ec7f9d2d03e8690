use Rattle.std.proofs.Common.{◌≡◌, sym, ap, ◌∙◌, arith, ℕ, ◌<◌, ◌+◌, ◌*◌}
use Rattle.std.specs.Int.{bit_at}
use Rattle.std.proofs.lemmas.Nat.Bits.{bit_at-zero}
use Rattle.std.proofs.lemmas.Int.{ints}
use Rattle.h263_planes.specs.Lent.{picture}
use Rattle.motion_search.specs.Cost.{candidate_of}
use Rattle.motion_search.specs.Vectors.{whole_at}
use Rattle.motion_search.specs.SoFar.{IsNoBetter}
use Rattle.motion_search.proofs.Strips.{marked_or_kept}
use Rattle.motion_search.proofs.strip.best_of_marked.Goals as goal

pub loop-left-init : goal.loop-left-init
loop-left-init c = record {
  so_far = c.requires.so_far;
  kept = λ d h. h;
  none = λ i hi unmarked hc. c.requires.others i hi unmarked;
}

pub better_in_row-first-requires-clause-left : goal.better_in_row-first-requires-clause-left
better_in_row-first-requires-clause-left c = omega (arith, ints, c.requires.left)

pub loop-left-preserved : goal.loop-left-preserved
loop-left-preserved c =
    let w = c.args.window in
    let next = c.better_in_row-first in
    let seen = c.lowest-i.result in
    let of = λ (i : ℕ). i < 16 → c.args.column + i < 2 * w.radius + 1
    → IsNoBetter w (c.args.column + i) c.args.row next.result in
    record {
      so_far = next.ensures.so_far;
      kept = λ d h. next.ensures.kept d (c.loop-left.invariant.kept d h);
      none = λ i hi unmarked hc.
          marked_or_kept of seen i (λ _ hc. next.ensures.none hc)
          (λ apart hi hc reached. next.ensures.kept (candidate_of w.block.now (picture w.reference) w.mb 0
          (whole_at w.radius (c.args.column + i) c.args.row))
          (c.loop-left.invariant.none i hi (sym (c.without-left.ensures.kept i (omega (arith, hi)) apart)
          ∙ unmarked) hc reached)) hi hc;
    }

pub returns-clause-none : goal.returns-clause-none
returns-clause-none c = λ i hi hc.
    let none : c.loop-left.left ≡ 0 = omega (arith, c.loop-left-test.false) in
    c.loop-left.invariant.none i hi (ap (λ (n : ℕ). bit_at n i) none ∙ bit_at-zero i) hc
