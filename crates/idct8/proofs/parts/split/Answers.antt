use Rattle.std.proofs.Common.{◌≡◌, ◌∙◌, ℕ, ◌<◌, ℤ, List, map, subst, sym, arith, lit≤, length, length-set, w16, w32, to_z, of_z}
use Rattle.idct8.specs.Vectors.{sum_at}
use Rattle.idct8.proofs.Eights.{one_row_of_each, row_with}
use Rattle.idct8.proofs.Shifts.{AreParts}
use Rattle.idct8.proofs.Vectors.{passed, passed16, passed_within}
use Rattle.idct8.proofs.parts.split.Goals as goal

pub parts-requires : goal.parts-requires
parts-requires c = passed_within 46546944 46546944 (lit≤ tt) (lit≤ tt) (c.requires c.loop-k.k c.loop-k-test.true)

pub loop-k-preserved : goal.loop-k-preserved
loop-k-preserved c =
    let k : ℕ = c.loop-k.k in
    let below : k < 8 = c.loop-k-test.true in
    let high_long : length c.loop-k.high ≡ 8 = c.loop-k.invariant.0 in
    let low_long : length c.loop-k.low ≡ 8 = c.loop-k.invariant.1 in
    let high : List ℤ = map (to_z w16) (map (of_z w16) c.parts.result.0) in
    let low : List ℤ = map (to_z w16) (map (of_z w16) c.parts.result.1) in
    let given : AreParts (map (to_z w32) (map (of_z w32) (sum_at c.args.s k))) c.parts.result.0 c.parts.result.1 =
    record {
      whole = c.parts.ensures.whole;
      high_size = c.parts.ensures.high_size;
      low_size = c.parts.ensures.low_size;
    } in
    let own : AreParts (sum_at c.args.s k) high low =
    subst (λ (v : List ℤ). AreParts v high low) (passed 46546944 (lit≤ tt) (c.requires k below))
    (subst (λ (v : List ℤ). AreParts (map (to_z w32) (map (of_z w32) (sum_at c.args.s k))) v low)
    (sym (passed16 8191 (lit≤ tt) c.parts.ensures.high_size))
    (subst (λ (v : List ℤ). AreParts (map (to_z w32) (map (of_z w32) (sum_at c.args.s k))) c.parts.result.0 v)
    (sym (passed16 8191 (lit≤ tt) c.parts.ensures.low_size)) given)) in (
      length-set c.loop-k.high k (row_with high) ∙ high_long,
      length-set c.loop-k.low k (row_with low) ∙ low_long,
      one_row_of_each (λ j v w. AreParts (sum_at c.args.s j) v w) c.loop-k.high c.loop-k.low k high low
          (omega (arith, below, high_long)) (omega (arith, below, low_long)) c.loop-k.invariant.2 own,
    )

pub returns-clause-whole : goal.returns-clause-whole
returns-clause-whole c k i hk hi = (c.loop-k.invariant.2 k (omega (arith, hk, c.loop-k-test.false))).whole i hi

pub returns-clause-high_size : goal.returns-clause-high_size
returns-clause-high_size c k hk = (c.loop-k.invariant.2 k (omega (arith, hk, c.loop-k-test.false))).high_size

pub returns-clause-low_size : goal.returns-clause-low_size
returns-clause-low_size c k hk = (c.loop-k.invariant.2 k (omega (arith, hk, c.loop-k-test.false))).low_size
