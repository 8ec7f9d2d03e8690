use Rattle.std.proofs.Common.{◌≡◌, ◌∙◌, ℕ, ◌<◌, ℤ, List, map, arith, lit≤, length, length-set, w16, to_z, of_z}
use Rattle.idct8.specs.Transform.{entry}
use Rattle.idct8.specs.Vectors.{lane, EightWithin}
use Rattle.idct8.proofs.Eights.{one_row, row_with}
use Rattle.idct8.proofs.Vectors.{passed_lane16, passed_within16}
use Rattle.idct8.proofs.two_passes.rows.Goals as goal

pub loop-j-preserved : goal.loop-j-preserved
loop-j-preserved c =
    let j : ℕ = c.loop-j.j in
    let below : j < 8 = c.loop-j-test.true in
    let long : length c.loop-j.rows ≡ 8 = c.loop-j.invariant.0 in
    let read : List ℤ = map (to_z w16) (map (of_z w16) c.row.result) in (
      length-set c.loop-j.rows j (row_with read) ∙ long,
      one_row (λ j v. EightWithin 8191 v × ((i : ℕ) → i < 8 → lane v i ≡ entry c.args.block.now j i)) c.loop-j.rows j
          read (omega (arith, below, long)) c.loop-j.invariant.1 (
            passed_within16 8191 8191 (lit≤ tt) (lit≤ tt) c.row.ensures.size,
            λ i hi. passed_lane16 8191 i (lit≤ tt) c.row.ensures.size ∙ c.row.ensures.numbers i hi,
          ),
    )

pub returns-clause-numbers : goal.returns-clause-numbers
returns-clause-numbers c j i hj hi = (c.loop-j.invariant.1 j (omega (arith, hj, c.loop-j-test.false))).1 i hi

pub returns-clause-size : goal.returns-clause-size
returns-clause-size c j hj = (c.loop-j.invariant.1 j (omega (arith, hj, c.loop-j-test.false))).0
