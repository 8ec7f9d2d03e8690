use Rattle.std.proofs.Common.{◌+◌, ◌*◌, ◌^◌, ◌∙◌, lit≤, arith, pos}
use Rattle.idct8.specs.Transform.{entry}
use Rattle.idct8.specs.Vectors.{row_at}
use Rattle.idct8.proofs.Factors.{within_pass, within_same}
use Rattle.idct8.proofs.Steps.{row_terms}
use Rattle.idct8.proofs.two_passes.row_pass.Goals as goal

pub returns-clause-sums : goal.returns-clause-sums
returns-clause-sums c k j hk hj =
    c.turned_pass.ensures.sums k j hk hj ∙ row_terms c.args.direction (row_at c.rows.result j) c.args.block.now j k
    (λ i hi. c.rows.ensures.numbers j i hj hi)

pub returns-clause-size : goal.returns-clause-size
returns-clause-size c k hk = record {
  long = (c.turned_pass.ensures.size k hk).long;
  within = λ j hj.
      within_same (2841 * 2 ^ 11 * 8) 46546944 (lit≤ tt) (returns-clause-sums c k j hk hj)
      (within_pass c.args.direction (2 ^ 11) k (λ i. entry c.args.block.now j i) hk
      (λ i hi. c.requires (8 * j + i) (pos 0) (omega arith)));
}
