use Rattle.std.proofs.Common.{◌-◌, ◌^◌, ◌∙◌, lit≤, arith}
use Rattle.idct8.proofs.Results.{sample_within}
use Rattle.idct8.proofs.Rotations.{sum_of, difference_of}
use Rattle.idct8.proofs.Squares.{sample_row}
use Rattle.idct8.proofs.Vectors.{passed_lane16, passed_within16}
use Rattle.idct8.proofs.Wraps.{within_more}
use Rattle.idct8.proofs.small.folded_row.Goals as goal

pub row-requires-clause-block : goal.row-requires-clause-block
row-requires-clause-block c k d h = within_more 255 (2 ^ 11) _ (lit≤ tt) (sample_within (c.requires.block k d h))

pub row-requires-2-clause-block : goal.row-requires-2-clause-block
row-requires-2-clause-block c k d h = within_more 255 (2 ^ 11) _ (lit≤ tt) (sample_within (c.requires.block k d h))

pub small_pair-requires-clause-a : goal.small_pair-requires-clause-a
small_pair-requires-clause-a c =
    passed_within16 255 4095 (lit≤ tt) (lit≤ tt) (sample_row c.args.block.now c.row.result c.args.k (omega arith)
    (omega (arith, c.requires.k)) c.requires.block c.row.ensures.size.long c.row.ensures.numbers)

pub small_pair-requires-clause-b : goal.small_pair-requires-clause-b
small_pair-requires-clause-b c =
    passed_within16 255 4095 (lit≤ tt) (lit≤ tt) (sample_row c.args.block.now c.row-2.result (7 - c.args.k)
    (omega arith) (omega (arith, c.requires.k)) c.requires.block c.row-2.ensures.size.long c.row-2.ensures.numbers)

pub returns-clause-sum : goal.returns-clause-sum
returns-clause-sum c i hi =
    sum_of (c.small_pair.ensures.sum i hi)
    (passed_lane16 8191 i (lit≤ tt) c.row.ensures.size ∙ c.row.ensures.numbers i hi)
    (passed_lane16 8191 i (lit≤ tt) c.row-2.ensures.size ∙ c.row-2.ensures.numbers i hi)

pub returns-clause-difference : goal.returns-clause-difference
returns-clause-difference c i hi =
    difference_of (c.small_pair.ensures.difference i hi)
    (passed_lane16 8191 i (lit≤ tt) c.row.ensures.size ∙ c.row.ensures.numbers i hi)
    (passed_lane16 8191 i (lit≤ tt) c.row-2.ensures.size ∙ c.row-2.ensures.numbers i hi)
