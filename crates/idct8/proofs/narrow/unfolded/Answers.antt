use Rattle.std.proofs.Common.{◌^◌, lit≤, map, to_z, w32}
use Rattle.idct8.proofs.Halves.{unfolded_of, unfolded_words, unfolded_sums, unfolded_differences}
use Rattle.idct8.proofs.Vectors.{numbers, numbers_small}
use Rattle.idct8.proofs.narrow.unfolded.Goals as goal

pub returns-clause-sums : goal.returns-clause-sums
returns-clause-sums c = unfolded_sums c.args.halves (map (to_z w32) (unfolded_of c.args.halves))
    (numbers (lit≤ tt) (unfolded_words c.args.halves c.requires))

pub returns-clause-differences : goal.returns-clause-differences
returns-clause-differences c = unfolded_differences c.args.halves (map (to_z w32) (unfolded_of c.args.halves))
    (numbers (lit≤ tt) (unfolded_words c.args.halves c.requires))

pub returns-clause-size : goal.returns-clause-size
returns-clause-size c = numbers_small (2 ^ 28) (lit≤ tt) (lit≤ tt) (unfolded_words c.args.halves c.requires)
