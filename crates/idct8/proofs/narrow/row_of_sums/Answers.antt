use Rattle.std.proofs.Common.{◌^◌, ◌∙◌, lit≤, lit<, map, w32, to_z, of_z}
use lib.Lanes.{zip2}
use Rattle.idct8.proofs.Halves.{halves_are, row_is, spread_within}
use Rattle.idct8.proofs.Vectors.{numbers, numbers_small, own_words, passed_lane, passed_within, plus, sum_words}
use Rattle.idct8.proofs.narrow.row_of_sums.Goals as goal

pub dots-requires-clause-a : goal.dots-requires-clause-a
dots-requires-clause-a c = spread_within c.args.r 0 2 1 3 c.requires (lit< tt) (lit< tt) (lit< tt) (lit< tt)

pub dots-requires-2-clause-a : goal.dots-requires-2-clause-a
dots-requires-2-clause-a c = spread_within c.args.r 4 6 5 7 c.requires (lit< tt) (lit< tt) (lit< tt) (lit< tt)

pub unfolded-requires : goal.unfolded-requires
unfolded-requires c =
    numbers_small (2 ^ 27) (lit≤ tt) (lit≤ tt)
    (sum_words (lit≤ tt) (own_words w32 (2 ^ 26) c.dots.result c.dots.ensures.size)
    (own_words w32 (2 ^ 26) c.dots-2.result c.dots-2.ensures.size))

pub returns-clause-sums : goal.returns-clause-sums
returns-clause-sums c k hk =
    let halves = map (to_z w32) (zip2 plus (map (of_z w32) c.dots.result) (map (of_z w32) c.dots-2.result)) in
    passed_lane (2 ^ 28) k (lit≤ tt) c.unfolded.ensures.size
    ∙ row_is c.args.r halves c.unfolded.result
    (halves_are c.args.r c.dots.result c.dots-2.result halves c.requires c.dots.ensures.sums c.dots-2.ensures.sums
    (numbers (lit≤ tt) (sum_words (lit≤ tt) (own_words w32 (2 ^ 26) c.dots.result c.dots.ensures.size)
    (own_words w32 (2 ^ 26) c.dots-2.result c.dots-2.ensures.size))))
    c.unfolded.ensures.sums c.unfolded.ensures.differences k hk

pub returns-clause-size : goal.returns-clause-size
returns-clause-size c = passed_within (2 ^ 28) (2 ^ 28) (lit≤ tt) (lit≤ tt) c.unfolded.ensures.size
