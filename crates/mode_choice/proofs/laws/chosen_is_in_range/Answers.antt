use Rattle.std.proofs.Common.{arith, map}
use Rattle.std.specs.List.{filter}
use Rattle.std.proofs.lemmas.Int.{ints}
use Rattle.h263_types.specs.Blocks.{IsVector}
use Rattle.motion_search.specs.Best.{best_near, best_whole}
use Rattle.motion_search.specs.Cost as luma
use Rattle.motion_search.specs.Order.{least}
use Rattle.motion_search.specs.Vectors.{in_reach, neighbours, whole_vectors, zero_vector}
use Rattle.mode_choice.proofs.Choices.{chosen_in_range, chosen_reaches, one_of_candidates, reaching_vectors}
use Rattle.mode_choice.proofs.Whole.{chosen_whole}
use Rattle.mode_choice.proofs.laws.chosen_is_in_range.Goals as goal

zero_in_range : IsVector zero_vector
zero_in_range = record {
  x = record { low = omega (arith, ints); high = omega (arith, ints) };
  y = record { low = omega (arith, ints); high = omega (arith, ints) };
}

pub returns-clause-in_range : goal.returns-clause-in_range
unfolding best_near best_whole
returns-clause-in_range c = chosen_in_range (λ frame reference mb radius r.
    let candidate = luma.candidate_of (luma.samples_of frame mb) reference mb r in
    let within = in_reach reference.format mb in
    let first = candidate zero_vector in
    let whole = filter within (whole_vectors radius) in
    let best = least first (map candidate whole) in
    let near = filter within (neighbours best.vector) in
    one_of_candidates candidate near best (least best (map candidate near))
    (c.none_before_the_least.ensures.one_of_them best (map candidate near)) (λ c. IsVector c.vector)
    (one_of_candidates candidate whole first best (c.none_before_the_least.ensures.one_of_them first
    (map candidate whole)) (λ c. IsVector c.vector) zero_in_range
    (reaching_vectors c.reach_is_tested.ensures reference.format mb (whole_vectors radius)))
    (reaching_vectors c.reach_is_tested.ensures reference.format mb (neighbours best.vector)))

pub returns-clause-reach : goal.returns-clause-reach
returns-clause-reach c = chosen_reaches c.best_is_a_candidate.ensures

pub returns-clause-whole : goal.returns-clause-whole
returns-clause-whole c = chosen_whole
