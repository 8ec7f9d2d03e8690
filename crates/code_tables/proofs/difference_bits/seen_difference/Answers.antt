use Rattle.code_tables.proofs.SeenDifferences.{magnitude_in}
use Rattle.code_tables.proofs.difference_bits.seen_difference.Goals as goal

pub seen_magnitude-requires-clause-word : goal.seen_magnitude-requires-clause-word
seen_magnitude-requires-clause-word c = magnitude_in c.args.seen c.in_ok-place.place c.len_at.result
    c.in_ok-place.ensures.below c.in_ok-place.ensures.begins c.len_at.ensures
