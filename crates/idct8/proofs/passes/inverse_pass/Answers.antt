-- Halves that mirrored columns share stay within their bounds, and give the columns of the basis.
use Rattle.std.proofs.Common.{◌≡◌, ◌^◌, ◌∙◌, lit≤, lit<, pos}
use Rattle.idct8.specs.declared.passes.Direction.TheVariants.{Inverse}
use Rattle.idct8.specs.Vectors.{lane, EightWithin, list_at, row_at}
use Rattle.idct8.specs.Passes.{pass_at}
use Rattle.idct8.proofs.Eights.{each_sum}
use Rattle.idct8.proofs.Vectors.{passed_within, passed_within16, passed_lane, passed_lane16}
use Rattle.idct8.proofs.Rotations.{plain_sum, plain_difference, sum_of, difference_of, sum_then_sum, sum_then_less, less_then_sum, less_then_less, inverse_sum_0, inverse_sum_1, inverse_sum_2, inverse_sum_3, inverse_sum_4, inverse_sum_5, inverse_sum_6, inverse_sum_7}
use Rattle.idct8.proofs.passes.inverse_pass.Goals as goal

pub rotated-requires-clause-a : goal.rotated-requires-clause-a
rotated-requires-clause-a c = passed_within16 8191 32767 (lit≤ tt) (lit≤ tt) (c.requires 0 (lit< tt))

pub rotated-requires-clause-b : goal.rotated-requires-clause-b
rotated-requires-clause-b c = passed_within16 8191 32767 (lit≤ tt) (lit≤ tt) (c.requires 4 (lit< tt))

pub rotated-requires-2-clause-a : goal.rotated-requires-2-clause-a
rotated-requires-2-clause-a c = passed_within16 8191 32767 (lit≤ tt) (lit≤ tt) (c.requires 2 (lit< tt))

pub rotated-requires-2-clause-b : goal.rotated-requires-2-clause-b
rotated-requires-2-clause-b c = passed_within16 8191 32767 (lit≤ tt) (lit≤ tt) (c.requires 6 (lit< tt))

pub rotated-requires-3-clause-a : goal.rotated-requires-3-clause-a
rotated-requires-3-clause-a c = passed_within16 8191 32767 (lit≤ tt) (lit≤ tt) (c.requires 1 (lit< tt))

pub rotated-requires-3-clause-b : goal.rotated-requires-3-clause-b
rotated-requires-3-clause-b c = passed_within16 8191 32767 (lit≤ tt) (lit≤ tt) (c.requires 7 (lit< tt))

pub rotated-requires-4-clause-a : goal.rotated-requires-4-clause-a
rotated-requires-4-clause-a c = passed_within16 8191 32767 (lit≤ tt) (lit≤ tt) (c.requires 5 (lit< tt))

pub rotated-requires-4-clause-b : goal.rotated-requires-4-clause-b
rotated-requires-4-clause-b c = passed_within16 8191 32767 (lit≤ tt) (lit≤ tt) (c.requires 3 (lit< tt))

pub rotated-requires-5-clause-a : goal.rotated-requires-5-clause-a
rotated-requires-5-clause-a c = passed_within16 8191 32767 (lit≤ tt) (lit≤ tt) (c.requires 1 (lit< tt))

pub rotated-requires-5-clause-b : goal.rotated-requires-5-clause-b
rotated-requires-5-clause-b c = passed_within16 8191 32767 (lit≤ tt) (lit≤ tt) (c.requires 7 (lit< tt))

pub rotated-requires-6-clause-a : goal.rotated-requires-6-clause-a
rotated-requires-6-clause-a c = passed_within16 8191 32767 (lit≤ tt) (lit≤ tt) (c.requires 3 (lit< tt))

pub rotated-requires-6-clause-b : goal.rotated-requires-6-clause-b
rotated-requires-6-clause-b c = passed_within16 8191 32767 (lit≤ tt) (lit≤ tt) (c.requires 5 (lit< tt))

pub halves-requires-clause-a : goal.halves-requires-clause-a
halves-requires-clause-a c = passed_within (2 ^ 28) (2 ^ 28) (lit≤ tt) (lit≤ tt) c.rotated.ensures.first_size

pub halves-requires-clause-b : goal.halves-requires-clause-b
halves-requires-clause-b c = passed_within (2 ^ 28) (2 ^ 28) (lit≤ tt) (lit≤ tt) c.rotated-2.ensures.first_size

pub halves-requires-2-clause-a : goal.halves-requires-2-clause-a
halves-requires-2-clause-a c = passed_within (2 ^ 28) (2 ^ 28) (lit≤ tt) (lit≤ tt) c.rotated.ensures.second_size

pub halves-requires-2-clause-b : goal.halves-requires-2-clause-b
halves-requires-2-clause-b c = passed_within (2 ^ 28) (2 ^ 28) (lit≤ tt) (lit≤ tt) c.rotated-2.ensures.second_size

pub mirrored-requires-clause-even : goal.mirrored-requires-clause-even
mirrored-requires-clause-even c = passed_within (2 ^ 29) (2 ^ 29) (lit≤ tt) (lit≤ tt) c.halves.ensures.sum_size

pub mirrored-requires-clause-a : goal.mirrored-requires-clause-a
mirrored-requires-clause-a c = passed_within (2 ^ 28) (2 ^ 28) (lit≤ tt) (lit≤ tt) c.rotated-3.ensures.first_size

pub mirrored-requires-clause-b : goal.mirrored-requires-clause-b
mirrored-requires-clause-b c = passed_within (2 ^ 28) (2 ^ 28) (lit≤ tt) (lit≤ tt) c.rotated-4.ensures.first_size

pub mirrored_less-requires-clause-even : goal.mirrored_less-requires-clause-even
mirrored_less-requires-clause-even c = passed_within (2 ^ 29) (2 ^ 29) (lit≤ tt) (lit≤ tt) c.halves-2.ensures.sum_size

pub mirrored_less-requires-clause-a : goal.mirrored_less-requires-clause-a
mirrored_less-requires-clause-a c = passed_within (2 ^ 28) (2 ^ 28) (lit≤ tt) (lit≤ tt) c.rotated-5.ensures.second_size

pub mirrored_less-requires-clause-b : goal.mirrored_less-requires-clause-b
mirrored_less-requires-clause-b c = passed_within (2 ^ 28) (2 ^ 28) (lit≤ tt) (lit≤ tt) c.rotated-6.ensures.first_size

pub mirrored_less-requires-2-clause-even : goal.mirrored_less-requires-2-clause-even
mirrored_less-requires-2-clause-even c = passed_within (2 ^ 29) (2 ^ 29) (lit≤ tt)
    (lit≤ tt) c.halves-2.ensures.difference_size

pub mirrored_less-requires-2-clause-a : goal.mirrored_less-requires-2-clause-a
mirrored_less-requires-2-clause-a c = passed_within (2 ^ 28) (2 ^ 28) (lit≤ tt) (lit≤ tt) c.rotated-5.ensures.first_size

pub mirrored_less-requires-2-clause-b : goal.mirrored_less-requires-2-clause-b
mirrored_less-requires-2-clause-b c = passed_within (2 ^ 28) (2 ^ 28) (lit≤ tt)
    (lit≤ tt) c.rotated-6.ensures.second_size

pub mirrored-requires-2-clause-even : goal.mirrored-requires-2-clause-even
mirrored-requires-2-clause-even c = passed_within (2 ^ 29) (2 ^ 29) (lit≤ tt) (lit≤ tt) c.halves.ensures.difference_size

pub mirrored-requires-2-clause-a : goal.mirrored-requires-2-clause-a
mirrored-requires-2-clause-a c = passed_within (2 ^ 28) (2 ^ 28) (lit≤ tt) (lit≤ tt) c.rotated-3.ensures.second_size

pub mirrored-requires-2-clause-b : goal.mirrored-requires-2-clause-b
mirrored-requires-2-clause-b c = passed_within (2 ^ 28) (2 ^ 28) (lit≤ tt) (lit≤ tt) c.rotated-4.ensures.second_size

pub returns-clause-sums : goal.returns-clause-sums
returns-clause-sums c x i hx hi =
    let r0 = passed_lane16 8191 i (lit≤ tt) (c.requires 0 (lit< tt)) in
    let r1 = passed_lane16 8191 i (lit≤ tt) (c.requires 1 (lit< tt)) in
    let r2 = passed_lane16 8191 i (lit≤ tt) (c.requires 2 (lit< tt)) in
    let r3 = passed_lane16 8191 i (lit≤ tt) (c.requires 3 (lit< tt)) in
    let r4 = passed_lane16 8191 i (lit≤ tt) (c.requires 4 (lit< tt)) in
    let r5 = passed_lane16 8191 i (lit≤ tt) (c.requires 5 (lit< tt)) in
    let r6 = passed_lane16 8191 i (lit≤ tt) (c.requires 6 (lit< tt)) in
    let r7 = passed_lane16 8191 i (lit≤ tt) (c.requires 7 (lit< tt)) in
    let outer0 = plain_sum (pos 2048) (pos 2048) (c.rotated.ensures.first i hi) r0 r4 in
    let outer1 = plain_difference (pos 2048) (pos 2048) (c.rotated.ensures.second i hi) r0 r4 in
    let inner0 = plain_sum (pos 2676) (pos 1108) (c.rotated-2.ensures.first i hi) r2 r6 in
    let inner1 = plain_difference (pos 1108) (pos 2676) (c.rotated-2.ensures.second i hi) r2 r6 in
    let a030 = plain_sum (pos 2841) (pos 565) (c.rotated-3.ensures.first i hi) r1 r7 in
    let a031 = plain_difference (pos 565) (pos 2841) (c.rotated-3.ensures.second i hi) r1 r7 in
    let b030 = plain_sum (pos 1609) (pos 2408) (c.rotated-4.ensures.first i hi) r5 r3 in
    let b031 = plain_difference (pos 2408) (pos 1609) (c.rotated-4.ensures.second i hi) r5 r3 in
    let a210 = plain_sum (pos 1609) (pos 2408) (c.rotated-5.ensures.first i hi) r1 r7 in
    let a211 = plain_difference (pos 2408) (pos 1609) (c.rotated-5.ensures.second i hi) r1 r7 in
    let b120 = plain_sum (pos 565) (pos 2841) (c.rotated-6.ensures.first i hi) r3 r5 in
    let b121 = plain_difference (pos 2841) (pos 565) (c.rotated-6.ensures.second i hi) r3 r5 in
    let sum1 = sum_of (c.halves.ensures.sum i hi) (passed_lane (2 ^ 28) i (lit≤ tt) c.rotated.ensures.first_size)
    (passed_lane (2 ^ 28) i (lit≤ tt) c.rotated-2.ensures.first_size) in
    let difference1 = difference_of (c.halves.ensures.difference i hi)
    (passed_lane (2 ^ 28) i (lit≤ tt) c.rotated.ensures.first_size)
    (passed_lane (2 ^ 28) i (lit≤ tt) c.rotated-2.ensures.first_size) in
    let sum2 = sum_of (c.halves-2.ensures.sum i hi) (passed_lane (2 ^ 28) i (lit≤ tt) c.rotated.ensures.second_size)
    (passed_lane (2 ^ 28) i (lit≤ tt) c.rotated-2.ensures.second_size) in
    let difference2 = difference_of (c.halves-2.ensures.difference i hi)
    (passed_lane (2 ^ 28) i (lit≤ tt) c.rotated.ensures.second_size)
    (passed_lane (2 ^ 28) i (lit≤ tt) c.rotated-2.ensures.second_size) in
    each_sum (λ k v. lane v i ≡ pass_at Inverse (list_at c.args.r i) k)
    (passed_lane (2 ^ 30) i (lit≤ tt) c.mirrored.ensures.sum_size
    ∙ inverse_sum_0 (lane (row_at c.args.r 0) i) (lane (row_at c.args.r 1) i) (lane (row_at c.args.r 2) i)
    (lane (row_at c.args.r 3) i) (lane (row_at c.args.r 4) i) (lane (row_at c.args.r 5) i)
    (lane (row_at c.args.r 6) i) (lane (row_at c.args.r 7) i) (sum_then_sum (c.mirrored.ensures.sum i hi)
    (passed_lane (2 ^ 29) i (lit≤ tt) c.halves.ensures.sum_size)
    (passed_lane (2 ^ 28) i (lit≤ tt) c.rotated-3.ensures.first_size)
    (passed_lane (2 ^ 28) i (lit≤ tt) c.rotated-4.ensures.first_size)) sum1 outer0 inner0 a030 b030)
    (passed_lane (2 ^ 30) i (lit≤ tt) c.mirrored_less.ensures.sum_size
    ∙ inverse_sum_1 (lane (row_at c.args.r 0) i) (lane (row_at c.args.r 1) i) (lane (row_at c.args.r 2) i)
    (lane (row_at c.args.r 3) i) (lane (row_at c.args.r 4) i) (lane (row_at c.args.r 5) i)
    (lane (row_at c.args.r 6) i) (lane (row_at c.args.r 7) i) (sum_then_less (c.mirrored_less.ensures.sum i hi)
    (passed_lane (2 ^ 29) i (lit≤ tt) c.halves-2.ensures.sum_size)
    (passed_lane (2 ^ 28) i (lit≤ tt) c.rotated-5.ensures.second_size)
    (passed_lane (2 ^ 28) i (lit≤ tt) c.rotated-6.ensures.first_size)) sum2 outer1 inner1 a211 b120)
    (passed_lane (2 ^ 30) i (lit≤ tt) c.mirrored_less-2.ensures.sum_size
    ∙ inverse_sum_2 (lane (row_at c.args.r 0) i) (lane (row_at c.args.r 1) i) (lane (row_at c.args.r 2) i)
    (lane (row_at c.args.r 3) i) (lane (row_at c.args.r 4) i) (lane (row_at c.args.r 5) i)
    (lane (row_at c.args.r 6) i) (lane (row_at c.args.r 7) i) (sum_then_less (c.mirrored_less-2.ensures.sum i hi)
    (passed_lane (2 ^ 29) i (lit≤ tt) c.halves-2.ensures.difference_size)
    (passed_lane (2 ^ 28) i (lit≤ tt) c.rotated-5.ensures.first_size)
    (passed_lane (2 ^ 28) i (lit≤ tt) c.rotated-6.ensures.second_size)) difference2 outer1 inner1 a210 b121)
    (passed_lane (2 ^ 30) i (lit≤ tt) c.mirrored-2.ensures.sum_size
    ∙ inverse_sum_3 (lane (row_at c.args.r 0) i) (lane (row_at c.args.r 1) i) (lane (row_at c.args.r 2) i)
    (lane (row_at c.args.r 3) i) (lane (row_at c.args.r 4) i) (lane (row_at c.args.r 5) i)
    (lane (row_at c.args.r 6) i) (lane (row_at c.args.r 7) i) (sum_then_sum (c.mirrored-2.ensures.sum i hi)
    (passed_lane (2 ^ 29) i (lit≤ tt) c.halves.ensures.difference_size)
    (passed_lane (2 ^ 28) i (lit≤ tt) c.rotated-3.ensures.second_size)
    (passed_lane (2 ^ 28) i (lit≤ tt) c.rotated-4.ensures.second_size)) difference1 outer0 inner0 a031 b031)
    (passed_lane (2 ^ 30) i (lit≤ tt) c.mirrored-2.ensures.difference_size
    ∙ inverse_sum_4 (lane (row_at c.args.r 0) i) (lane (row_at c.args.r 1) i) (lane (row_at c.args.r 2) i)
    (lane (row_at c.args.r 3) i) (lane (row_at c.args.r 4) i) (lane (row_at c.args.r 5) i)
    (lane (row_at c.args.r 6) i) (lane (row_at c.args.r 7) i) (less_then_less (c.mirrored-2.ensures.difference i hi)
    (passed_lane (2 ^ 29) i (lit≤ tt) c.halves.ensures.difference_size)
    (passed_lane (2 ^ 28) i (lit≤ tt) c.rotated-3.ensures.second_size)
    (passed_lane (2 ^ 28) i (lit≤ tt) c.rotated-4.ensures.second_size)) difference1 outer0 inner0 a031 b031)
    (passed_lane (2 ^ 30) i (lit≤ tt) c.mirrored_less-2.ensures.difference_size
    ∙ inverse_sum_5 (lane (row_at c.args.r 0) i) (lane (row_at c.args.r 1) i) (lane (row_at c.args.r 2) i)
    (lane (row_at c.args.r 3) i) (lane (row_at c.args.r 4) i) (lane (row_at c.args.r 5) i)
    (lane (row_at c.args.r 6) i) (lane (row_at c.args.r 7) i)
    (less_then_sum (c.mirrored_less-2.ensures.difference i hi)
    (passed_lane (2 ^ 29) i (lit≤ tt) c.halves-2.ensures.difference_size)
    (passed_lane (2 ^ 28) i (lit≤ tt) c.rotated-5.ensures.first_size)
    (passed_lane (2 ^ 28) i (lit≤ tt) c.rotated-6.ensures.second_size)) difference2 outer1 inner1 a210 b121)
    (passed_lane (2 ^ 30) i (lit≤ tt) c.mirrored_less.ensures.difference_size
    ∙ inverse_sum_6 (lane (row_at c.args.r 0) i) (lane (row_at c.args.r 1) i) (lane (row_at c.args.r 2) i)
    (lane (row_at c.args.r 3) i) (lane (row_at c.args.r 4) i) (lane (row_at c.args.r 5) i)
    (lane (row_at c.args.r 6) i) (lane (row_at c.args.r 7) i)
    (less_then_sum (c.mirrored_less.ensures.difference i hi)
    (passed_lane (2 ^ 29) i (lit≤ tt) c.halves-2.ensures.sum_size)
    (passed_lane (2 ^ 28) i (lit≤ tt) c.rotated-5.ensures.second_size)
    (passed_lane (2 ^ 28) i (lit≤ tt) c.rotated-6.ensures.first_size)) sum2 outer1 inner1 a211 b120)
    (passed_lane (2 ^ 30) i (lit≤ tt) c.mirrored.ensures.difference_size
    ∙ inverse_sum_7 (lane (row_at c.args.r 0) i) (lane (row_at c.args.r 1) i) (lane (row_at c.args.r 2) i)
    (lane (row_at c.args.r 3) i) (lane (row_at c.args.r 4) i) (lane (row_at c.args.r 5) i)
    (lane (row_at c.args.r 6) i) (lane (row_at c.args.r 7) i) (less_then_less (c.mirrored.ensures.difference i hi)
    (passed_lane (2 ^ 29) i (lit≤ tt) c.halves.ensures.sum_size)
    (passed_lane (2 ^ 28) i (lit≤ tt) c.rotated-3.ensures.first_size)
    (passed_lane (2 ^ 28) i (lit≤ tt) c.rotated-4.ensures.first_size)) sum1 outer0 inner0 a030 b030)
    x hx

pub returns-clause-size : goal.returns-clause-size
returns-clause-size c =
    each_sum (λ _ v. EightWithin (2 ^ 30) v)
    (passed_within (2 ^ 30) (2 ^ 30) (lit≤ tt) (lit≤ tt) c.mirrored.ensures.sum_size)
    (passed_within (2 ^ 30) (2 ^ 30) (lit≤ tt) (lit≤ tt) c.mirrored_less.ensures.sum_size)
    (passed_within (2 ^ 30) (2 ^ 30) (lit≤ tt) (lit≤ tt) c.mirrored_less-2.ensures.sum_size)
    (passed_within (2 ^ 30) (2 ^ 30) (lit≤ tt) (lit≤ tt) c.mirrored-2.ensures.sum_size)
    (passed_within (2 ^ 30) (2 ^ 30) (lit≤ tt) (lit≤ tt) c.mirrored-2.ensures.difference_size)
    (passed_within (2 ^ 30) (2 ^ 30) (lit≤ tt) (lit≤ tt) c.mirrored_less-2.ensures.difference_size)
    (passed_within (2 ^ 30) (2 ^ 30) (lit≤ tt) (lit≤ tt) c.mirrored_less.ensures.difference_size)
    (passed_within (2 ^ 30) (2 ^ 30) (lit≤ tt) (lit≤ tt) c.mirrored.ensures.difference_size)
