-- No partial sum overflows, and their total is the sum of the absolute differences.
use Rattle.std.proofs.Common.{◌∙◌, arith, w32, sym}
use Rattle.std.proofs.lemmas.Simd.{adds_fit, sum_fits, fold-sum, sum-zip2}
use Rattle.sad_kernel.proofs.Sums.{sum_small, sum_of, sums, sum_of_four}
use Rattle.sad_kernel.proofs.sad_of_four.Goals as goal

pub overflow_add-upper : goal.overflow_add-upper
overflow_add-upper c =
    adds_fit w32 c.lanes.result c.lanes-2.result
    (omega (
      arith,
      sum_small c.lanes.result c.lanes.ensures.length c.lanes.ensures.most,
      sum_small c.lanes-2.result c.lanes-2.ensures.length c.lanes-2.ensures.most,
    ))

pub overflow_add-lower : goal.overflow_add-lower
overflow_add-lower c =
    adds_fit w32 c.lanes-3.result c.lanes-4.result
    (omega (
      arith,
      sum_small c.lanes-3.result c.lanes-3.ensures.length c.lanes-3.ensures.most,
      sum_small c.lanes-4.result c.lanes-4.ensures.length c.lanes-4.ensures.most,
    ))

pub overflow_add-result : goal.overflow_add-result
overflow_add-result c =
    adds_fit w32 (sums c.lanes.result c.lanes-2.result) (sums c.lanes-3.result c.lanes-4.result)
    (omega (
      arith,
      sum-zip2 c.lanes.result c.lanes-2.result (c.lanes.ensures.length ∙ sym c.lanes-2.ensures.length),
      sum-zip2 c.lanes-3.result c.lanes-4.result (c.lanes-3.ensures.length ∙ sym c.lanes-4.ensures.length),
      sum_small c.lanes.result c.lanes.ensures.length c.lanes.ensures.most,
      sum_small c.lanes-2.result c.lanes-2.ensures.length c.lanes-2.ensures.most,
      sum_small c.lanes-3.result c.lanes-3.ensures.length c.lanes-3.ensures.most,
      sum_small c.lanes-4.result c.lanes-4.ensures.length c.lanes-4.ensures.most,
    ))

pub overflow_add-result-2 : goal.overflow_add-result-2
overflow_add-result-2 c =
    sum_fits w32 0 (sums (sums c.lanes.result c.lanes-2.result) (sums c.lanes-3.result c.lanes-4.result))
    (omega (
      arith,
      sum_of_four c.lanes.result c.lanes-2.result c.lanes-3.result c.lanes-4.result c.lanes.ensures.length
          c.lanes-2.ensures.length c.lanes-3.ensures.length c.lanes-4.ensures.length,
      sum_small c.lanes.result c.lanes.ensures.length c.lanes.ensures.most,
      sum_small c.lanes-2.result c.lanes-2.ensures.length c.lanes-2.ensures.most,
      sum_small c.lanes-3.result c.lanes-3.ensures.length c.lanes-3.ensures.most,
      sum_small c.lanes-4.result c.lanes-4.ensures.length c.lanes-4.ensures.most,
    ))

pub returns-clause-most : goal.returns-clause-most
returns-clause-most c =
    let all = sums (sums c.lanes.result c.lanes-2.result) (sums c.lanes-3.result c.lanes-4.result) in
    omega (
      arith,
      fold-sum 0 all,
      sum_of_four c.lanes.result c.lanes-2.result c.lanes-3.result c.lanes-4.result c.lanes.ensures.length
          c.lanes-2.ensures.length c.lanes-3.ensures.length c.lanes-4.ensures.length,
      sum_small c.lanes.result c.lanes.ensures.length c.lanes.ensures.most,
      sum_small c.lanes-2.result c.lanes-2.ensures.length c.lanes-2.ensures.most,
      sum_small c.lanes-3.result c.lanes-3.ensures.length c.lanes-3.ensures.most,
      sum_small c.lanes-4.result c.lanes-4.ensures.length c.lanes-4.ensures.most,
    )

pub returns-clause-value : goal.returns-clause-value
returns-clause-value c =
    let all = sums (sums c.lanes.result c.lanes-2.result) (sums c.lanes-3.result c.lanes-4.result) in
    fold-sum 0 all
    ∙ omega (
      arith,
      sum_of_four c.lanes.result c.lanes-2.result c.lanes-3.result c.lanes-4.result c.lanes.ensures.length
          c.lanes-2.ensures.length c.lanes-3.ensures.length c.lanes-4.ensures.length,
      sum_of c.lanes.result c.args.first.0.now c.args.first.1.now c.lanes.ensures.value c.requires.first.0
          c.requires.first.1,
      sum_of c.lanes-2.result c.args.second.0.now c.args.second.1.now c.lanes-2.ensures.value c.requires.second.0
          c.requires.second.1,
      sum_of c.lanes-3.result c.args.third.0.now c.args.third.1.now c.lanes-3.ensures.value c.requires.third.0
          c.requires.third.1,
      sum_of c.lanes-4.result c.args.fourth.0.now c.args.fourth.1.now c.lanes-4.ensures.value c.requires.fourth.0
          c.requires.fourth.1,
    )
