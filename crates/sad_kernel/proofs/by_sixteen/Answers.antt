use Rattle.std.proofs.Common.{arith}
use Rattle.sad_kernel.proofs.Sums.{whole_small, differences-drop, differences-rest}
use Rattle.sad_kernel.proofs.by_sixteen.Goals as goal

pub overflow_add-total : goal.overflow_add-total
overflow_add-total c =
    let most = whole_small c.args.a.now c.args.b.now c.requires.same_length c.requires.at_most c.type_inv.a c.type_inv.b
    in
    let next = differences-drop c.args.a.now c.args.b.now c.loop-at.at 16 (omega arith) (omega arith) in
    record { fits = omega (arith, most, next, c.of_sixteen-total.ensures, c.loop-at.invariant.1) }

pub loop-at-preserved : goal.loop-at-preserved
loop-at-preserved c =
    let next = differences-drop c.args.a.now c.args.b.now c.loop-at.at 16 (omega arith) (omega arith) in
    (omega arith, omega (arith, next, c.of_sixteen-total.ensures, c.loop-at.invariant.1))

pub overflow_add-result : goal.overflow_add-result
overflow_add-result c =
    let most = whole_small c.args.a.now c.args.b.now c.requires.same_length c.requires.at_most c.type_inv.a c.type_inv.b
    in
    let rest = differences-rest c.args.a.now c.args.b.now c.loop-at.at in
    record { fits = omega (arith, most, rest, c.one_by_one.ensures, c.loop-at.invariant.1) }
