use Rattle.std.proofs.Common.{arith}
use Rattle.sad_kernel.proofs.Sums.{whole_small, differences-one}
use Rattle.sad_kernel.proofs.one_by_one.Goals as goal

pub overflow_add-total : goal.overflow_add-total
overflow_add-total c =
    let most = whole_small c.args.a.now c.args.b.now c.requires.same_length c.requires.at_most c.type_inv.a c.type_inv.b
    in
    let next = differences-one c.args.a.now c.args.b.now c.loop-i.i (omega arith) (omega arith) in
    record { fits = omega (arith, most, next, c.loop-i.invariant) }
