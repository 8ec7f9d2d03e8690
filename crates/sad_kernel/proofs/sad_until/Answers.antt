use Rattle.std.proofs.Common.{arith, refl}
use Rattle.sad_kernel.proofs.Sums.{whole_small, differences-drop, differences-rest}
use Rattle.sad_kernel.proofs.sad_until.Goals as goal

pub overflow_add-so_far : goal.overflow_add-so_far
overflow_add-so_far c =
    let most = whole_small c.args.a.now c.args.b.now c.requires.same_length c.requires.at_most c.type_inv.a c.type_inv.b
    in
    let next = differences-drop c.args.a.now c.args.b.now c.loop-at.at 16 (omega arith) (omega arith) in
    record { fits = omega (arith, most, next, c.of_sixteen-so_far.ensures, c.loop-at.invariant.1) }

pub loop-at-preserved : goal.loop-at-preserved
loop-at-preserved c =
    let next = differences-drop c.args.a.now c.args.b.now c.loop-at.at 16 (omega arith) (omega arith) in
    (omega arith, omega (arith, next, c.of_sixteen-so_far.ensures, c.loop-at.invariant.1))

pub returns-then-so_far-stop-clause-none : goal.returns-then-so_far-stop-clause-none
returns-then-so_far-stop-clause-none c =
    let next = differences-drop c.args.a.now c.args.b.now c.loop-at.at 16 (omega arith) (omega arith) in
    (λ _. omega (arith, next, c.of_sixteen-so_far.ensures, c.loop-at.invariant.1, c.if-so_far-stop.true), λ _. refl)

pub overflow_add-sum : goal.overflow_add-sum
overflow_add-sum c =
    let most = whole_small c.args.a.now c.args.b.now c.requires.same_length c.requires.at_most c.type_inv.a c.type_inv.b
    in
    let rest = differences-rest c.args.a.now c.args.b.now c.loop-at.at in
    record { fits = omega (arith, most, rest, c.one_by_one.ensures, c.loop-at.invariant.1) }
