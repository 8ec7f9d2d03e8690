use Rattle.std.proofs.Common.{arith, refl, sym}
use Rattle.sad_kernel.proofs.Sums.{bytes, differences_small, whole_small, differences-drop, differences-rest}
use Rattle.sad_kernel.proofs.sad.Goals as goal

pub overflow_add-total : goal.overflow_add-total
overflow_add-total c =
    let most = whole_small c.args.a.now c.args.b.now c.requires.same_length c.requires.at_most c.type_inv.a c.type_inv.b
    in
    let next = differences-drop c.args.a.now c.args.b.now c.loop-at.at 64 (omega arith) (omega arith) in
    record { fits = omega (arith, most, next, c.of_sixty_four-total.ensures, c.loop-at.invariant.1) }

pub loop-at-preserved : goal.loop-at-preserved
loop-at-preserved c =
    let next = differences-drop c.args.a.now c.args.b.now c.loop-at.at 64 (omega arith) (omega arith) in
    (omega arith, omega (arith, next, c.of_sixty_four-total.ensures, c.loop-at.invariant.1))

pub overflow_add-result : goal.overflow_add-result
overflow_add-result c =
    let most = whole_small c.args.a.now c.args.b.now c.requires.same_length c.requires.at_most c.type_inv.a c.type_inv.b
    in
    let rest = differences-rest c.args.a.now c.args.b.now c.loop-at.at in
    record { fits = omega (arith, most, rest, c.by_sixteen.ensures, c.loop-at.invariant.1) }

pub returns-clause-most : goal.returns-clause-most
returns-clause-most c =
    let a = c.args.a.now in
    let b = c.args.b.now in
    let most = differences_small a b _ refl (sym c.requires.same_length) (bytes a c.type_inv.a)
    (bytes b c.type_inv.b) in
    omega (arith, most, differences-rest a b c.loop-at.at, c.by_sixteen.ensures, c.loop-at.invariant.1)
