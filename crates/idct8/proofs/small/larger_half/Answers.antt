-- Neither half's sum overflows, and the result is at least each of them.
use Rattle.std.proofs.Common.{arith, lit<}
use Rattle.idct8.proofs.Squares.{size_read}
use Rattle.idct8.proofs.small.larger_half.Goals as goal

pub overflow_add-first : goal.overflow_add-first
overflow_add-first c =
    let s0 = size_read c.args.v 0 c.unsigned_abs.result c.requires (lit< tt) c.unsigned_abs.ensures.value in
    let s1 = size_read c.args.v 1 c.unsigned_abs-2.result c.requires (lit< tt) c.unsigned_abs-2.ensures.value in
    omega (arith, s0.1, s1.1)

pub overflow_add-first-2 : goal.overflow_add-first-2
overflow_add-first-2 c =
    let s0 = size_read c.args.v 0 c.unsigned_abs.result c.requires (lit< tt) c.unsigned_abs.ensures.value in
    let s1 = size_read c.args.v 1 c.unsigned_abs-2.result c.requires (lit< tt) c.unsigned_abs-2.ensures.value in
    let s2 = size_read c.args.v 2 c.unsigned_abs-3.result c.requires (lit< tt) c.unsigned_abs-3.ensures.value in
    omega (arith, s0.1, s1.1, s2.1)

pub overflow_add-first-3 : goal.overflow_add-first-3
overflow_add-first-3 c =
    let s0 = size_read c.args.v 0 c.unsigned_abs.result c.requires (lit< tt) c.unsigned_abs.ensures.value in
    let s1 = size_read c.args.v 1 c.unsigned_abs-2.result c.requires (lit< tt) c.unsigned_abs-2.ensures.value in
    let s2 = size_read c.args.v 2 c.unsigned_abs-3.result c.requires (lit< tt) c.unsigned_abs-3.ensures.value in
    let s3 = size_read c.args.v 3 c.unsigned_abs-4.result c.requires (lit< tt) c.unsigned_abs-4.ensures.value in
    omega (arith, s0.1, s1.1, s2.1, s3.1)

pub overflow_add-last : goal.overflow_add-last
overflow_add-last c =
    let s4 = size_read c.args.v 4 c.unsigned_abs-5.result c.requires (lit< tt) c.unsigned_abs-5.ensures.value in
    let s5 = size_read c.args.v 5 c.unsigned_abs-6.result c.requires (lit< tt) c.unsigned_abs-6.ensures.value in
    omega (arith, s4.1, s5.1)

pub overflow_add-last-2 : goal.overflow_add-last-2
overflow_add-last-2 c =
    let s4 = size_read c.args.v 4 c.unsigned_abs-5.result c.requires (lit< tt) c.unsigned_abs-5.ensures.value in
    let s5 = size_read c.args.v 5 c.unsigned_abs-6.result c.requires (lit< tt) c.unsigned_abs-6.ensures.value in
    let s6 = size_read c.args.v 6 c.unsigned_abs-7.result c.requires (lit< tt) c.unsigned_abs-7.ensures.value in
    omega (arith, s4.1, s5.1, s6.1)

pub overflow_add-last-3 : goal.overflow_add-last-3
overflow_add-last-3 c =
    let s4 = size_read c.args.v 4 c.unsigned_abs-5.result c.requires (lit< tt) c.unsigned_abs-5.ensures.value in
    let s5 = size_read c.args.v 5 c.unsigned_abs-6.result c.requires (lit< tt) c.unsigned_abs-6.ensures.value in
    let s6 = size_read c.args.v 6 c.unsigned_abs-7.result c.requires (lit< tt) c.unsigned_abs-7.ensures.value in
    let s7 = size_read c.args.v 7 c.unsigned_abs-8.result c.requires (lit< tt) c.unsigned_abs-8.ensures.value in
    omega (arith, s4.1, s5.1, s6.1, s7.1)

pub returns-clause-first : goal.returns-clause-first
returns-clause-first c =
    let s0 = size_read c.args.v 0 c.unsigned_abs.result c.requires (lit< tt) c.unsigned_abs.ensures.value in
    let s1 = size_read c.args.v 1 c.unsigned_abs-2.result c.requires (lit< tt) c.unsigned_abs-2.ensures.value in
    let s2 = size_read c.args.v 2 c.unsigned_abs-3.result c.requires (lit< tt) c.unsigned_abs-3.ensures.value in
    let s3 = size_read c.args.v 3 c.unsigned_abs-4.result c.requires (lit< tt) c.unsigned_abs-4.ensures.value in
    omega (arith, s0.0, s1.0, s2.0, s3.0, c.max.ensures)

pub returns-clause-last : goal.returns-clause-last
returns-clause-last c =
    let s4 = size_read c.args.v 4 c.unsigned_abs-5.result c.requires (lit< tt) c.unsigned_abs-5.ensures.value in
    let s5 = size_read c.args.v 5 c.unsigned_abs-6.result c.requires (lit< tt) c.unsigned_abs-6.ensures.value in
    let s6 = size_read c.args.v 6 c.unsigned_abs-7.result c.requires (lit< tt) c.unsigned_abs-7.ensures.value in
    let s7 = size_read c.args.v 7 c.unsigned_abs-8.result c.requires (lit< tt) c.unsigned_abs-8.ensures.value in
    omega (arith, s4.0, s5.0, s6.0, s7.0, c.max.ensures)

pub returns-clause-most : goal.returns-clause-most
returns-clause-most c =
    let s0 = size_read c.args.v 0 c.unsigned_abs.result c.requires (lit< tt) c.unsigned_abs.ensures.value in
    let s1 = size_read c.args.v 1 c.unsigned_abs-2.result c.requires (lit< tt) c.unsigned_abs-2.ensures.value in
    let s2 = size_read c.args.v 2 c.unsigned_abs-3.result c.requires (lit< tt) c.unsigned_abs-3.ensures.value in
    let s3 = size_read c.args.v 3 c.unsigned_abs-4.result c.requires (lit< tt) c.unsigned_abs-4.ensures.value in
    let s4 = size_read c.args.v 4 c.unsigned_abs-5.result c.requires (lit< tt) c.unsigned_abs-5.ensures.value in
    let s5 = size_read c.args.v 5 c.unsigned_abs-6.result c.requires (lit< tt) c.unsigned_abs-6.ensures.value in
    let s6 = size_read c.args.v 6 c.unsigned_abs-7.result c.requires (lit< tt) c.unsigned_abs-7.ensures.value in
    let s7 = size_read c.args.v 7 c.unsigned_abs-8.result c.requires (lit< tt) c.unsigned_abs-8.ensures.value in
    omega (arith, s0.1, s1.1, s2.1, s3.1, s4.1, s5.1, s6.1, s7.1, c.max.ensures)
