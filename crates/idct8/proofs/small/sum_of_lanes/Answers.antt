-- Each of the seven additions stays within 32 bits, so the total is the sum of the lanes.
use Rattle.std.proofs.Common.{arith, lit≤, lit<, map, of_z, to_z, refl, unsigned_abs, w32}
use Rattle.idct8.specs.Vectors.{lane}
use Rattle.idct8.proofs.Squares.{size_within, up_read}
use Rattle.idct8.proofs.small.sum_of_lanes.Goals as goal

pub overflow_cast-result : goal.overflow_cast-result
overflow_cast-result c =
    let s = size_within 520200 c.args.v 0
    (unsigned_abs (to_z w32 (of_z w32 (lane (map (to_z w32) (map (of_z w32) c.args.v)) 0))))
    (lit≤ tt) c.requires.size (lit< tt) refl in
    (up_read 520200 c.args.v 0 (lit≤ tt) c.requires.size (lit< tt) (c.requires.up 0 (lit< tt)), omega (arith, s.1))

pub overflow_cast-result-2 : goal.overflow_cast-result-2
overflow_cast-result-2 c =
    let s = size_within 520200 c.args.v 1
    (unsigned_abs (to_z w32 (of_z w32 (lane (map (to_z w32) (map (of_z w32) c.args.v)) 1))))
    (lit≤ tt) c.requires.size (lit< tt) refl in
    (up_read 520200 c.args.v 1 (lit≤ tt) c.requires.size (lit< tt) (c.requires.up 1 (lit< tt)), omega (arith, s.1))

pub overflow_cast-result-3 : goal.overflow_cast-result-3
overflow_cast-result-3 c =
    let s = size_within 520200 c.args.v 2
    (unsigned_abs (to_z w32 (of_z w32 (lane (map (to_z w32) (map (of_z w32) c.args.v)) 2))))
    (lit≤ tt) c.requires.size (lit< tt) refl in
    (up_read 520200 c.args.v 2 (lit≤ tt) c.requires.size (lit< tt) (c.requires.up 2 (lit< tt)), omega (arith, s.1))

pub overflow_cast-result-4 : goal.overflow_cast-result-4
overflow_cast-result-4 c =
    let s = size_within 520200 c.args.v 3
    (unsigned_abs (to_z w32 (of_z w32 (lane (map (to_z w32) (map (of_z w32) c.args.v)) 3))))
    (lit≤ tt) c.requires.size (lit< tt) refl in
    (up_read 520200 c.args.v 3 (lit≤ tt) c.requires.size (lit< tt) (c.requires.up 3 (lit< tt)), omega (arith, s.1))

pub overflow_cast-result-5 : goal.overflow_cast-result-5
overflow_cast-result-5 c =
    let s = size_within 520200 c.args.v 4
    (unsigned_abs (to_z w32 (of_z w32 (lane (map (to_z w32) (map (of_z w32) c.args.v)) 4))))
    (lit≤ tt) c.requires.size (lit< tt) refl in
    (up_read 520200 c.args.v 4 (lit≤ tt) c.requires.size (lit< tt) (c.requires.up 4 (lit< tt)), omega (arith, s.1))

pub overflow_cast-result-6 : goal.overflow_cast-result-6
overflow_cast-result-6 c =
    let s = size_within 520200 c.args.v 5
    (unsigned_abs (to_z w32 (of_z w32 (lane (map (to_z w32) (map (of_z w32) c.args.v)) 5))))
    (lit≤ tt) c.requires.size (lit< tt) refl in
    (up_read 520200 c.args.v 5 (lit≤ tt) c.requires.size (lit< tt) (c.requires.up 5 (lit< tt)), omega (arith, s.1))

pub overflow_cast-result-7 : goal.overflow_cast-result-7
overflow_cast-result-7 c =
    let s = size_within 520200 c.args.v 6
    (unsigned_abs (to_z w32 (of_z w32 (lane (map (to_z w32) (map (of_z w32) c.args.v)) 6))))
    (lit≤ tt) c.requires.size (lit< tt) refl in
    (up_read 520200 c.args.v 6 (lit≤ tt) c.requires.size (lit< tt) (c.requires.up 6 (lit< tt)), omega (arith, s.1))

pub overflow_cast-result-8 : goal.overflow_cast-result-8
overflow_cast-result-8 c =
    let s = size_within 520200 c.args.v 7
    (unsigned_abs (to_z w32 (of_z w32 (lane (map (to_z w32) (map (of_z w32) c.args.v)) 7))))
    (lit≤ tt) c.requires.size (lit< tt) refl in
    (up_read 520200 c.args.v 7 (lit≤ tt) c.requires.size (lit< tt) (c.requires.up 7 (lit< tt)), omega (arith, s.1))

pub overflow_add-result : goal.overflow_add-result
overflow_add-result c =
    let s0 = size_within 520200 c.args.v 0
    (unsigned_abs (to_z w32 (of_z w32 (lane (map (to_z w32) (map (of_z w32) c.args.v)) 0))))
    (lit≤ tt) c.requires.size (lit< tt) refl in
    let s1 = size_within 520200 c.args.v 1
    (unsigned_abs (to_z w32 (of_z w32 (lane (map (to_z w32) (map (of_z w32) c.args.v)) 1))))
    (lit≤ tt) c.requires.size (lit< tt) refl in
    omega (arith, s0.1, s1.1)

pub overflow_add-result-2 : goal.overflow_add-result-2
overflow_add-result-2 c =
    let s0 = size_within 520200 c.args.v 0
    (unsigned_abs (to_z w32 (of_z w32 (lane (map (to_z w32) (map (of_z w32) c.args.v)) 0))))
    (lit≤ tt) c.requires.size (lit< tt) refl in
    let s1 = size_within 520200 c.args.v 1
    (unsigned_abs (to_z w32 (of_z w32 (lane (map (to_z w32) (map (of_z w32) c.args.v)) 1))))
    (lit≤ tt) c.requires.size (lit< tt) refl in
    let s2 = size_within 520200 c.args.v 2
    (unsigned_abs (to_z w32 (of_z w32 (lane (map (to_z w32) (map (of_z w32) c.args.v)) 2))))
    (lit≤ tt) c.requires.size (lit< tt) refl in
    omega (arith, s0.1, s1.1, s2.1)

pub overflow_add-result-3 : goal.overflow_add-result-3
overflow_add-result-3 c =
    let s0 = size_within 520200 c.args.v 0
    (unsigned_abs (to_z w32 (of_z w32 (lane (map (to_z w32) (map (of_z w32) c.args.v)) 0))))
    (lit≤ tt) c.requires.size (lit< tt) refl in
    let s1 = size_within 520200 c.args.v 1
    (unsigned_abs (to_z w32 (of_z w32 (lane (map (to_z w32) (map (of_z w32) c.args.v)) 1))))
    (lit≤ tt) c.requires.size (lit< tt) refl in
    let s2 = size_within 520200 c.args.v 2
    (unsigned_abs (to_z w32 (of_z w32 (lane (map (to_z w32) (map (of_z w32) c.args.v)) 2))))
    (lit≤ tt) c.requires.size (lit< tt) refl in
    let s3 = size_within 520200 c.args.v 3
    (unsigned_abs (to_z w32 (of_z w32 (lane (map (to_z w32) (map (of_z w32) c.args.v)) 3))))
    (lit≤ tt) c.requires.size (lit< tt) refl in
    omega (arith, s0.1, s1.1, s2.1, s3.1)

pub overflow_add-result-4 : goal.overflow_add-result-4
overflow_add-result-4 c =
    let s0 = size_within 520200 c.args.v 0
    (unsigned_abs (to_z w32 (of_z w32 (lane (map (to_z w32) (map (of_z w32) c.args.v)) 0))))
    (lit≤ tt) c.requires.size (lit< tt) refl in
    let s1 = size_within 520200 c.args.v 1
    (unsigned_abs (to_z w32 (of_z w32 (lane (map (to_z w32) (map (of_z w32) c.args.v)) 1))))
    (lit≤ tt) c.requires.size (lit< tt) refl in
    let s2 = size_within 520200 c.args.v 2
    (unsigned_abs (to_z w32 (of_z w32 (lane (map (to_z w32) (map (of_z w32) c.args.v)) 2))))
    (lit≤ tt) c.requires.size (lit< tt) refl in
    let s3 = size_within 520200 c.args.v 3
    (unsigned_abs (to_z w32 (of_z w32 (lane (map (to_z w32) (map (of_z w32) c.args.v)) 3))))
    (lit≤ tt) c.requires.size (lit< tt) refl in
    let s4 = size_within 520200 c.args.v 4
    (unsigned_abs (to_z w32 (of_z w32 (lane (map (to_z w32) (map (of_z w32) c.args.v)) 4))))
    (lit≤ tt) c.requires.size (lit< tt) refl in
    omega (arith, s0.1, s1.1, s2.1, s3.1, s4.1)

pub overflow_add-result-5 : goal.overflow_add-result-5
overflow_add-result-5 c =
    let s0 = size_within 520200 c.args.v 0
    (unsigned_abs (to_z w32 (of_z w32 (lane (map (to_z w32) (map (of_z w32) c.args.v)) 0))))
    (lit≤ tt) c.requires.size (lit< tt) refl in
    let s1 = size_within 520200 c.args.v 1
    (unsigned_abs (to_z w32 (of_z w32 (lane (map (to_z w32) (map (of_z w32) c.args.v)) 1))))
    (lit≤ tt) c.requires.size (lit< tt) refl in
    let s2 = size_within 520200 c.args.v 2
    (unsigned_abs (to_z w32 (of_z w32 (lane (map (to_z w32) (map (of_z w32) c.args.v)) 2))))
    (lit≤ tt) c.requires.size (lit< tt) refl in
    let s3 = size_within 520200 c.args.v 3
    (unsigned_abs (to_z w32 (of_z w32 (lane (map (to_z w32) (map (of_z w32) c.args.v)) 3))))
    (lit≤ tt) c.requires.size (lit< tt) refl in
    let s4 = size_within 520200 c.args.v 4
    (unsigned_abs (to_z w32 (of_z w32 (lane (map (to_z w32) (map (of_z w32) c.args.v)) 4))))
    (lit≤ tt) c.requires.size (lit< tt) refl in
    let s5 = size_within 520200 c.args.v 5
    (unsigned_abs (to_z w32 (of_z w32 (lane (map (to_z w32) (map (of_z w32) c.args.v)) 5))))
    (lit≤ tt) c.requires.size (lit< tt) refl in
    omega (arith, s0.1, s1.1, s2.1, s3.1, s4.1, s5.1)

pub overflow_add-result-6 : goal.overflow_add-result-6
overflow_add-result-6 c =
    let s0 = size_within 520200 c.args.v 0
    (unsigned_abs (to_z w32 (of_z w32 (lane (map (to_z w32) (map (of_z w32) c.args.v)) 0))))
    (lit≤ tt) c.requires.size (lit< tt) refl in
    let s1 = size_within 520200 c.args.v 1
    (unsigned_abs (to_z w32 (of_z w32 (lane (map (to_z w32) (map (of_z w32) c.args.v)) 1))))
    (lit≤ tt) c.requires.size (lit< tt) refl in
    let s2 = size_within 520200 c.args.v 2
    (unsigned_abs (to_z w32 (of_z w32 (lane (map (to_z w32) (map (of_z w32) c.args.v)) 2))))
    (lit≤ tt) c.requires.size (lit< tt) refl in
    let s3 = size_within 520200 c.args.v 3
    (unsigned_abs (to_z w32 (of_z w32 (lane (map (to_z w32) (map (of_z w32) c.args.v)) 3))))
    (lit≤ tt) c.requires.size (lit< tt) refl in
    let s4 = size_within 520200 c.args.v 4
    (unsigned_abs (to_z w32 (of_z w32 (lane (map (to_z w32) (map (of_z w32) c.args.v)) 4))))
    (lit≤ tt) c.requires.size (lit< tt) refl in
    let s5 = size_within 520200 c.args.v 5
    (unsigned_abs (to_z w32 (of_z w32 (lane (map (to_z w32) (map (of_z w32) c.args.v)) 5))))
    (lit≤ tt) c.requires.size (lit< tt) refl in
    let s6 = size_within 520200 c.args.v 6
    (unsigned_abs (to_z w32 (of_z w32 (lane (map (to_z w32) (map (of_z w32) c.args.v)) 6))))
    (lit≤ tt) c.requires.size (lit< tt) refl in
    omega (arith, s0.1, s1.1, s2.1, s3.1, s4.1, s5.1, s6.1)

pub overflow_add-result-7 : goal.overflow_add-result-7
overflow_add-result-7 c =
    let s0 = size_within 520200 c.args.v 0
    (unsigned_abs (to_z w32 (of_z w32 (lane (map (to_z w32) (map (of_z w32) c.args.v)) 0))))
    (lit≤ tt) c.requires.size (lit< tt) refl in
    let s1 = size_within 520200 c.args.v 1
    (unsigned_abs (to_z w32 (of_z w32 (lane (map (to_z w32) (map (of_z w32) c.args.v)) 1))))
    (lit≤ tt) c.requires.size (lit< tt) refl in
    let s2 = size_within 520200 c.args.v 2
    (unsigned_abs (to_z w32 (of_z w32 (lane (map (to_z w32) (map (of_z w32) c.args.v)) 2))))
    (lit≤ tt) c.requires.size (lit< tt) refl in
    let s3 = size_within 520200 c.args.v 3
    (unsigned_abs (to_z w32 (of_z w32 (lane (map (to_z w32) (map (of_z w32) c.args.v)) 3))))
    (lit≤ tt) c.requires.size (lit< tt) refl in
    let s4 = size_within 520200 c.args.v 4
    (unsigned_abs (to_z w32 (of_z w32 (lane (map (to_z w32) (map (of_z w32) c.args.v)) 4))))
    (lit≤ tt) c.requires.size (lit< tt) refl in
    let s5 = size_within 520200 c.args.v 5
    (unsigned_abs (to_z w32 (of_z w32 (lane (map (to_z w32) (map (of_z w32) c.args.v)) 5))))
    (lit≤ tt) c.requires.size (lit< tt) refl in
    let s6 = size_within 520200 c.args.v 6
    (unsigned_abs (to_z w32 (of_z w32 (lane (map (to_z w32) (map (of_z w32) c.args.v)) 6))))
    (lit≤ tt) c.requires.size (lit< tt) refl in
    let s7 = size_within 520200 c.args.v 7
    (unsigned_abs (to_z w32 (of_z w32 (lane (map (to_z w32) (map (of_z w32) c.args.v)) 7))))
    (lit≤ tt) c.requires.size (lit< tt) refl in
    omega (arith, s0.1, s1.1, s2.1, s3.1, s4.1, s5.1, s6.1, s7.1)

pub returns-clause-sum : goal.returns-clause-sum
returns-clause-sum c =
    let s0 = size_within 520200 c.args.v 0
    (unsigned_abs (to_z w32 (of_z w32 (lane (map (to_z w32) (map (of_z w32) c.args.v)) 0))))
    (lit≤ tt) c.requires.size (lit< tt) refl in
    let s1 = size_within 520200 c.args.v 1
    (unsigned_abs (to_z w32 (of_z w32 (lane (map (to_z w32) (map (of_z w32) c.args.v)) 1))))
    (lit≤ tt) c.requires.size (lit< tt) refl in
    let s2 = size_within 520200 c.args.v 2
    (unsigned_abs (to_z w32 (of_z w32 (lane (map (to_z w32) (map (of_z w32) c.args.v)) 2))))
    (lit≤ tt) c.requires.size (lit< tt) refl in
    let s3 = size_within 520200 c.args.v 3
    (unsigned_abs (to_z w32 (of_z w32 (lane (map (to_z w32) (map (of_z w32) c.args.v)) 3))))
    (lit≤ tt) c.requires.size (lit< tt) refl in
    let s4 = size_within 520200 c.args.v 4
    (unsigned_abs (to_z w32 (of_z w32 (lane (map (to_z w32) (map (of_z w32) c.args.v)) 4))))
    (lit≤ tt) c.requires.size (lit< tt) refl in
    let s5 = size_within 520200 c.args.v 5
    (unsigned_abs (to_z w32 (of_z w32 (lane (map (to_z w32) (map (of_z w32) c.args.v)) 5))))
    (lit≤ tt) c.requires.size (lit< tt) refl in
    let s6 = size_within 520200 c.args.v 6
    (unsigned_abs (to_z w32 (of_z w32 (lane (map (to_z w32) (map (of_z w32) c.args.v)) 6))))
    (lit≤ tt) c.requires.size (lit< tt) refl in
    let s7 = size_within 520200 c.args.v 7
    (unsigned_abs (to_z w32 (of_z w32 (lane (map (to_z w32) (map (of_z w32) c.args.v)) 7))))
    (lit≤ tt) c.requires.size (lit< tt) refl in
    omega (arith, s0.0, s1.0, s2.0, s3.0, s4.0, s5.0, s6.0, s7.0)

pub returns-clause-most : goal.returns-clause-most
returns-clause-most c =
    let s0 = size_within 520200 c.args.v 0
    (unsigned_abs (to_z w32 (of_z w32 (lane (map (to_z w32) (map (of_z w32) c.args.v)) 0))))
    (lit≤ tt) c.requires.size (lit< tt) refl in
    let s1 = size_within 520200 c.args.v 1
    (unsigned_abs (to_z w32 (of_z w32 (lane (map (to_z w32) (map (of_z w32) c.args.v)) 1))))
    (lit≤ tt) c.requires.size (lit< tt) refl in
    let s2 = size_within 520200 c.args.v 2
    (unsigned_abs (to_z w32 (of_z w32 (lane (map (to_z w32) (map (of_z w32) c.args.v)) 2))))
    (lit≤ tt) c.requires.size (lit< tt) refl in
    let s3 = size_within 520200 c.args.v 3
    (unsigned_abs (to_z w32 (of_z w32 (lane (map (to_z w32) (map (of_z w32) c.args.v)) 3))))
    (lit≤ tt) c.requires.size (lit< tt) refl in
    let s4 = size_within 520200 c.args.v 4
    (unsigned_abs (to_z w32 (of_z w32 (lane (map (to_z w32) (map (of_z w32) c.args.v)) 4))))
    (lit≤ tt) c.requires.size (lit< tt) refl in
    let s5 = size_within 520200 c.args.v 5
    (unsigned_abs (to_z w32 (of_z w32 (lane (map (to_z w32) (map (of_z w32) c.args.v)) 5))))
    (lit≤ tt) c.requires.size (lit< tt) refl in
    let s6 = size_within 520200 c.args.v 6
    (unsigned_abs (to_z w32 (of_z w32 (lane (map (to_z w32) (map (of_z w32) c.args.v)) 6))))
    (lit≤ tt) c.requires.size (lit< tt) refl in
    let s7 = size_within 520200 c.args.v 7
    (unsigned_abs (to_z w32 (of_z w32 (lane (map (to_z w32) (map (of_z w32) c.args.v)) 7))))
    (lit≤ tt) c.requires.size (lit< tt) refl in
    omega (arith, s0.1, s1.1, s2.1, s3.1, s4.1, s5.1, s6.1, s7.1)
