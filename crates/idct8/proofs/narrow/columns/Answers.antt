-- The sums of the columns, with half of what rounding divides by, are those of the second pass.
use Rattle.std.proofs.Common.{lit<}
use Rattle.idct8.specs.Passes.{AreColumnSums}
use Rattle.idct8.specs.Vectors.{lane, sum_at}
use Rattle.idct8.proofs.Eights.{each_sum}
use Rattle.idct8.proofs.Low.{lows_minus, lows_plus, lows_splat, lows_times, own_lows}
use Rattle.idct8.proofs.Columns.{column_sums, column_0, column_1, column_2, column_3, column_4, column_5, column_6, column_7}
use Rattle.idct8.proofs.narrow.columns.Goals as goal

pub returns : goal.returns
returns c =
    let s = c.args.s in
    let s0 = own_lows 46546944 (sum_at s 0) (lit< tt) (c.requires.size 0 (lit< tt)) in
    let s1 = own_lows 46546944 (sum_at s 1) (lit< tt) (c.requires.size 1 (lit< tt)) in
    let s2 = own_lows 46546944 (sum_at s 2) (lit< tt) (c.requires.size 2 (lit< tt)) in
    let s3 = own_lows 46546944 (sum_at s 3) (lit< tt) (c.requires.size 3 (lit< tt)) in
    let s4 = own_lows 46546944 (sum_at s 4) (lit< tt) (c.requires.size 4 (lit< tt)) in
    let s5 = own_lows 46546944 (sum_at s 5) (lit< tt) (c.requires.size 5 (lit< tt)) in
    let s6 = own_lows 46546944 (sum_at s 6) (lit< tt) (c.requires.size 6 (lit< tt)) in
    let s7 = own_lows 46546944 (sum_at s 7) (lit< tt) (c.requires.size 7 (lit< tt)) in
    let outer = lows_plus (lows_times 2048 s0) (lows_splat 16777216 (lit< tt)) in
    let middle = lows_times 2048 s4 in
    let inner0 = lows_plus (lows_times 2676 s2) (lows_times 1108 s6) in
    let inner1 = lows_minus (lows_times 1108 s2) (lows_times 2676 s6) in
    let even0 = lows_plus (lows_plus outer middle) inner0 in
    let even1 = lows_plus (lows_minus outer middle) inner1 in
    let even2 = lows_minus (lows_minus outer middle) inner1 in
    let even3 = lows_minus (lows_plus outer middle) inner0 in
    let odd0 = lows_plus (lows_plus (lows_times 2841 s1) (lows_times 2408 s3))
    (lows_plus (lows_times 1609 s5) (lows_times 565 s7)) in
    let odd1 = lows_minus (lows_minus (lows_times 2408 s1) (lows_times 565 s3))
    (lows_plus (lows_times 2841 s5) (lows_times 1609 s7)) in
    let odd2 = lows_plus (lows_minus (lows_times 1609 s1) (lows_times 2841 s3))
    (lows_plus (lows_times 565 s5) (lows_times 2408 s7)) in
    let odd3 = lows_plus (lows_minus (lows_times 565 s1) (lows_times 1609 s3))
    (lows_minus (lows_times 2408 s5) (lows_times 2841 s7)) in
    each_sum (λ y v. AreColumnSums s y v)
    (column_sums s 0 (λ i hi. c.requires.fits 0 i (lit< tt) hi) (lows_plus even0 odd0)
    (λ i hi. column_0 (lane (sum_at s 0) i) (lane (sum_at s 1) i) (lane (sum_at s 2) i) (lane (sum_at s 3) i)
    (lane (sum_at s 4) i) (lane (sum_at s 5) i) (lane (sum_at s 6) i) (lane (sum_at s 7) i)))
    (column_sums s 1 (λ i hi. c.requires.fits 1 i (lit< tt) hi) (lows_plus even1 odd1)
    (λ i hi. column_1 (lane (sum_at s 0) i) (lane (sum_at s 1) i) (lane (sum_at s 2) i) (lane (sum_at s 3) i)
    (lane (sum_at s 4) i) (lane (sum_at s 5) i) (lane (sum_at s 6) i) (lane (sum_at s 7) i)))
    (column_sums s 2 (λ i hi. c.requires.fits 2 i (lit< tt) hi) (lows_plus even2 odd2)
    (λ i hi. column_2 (lane (sum_at s 0) i) (lane (sum_at s 1) i) (lane (sum_at s 2) i) (lane (sum_at s 3) i)
    (lane (sum_at s 4) i) (lane (sum_at s 5) i) (lane (sum_at s 6) i) (lane (sum_at s 7) i)))
    (column_sums s 3 (λ i hi. c.requires.fits 3 i (lit< tt) hi) (lows_plus even3 odd3)
    (λ i hi. column_3 (lane (sum_at s 0) i) (lane (sum_at s 1) i) (lane (sum_at s 2) i) (lane (sum_at s 3) i)
    (lane (sum_at s 4) i) (lane (sum_at s 5) i) (lane (sum_at s 6) i) (lane (sum_at s 7) i)))
    (column_sums s 4 (λ i hi. c.requires.fits 4 i (lit< tt) hi) (lows_minus even3 odd3)
    (λ i hi. column_4 (lane (sum_at s 0) i) (lane (sum_at s 1) i) (lane (sum_at s 2) i) (lane (sum_at s 3) i)
    (lane (sum_at s 4) i) (lane (sum_at s 5) i) (lane (sum_at s 6) i) (lane (sum_at s 7) i)))
    (column_sums s 5 (λ i hi. c.requires.fits 5 i (lit< tt) hi) (lows_minus even2 odd2)
    (λ i hi. column_5 (lane (sum_at s 0) i) (lane (sum_at s 1) i) (lane (sum_at s 2) i) (lane (sum_at s 3) i)
    (lane (sum_at s 4) i) (lane (sum_at s 5) i) (lane (sum_at s 6) i) (lane (sum_at s 7) i)))
    (column_sums s 6 (λ i hi. c.requires.fits 6 i (lit< tt) hi) (lows_minus even1 odd1)
    (λ i hi. column_6 (lane (sum_at s 0) i) (lane (sum_at s 1) i) (lane (sum_at s 2) i) (lane (sum_at s 3) i)
    (lane (sum_at s 4) i) (lane (sum_at s 5) i) (lane (sum_at s 6) i) (lane (sum_at s 7) i)))
    (column_sums s 7 (λ i hi. c.requires.fits 7 i (lit< tt) hi) (lows_minus even0 odd0)
    (λ i hi. column_7 (lane (sum_at s 0) i) (lane (sum_at s 1) i) (lane (sum_at s 2) i) (lane (sum_at s 3) i)
    (lane (sum_at s 4) i) (lane (sum_at s 5) i) (lane (sum_at s 6) i) (lane (sum_at s 7) i)))
