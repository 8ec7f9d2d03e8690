-- The first and the fifth row of the basis are 2048 with a sign at each place: so the sums are multiples of 2^11.
use Rattle.std.proofs.Common.{◌≡◌, ◌∙◌, ◌^◌, lit≤, lit<, ℤ, [], ◌∷◌, pos, ◌+ℤ◌, ◌-ℤ◌, ◌*ℤ◌, arith, refl, sym}
use Rattle.std.proofs.lemmas.Int.{ints}
use Rattle.std.specs.Int.{int_shr}
use Rattle.idct8.specs.declared.passes.Direction.TheVariants.{Forward}
use Rattle.idct8.specs.Vectors.{lane, row_at}
use Rattle.idct8.specs.Passes.{pass_at}
use Rattle.idct8.proofs.Near.{first_none}
use Rattle.idct8.proofs.Rotations.{sum_of, forward_sum_0, forward_sum_4}
use Rattle.idct8.proofs.Vectors.{passed_lane16, passed_within16}
use Rattle.idct8.proofs.sixteenths.plain_rows.Goals as goal

pub mirrored_sum-requires-clause-a : goal.mirrored_sum-requires-clause-a
mirrored_sum-requires-clause-a c = passed_within16 255 255 (lit≤ tt) (lit≤ tt) (c.requires 0 (lit< tt))

pub mirrored_sum-requires-clause-b : goal.mirrored_sum-requires-clause-b
mirrored_sum-requires-clause-b c = passed_within16 255 255 (lit≤ tt) (lit≤ tt) (c.requires 7 (lit< tt))

pub mirrored_sum-requires-2-clause-a : goal.mirrored_sum-requires-2-clause-a
mirrored_sum-requires-2-clause-a c = passed_within16 255 255 (lit≤ tt) (lit≤ tt) (c.requires 1 (lit< tt))

pub mirrored_sum-requires-2-clause-b : goal.mirrored_sum-requires-2-clause-b
mirrored_sum-requires-2-clause-b c = passed_within16 255 255 (lit≤ tt) (lit≤ tt) (c.requires 6 (lit< tt))

pub mirrored_sum-requires-3-clause-a : goal.mirrored_sum-requires-3-clause-a
mirrored_sum-requires-3-clause-a c = passed_within16 255 255 (lit≤ tt) (lit≤ tt) (c.requires 2 (lit< tt))

pub mirrored_sum-requires-3-clause-b : goal.mirrored_sum-requires-3-clause-b
mirrored_sum-requires-3-clause-b c = passed_within16 255 255 (lit≤ tt) (lit≤ tt) (c.requires 5 (lit< tt))

pub mirrored_sum-requires-4-clause-a : goal.mirrored_sum-requires-4-clause-a
mirrored_sum-requires-4-clause-a c = passed_within16 255 255 (lit≤ tt) (lit≤ tt) (c.requires 3 (lit< tt))

pub mirrored_sum-requires-4-clause-b : goal.mirrored_sum-requires-4-clause-b
mirrored_sum-requires-4-clause-b c = passed_within16 255 255 (lit≤ tt) (lit≤ tt) (c.requires 4 (lit< tt))

pub eight_times-requires-clause-p0 : goal.eight_times-requires-clause-p0
eight_times-requires-clause-p0 c = passed_within16 510 510 (lit≤ tt) (lit≤ tt) c.mirrored_sum.ensures.size

pub eight_times-requires-clause-p1 : goal.eight_times-requires-clause-p1
eight_times-requires-clause-p1 c = passed_within16 510 510 (lit≤ tt) (lit≤ tt) c.mirrored_sum-2.ensures.size

pub eight_times-requires-clause-p2 : goal.eight_times-requires-clause-p2
eight_times-requires-clause-p2 c = passed_within16 510 510 (lit≤ tt) (lit≤ tt) c.mirrored_sum-3.ensures.size

pub eight_times-requires-clause-p3 : goal.eight_times-requires-clause-p3
eight_times-requires-clause-p3 c = passed_within16 510 510 (lit≤ tt) (lit≤ tt) c.mirrored_sum-4.ensures.size

-- eight times a number, of which the pass has 2048 times
added : (a b p q : ℤ) → pos 2048 *ℤ (a +ℤ b) +ℤ pos 2048 *ℤ (p +ℤ q) ≡ pos 2048 *ℤ (a +ℤ b +ℤ (p +ℤ q))
added a b p q = omega (arith, ints)

taken : (a b p q : ℤ) → pos 2048 *ℤ (a +ℤ b) -ℤ pos 2048 *ℤ (p +ℤ q) ≡ pos 2048 *ℤ (a +ℤ b -ℤ (p +ℤ q))
taken a b p q = omega (arith, ints)

eighth : (z d n : ℤ) → n ≡ pos 8 *ℤ d → z ≡ pos 2048 *ℤ d → n ≡ int_shr (z +ℤ pos 128) 8
eighth z d n e f = e ∙ sym (first_none z d f)

first_is : (c0 c1 c2 c3 c4 c5 c6 c7 : ℤ) {n p0 p1 p2 p3 : ℤ} → p0 ≡ c0 +ℤ c7 → p1 ≡ c1 +ℤ c6 → p2 ≡ c2 +ℤ c5
    → p3 ≡ c3 +ℤ c4
    → n ≡ pos 8 *ℤ (p0 +ℤ p3 +ℤ (p1 +ℤ p2))
    → n ≡ int_shr (pass_at Forward (c0 ∷ c1 ∷ c2 ∷ c3 ∷ c4 ∷ c5 ∷ c6 ∷ c7 ∷ []) 0 +ℤ pos 128) 8
first_is c0 c1 c2 c3 c4 c5 c6 c7 {n} {p0} {p1} {p2} {p3} h0 h1 h2 h3 e =
    eighth (pass_at Forward (c0 ∷ c1 ∷ c2 ∷ c3 ∷ c4 ∷ c5 ∷ c6 ∷ c7 ∷ []) 0) (p0 +ℤ p3 +ℤ (p1 +ℤ p2)) n e
    (sym (forward_sum_0 c0 c1 c2 c3 c4 c5 c6 c7 (sym (added p0 p3 p1 p2)) refl refl h0 h1 h2 h3))

middle_is : (c0 c1 c2 c3 c4 c5 c6 c7 : ℤ) {n p0 p1 p2 p3 : ℤ} → p0 ≡ c0 +ℤ c7 → p1 ≡ c1 +ℤ c6 → p2 ≡ c2 +ℤ c5
    → p3 ≡ c3 +ℤ c4
    → n ≡ pos 8 *ℤ (p0 +ℤ p3 -ℤ (p1 +ℤ p2))
    → n ≡ int_shr (pass_at Forward (c0 ∷ c1 ∷ c2 ∷ c3 ∷ c4 ∷ c5 ∷ c6 ∷ c7 ∷ []) 4 +ℤ pos 128) 8
middle_is c0 c1 c2 c3 c4 c5 c6 c7 {n} {p0} {p1} {p2} {p3} h0 h1 h2 h3 e =
    eighth (pass_at Forward (c0 ∷ c1 ∷ c2 ∷ c3 ∷ c4 ∷ c5 ∷ c6 ∷ c7 ∷ []) 4) (p0 +ℤ p3 -ℤ (p1 +ℤ p2)) n e
    (sym (forward_sum_4 c0 c1 c2 c3 c4 c5 c6 c7 (sym (taken p0 p3 p1 p2)) refl refl h0 h1 h2 h3))

pub returns-clause-first : goal.returns-clause-first
returns-clause-first c i hi =
    let r0 = passed_lane16 255 i (lit≤ tt) (c.requires 0 (lit< tt)) in
    let r1 = passed_lane16 255 i (lit≤ tt) (c.requires 1 (lit< tt)) in
    let r2 = passed_lane16 255 i (lit≤ tt) (c.requires 2 (lit< tt)) in
    let r3 = passed_lane16 255 i (lit≤ tt) (c.requires 3 (lit< tt)) in
    let r4 = passed_lane16 255 i (lit≤ tt) (c.requires 4 (lit< tt)) in
    let r5 = passed_lane16 255 i (lit≤ tt) (c.requires 5 (lit< tt)) in
    let r6 = passed_lane16 255 i (lit≤ tt) (c.requires 6 (lit< tt)) in
    let r7 = passed_lane16 255 i (lit≤ tt) (c.requires 7 (lit< tt)) in
    let p0 = passed_lane16 510 i (lit≤ tt) c.mirrored_sum.ensures.size
    ∙ sum_of (c.mirrored_sum.ensures.sum i hi) r0 r7 in
    let p1 = passed_lane16 510 i (lit≤ tt) c.mirrored_sum-2.ensures.size
    ∙ sum_of (c.mirrored_sum-2.ensures.sum i hi) r1 r6 in
    let p2 = passed_lane16 510 i (lit≤ tt) c.mirrored_sum-3.ensures.size
    ∙ sum_of (c.mirrored_sum-3.ensures.sum i hi) r2 r5 in
    let p3 = passed_lane16 510 i (lit≤ tt) c.mirrored_sum-4.ensures.size
    ∙ sum_of (c.mirrored_sum-4.ensures.sum i hi) r3 r4 in
    first_is (lane (row_at c.args.r 0) i) (lane (row_at c.args.r 1) i) (lane (row_at c.args.r 2) i)
    (lane (row_at c.args.r 3) i) (lane (row_at c.args.r 4) i) (lane (row_at c.args.r 5) i)
    (lane (row_at c.args.r 6) i) (lane (row_at c.args.r 7) i) p0 p1 p2 p3 (c.eight_times.ensures.sum i hi)

pub returns-clause-middle : goal.returns-clause-middle
returns-clause-middle c i hi =
    let r0 = passed_lane16 255 i (lit≤ tt) (c.requires 0 (lit< tt)) in
    let r1 = passed_lane16 255 i (lit≤ tt) (c.requires 1 (lit< tt)) in
    let r2 = passed_lane16 255 i (lit≤ tt) (c.requires 2 (lit< tt)) in
    let r3 = passed_lane16 255 i (lit≤ tt) (c.requires 3 (lit< tt)) in
    let r4 = passed_lane16 255 i (lit≤ tt) (c.requires 4 (lit< tt)) in
    let r5 = passed_lane16 255 i (lit≤ tt) (c.requires 5 (lit< tt)) in
    let r6 = passed_lane16 255 i (lit≤ tt) (c.requires 6 (lit< tt)) in
    let r7 = passed_lane16 255 i (lit≤ tt) (c.requires 7 (lit< tt)) in
    let p0 = passed_lane16 510 i (lit≤ tt) c.mirrored_sum.ensures.size
    ∙ sum_of (c.mirrored_sum.ensures.sum i hi) r0 r7 in
    let p1 = passed_lane16 510 i (lit≤ tt) c.mirrored_sum-2.ensures.size
    ∙ sum_of (c.mirrored_sum-2.ensures.sum i hi) r1 r6 in
    let p2 = passed_lane16 510 i (lit≤ tt) c.mirrored_sum-3.ensures.size
    ∙ sum_of (c.mirrored_sum-3.ensures.sum i hi) r2 r5 in
    let p3 = passed_lane16 510 i (lit≤ tt) c.mirrored_sum-4.ensures.size
    ∙ sum_of (c.mirrored_sum-4.ensures.sum i hi) r3 r4 in
    middle_is (lane (row_at c.args.r 0) i) (lane (row_at c.args.r 1) i) (lane (row_at c.args.r 2) i)
    (lane (row_at c.args.r 3) i) (lane (row_at c.args.r 4) i) (lane (row_at c.args.r 5) i)
    (lane (row_at c.args.r 6) i) (lane (row_at c.args.r 7) i) p0 p1 p2 p3 (c.eight_times.ensures.difference i hi)
