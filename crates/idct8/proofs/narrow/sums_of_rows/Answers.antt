-- Lane j of sum k is sum k of row j, within its bound.
use Rattle.std.proofs.Common.{◌≡◌, ℕ, ◌+◌, ◌*◌, ◌^◌, ◌<◌, ◌≤◌, ◌∙◌, List, ℤ, pos, map, ap, sym, refl, arith, lit≤, length, length-set, replicate, w16, w32, to_z, of_z, Bool, true, false, nat_le}
use Rattle.std.proofs.lemmas.Bool.{leb-true, leb-false}
use Rattle.idct8.specs.Passes.{row_sums}
use Rattle.idct8.specs.Transform.{entry}
use Rattle.idct8.specs.Vectors.{lane, sum_at, EightWithin}
use Rattle.idct8.specs.declared.passes.Direction.TheVariants.{Inverse}
use Rattle.idct8.proofs.Eights.{one_sum, sum_other, sum_with}
use Rattle.idct8.proofs.Factors.{within_pass, within_same}
use Rattle.idct8.proofs.Steps.{row_terms}
use Rattle.idct8.proofs.Sums.{below_eight}
use Rattle.idct8.proofs.Vectors.{passed_lane, passed_lane16, passed_within, passed_within16}
use Rattle.idct8.proofs.Zeros.{sums_of_zeros}
use Rattle.idct8.proofs.narrow.sums_of_rows.Goals as goal

pub row_of_sums-requires : goal.row_of_sums-requires
row_of_sums-requires c = passed_within16 8191 8191 (lit≤ tt) (lit≤ tt) c.row.ensures.size

pub loop-j-preserved : goal.loop-j-preserved
loop-j-preserved c =
    let j : ℕ = c.loop-j.j in
    let sums = c.loop-j.sums in
    let values = c.args.values.now in
    let below : j < 8 = omega (arith, c.loop-j-test.true, c.requires.count) in
    let long : length sums ≡ 8 = c.loop-j.invariant.0 in
    let read : List ℤ = map (to_z w32) (map (of_z w32) c.row_of_sums.result) in
    let numbers = λ (i : ℕ) (hi : i < 8). passed_lane16 8191 i (lit≤ tt) c.row.ensures.size
    ∙ c.row.ensures.numbers i hi in
    let own : (k : ℕ) → k < 8 → lane read k ≡ row_sums Inverse values j k = λ k hk.
    passed_lane (2 ^ 28) k (lit≤ tt) c.row_of_sums.ensures.size
    ∙ c.row_of_sums.ensures.sums k hk
    ∙ row_terms Inverse (map (to_z w16) (map (of_z w16) c.row.result)) values j k numbers in (
      length-set sums j (sum_with read) ∙ long,
      one_sum (λ j v. EightWithin (2 ^ 28) v × ((k : ℕ) → k < 8 → lane v k ≡ row_sums Inverse values j k)) sums j read
          (omega (arith, below, long)) c.loop-j.invariant.1
          (passed_within (2 ^ 28) (2 ^ 28) (lit≤ tt) (lit≤ tt) c.row_of_sums.ensures.size, own),
      λ i from hi. sum_other sums j i read (omega (arith, from)) ∙ c.loop-j.invariant.2 i (omega (arith, from)) hi,
    )

zero_lane : (k : ℕ) → k < 8 → lane (replicate 8 (pos 0)) k ≡ pos 0
zero_lane = below_eight (λ k. lane (replicate 8 (pos 0)) k ≡ pos 0) refl refl refl refl refl refl refl refl

pub returns-clause-sums : goal.returns-clause-sums
returns-clause-sums c j k hj hk = by_row (nat_le c.loop-j.j j) refl
  where
    by_row : (t : Bool) → nat_le c.loop-j.j j ≡ t → lane (sum_at c.loop-j.sums j) k
        ≡ row_sums Inverse c.args.values.now j k
    by_row true e =
        let past : c.loop-j.j ≤ j = leb-true c.loop-j.j j e in
        ap (λ (v : List ℤ). lane v k) (c.loop-j.invariant.2 j past hj)
        ∙ zero_lane k hk
        ∙ sym (sums_of_zeros c.args.values.now j k
        (λ i hi. c.requires.zeros j i (omega (arith, past, c.loop-j-test.false)) hj hi))
    by_row false e = (c.loop-j.invariant.1 j (leb-false c.loop-j.j j e)).1 k hk

sums_long : (sums : List ℤ) → sums ≡ replicate 8 (pos 0) → length sums ≡ 8
sums_long sums e = ap length e

pub returns-clause-size : goal.returns-clause-size
returns-clause-size c j hj = record {
  long = by_row (nat_le c.loop-j.j j) refl;
  within = λ k hk.
      within_same (2841 * 2 ^ 11 * 8) 46546944 (lit≤ tt) (returns-clause-sums c j k hj hk)
      (within_pass Inverse (2 ^ 11) k (λ i. entry c.args.values.now j i) hk (λ i hi. c.requires.values (8 * j + i)
      (pos 0) (omega arith)));
}
  where
    by_row : (t : Bool) → nat_le c.loop-j.j j ≡ t → length (sum_at c.loop-j.sums j) ≡ 8
    by_row true e = sums_long (sum_at c.loop-j.sums j) (c.loop-j.invariant.2 j (leb-true c.loop-j.j j e) hj)
    by_row false e = (c.loop-j.invariant.1 j (leb-false c.loop-j.j j e)).0.long
