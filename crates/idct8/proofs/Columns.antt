-- The eight sums of the second pass in plain 32 bits, with half of what rounding divides by, as the lanes group them.
use Rattle.std.proofs.Common.{◌≡◌, ℕ, ◌<◌, ℤ, pos, ◌+ℤ◌, ◌-ℤ◌, ◌*ℤ◌, neg_ℤ, List, map, arith, [], ◌∷◌, ap, ◌∙◌, sym, w32, to_z}
use Rattle.std.proofs.lemmas.Int.{ints}
use Rattle.idct8.specs.declared.passes.Sum.{Sum}
use Rattle.idct8.specs.declared.passes.Direction.TheVariants.{Inverse}
use Rattle.idct8.specs.Passes.{AreColumnSums, pass_at}
use Rattle.idct8.specs.Ranges.{Within}
use Rattle.idct8.specs.Vectors.{column_at}
use Rattle.idct8.proofs.Low.{Lows, exact, exact_size}
use Rattle.idct8.proofs.Rotations.{inverse_0, inverse_1, inverse_2, inverse_3, inverse_4, inverse_5, inverse_6, inverse_7}

with_half : (z : ℤ) → Within 2130706431 z → Within 2147483647 (z +ℤ pos 16777216)
with_half z h = (omega (arith, ints, h), omega (arith, ints, h))

-- a vector with the low bits of sum y is this sum, where it fits
pub column_sums : (s : List Sum) (y : ℕ) → ((i : ℕ) → i < 8 → Within 2130706431 (pass_at Inverse (column_at s i) y))
    → {us : List ℕ} {f : ℕ → ℤ} → Lows us f →
    ((i : ℕ) → i < 8 → f i ≡ pass_at Inverse (column_at s i) y +ℤ pos 16777216) → AreColumnSums s y (map (to_z w32) us)
column_sums s y fits u same = record {
  sums = exact (λ i. pass_at Inverse (column_at s i) y +ℤ pos 16777216) u same
      (λ i hi. with_half (pass_at Inverse (column_at s i) y) (fits i hi));
  size = exact_size (λ i. pass_at Inverse (column_at s i) y +ℤ pos 16777216) u same
      (λ i hi. with_half (pass_at Inverse (column_at s i) y) (fits i hi));
}

module _ (c0 c1 c2 c3 c4 c5 c6 c7 : ℤ) where
  pub column_0 : pos 2048 *ℤ c0 +ℤ pos 16777216 +ℤ pos 2048 *ℤ c4 +ℤ (pos 2676 *ℤ c2 +ℤ pos 1108 *ℤ c6) +ℤ
      (pos 2841 *ℤ c1 +ℤ pos 2408 *ℤ c3 +ℤ (pos 1609 *ℤ c5 +ℤ pos 565 *ℤ c7))
      ≡ pass_at Inverse (c0 ∷ c1 ∷ c2 ∷ c3 ∷ c4 ∷ c5 ∷ c6 ∷ c7 ∷ []) 0 +ℤ pos 16777216
  column_0 = let plain : pos 2048 *ℤ c0 +ℤ pos 16777216 +ℤ pos 2048 *ℤ c4 +ℤ (pos 2676 *ℤ c2 +ℤ pos 1108 *ℤ c6) +ℤ
      (pos 2841 *ℤ c1 +ℤ pos 2408 *ℤ c3 +ℤ (pos 1609 *ℤ c5 +ℤ pos 565 *ℤ c7))
      ≡ pos 0 +ℤ pos 2048 *ℤ c0 +ℤ pos 2841 *ℤ c1 +ℤ pos 2676 *ℤ c2 +ℤ pos 2408 *ℤ c3 +ℤ pos 2048 *ℤ c4 +ℤ pos 1609 *ℤ
      c5 +ℤ pos 1108 *ℤ c6 +ℤ pos 565 *ℤ c7 +ℤ pos 16777216 = omega (arith, ints) in plain
      ∙ ap (λ (z : ℤ). z +ℤ pos 16777216) (sym (inverse_0 c0 c1 c2 c3 c4 c5 c6 c7))

  pub column_1 : pos 2048 *ℤ c0 +ℤ pos 16777216 -ℤ pos 2048 *ℤ c4 +ℤ (pos 1108 *ℤ c2 -ℤ pos 2676 *ℤ c6) +ℤ
      (pos 2408 *ℤ c1 -ℤ pos 565 *ℤ c3 -ℤ (pos 2841 *ℤ c5 +ℤ pos 1609 *ℤ c7))
      ≡ pass_at Inverse (c0 ∷ c1 ∷ c2 ∷ c3 ∷ c4 ∷ c5 ∷ c6 ∷ c7 ∷ []) 1 +ℤ pos 16777216
  column_1 = let plain : pos 2048 *ℤ c0 +ℤ pos 16777216 -ℤ pos 2048 *ℤ c4 +ℤ (pos 1108 *ℤ c2 -ℤ pos 2676 *ℤ c6) +ℤ
      (pos 2408 *ℤ c1 -ℤ pos 565 *ℤ c3 -ℤ (pos 2841 *ℤ c5 +ℤ pos 1609 *ℤ c7))
      ≡ pos 0 +ℤ pos 2048 *ℤ c0 +ℤ pos 2408 *ℤ c1 +ℤ pos 1108 *ℤ c2 +ℤ neg_ℤ (pos 565) *ℤ c3 +ℤ neg_ℤ
      (pos 2048) *ℤ c4 +ℤ neg_ℤ (pos 2841) *ℤ c5 +ℤ neg_ℤ (pos 2676) *ℤ c6 +ℤ neg_ℤ (pos 1609) *ℤ c7 +ℤ pos 16777216 =
      omega (arith, ints) in plain ∙ ap (λ (z : ℤ). z +ℤ pos 16777216) (sym (inverse_1 c0 c1 c2 c3 c4 c5 c6 c7))

  pub column_2 : pos 2048 *ℤ c0 +ℤ pos 16777216 -ℤ pos 2048 *ℤ c4 -ℤ (pos 1108 *ℤ c2 -ℤ pos 2676 *ℤ c6) +ℤ
      (pos 1609 *ℤ c1 -ℤ pos 2841 *ℤ c3 +ℤ (pos 565 *ℤ c5 +ℤ pos 2408 *ℤ c7))
      ≡ pass_at Inverse (c0 ∷ c1 ∷ c2 ∷ c3 ∷ c4 ∷ c5 ∷ c6 ∷ c7 ∷ []) 2 +ℤ pos 16777216
  column_2 = let plain : pos 2048 *ℤ c0 +ℤ pos 16777216 -ℤ pos 2048 *ℤ c4 -ℤ (pos 1108 *ℤ c2 -ℤ pos 2676 *ℤ c6) +ℤ
      (pos 1609 *ℤ c1 -ℤ pos 2841 *ℤ c3 +ℤ (pos 565 *ℤ c5 +ℤ pos 2408 *ℤ c7))
      ≡ pos 0 +ℤ pos 2048 *ℤ c0 +ℤ pos 1609 *ℤ c1 +ℤ neg_ℤ (pos 1108) *ℤ c2 +ℤ neg_ℤ (pos 2841) *ℤ c3 +ℤ neg_ℤ
      (pos 2048) *ℤ c4 +ℤ pos 565 *ℤ c5 +ℤ pos 2676 *ℤ c6 +ℤ pos 2408 *ℤ c7 +ℤ pos 16777216 = omega (arith, ints) in
      plain ∙ ap (λ (z : ℤ). z +ℤ pos 16777216) (sym (inverse_2 c0 c1 c2 c3 c4 c5 c6 c7))

  pub column_3 : pos 2048 *ℤ c0 +ℤ pos 16777216 +ℤ pos 2048 *ℤ c4 -ℤ (pos 2676 *ℤ c2 +ℤ pos 1108 *ℤ c6) +ℤ
      (pos 565 *ℤ c1 -ℤ pos 1609 *ℤ c3 +ℤ (pos 2408 *ℤ c5 -ℤ pos 2841 *ℤ c7))
      ≡ pass_at Inverse (c0 ∷ c1 ∷ c2 ∷ c3 ∷ c4 ∷ c5 ∷ c6 ∷ c7 ∷ []) 3 +ℤ pos 16777216
  column_3 = let plain : pos 2048 *ℤ c0 +ℤ pos 16777216 +ℤ pos 2048 *ℤ c4 -ℤ (pos 2676 *ℤ c2 +ℤ pos 1108 *ℤ c6) +ℤ
      (pos 565 *ℤ c1 -ℤ pos 1609 *ℤ c3 +ℤ (pos 2408 *ℤ c5 -ℤ pos 2841 *ℤ c7))
      ≡ pos 0 +ℤ pos 2048 *ℤ c0 +ℤ pos 565 *ℤ c1 +ℤ neg_ℤ (pos 2676) *ℤ c2 +ℤ neg_ℤ (pos 1609) *ℤ c3 +ℤ pos 2048 *ℤ c4
      +ℤ pos 2408 *ℤ c5 +ℤ neg_ℤ (pos 1108) *ℤ c6 +ℤ neg_ℤ (pos 2841) *ℤ c7 +ℤ pos 16777216 = omega (arith, ints) in
      plain ∙ ap (λ (z : ℤ). z +ℤ pos 16777216) (sym (inverse_3 c0 c1 c2 c3 c4 c5 c6 c7))

  pub column_4 : pos 2048 *ℤ c0 +ℤ pos 16777216 +ℤ pos 2048 *ℤ c4 -ℤ (pos 2676 *ℤ c2 +ℤ pos 1108 *ℤ c6) -ℤ
      (pos 565 *ℤ c1 -ℤ pos 1609 *ℤ c3 +ℤ (pos 2408 *ℤ c5 -ℤ pos 2841 *ℤ c7))
      ≡ pass_at Inverse (c0 ∷ c1 ∷ c2 ∷ c3 ∷ c4 ∷ c5 ∷ c6 ∷ c7 ∷ []) 4 +ℤ pos 16777216
  column_4 = let plain : pos 2048 *ℤ c0 +ℤ pos 16777216 +ℤ pos 2048 *ℤ c4 -ℤ (pos 2676 *ℤ c2 +ℤ pos 1108 *ℤ c6) -ℤ
      (pos 565 *ℤ c1 -ℤ pos 1609 *ℤ c3 +ℤ (pos 2408 *ℤ c5 -ℤ pos 2841 *ℤ c7))
      ≡ pos 0 +ℤ pos 2048 *ℤ c0 +ℤ neg_ℤ (pos 565) *ℤ c1 +ℤ neg_ℤ (pos 2676) *ℤ c2 +ℤ pos 1609 *ℤ c3 +ℤ pos 2048 *ℤ c4
      +ℤ neg_ℤ (pos 2408) *ℤ c5 +ℤ neg_ℤ (pos 1108) *ℤ c6 +ℤ pos 2841 *ℤ c7 +ℤ pos 16777216 = omega (arith, ints) in
      plain ∙ ap (λ (z : ℤ). z +ℤ pos 16777216) (sym (inverse_4 c0 c1 c2 c3 c4 c5 c6 c7))

  pub column_5 : pos 2048 *ℤ c0 +ℤ pos 16777216 -ℤ pos 2048 *ℤ c4 -ℤ (pos 1108 *ℤ c2 -ℤ pos 2676 *ℤ c6) -ℤ
      (pos 1609 *ℤ c1 -ℤ pos 2841 *ℤ c3 +ℤ (pos 565 *ℤ c5 +ℤ pos 2408 *ℤ c7))
      ≡ pass_at Inverse (c0 ∷ c1 ∷ c2 ∷ c3 ∷ c4 ∷ c5 ∷ c6 ∷ c7 ∷ []) 5 +ℤ pos 16777216
  column_5 = let plain : pos 2048 *ℤ c0 +ℤ pos 16777216 -ℤ pos 2048 *ℤ c4 -ℤ (pos 1108 *ℤ c2 -ℤ pos 2676 *ℤ c6) -ℤ
      (pos 1609 *ℤ c1 -ℤ pos 2841 *ℤ c3 +ℤ (pos 565 *ℤ c5 +ℤ pos 2408 *ℤ c7))
      ≡ pos 0 +ℤ pos 2048 *ℤ c0 +ℤ neg_ℤ (pos 1609) *ℤ c1 +ℤ neg_ℤ (pos 1108) *ℤ c2 +ℤ pos 2841 *ℤ c3 +ℤ neg_ℤ
      (pos 2048) *ℤ c4 +ℤ neg_ℤ (pos 565) *ℤ c5 +ℤ pos 2676 *ℤ c6 +ℤ neg_ℤ (pos 2408) *ℤ c7 +ℤ pos 16777216 =
      omega (arith, ints) in plain ∙ ap (λ (z : ℤ). z +ℤ pos 16777216) (sym (inverse_5 c0 c1 c2 c3 c4 c5 c6 c7))

  pub column_6 : pos 2048 *ℤ c0 +ℤ pos 16777216 -ℤ pos 2048 *ℤ c4 +ℤ (pos 1108 *ℤ c2 -ℤ pos 2676 *ℤ c6) -ℤ
      (pos 2408 *ℤ c1 -ℤ pos 565 *ℤ c3 -ℤ (pos 2841 *ℤ c5 +ℤ pos 1609 *ℤ c7))
      ≡ pass_at Inverse (c0 ∷ c1 ∷ c2 ∷ c3 ∷ c4 ∷ c5 ∷ c6 ∷ c7 ∷ []) 6 +ℤ pos 16777216
  column_6 = let plain : pos 2048 *ℤ c0 +ℤ pos 16777216 -ℤ pos 2048 *ℤ c4 +ℤ (pos 1108 *ℤ c2 -ℤ pos 2676 *ℤ c6) -ℤ
      (pos 2408 *ℤ c1 -ℤ pos 565 *ℤ c3 -ℤ (pos 2841 *ℤ c5 +ℤ pos 1609 *ℤ c7))
      ≡ pos 0 +ℤ pos 2048 *ℤ c0 +ℤ neg_ℤ (pos 2408) *ℤ c1 +ℤ pos 1108 *ℤ c2 +ℤ pos 565 *ℤ c3 +ℤ neg_ℤ
      (pos 2048) *ℤ c4 +ℤ pos 2841 *ℤ c5 +ℤ neg_ℤ (pos 2676) *ℤ c6 +ℤ pos 1609 *ℤ c7 +ℤ pos 16777216 = omega (
        arith,
        ints,
      ) in plain ∙ ap (λ (z : ℤ). z +ℤ pos 16777216) (sym (inverse_6 c0 c1 c2 c3 c4 c5 c6 c7))

  pub column_7 : pos 2048 *ℤ c0 +ℤ pos 16777216 +ℤ pos 2048 *ℤ c4 +ℤ (pos 2676 *ℤ c2 +ℤ pos 1108 *ℤ c6) -ℤ
      (pos 2841 *ℤ c1 +ℤ pos 2408 *ℤ c3 +ℤ (pos 1609 *ℤ c5 +ℤ pos 565 *ℤ c7))
      ≡ pass_at Inverse (c0 ∷ c1 ∷ c2 ∷ c3 ∷ c4 ∷ c5 ∷ c6 ∷ c7 ∷ []) 7 +ℤ pos 16777216
  column_7 = let plain : pos 2048 *ℤ c0 +ℤ pos 16777216 +ℤ pos 2048 *ℤ c4 +ℤ (pos 2676 *ℤ c2 +ℤ pos 1108 *ℤ c6) -ℤ
      (pos 2841 *ℤ c1 +ℤ pos 2408 *ℤ c3 +ℤ (pos 1609 *ℤ c5 +ℤ pos 565 *ℤ c7))
      ≡ pos 0 +ℤ pos 2048 *ℤ c0 +ℤ neg_ℤ (pos 2841) *ℤ c1 +ℤ pos 2676 *ℤ c2 +ℤ neg_ℤ (pos 2408) *ℤ c3 +ℤ pos 2048 *ℤ c4
      +ℤ neg_ℤ (pos 1609) *ℤ c5 +ℤ pos 1108 *ℤ c6 +ℤ neg_ℤ (pos 565) *ℤ c7 +ℤ pos 16777216 = omega (arith, ints) in
      plain ∙ ap (λ (z : ℤ). z +ℤ pos 16777216) (sym (inverse_7 c0 c1 c2 c3 c4 c5 c6 c7))
