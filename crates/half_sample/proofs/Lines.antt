-- Lines of samples, and the rows half a sample off them.
use Rattle.std.proofs.Common.{◌≡◌, ℕ, ◌+◌, ◌-◌, ◌≤◌, ◌<◌, List, get_or, length, map, take, drop, slice_range, true, false, sym, ap, ◌∙◌, arith}
use Rattle.std.specs.List.{range_with_len}
use Rattle.std.proofs.lemmas.Grind.{same_number_lists}
use Rattle.std.proofs.lemmas.List.{get_or-take, get_or-drop}
use Rattle.std.proofs.lemmas.List.FromFn.{length-map-range_with_len, get_or-map-range_with_len}
use Rattle.h263_planes.specs.Picture.{Picture}
use Rattle.h263_planes.specs.Samples.{sample_at}
use Rattle.h263_planes.specs.declared.Plane.TheVariants.{Y}
use Rattle.half_sample.specs.Averages.{average, average4}
use Rattle.half_sample.specs.Prediction.{interpolated}
use Rattle.half_sample.specs.Rows.{sixteen_from}

at_sixteen : (p : Picture) (x y i : ℕ) → i < 16 → get_or (sixteen_from p x y) i 0 ≡ sample_at p Y (x + i) y
unfolding sixteen_from
at_sixteen p x y i h = get_or-map-range_with_len (λ i. sample_at p Y (x + i) y) 0 16 i i 0 h (omega arith)

-- sixteen of eighteen samples of a row
pub part_from : (p : Picture) (x to y at : ℕ) (row part : List ℕ) → to ≡ x + at → at ≤ 2 →
    ((i : ℕ) → i < 18 → get_or row i 0 ≡ sample_at p Y (x + i) y) → part ≡ slice_range row at (at + 16)
    → length part ≡ 16 → part ≡ sixteen_from p to y
unfolding sixteen_from
part_from p x to y at row part et hat are e long =
    let f = λ (i : ℕ). sample_at p Y (to + i) y in
    let n : at + 16 - at ≡ 16 = omega arith in
    same_number_lists part (map f (range_with_len 0 16)) (long ∙ sym (length-map-range_with_len f 0 16))
    (λ i hi.
    let h : i < 16 = omega (arith, hi, long) in
    let place : x + (at + i) ≡ to + i = omega (arith, et) in
    ap (λ (l : List ℕ). get_or l i 0) (e ∙ ap (λ (k : ℕ). take k (drop at row)) n) ∙ get_or-take 16 (drop at row) i 0 h
    ∙ get_or-drop at row i 0
    ∙ are (at + i) (omega (arith, h, hat)) ∙ ap (λ (k : ℕ). sample_at p Y k y) place
    ∙ sym (get_or-map-range_with_len f 0 16 i i 0 h (omega arith)))

module _ (p : Picture) (r x y i : ℕ) (h : i < 16) where
  next : get_or (sixteen_from p (x + 1) y) i 0 ≡ sample_at p Y (x + i + 1) y
  next = let place : x + 1 + i ≡ x + i + 1 = omega arith in at_sixteen p (x + 1) y i h
      ∙ ap (λ (k : ℕ). sample_at p Y k y) place

  below : (z : ℕ) → z ≡ y + 1 → get_or (sixteen_from p x z) i 0 ≡ sample_at p Y (x + i) (y + 1)
  below z e = at_sixteen p x z i h ∙ ap (sample_at p Y (x + i)) e

  next_below : (z : ℕ) → z ≡ y + 1 → get_or (sixteen_from p (x + 1) z) i 0 ≡ sample_at p Y (x + i + 1) (y + 1)
  next_below z e =
      let place : x + 1 + i ≡ x + i + 1 = omega arith in
      at_sixteen p (x + 1) z i h ∙ ap (λ (k : ℕ). sample_at p Y k z) place ∙ ap (sample_at p Y (x + i + 1)) e

  -- half a sample further right
  pub right_of : (n : ℕ) → n ≡ average r (get_or (sixteen_from p x y) i 0) (get_or (sixteen_from p (x + 1) y) i 0)
      → n ≡ interpolated p Y true false r (x + i) y
  right_of n e = e ∙ cc (at_sixteen p x y i h, next)

  -- half a sample further down
  pub below_of : (n z : ℕ) → z ≡ y + 1
      → n ≡ average r (get_or (sixteen_from p x y) i 0) (get_or (sixteen_from p x z) i 0)
      → n ≡ interpolated p Y false true r (x + i) y
  below_of n z ez e = e ∙ cc (at_sixteen p x y i h, below z ez)

  -- both
  pub between_of : (n z : ℕ) → z ≡ y + 1 →
      n ≡ average4 r (get_or (sixteen_from p x y) i 0) (get_or (sixteen_from p (x + 1) y) i 0)
      (get_or (sixteen_from p x z) i 0) (get_or (sixteen_from p (x + 1) z) i 0) →
      n ≡ interpolated p Y true true r (x + i) y
  between_of n z ez e = e ∙ cc (at_sixteen p x y i h, next, below z ez, next_below z ez)
