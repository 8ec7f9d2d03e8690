-- The predicted sample: vectors by H.263, 6.1.1, and samples between samples by 6.1.2.
use Rattle.std.specs.Prelude.{◌≡◌, ℕ, ◌+◌, ◌*◌, ◌/◌, ◌%◌, ◌<◌, Bool, true, false, not, cond, ℤ, pos, ◌+ℤ◌, unsigned_abs, nat_eq, List, slice_index}
use Rattle.std.specs.Int.{int_shr}
use Rattle.h263_types.specs.declared.format.Format.{Format}
use Rattle.h263_types.specs.declared.vector.Vector.{Vector}
use Rattle.h263_types.specs.Sizes.{columns_of}
use Rattle.h263_planes.specs.Picture.{Picture}
use Rattle.h263_planes.specs.Samples.{sample_at, Inside}
use Rattle.h263_planes.specs.declared.Plane.{Plane}
use Rattle.h263_planes.specs.declared.Plane.TheVariants.{Y, Cb, Cr}
use Rattle.half_sample.specs.Averages.{average, average4}

-- one of the two planes of colour
abbrev pub IsColour : Plane → Type 0
IsColour Y = ⊥
IsColour Cb = Unit {0}
IsColour Cr = Unit {0}

-- how many columns and rows of samples a macroblock has in a plane
abbrev pub columns_in : Plane → ℕ
columns_in Y = 16
columns_in Cb = 8
columns_in Cr = 8

-- the whole samples of a component, rounded down: a component counts half samples of Y, quarters of Cb and Cr
abbrev pub whole_part : Plane → ℤ → ℤ
whole_part Y v = int_shr v 1
whole_part Cb v = int_shr v 2
whole_part Cr v = int_shr v 2

-- whether a component leads half a sample further: of Y where it is odd, of Cb and Cr at each of the three quarters
abbrev pub is_half : Plane → ℤ → Bool
is_half Y v = nat_eq (unsigned_abs v % 2) 1
is_half Cb v = not (nat_eq (unsigned_abs v % 4) 0)
is_half Cr v = not (nat_eq (unsigned_abs v % 4) 0)

-- the sample in column x of row y, or half a sample further right and down where the tests say so;
-- r is the rounding bit
abbrev pub interpolated : Picture → Plane → Bool → Bool → ℕ → ℕ → ℕ → ℕ
interpolated p plane false false r x y = sample_at p plane x y
interpolated p plane true false r x y = average r (sample_at p plane x y) (sample_at p plane (x + 1) y)
interpolated p plane false true r x y = average r (sample_at p plane x y) (sample_at p plane x (y + 1))
interpolated p plane true true r x y =
    average4 r (sample_at p plane x y) (sample_at p plane (x + 1) y)
    (sample_at p plane x (y + 1)) (sample_at p plane (x + 1) (y + 1))

-- the place that whole samples lead to
abbrev pub moved_whole : ℕ → ℤ → ℕ
moved_whole x whole = unsigned_abs (pos x +ℤ whole)

-- the sample that is predicted in column x of row y by a vector
abbrev pub predicted_sample : Picture → Plane → ℕ → ℕ → Vector → ℕ → ℕ
predicted_sample p plane x y v r =
    interpolated p plane (is_half plane v.x)
    (is_half plane v.y) r (moved_whole x (whole_part plane v.x)) (moved_whole y (whole_part plane v.y))

-- the vector one whole luma sample further down
abbrev pub one_below : Vector → Vector
one_below v = record { x = v.x; y = v.y +ℤ pos 2 }

-- the samples of macroblock `at` in a plane, by rows of n, are those that a vector predicts
abbrev pub ArePredicted : ℕ → Picture → Plane → ℕ → Vector → ℕ → List ℕ → Type 0
ArePredicted n p plane at v r samples =
    (j i : ℕ) → j < n → i < n → slice_index samples (n * j + i)
    ≡ predicted_sample p plane (n * (at % columns_of p.format) + i) (n * (at / columns_of p.format) + j) v r

-- the samples that n predicted ones in a row read lie inside the plane
abbrev pub ReadsInside : Format → Plane → Bool → Bool → ℕ → ℕ → ℕ → Type 0
ReadsInside f plane half_x half_y x y n = Inside f plane x (y + cond half_y 1 0) (n + cond half_x 1 0)
