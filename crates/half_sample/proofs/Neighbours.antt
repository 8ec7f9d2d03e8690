-- The eight neighbours of a vector of whole samples, from the one above on the left.
use Rattle.std.proofs.Common.{◌≡◌, ℕ, zero, suc, negsuc, refl, ◌+◌, ◌*◌, ◌/◌, ◌%◌, ℤ, pos, ◌+ℤ◌, Bool, true, false, nat_eq, List, get_or, drop, arith, ap, ◌∙◌, sym, subst, unsigned_abs}
use Rattle.std.proofs.lemmas.Int.{ints}
use Rattle.std.proofs.lemmas.List.{get_or-drop}
use Rattle.std.proofs.lemmas.Bool.Decides.{nat_tests}
use Rattle.std.specs.Int.{int_shr}
use Rattle.h263_types.specs.declared.format.Format.{Format}
use Rattle.h263_types.specs.declared.vector.Vector.{Vector}
use Rattle.h263_types.specs.Sizes.{width_of, height_of, columns_of}
use Rattle.h263_types.specs.Vectors.{whole_place, InReach}
use Rattle.h263_planes.specs.Picture.{Picture}
use Rattle.h263_planes.specs.Samples.{Inside}
use Rattle.h263_planes.specs.declared.Plane.TheVariants.{Y}
use Rattle.half_sample.specs.Prediction.{interpolated, is_half, ArePredicted}
use Rattle.half_sample.specs.Places.{IsHalfOf, LeadsTo}
use Rattle.half_sample.specs.Around.{AreAround, down_by, right_by, IsBetween}
use Rattle.half_sample.specs.Rows.{AreRowsAround, AreRowsFrom}
use Rattle.half_sample.specs.declared.around.Around.{Around}
use Rattle.half_sample.specs.declared.place.Half.{Half}
use Rattle.half_sample.specs.declared.place.Place.{Place}
use Rattle.half_sample.proofs.Places.{block_sample, further, luma_ends, one_further}

-- ---- a component

odd_of : (v : ℤ) → is_half Y v ≡ true → unsigned_abs v % 2 ≡ 1
odd_of v h = grind (arith, nat_tests, h)

-- from half a sample to the next whole one
half_on : (v : ℤ) → unsigned_abs v % 2 ≡ 1 → (int_shr (v +ℤ pos 1) 1 ≡ int_shr v 1 +ℤ pos 1)
    × (unsigned_abs (v +ℤ pos 1) % 2 ≡ 0)
half_on (pos n) h =
    let e : pos n +ℤ pos 1 ≡ pos (n + 1) = omega (arith, ints) in
    subst (λ (w : ℤ). (int_shr w 1 ≡ int_shr (pos n) 1 +ℤ pos 1) × (unsigned_abs w % 2 ≡ 0)) (sym e)
    (omega (arith, ints, h), omega (arith, h))
half_on (negsuc zero) h = (refl, refl)
half_on (negsuc (suc n)) h =
    let e : negsuc (suc n) +ℤ pos 1 ≡ negsuc n = omega (arith, ints) in
    subst (λ (w : ℤ). (int_shr w 1 ≡ int_shr (negsuc (suc n)) 1 +ℤ pos 1) × (unsigned_abs w % 2 ≡ 0)) (sym e)
    (omega (arith, ints, h), omega (arith, h))

half_further : (at x : ℕ) (v : ℤ) → is_half Y v ≡ true → pos x ≡ whole_place at v
    → pos (x + 1) ≡ whole_place at (v +ℤ pos 1)
half_further at x v odd h = omega (arith, ints, h, (half_on v (odd_of v odd)).0)

is_whole : (v : ℤ) → is_half Y v ≡ true → false ≡ is_half Y (v +ℤ pos 1)
is_whole v odd = sym (ap (λ (n : ℕ). nat_eq n 1) (half_on v (odd_of v odd)).1)

is_odd : (v : ℤ) → is_half Y v ≡ true → true ≡ is_half Y (v +ℤ pos 2)
is_odd v odd = sym (ap (λ (n : ℕ). nat_eq n 1) (further v).1 ∙ odd)

-- ---- rows

abbrev at_place : ℕ → ℕ → Place
at_place x y = record { x = x; y = y }

abbrev halves : Bool → Bool → Half
halves x y = record { x = x; y = y }

-- the first sixteen rows from a place on
upper_rows : (p : Picture) (r mb x y : ℕ) (v : Vector) (hx hy : Bool) (samples : List ℕ) →
    LeadsTo 16 p.format Y mb v (at_place x y) → IsHalfOf Y v (halves hx hy) → AreRowsFrom p hx hy r x y 17 samples
    → ArePredicted 16 p Y mb v r samples
upper_rows p r mb x y v hx hy samples leads is rows = λ j i hj hi.
    rows j i (omega (arith, hj)) hi ∙ block_sample 16 p Y r mb i j v (at_place x y) (halves hx hy) leads is

-- and the last sixteen
lower_rows : (p : Picture) (r mb x y : ℕ) (v : Vector) (hx hy : Bool) (samples : List ℕ) →
    LeadsTo 16 p.format Y mb v (at_place x (y + 1)) → IsHalfOf Y v (halves hx hy) → AreRowsFrom p hx hy r x y 17 samples
    → ArePredicted 16 p Y mb v r (drop 16 samples)
lower_rows p r mb x y v hx hy samples leads is rows = λ j i hj hi.
    let place : 16 + (16 * j + i) ≡ 16 * (j + 1) + i = omega arith in
    let row : y + (j + 1) ≡ y + 1 + j = omega arith in
    get_or-drop 16 samples (16 * j + i) 0
    ∙ ap (λ (k : ℕ). get_or samples k 0) place
    ∙ rows (j + 1) i (omega (arith, hj)) hi
    ∙ ap (interpolated p Y hx hy r (x + i)) row
    ∙ block_sample 16 p Y r mb i j v (at_place x (y + 1)) (halves hx hy) leads is

-- ---- all of them

pub all_around : (p : Picture) (r mb : ℕ) (v : Vector) (to : Place) (a : Around) → IsBetween v
    → LeadsTo 16 p.format Y mb v to →
    AreRowsAround p r to.x to.y 17 a → AreAround p mb v r a
all_around p r mb v to a odd leads rows =
    let x = to.x in
    let y = to.y in
    let left = 16 * (mb % columns_of p.format) in
    let top = 16 * (mb / columns_of p.format) in
    let x1 = half_further left x v.x odd.x leads.x in
    let x2 = one_further left x v.x leads.x in
    let y1 = half_further top y v.y odd.y leads.y in
    let y2 = one_further top y v.y leads.y in
    record {
      up_left = upper_rows p r mb x y v true true a.up_left (record { x = leads.x; y = leads.y })
          (record { x = sym odd.x; y = sym odd.y }) rows.up_left;
      up = upper_rows p r mb (x + 1) y (right_by 1 v) false true a.up (record { x = x1; y = leads.y })
          (record { x = is_whole v.x odd.x; y = sym odd.y }) rows.up;
      up_right = upper_rows p r mb (x + 1) y (right_by 2 v) true true a.up_right (record { x = x2; y = leads.y })
          (record { x = is_odd v.x odd.x; y = sym odd.y }) rows.up_right;
      left = lower_rows p r mb x y (down_by 1 v) true false a.left (record { x = leads.x; y = y1 })
          (record { x = sym odd.x; y = is_whole v.y odd.y }) rows.left;
      right = lower_rows p r mb (x + 1) y (down_by 1 (right_by 2 v)) true false a.right (record { x = x2; y = y1 })
          (record { x = is_odd v.x odd.x; y = is_whole v.y odd.y }) rows.right;
      down_left = lower_rows p r mb x y (down_by 2 v) true true a.up_left (record { x = leads.x; y = y2 })
          (record { x = sym odd.x; y = is_odd v.y odd.y }) rows.up_left;
      down = lower_rows p r mb (x + 1) y (down_by 2 (right_by 1 v)) false true a.up (record { x = x1; y = y2 })
          (record { x = is_whole v.x odd.x; y = is_odd v.y odd.y }) rows.up;
      down_right = lower_rows p r mb (x + 1) y (down_by 2 (right_by 2 v)) true true a.up_right (record {
        x = x2;
        y = y2;
      }) (record { x = is_odd v.x odd.x; y = is_odd v.y odd.y }) rows.up_right;
    }

-- the eighteen rows of eighteen samples that they read lie inside the picture
pub all_inside : (f : Format) (mb : ℕ) (v : Vector) (to : Place) → IsBetween v
    → InReach f mb (v.x +ℤ pos 2) (v.y +ℤ pos 2) → LeadsTo 16 f Y mb v to → Inside f Y to.x (to.y + 17) 18
all_inside f mb v to odd beyond leads =
    let left = 16 * (mb % columns_of f) in
    let top = 16 * (mb / columns_of f) in
    let across = luma_ends left (width_of f) (to.x + 1) true (v.x +ℤ pos 2) beyond.0.2
    (one_further left to.x v.x leads.x) (is_odd v.x odd.x) in
    let down = luma_ends top (height_of f) (to.y + 1) true (v.y +ℤ pos 2) beyond.1.2 (one_further top to.y v.y leads.y)
    (is_odd v.y odd.y) in
    record { in_row = omega (arith, across); in_plane = omega (arith, down) }
