-- From a moved block to its moved samples, and that they lie inside the plane.
use Rattle.std.proofs.Common.{◌≡◌, ℕ, zero, suc, min, negsuc, refl, ◌+◌, ◌*◌, ◌/◌, ◌%◌, ◌≤◌, ℤ, pos, ◌+ℤ◌, ◌≤ℤ◌, Bool, cond, not, nat_eq, arith, ap, ◌∙◌, sym, subst, unsigned_abs}
use Rattle.std.proofs.lemmas.Int.{ints}
use Rattle.std.proofs.lemmas.Bool.Decides.{nat_tests}
use Rattle.std.specs.Int.{int_shr}
use Rattle.h263_types.specs.declared.format.Format.{Format}
use Rattle.h263_types.specs.declared.format.Format.TheVariants.{SubQcif, Qcif, Cif}
use Rattle.h263_types.specs.declared.vector.Vector.{Vector}
use Rattle.h263_types.specs.Sizes.{width_of, height_of, columns_of}
use Rattle.h263_types.specs.Vectors.{whole_place, InSide, InReach}
use Rattle.h263_planes.specs.Picture.{Picture}
use Rattle.h263_planes.specs.declared.Plane.{Plane}
use Rattle.h263_planes.specs.declared.Plane.TheVariants.{Y, Cb, Cr}
use Rattle.h263_planes.specs.Samples.{Inside}
use Rattle.half_sample.specs.Prediction.{columns_in, interpolated, predicted_sample, moved_whole, whole_part, is_half, IsColour}
use Rattle.half_sample.specs.Places.{BlockInside, IsHalfOf, LeadsTo}
use Rattle.half_sample.specs.declared.place.Half.{Half}
use Rattle.half_sample.specs.declared.place.Place.{Place}

-- a sample further in the block moves as far
moved_more : (a x i : ℕ) (whole : ℤ) → pos x ≡ pos a +ℤ whole → x + i ≡ moved_whole (a + i) whole
moved_more a x i whole h =
    let e : pos (a + i) +ℤ whole ≡ pos (x + i) = omega (arith, ints) in
    sym (ap unsigned_abs e)

-- the samples of a block that was moved are the predicted ones
pub block_sample : (n : ℕ) (p : Picture) (plane : Plane) (r mb i j : ℕ) (v : Vector) (to : Place) (half : Half) →
    LeadsTo n p.format plane mb v to → IsHalfOf plane v half →
    interpolated p plane half.x half.y r (to.x + i) (to.y + j)
    ≡ predicted_sample p plane (n * (mb % columns_of p.format) + i) (n * (mb / columns_of p.format) + j) v r
block_sample n p plane r mb i j v to half leads is =
    cc (
      is.x,
      is.y,
      moved_more (n * (mb % columns_of p.format)) to.x i (whole_part plane v.x) leads.x,
      moved_more (n * (mb / columns_of p.format)) to.y j (whole_part plane v.y) leads.y,
    )

-- a place by equal columns and an equal component
pub same_place : (f : ℕ → ℕ) (part : ℤ → ℤ) {r k k' : ℕ} {z z' : ℤ} → pos r ≡ pos (f k) +ℤ part z → k ≡ k' → z ≡ z'
    → pos r ≡ pos (f k') +ℤ part z'
same_place f part {r} {k} {k'} {z} {z'} h ek ez = h ∙ ap (λ (m : ℕ). pos (f m) +ℤ part z) ek
    ∙ ap (λ (y : ℤ). pos (f k') +ℤ part y) ez

-- both colours read a vector alike
pub colour_leads : (plane : Plane) (n : ℕ) (f : Format) (mb : ℕ) (v : Vector) (to : Place) → IsColour plane
    → LeadsTo n f Cb mb v to → LeadsTo n f plane mb v to
colour_leads Y n f mb v to k leads = absurd k
colour_leads Cb n f mb v to k leads = leads
colour_leads Cr n f mb v to k leads = record { x = leads.x; y = leads.y }

pub colour_half : (plane : Plane) (v : Vector) (half : Half) → IsColour plane → IsHalfOf Cb v half
    → IsHalfOf plane v half
colour_half Y v half k is = absurd k
colour_half Cb v half k is = is
colour_half Cr v half k is = record { x = is.x; y = is.y }

pub colour_inside : (plane : Plane) (f : Format) (x y n : ℕ) → IsColour plane → Inside f Cb x y n → Inside f plane x y n
colour_inside Y f x y n k inside = absurd k
colour_inside Cb f x y n k inside = inside
colour_inside Cr f x y n k inside = record { in_row = inside.in_row; in_plane = inside.in_plane }

-- what a luma component in reach reads ends inside
pub luma_ends : (at size x : ℕ) (half : Bool) (v : ℤ) → InSide at size v → pos x ≡ whole_place at v → half ≡ is_half Y v
    → x + (16 + cond half 1 0) ≤ size
luma_ends at size x half v h e eh =
    let k : cond (is_half Y v) 1 0 ≡ unsigned_abs v % 2 = grind (arith, nat_tests) in
    let k' : cond half 1 0 ≡ unsigned_abs v % 2 = ap (λ (b : Bool). cond b 1 0) eh ∙ k in
    omega (arith, ints, h, e, k')

pub luma_inside : (f : Format) (mb : ℕ) (v : Vector) (to : Place) (half : Half) → InReach f mb v.x v.y
    → LeadsTo 16 f Y mb v to → IsHalfOf Y v half → BlockInside 16 16 f Y to half
luma_inside f mb v to half r leads is =
    let across = luma_ends (16 * (mb % columns_of f)) (width_of f) to.x half.x v.x r.0.2 leads.x is.x in
    let down = luma_ends (16 * (mb / columns_of f)) (height_of f) to.y half.y v.y r.1.2 leads.y is.y in
    record { in_row = across; in_plane = omega arith }

-- a component that leads one whole sample further
pub further : (v : ℤ) → (int_shr (v +ℤ pos 2) 1 ≡ int_shr v 1 +ℤ pos 1)
    × (unsigned_abs (v +ℤ pos 2) % 2 ≡ unsigned_abs v % 2)
further (pos n) = let e : pos n +ℤ pos 2 ≡ pos (n + 2) = omega (arith, ints) in
    subst (λ (w : ℤ). (int_shr w 1 ≡ int_shr (pos n) 1 +ℤ pos 1) × (unsigned_abs w % 2 ≡ n % 2)) (sym e)
    (omega (arith, ints), omega arith)
further (negsuc zero) = (refl, refl)
further (negsuc (suc zero)) = (refl, refl)
further (negsuc (suc (suc n))) =
    let e : negsuc (suc (suc n)) +ℤ pos 2 ≡ negsuc n = omega (arith, ints) in
    subst (λ (w : ℤ). (int_shr w 1 ≡ int_shr (negsuc (suc (suc n))) 1 +ℤ pos 1)
    × (unsigned_abs w % 2 ≡ suc (suc (suc n)) % 2)) (sym e) (omega (arith, ints), omega arith)

pub one_further : (at y : ℕ) (v : ℤ) → pos y ≡ whole_place at v → pos (y + 1) ≡ whole_place at (v +ℤ pos 2)
one_further at y v h = omega (arith, ints, h, (further v).0)

-- what a component of a colour in reach reads ends inside
colour_ends_at : (k half x : ℕ) (v : ℤ) → InSide (16 * k) (2 * half) v → pos x ≡ pos (8 * k) +ℤ int_shr v 2
    → x + (8 + cond (is_half Cb v) 1 0) ≤ half
colour_ends_at k half x (pos n) h e =
    let q : cond (not (nat_eq (n % 4) 0)) 1 0 ≡ min (n % 4) 1 = grind (arith, nat_tests) in
    omega (arith, ints, h, e, q)
colour_ends_at k half x (negsuc n) h e =
    let q : cond (not (nat_eq (suc n % 4) 0)) 1 0 ≡ min (suc n % 4) 1 = grind (arith, nat_tests) in
    omega (arith, ints, h, e, q)

colour_ends : (k size x : ℕ) (half : Bool) (v : ℤ) → 2 * (size / 2) ≡ size → InSide (16 * k) size v
    → pos x ≡ pos (8 * k) +ℤ int_shr v 2 → half ≡ is_half Cb v →
    x + (8 + cond half 1 0) ≤ size / 2
colour_ends k size x half v twice h e eh =
    subst (λ (b : Bool). x + (8 + cond b 1 0) ≤ size / 2) (sym eh)
    (colour_ends_at k (size / 2) x v (subst (λ (s : ℕ). InSide (16 * k) s v) (sym twice) h) e)

-- a format's sizes are whole numbers of macroblocks, and twice those of a colour
across_twice : (f : Format) → 2 * (width_of f / 2) ≡ width_of f
across_twice SubQcif = refl
across_twice Qcif = refl
across_twice Cif = refl

down_twice : (f : Format) → 2 * (height_of f / 2) ≡ height_of f
down_twice SubQcif = refl
down_twice Qcif = refl
down_twice Cif = refl

cb_not_before : (k size : ℕ) (v : ℤ) → InSide (16 * k) size v → pos 0 ≤ℤ (pos (8 * k) +ℤ int_shr v 2)
cb_not_before k size (pos n) h = omega (arith, ints)
cb_not_before k size (negsuc n) h = omega (arith, ints, h)

-- the samples of Cb that a vector in reach leads to lie inside
pub cb_inside : (f : Format) (mb : ℕ) (v : Vector) (to : Place) (half : Half) → InReach f mb v.x v.y
    → LeadsTo 8 f Cb mb v to → IsHalfOf Cb v half → BlockInside 8 8 f Cb to half
cb_inside f mb v to half r leads is =
    let across = colour_ends (mb % columns_of f) (width_of f) to.x half.x v.x (across_twice f) r.0.2 leads.x is.x in
    let down = colour_ends (mb / columns_of f) (height_of f) to.y half.y v.y (down_twice f) r.1.2 leads.y is.y in
    record { in_row = across; in_plane = omega arith }

-- a component in reach doesn't lead before the plane
pub not_before : (plane : Plane) (k size : ℕ) (v : ℤ) → InSide (16 * k) size v
    → pos 0 ≤ℤ (pos (columns_in plane * k) +ℤ whole_part plane v)
not_before Y k size v h = h.0
not_before Cb k size v h = cb_not_before k size v h
not_before Cr k size v h = cb_not_before k size v h

-- by an equal column and an equal component
pub at_place : (plane : Plane) {k k' : ℕ} {z z' : ℤ} → k ≡ k' → z ≡ z'
    → pos 0 ≤ℤ (pos (columns_in plane * k') +ℤ whole_part plane z')
    → pos 0 ≤ℤ (pos (columns_in plane * k) +ℤ whole_part plane z)
at_place plane {k} {k'} {z} {z'} ek ez h =
    subst (λ (m : ℕ). pos 0 ≤ℤ (pos (columns_in plane * m) +ℤ whole_part plane z)) (sym ek)
    (subst (λ (y : ℤ). pos 0 ≤ℤ (pos (columns_in plane * k') +ℤ whole_part plane y)) (sym ez) h)
