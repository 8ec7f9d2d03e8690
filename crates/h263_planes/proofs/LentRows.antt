-- Rows of a picture that are lent together, and rows that are copied from one picture into another.
use Rattle.std.proofs.Common.{◌≡◌, ℕ, ◌+◌, ◌*◌, ◌-◌, ◌/◌, ◌<◌, ◌≤◌, List, get_or, drop, slice_range, Bool, true, false, cond, ◌&&◌, nat_le, nat_lt, refl, ap, sym, ◌∙◌, arith, get_or-take, get_or-drop}
use Rattle.std.proofs.lemmas.Bool.Decides.{nat_tests}
use Rattle.std.proofs.Math.Nat.{mul-le-mul_left}
use Rattle.h263_types.specs.declared.format.Format.{Format}
use Rattle.h263_types.specs.Sizes.{width_of, height_of}
use Rattle.h263_planes.specs.declared.Plane.{Plane}
use Rattle.h263_planes.specs.declared.Plane.TheVariants.{Y, Cb, Cr}
use Rattle.h263_planes.specs.Picture.{Picture}
use Rattle.h263_planes.specs.Layout.{picture_of, offset_of, width_in, height_in}
use Rattle.h263_planes.specs.Samples.{in_block, plane_of, sample_at, same_plane}
use Rattle.h263_planes.proofs.Pictures.{chroma_fits, run_inside}

-- a sample by its byte
byte_of : (f : Format) (bytes : List ℕ) (plane : Plane) (k : ℕ) → k < width_in f plane * height_in f plane →
    get_or (plane_of (picture_of f bytes) plane) k 0 ≡ get_or bytes (offset_of f plane + k) 0
byte_of f bytes Y k h =
    get_or-take (offset_of f Cb - 0) (drop 0 bytes) k 0 (omega arith) ∙ get_or-drop 0 bytes k 0
byte_of f bytes Cb k h =
    let e = chroma_fits f in
    get_or-take (offset_of f Cr - offset_of f Cb) (drop (offset_of f Cb) bytes) k 0 (omega arith)
    ∙ get_or-drop (offset_of f Cb) bytes k 0
byte_of f bytes Cr k h =
    let e = chroma_fits f in
    get_or-take (offset_of f Cr + width_of f * height_of f / 4 - offset_of f Cr) (drop (offset_of f Cr) bytes) k 0
    (omega arith) ∙ get_or-drop (offset_of f Cr) bytes k 0

-- the bytes from the first of some rows to the last
pub lent_long : (offset w x y n count first last : ℕ) → first ≡ offset + w * y + x
    → last ≡ offset + w * (y + (count - 1)) + x → last + n - first ≡ w * (count - 1) + n
lent_long offset w x y n count first last ef el = omega (arith, ef, el)

-- a sample of one of them
pub lent_rows : (f : Format) (bytes : List ℕ) (plane : Plane) (x y n count first last i j : ℕ)
    → first ≡ offset_of f plane + width_in f plane * y + x →
    last ≡ offset_of f plane + width_in f plane * (y + (count - 1)) + x → x + n ≤ width_in f plane
    → y + (count - 1) < height_in f plane → i < n → j < count →
    get_or (slice_range bytes first (last + n)) (width_in f plane * j + i) 0
    ≡ sample_at (picture_of f bytes) plane (x + i) (y + j)
lent_rows f bytes plane x y n count first last i j ef el across down hi hj =
    let w = width_in f plane in
    let above : j ≤ count - 1 = omega arith in
    let more : w * j ≤ w * (count - 1) = mul-le-mul_left w above in
    let low : y + j < height_in f plane = omega arith in
    let inside : w * (y + j) + x + n ≤ w * height_in f plane = run_inside w (height_in f plane) x
    (y + j) n across low in
    let place : first + (w * j + i) ≡ offset_of f plane + (w * (y + j) + (x + i)) = omega (arith, ef) in
    get_or-take (last + n - first) (drop first bytes) (w * j + i) 0 (omega (
      arith,
      more,
      hi,
      lent_long (offset_of f plane) w x y n count first last ef el,
    ))
    ∙ get_or-drop first bytes (w * j + i) 0
    ∙ ap (λ (k : ℕ). get_or bytes k 0) place
    ∙ sym (byte_of f bytes plane (w * (y + j) + (x + i)) (omega (arith, inside, hi)))

-- a sample of a plane, whichever name the plane goes by
same_sample : (p : Picture) (plane other : Plane) (i j x y : ℕ) → same_plane plane other ≡ true → x ≡ i → y ≡ j
    → sample_at p plane x y ≡ sample_at p other i j
same_sample p Y Y i j x y s ex ey = cc
same_sample p Cb Cb i j x y s ex ey = cc
same_sample p Cr Cr i j x y s ex ey = cc
same_sample p Y Cb i j x y s ex ey = cc
same_sample p Y Cr i j x y s ex ey = cc
same_sample p Cb Y i j x y s ex ey = cc
same_sample p Cb Cr i j x y s ex ey = cc
same_sample p Cr Y i j x y s ex ey = cc
same_sample p Cr Cb i j x y s ex ey = cc

-- where a test holds, one number for another
in_square : (x y n i j a b old : ℕ) → (y ≤ j → j < y + n → x ≤ i → i < x + n → a ≡ b) →
    cond ((nat_le y j && nat_lt j (y + n)) && (nat_le x i && nat_lt i (x + n))) a old
    ≡ cond ((nat_le y j && nat_lt j (y + n)) && (nat_le x i && nat_lt i (x + n))) b old
in_square x y n i j a b old h = grind (arith, nat_tests)

in_its_plane : (s : Bool) (x y n i j a b old : ℕ) → (s ≡ true → y ≤ j → j < y + n → x ≤ i → i < x + n → a ≡ b) →
    cond (s && ((nat_le y j && nat_lt j (y + n)) && (nat_le x i && nat_lt i (x + n)))) a old
    ≡ cond (s && ((nat_le y j && nat_lt j (y + n)) && (nat_le x i && nat_lt i (x + n)))) b old
in_its_plane true x y n i j a b old h = in_square x y n i j a b old (h refl)
in_its_plane false x y n i j a b old h = refl

-- the rows of a square of a picture are its samples at the same places
pub copied : (p : Picture) (plane other : Plane) (rows : List ℕ) (w x y n i j old : ℕ) →
    ((k l : ℕ) → k < n → l < n → get_or rows (w * l + k) 0 ≡ sample_at p plane (x + k) (y + l)) →
    cond (in_block plane x y n n other i j) (get_or rows (w * (j - y) + (i - x)) 0) old
    ≡ cond (in_block plane x y n n other i j) (sample_at p other i j) old
copied p plane other rows w x y n i j old are =
    in_its_plane (same_plane plane other) x y n i j _ _ old
    (λ s above below before after. are (i - x) (j - y) (omega arith) (omega arith)
    ∙ same_sample p plane other i j _ _ s (omega arith) (omega arith))
