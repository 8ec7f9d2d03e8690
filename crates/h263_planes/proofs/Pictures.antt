-- What a write of one byte does to the picture that the bytes hold.
use Rattle.std.proofs.Common.{◌≡◌, Bool, true, false, ◌&&◌, nat_eq, nat_le, nat_lt, ℕ, ◌+◌, ◌*◌, ◌-◌, ◌/◌, ◌<◌, ◌≤◌, List, length, refl, ap, ◌∙◌, arith, slice_set, subst, suc, [], ◌∷◌, ◌++◌, add_assoc, append_assoc, sym, take, drop, cond, get_or, length-drop, length-take}
use Rattle.std.proofs.lemmas.Bool.Decides.{nat_tests}
use Rattle.h263_planes.proofs.Runs.{run_at}
use Rattle.std.proofs.Math.Seq.{drop-drop}
use Rattle.std.proofs.lemmas.List.Edits.{sets-eq}
use Rattle.std.proofs.Math.Nat.{mul-le-mul_left}
use Rattle.h263_types.specs.Sizes.{size_of_picture}
use borrow.Rule.Slice.PartMut.{put_mid}
use lib.Seq.{sets}
use Rattle.h263_types.specs.declared.format.Format.{Format}
use Rattle.h263_types.specs.declared.format.Format.TheVariants.{SubQcif, Qcif, Cif}
use Rattle.h263_types.specs.Sizes.{width_of, height_of}
use Rattle.h263_planes.specs.declared.Plane.{Plane}
use Rattle.h263_planes.specs.declared.Plane.TheVariants.{Y, Cb, Cr}
use Rattle.h263_planes.specs.Picture.{Picture}
use Rattle.h263_planes.specs.Layout.{picture_of, offset_of, width_in, height_in}
use Rattle.h263_planes.specs.Samples.{with_plane, plane_of, with_sample, with_samples, sample_at, in_run, same_plane}
use Rattle.h263_planes.proofs.Ranges.{range_set_before, range_set_within, range_set_after}

-- pictures with the same planes are the same
pub same_planes : (f : Format) (y y' b b' r r' : List ℕ) → y ≡ y' → b ≡ b' → r ≡ r' →
    let p : Picture = record { format = f; y = y; cb = b; cr = r } in let q : Picture = record {
      format = f;
      y = y';
      cb = b';
      cr = r';
    } in p ≡ q
same_planes f y y' b b' r r' hy hb hr = cc

-- a plane of colour has a quarter of the samples
pub chroma_fits : (f : Format) → width_of f / 2 * (height_of f / 2) ≡ width_of f * height_of f / 4
chroma_fits SubQcif = refl
chroma_fits Qcif = refl
chroma_fits Cif = refl

pub set_in_plane : (f : Format) (bytes : List ℕ) (plane : Plane) (i v : ℕ) → i < width_in f plane * height_in f plane →
    picture_of f (slice_set bytes (offset_of f plane + i) v)
    ≡ with_plane (picture_of f bytes) plane (slice_set (plane_of (picture_of f bytes) plane) i v)
set_in_plane f bytes Y i v h =
    same_planes f _ _ _ _ _ _
    (range_set_within bytes i v 0 (offset_of f Cb) (omega arith))
    (range_set_before bytes (0 + i) v (offset_of f Cb) (offset_of f Cr) (omega arith))
    (range_set_before bytes (0 + i) v (offset_of f Cr) (offset_of f Cr + width_of f * height_of f / 4) (omega arith))
set_in_plane f bytes Cb i v h =
    let e = chroma_fits f in
    same_planes f _ _ _ _ _ _
    (range_set_after bytes (offset_of f Cb + i) v 0 (offset_of f Cb) (omega arith) (omega arith))
    (range_set_within bytes i v (offset_of f Cb) (offset_of f Cr) (omega arith))
    (range_set_before bytes (offset_of f Cb + i) v (offset_of f Cr) (offset_of f Cr + width_of f * height_of f / 4)
    (omega arith))
set_in_plane f bytes Cr i v h =
    let e = chroma_fits f in
    same_planes f _ _ _ _ _ _
    (range_set_after bytes (offset_of f Cr + i) v 0 (offset_of f Cb) (omega arith) (omega arith))
    (range_set_after bytes (offset_of f Cr + i) v (offset_of f Cb) (offset_of f Cr) (omega arith) (omega arith))
    (range_set_within bytes i v (offset_of f Cr) (offset_of f Cr + width_of f * height_of f / 4) (omega arith))

own_plane : (p : Picture) (plane : Plane) → p ≡ with_plane p plane (plane_of p plane)
own_plane p Y = refl
own_plane p Cb = refl
own_plane p Cr = refl

with_plane_twice : (p : Picture) (plane : Plane) (a b : List ℕ) → with_plane (with_plane p plane a) plane b
    ≡ with_plane p plane b
with_plane_twice p Y a b = refl
with_plane_twice p Cb a b = refl
with_plane_twice p Cr a b = refl

plane_of_with : (p : Picture) (plane : Plane) (a : List ℕ) → plane_of (with_plane p plane a) plane ≡ a
plane_of_with p Y a = refl
plane_of_with p Cb a = refl
plane_of_with p Cr a = refl

-- the same for a run of elements
pub sets_in_plane : (f : Format) (plane : Plane) (vs bytes : List ℕ) (i : ℕ)
    → i + length vs ≤ width_in f plane * height_in f plane →
    picture_of f (sets bytes (offset_of f plane + i) vs)
    ≡ with_plane (picture_of f bytes) plane (sets (plane_of (picture_of f bytes) plane) i vs)
sets_in_plane f plane [] bytes i h = own_plane (picture_of f bytes) plane
sets_in_plane f plane (v ∷ vs) bytes i h =
    let bytes' : List ℕ = slice_set bytes (offset_of f plane + i) v in
    let one : picture_of f bytes'
    ≡ with_plane (picture_of f bytes) plane (slice_set (plane_of (picture_of f bytes) plane) i v) =
    set_in_plane f bytes plane i v (omega arith) in
    let more : picture_of f (sets bytes' (offset_of f plane + suc i) vs)
    ≡ with_plane (picture_of f bytes') plane (sets (plane_of (picture_of f bytes') plane) (suc i) vs) =
    sets_in_plane f plane vs bytes' (suc i) (omega arith) in
    let place : suc (offset_of f plane + i) ≡ offset_of f plane + suc i = omega arith in
    let P : Picture → Type 0 = λ q. picture_of f (sets bytes' (offset_of f plane + suc i) vs)
    ≡ with_plane q plane (sets (plane_of q plane) (suc i) vs) in
    let both = subst P one more in
    ap (λ k. picture_of f (sets bytes' k vs)) place
    ∙ both
    ∙ with_plane_twice (picture_of f bytes) plane _ _
    ∙ ap (λ l. with_plane (picture_of f bytes) plane (sets l (suc i) vs)) (plane_of_with (picture_of f bytes) plane _)

-- the place of the run's last sample
pub run_inside : (w h x y n : ℕ) → x + n ≤ w → y < h → w * y + x + n ≤ w * h
run_inside w h x y n hx hy = let more : w * suc y ≤ w * h = mul-le-mul_left w hy in omega (arith, more)

pub put_mid_sets : (at : ℕ) (vs bytes : List ℕ) → at + length vs ≤ length bytes → put_mid at (length vs) bytes vs
    ≡ sets bytes at vs
put_mid_sets at vs bytes h =
    ap (λ t. take at bytes ++ (vs ++ t)) (drop-drop (length vs) at bytes)
    ∙ sym (append_assoc (take at bytes) vs (drop (at + length vs) bytes))
    ∙ sym (sets-eq vs bytes at h)

-- what a copy into a part of the bytes leaves
pub put_part : (at : ℕ) (vs bytes new : List ℕ) → at + length vs ≤ length bytes → new ≡ vs
    → put_mid at (at + length vs - at) bytes new ≡ sets bytes at vs
put_part at vs bytes new h e =
    let n : at + length vs - at ≡ length vs = omega arith in
    ap (λ (l : List ℕ). put_mid at (at + length vs - at) bytes l) e ∙ ap (λ (k : ℕ). put_mid at k bytes vs) n
    ∙ put_mid_sets at vs bytes h

-- what a run of samples leaves
pub put_row : (f : Format) (plane : Plane) (vs bytes : List ℕ) (at x y : ℕ)
    → at ≡ offset_of f plane + width_in f plane * y + x → x + length vs ≤ width_in f plane → y < height_in f plane →
    picture_of f (sets bytes at vs) ≡ with_samples (picture_of f bytes) plane x y vs
put_row f plane vs bytes at x y e hx hy =
    let i : ℕ = width_in f plane * y + x in
    let inside : i + length vs ≤ width_in f plane * height_in f plane = run_inside (width_in f plane)
    (height_in f plane) x y (length vs) hx hy in
    let place : at ≡ offset_of f plane + i = e ∙ add_assoc (offset_of f plane) (width_in f plane * y) x in
    ap (λ k. picture_of f (sets bytes k vs)) place ∙ sets_in_plane f plane vs bytes i inside

-- each sample of a picture in which a run was written
run_sample : (p : Picture) (plane other : Plane) (run : List ℕ) (x y i j : ℕ) → x + length run ≤ width_in p.format plane
    → i < width_in p.format other →
    width_in p.format plane * y + x + length run ≤ length (plane_of p plane) →
    sample_at (with_samples p plane x y run) other i j ≡ cond (in_run plane x y (length run) other i j)
    (get_or run (i - x) 0) (sample_at p other i j)
run_sample p Y Y run x y i j hx hi room = run_at p.y run (width_of p.format) x y i j hx hi room
run_sample p Y Cb run x y i j hx hi room = refl
run_sample p Y Cr run x y i j hx hi room = refl
run_sample p Cb Y run x y i j hx hi room = refl
run_sample p Cb Cb run x y i j hx hi room = run_at p.cb run (width_of p.format / 2) x y i j hx hi room
run_sample p Cb Cr run x y i j hx hi room = refl
run_sample p Cr Y run x y i j hx hi room = refl
run_sample p Cr Cb run x y i j hx hi room = refl
run_sample p Cr Cr run x y i j hx hi room = run_at p.cr run (width_of p.format / 2) x y i j hx hi room

pub plane_long : (f : Format) (bytes : List ℕ) (plane : Plane) → length bytes ≡ size_of_picture f
    → length (plane_of (picture_of f bytes) plane) ≡ width_in f plane * height_in f plane
plane_long f bytes Y h = let e = chroma_fits f in simp (length-take, length-drop) (omega arith)
plane_long f bytes Cb h = let e = chroma_fits f in simp (length-take, length-drop) (omega arith)
plane_long f bytes Cr h = let e = chroma_fits f in simp (length-take, length-drop) (omega arith)

pub run_samples : (f : Format) (bytes : List ℕ) (q : Picture) (plane other : Plane) (run : List ℕ) (x y i j : ℕ)
    → length bytes ≡ size_of_picture f →
    x + length run ≤ width_in f plane → y < height_in f plane → i + 1 ≤ width_in f other
    → q ≡ with_samples (picture_of f bytes) plane x y run →
    sample_at q other i j ≡ cond (in_run plane x y (length run) other i j) (get_or run (i - x) 0)
    (sample_at (picture_of f bytes) other i j)
run_samples f bytes q plane other run x y i j whole hx hy hi e =
    let inside : width_in f plane * y + x + length run ≤ width_in f plane * height_in f plane =
    run_inside (width_in f plane) (height_in f plane) x y (length run) hx hy in
    let room : width_in f plane * y + x + length run ≤ length (plane_of (picture_of f bytes) plane) = omega (
      arith,
      plane_long f bytes plane whole,
    ) in
    ap (λ (p : Picture). sample_at p other i j) e
    ∙ run_sample (picture_of f bytes) plane other run x y i j hx (omega arith) room

-- what a write of one byte leaves
pub put_one : (f : Format) (bytes : List ℕ) (plane : Plane) (at x y v : ℕ)
    → at ≡ offset_of f plane + width_in f plane * y + x → x + 1 ≤ width_in f plane → y < height_in f plane →
    picture_of f (slice_set bytes at v) ≡ with_sample (picture_of f bytes) plane x y v
put_one f bytes plane at x y v e hx hy =
    let place : at ≡ offset_of f plane + (width_in f plane * y + x) = omega arith in
    let inside : width_in f plane * y + x + 1 ≤ width_in f plane * height_in f plane = run_inside (width_in f plane)
    (height_in f plane) x y 1 hx hy in
    ap (λ (k : ℕ). picture_of f (slice_set bytes k v)) place
    ∙ set_in_plane f bytes plane (width_in f plane * y + x) v (omega arith)

-- a run of one has one sample
by_column : (x i a v old : ℕ) → (x ≤ i → i < x + 1 → a ≡ v) →
    cond (nat_le x i && nat_lt i (x + 1)) a old ≡ cond (nat_le x i && nat_lt i (x + 1)) v old
by_column x i a v old h = grind (arith, nat_tests)

by_tests : (p q : Bool) (x i a v old : ℕ) → (x ≤ i → i < x + 1 → a ≡ v) →
    cond (p && (q && (nat_le x i && nat_lt i (x + 1)))) a old
    ≡ cond (p && (q && (nat_le x i && nat_lt i (x + 1)))) v old
by_tests false q x i a v old h = refl
by_tests true false x i a v old h = refl
by_tests true true x i a v old h = by_column x i a v old h

pub one_sample : (f : Format) (bytes : List ℕ) (q : Picture) (plane other : Plane) (v x y i j : ℕ)
    → length bytes ≡ size_of_picture f →
    x + 1 ≤ width_in f plane → y < height_in f plane → i + 1 ≤ width_in f other
    → q ≡ with_sample (picture_of f bytes) plane x y v →
    sample_at q other i j ≡ cond (in_run plane x y 1 other i j) v (sample_at (picture_of f bytes) other i j)
one_sample f bytes q plane other v x y i j whole hx hy hi e =
    run_samples f bytes q plane other (v ∷ []) x y i j whole hx hy hi e
    ∙ by_tests (same_plane plane other) (nat_eq j y) x i (get_or (v ∷ []) (i - x) 0) v
    (sample_at (picture_of f bytes) other i j)
    (λ low high. let none : i - x ≡ 0 = omega arith in ap (λ (k : ℕ). get_or (v ∷ []) k 0) none)
