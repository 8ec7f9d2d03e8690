-- The picture of given samples.
use Rattle.std.proofs.Common.{◌≡◌, ℕ, ◌+◌, ◌*◌, ◌/◌, ◌%◌, ◌<◌, ◌≤◌, List, length, get_or, map, refl, subst, inl, inr, lit<, ap, sym, ◌∙◌, arith, mul_comm}
use Rattle.std.specs.List.{range_with_len}
use Rattle.std.proofs.lemmas.List.FromFn.{get_or-map-range_with_len, length-map-range_with_len}
use Rattle.std.proofs.Math.ListN.{get_or-eq_default}
use Rattle.std.proofs.lemmas.Bool.{cases_lt}
use Rattle.std.proofs.lemmas.Nat.{div-mul-add, mod-mul-add}
use Rattle.h263_types.specs.declared.format.Format.{Format}
use Rattle.h263_planes.specs.declared.Plane.{Plane}
use Rattle.h263_planes.specs.declared.Plane.TheVariants.{Y, Cb, Cr}
use Rattle.h263_planes.specs.Picture.{Picture}
use Rattle.h263_planes.specs.Layout.{width_in, height_in}
use Rattle.h263_planes.specs.Samples.{Inside, IsWhole, IsPicture, AreSamples, plane_of, sample_at}
use Rattle.h263_planes.specs.Given.{picture_with, plane_with}
use Rattle.h263_planes.proofs.Pictures.{run_inside}
use Rattle.h263_planes.proofs.Wholes.{same_pictures}

abbrev pub Samples : Type 0
Samples = Plane → ℕ → ℕ → ℕ

-- a picture by its samples has the format
pub format_with : (f : Format) (sample : Samples) → (picture_with f sample).format ≡ f
unfolding picture_with
format_with f sample = refl

planes_with : (f : Format) (sample : Samples) (plane : Plane) → plane_of (picture_with f sample) plane
    ≡ plane_with f plane sample
unfolding picture_with
planes_with f sample Y = refl
planes_with f sample Cb = refl
planes_with f sample Cr = refl

length_with : (f : Format) (sample : Samples) (plane : Plane) → length (plane_with f plane sample)
    ≡ width_in f plane * height_in f plane
length_with f sample plane =
    length-map-range_with_len (λ (k : ℕ). sample plane (k % width_in f plane) (k / width_in f plane)) 0
    (width_in f plane * height_in f plane)

-- it is whole
pub whole_with : (f : Format) (sample : Samples) → IsWhole (picture_with f sample)
whole_with f sample = record {
  lengths = λ plane. ap (λ (l : List ℕ). length l) (planes_with f sample plane) ∙ length_with f sample plane
      ∙ ap (λ (g : Format). width_in g plane * height_in g plane) (sym (format_with f sample));
}

-- and a picture, where these samples are from 0 to 255
samples_with : (f : Format) (sample : Samples) → ((plane : Plane) (x y : ℕ) → sample plane x y < 256) → (plane : Plane)
    → AreSamples (plane_with f plane sample)
samples_with f sample fit plane k =
    let g : ℕ → ℕ = λ (i : ℕ). sample plane (i % width_in f plane) (i / width_in f plane) in
    let n : ℕ = width_in f plane * height_in f plane in
    elim (cases_lt k n) [
      | inl lt ↦ subst (λ (v : ℕ). v < 256) (sym (get_or-map-range_with_len g 0 n k k 0 lt (omega arith)))
          (fit plane (k % width_in f plane) (k / width_in f plane))
      | inr past ↦ subst (λ (v : ℕ). v < 256)
          (sym (get_or-eq_default (plane_with f plane sample) 0 (omega (arith, length_with f sample plane)))) (lit< tt)
    ]

pub picture_is_with : (f : Format) (sample : Samples) → ((plane : Plane) (x y : ℕ) → sample plane x y < 256)
    → IsPicture (picture_with f sample)
picture_is_with f sample fit = record {
  whole = whole_with f sample;
  samples = λ plane. subst AreSamples (sym (planes_with f sample plane)) (samples_with f sample fit plane);
}

-- the sample in column x of row y of a list of h rows of w given samples
row_with : (g : ℕ → ℕ → ℕ) (w h x y : ℕ) → x + 1 ≤ w → y < h →
    get_or (map (λ k. g (k % w) (k / w)) (range_with_len 0 (w * h))) (w * y + x) 0 ≡ g x y
row_with g w h x y hx hy =
    let room : w * y + x + 1 ≤ w * h = run_inside w h x y 1 hx hy in
    let turned : w * y + x ≡ y * w + x = ap (λ (k : ℕ). k + x) (mul_comm w y) in
    let column : (w * y + x) % w ≡ x = ap (λ (k : ℕ). k % w) turned ∙ mod-mul-add y w x (omega arith) in
    let row : (w * y + x) / w ≡ y = ap (λ (k : ℕ). k / w) turned ∙ div-mul-add y w x (omega arith) in
    get_or-map-range_with_len (λ (k : ℕ). g (k % w) (k / w)) 0 (w * h) (w * y + x) (w * y + x) 0 (omega arith)
    (omega arith)
    ∙ ap (λ (k : ℕ). g k ((w * y + x) / w)) column ∙ ap (λ (k : ℕ). g x k) row

-- its samples are those
pub sample_with : (f : Format) (sample : Samples) (plane : Plane) (x y : ℕ) → Inside f plane x y 1 →
    sample_at (picture_with f sample) plane x y ≡ sample plane x y
sample_with f sample plane x y h =
    ap (λ (l : List ℕ). get_or l (width_in (picture_with f sample).format plane * y + x) 0) (planes_with f sample plane)
    ∙ ap (λ (g : Format). get_or (plane_with f plane sample) (width_in g plane * y + x) 0) (format_with f sample)
    ∙ row_with (sample plane) (width_in f plane) (height_in f plane) x y h.in_row h.in_plane

-- a whole picture with these samples is that one
pub only_with : (p : Picture) (sample : Samples) → IsWhole p →
    ((plane : Plane) (x y : ℕ) → Inside p.format plane x y 1 → sample_at p plane x y ≡ sample plane x y)
    → p ≡ picture_with p.format sample
only_with p sample whole same =
    same_pictures p (picture_with p.format sample) whole (whole_with p.format sample)
    (sym (format_with p.format sample))
    (record { samples = λ plane x y h. same plane x y h ∙ sym (sample_with p.format sample plane x y h) })
