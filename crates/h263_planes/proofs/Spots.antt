-- The numbers of the samples.
use Rattle.std.proofs.Common.{◌≡◌, ℕ, ◌+◌, ◌*◌, ◌-◌, ◌/◌, ◌%◌, ◌<◌, ◌≤◌, refl, ap, sym, ◌∙◌, subst, arith, inl, inr, mul_comm, lit<}
use Rattle.std.proofs.Math.Nat.{div-lt_iff_lt-mul, mod-lt}
use Rattle.std.proofs.lemmas.Nat.{div-mul-add, mod-mul-add}
use Rattle.std.proofs.lemmas.Bool.{lt-ltb, le-ltb, cases_lt}
use Rattle.h263_types.specs.declared.format.Format.{Format}
use Rattle.h263_types.specs.declared.format.Format.TheVariants.{SubQcif, Qcif, Cif}
use Rattle.h263_types.specs.Sizes.{mbs_of, width_of, height_of}
use Rattle.h263_planes.specs.declared.Plane.{Plane}
use Rattle.h263_planes.specs.declared.Plane.TheVariants.{Y, Cb, Cr}
use Rattle.h263_planes.specs.Blocks.{mb_of}
use Rattle.h263_planes.specs.Layout.{width_in, height_in, offset_of}
use Rattle.h263_planes.specs.Picture.{Picture}
use Rattle.h263_planes.specs.Samples.{Inside, IsWhole, sample_at}
use Rattle.h263_planes.specs.Given.{picture_with}
use Rattle.h263_planes.proofs.Pictures.{run_inside, chroma_fits}
use Rattle.h263_planes.proofs.Givens.{format_with, whole_with, sample_with, only_with}
use Rattle.h263_planes.specs.Spots.{Spot, spot, spot_in, sample_number, sample_of, owner_of, picture_by, AreSpots, ArePicturesBySamples}

at_y : (f : Format) (s : ℕ) → s < offset_of f Cb → spot f s ≡ spot_in f Y s
unfolding spot
at_y f s lt = rw (lt-ltb s (offset_of f Cb) lt) refl

at_cb : (f : Format) (s : ℕ) → offset_of f Cb ≤ s → s < offset_of f Cr → spot f s ≡ spot_in f Cb (s - offset_of f Cb)
unfolding spot
at_cb f s low lt = rw (le-ltb s (offset_of f Cb) low, lt-ltb s (offset_of f Cr) lt) refl

at_cr : (f : Format) (s : ℕ) → offset_of f Cb ≤ s → offset_of f Cr ≤ s → spot f s ≡ spot_in f Cr (s - offset_of f Cr)
unfolding spot
at_cr f s low low' = rw (le-ltb s (offset_of f Cb) low, le-ltb s (offset_of f Cr) low') refl

abbrev at : Plane → ℕ → ℕ → Spot
at plane x y = record { plane = plane; x = x; y = y }

placed : (f : Format) (plane : Plane) (s x y : ℕ) → x + 1 ≤ width_in f plane → s ≡ width_in f plane * y + x
    → spot_in f plane s ≡ at plane x y
placed f plane s x y less is =
    let w = width_in f plane in
    let turned : s ≡ y * w + x = is ∙ ap (λ (k : ℕ). k + x) (mul_comm w y) in
    let column : s % w ≡ x = ap (λ (k : ℕ). k % w) turned ∙ mod-mul-add y w x (omega arith) in
    let row : s / w ≡ y = ap (λ (k : ℕ). k / w) turned ∙ div-mul-add y w x (omega arith) in
    ap (λ (i : ℕ). at plane i (s / w)) column ∙ ap (λ (j : ℕ). at plane x j) row

spot_is : (f : Format) (plane : Plane) (x y : ℕ) → Inside f plane x y 1 → spot f (sample_number f plane x y)
    ≡ at plane x y
spot_is f Y x y i =
    let room : width_of f * y + x + 1 ≤ width_of f * height_of f = run_inside (width_of f) (height_of f) x y 1 i.in_row
    i.in_plane in
    at_y f (sample_number f Y x y) (omega arith) ∙ placed f Y (sample_number f Y x y) x y i.in_row (omega arith)
spot_is f Cb x y i =
    let room : width_of f / 2 * y + x + 1 ≤ width_of f / 2 * (height_of f / 2) = run_inside (width_of f / 2)
    (height_of f / 2) x y 1 i.in_row i.in_plane in
    let e = chroma_fits f in
    at_cb f (sample_number f Cb x y) (omega arith) (omega arith)
    ∙ placed f Cb (sample_number f Cb x y - offset_of f Cb) x y i.in_row (omega arith)
spot_is f Cr x y i =
    at_cr f (sample_number f Cr x y) (omega arith) (omega arith)
    ∙ placed f Cr (sample_number f Cr x y - offset_of f Cr) x y i.in_row (omega arith)

-- each sample has its number
some_y : (f : Format) → 0 < width_of f
some_y SubQcif = lit< tt
some_y Qcif = lit< tt
some_y Cif = lit< tt

some_c : (f : Format) → 0 < width_of f / 2
some_c SubQcif = lit< tt
some_c Qcif = lit< tt
some_c Cif = lit< tt

whole : (w k : ℕ) → 0 < w → w * (k / w) + k % w ≡ k
whole w k some = omega arith

abbrev Here : Format → ℕ → Spot → Type 0
Here f s p = (sample_number f p.plane p.x p.y ≡ s) × (mb_of f p.plane p.x p.y < mbs_of f → Inside f p.plane p.x p.y 1)

rows_left : (f : Format) (x y : ℕ) → mb_of f Cr x y < mbs_of f → y < height_in f Cr
rows_left SubQcif x y lt = omega (arith, lt)
rows_left Qcif x y lt = omega (arith, lt)
rows_left Cif x y lt = omega (arith, lt)

here_is : (f : Format) (s : ℕ) → Here f s (spot f s)
here_is f s =
    elim (cases_lt s (offset_of f Cb)) [
      | inl lt ↦ subst (Here f s) (sym (at_y f s lt)) (
        let e = whole (width_of f) s (some_y f) in omega arith,
        λ _. record {
          in_row = let m : s % width_of f < width_of f = mod-lt s (some_y f) in omega arith;
          in_plane = (div-lt_iff_lt-mul {k = width_of f} {x = s} {y = height_of f} (some_y f)).1 (omega arith);
        },
      )
      | inr low ↦ elim (cases_lt s (offset_of f Cr)) [
        | inl lt ↦ subst (Here f s) (sym (at_cb f s low lt)) (
            let k = s - offset_of f Cb in
            let e = whole (width_of f / 2) (s - offset_of f Cb) (some_c f) in
            let fits = chroma_fits f in (
              omega arith,
              λ _. record {
                in_row = let m : (s - offset_of f Cb) % (width_of f / 2) < width_of f / 2 =
                    mod-lt (s - offset_of f Cb) (some_c f) in omega arith;
                in_plane = (div-lt_iff_lt-mul {k = width_of f / 2} {x = s - offset_of f Cb} {y = height_of f / 2}
                    (some_c f)).1 (omega arith);
              },
            ))
        | inr low' ↦ subst (Here f s) (sym (at_cr f s low low')) (
            let e = whole (width_of f / 2) (s - offset_of f Cr) (some_c f) in (
              omega arith,
              λ mb. record {
                in_row = let m : (s - offset_of f Cr) % (width_of f / 2) < width_of f / 2 =
                    mod-lt (s - offset_of f Cr) (some_c f) in omega arith;
                in_plane = rows_left f ((s - offset_of f Cr) % (width_of f / 2))
                    ((s - offset_of f Cr) / (width_of f / 2)) mb;
              },
            ))
      ]
    ]

number_is : (f : Format) (s : ℕ) → sample_number f (spot f s).plane (spot f s).x (spot f s).y ≡ s
number_is f s = (here_is f s).0

inside_is : (f : Format) (s : ℕ) → owner_of f s < mbs_of f → Inside f (spot f s).plane (spot f s).x (spot f s).y 1
inside_is f s = (here_is f s).1

in_picture : (f : Format) (plane : Plane) (x y : ℕ) → Inside f plane x y 1 → mb_of f plane x y < mbs_of f
in_picture SubQcif Y x y i = omega (arith, i.in_row, i.in_plane)
in_picture SubQcif Cb x y i = omega (arith, i.in_row, i.in_plane)
in_picture SubQcif Cr x y i = omega (arith, i.in_row, i.in_plane)
in_picture Qcif Y x y i = omega (arith, i.in_row, i.in_plane)
in_picture Qcif Cb x y i = omega (arith, i.in_row, i.in_plane)
in_picture Qcif Cr x y i = omega (arith, i.in_row, i.in_plane)
in_picture Cif Y x y i = omega (arith, i.in_row, i.in_plane)
in_picture Cif Cb x y i = omega (arith, i.in_row, i.in_plane)
in_picture Cif Cr x y i = omega (arith, i.in_row, i.in_plane)

owner_is : (f : Format) (plane : Plane) (x y : ℕ) → Inside f plane x y 1 → owner_of f (sample_number f plane x y)
    ≡ mb_of f plane x y
owner_is f plane x y i = ap (λ (p : Spot). mb_of f p.plane p.x p.y) (spot_is f plane x y i)

-- a whole picture is made of given samples where it has them
is_made : (f : Format) (p : Picture) (g : ℕ → ℕ) → p.format ≡ f → IsWhole p → ((s : ℕ) → owner_of f s < mbs_of f
    → sample_of p (spot f s) ≡ g s) → p ≡ picture_by f g
is_made f p g format whole same =
    subst (λ (k : Format). ((plane : Plane) (x y : ℕ) → Inside k plane x y 1
    → sample_at p plane x y ≡ g (sample_number f plane x y))
    → p ≡ picture_with k (λ plane x y. g (sample_number f plane x y))) format
    (only_with p (λ plane x y. g (sample_number f plane x y)) whole)
    (λ plane x y i. ap (λ (t : Spot). sample_of p t) (sym (spot_is f plane x y i))
    ∙ same (sample_number f plane x y) (subst (λ (k : ℕ). k < mbs_of f) (sym (owner_is f plane x y i))
    (in_picture f plane x y i)))

sample_made : (f : Format) (g : ℕ → ℕ) (s : ℕ) → owner_of f s < mbs_of f → sample_of (picture_by f g) (spot f s) ≡ g s
sample_made f g s lt = sample_with f (λ plane x y. g (sample_number f plane x y)) (spot f s).plane (spot f s).x
    (spot f s).y
    (inside_is f s lt) ∙ ap g (number_is f s)

same_made : (f : Format) (g h : ℕ → ℕ) → ((s : ℕ) → owner_of f s < mbs_of f → g s ≡ h s)
    → picture_by f g ≡ picture_by f h
same_made f g h same = is_made f (picture_by f g) h (format_with f _) (whole_with f _) (λ s lt. sample_made f g s lt
    ∙ same s lt)

pub spots : AreSpots
spots = record {
  spot_is = spot_is;
  number_is = number_is;
  inside = inside_is;
  in_picture = in_picture;
  owner_is = owner_is;
}

pub by_samples : ArePicturesBySamples
by_samples = record { only = is_made; sample = sample_made; same = same_made }
