-- A plane that is made row by row.
use Rattle.std.proofs.Common.{◌≡◌, ◌∙◌, ◌<◌, ℕ, Bool, true, false, ◌&&◌, refl, subst}
use Rattle.h263_types.specs.declared.format.Format.{Format}
use Rattle.h263_planes.specs.declared.Plane.{Plane}
use Rattle.h263_planes.specs.declared.Plane.TheVariants.{Y, Cb, Cr}
use Rattle.h263_planes.specs.Picture.{Picture}
use Rattle.h263_planes.specs.Samples.{Inside, IsPicture, same_plane, sample_at}
use Rattle.make_input.specs.Frames.{made_sample}

-- the rows of a plane above y are made, and the other planes are as they were
pub record RowsMade (seed n : ℕ) (plane : Plane) (y : ℕ) (old new : Picture) : Type 0 where
  pub format : new.format ≡ old.format
  pub whole : IsPicture new
  pub made : (i j : ℕ) → j < y → Inside old.format plane i j 1 → sample_at new plane i j ≡ made_sample seed n plane i j
  pub others : (other : Plane) (i j : ℕ) → Inside old.format other i j 1 → same_plane plane other ≡ false
      → sample_at new other i j ≡ sample_at old other i j

and_false : (b : Bool) → (b && false) ≡ false
and_false true = refl
and_false false = refl

-- plane by plane each sample is made
pub three_planes : (made : Plane → ℕ → ℕ → ℕ) (p0 p1 p2 p3 : Picture) → p1.format ≡ p0.format → p2.format ≡ p1.format
    → p3.format ≡ p2.format
    → ((x y : ℕ) → Inside p0.format Y x y 1 → sample_at p1 Y x y ≡ made Y x y)
    → ((x y : ℕ) → Inside p1.format Cb x y 1 → sample_at p2 Cb x y ≡ made Cb x y)
    → ((x y : ℕ) → Inside p2.format Cr x y 1 → sample_at p3 Cr x y ≡ made Cr x y)
    → ((other : Plane) (x y : ℕ) → Inside p1.format other x y 1 → same_plane Cb other ≡ false → sample_at p2 other x y
    ≡ sample_at p1 other x y)
    → ((other : Plane) (x y : ℕ) → Inside p2.format other x y 1 → same_plane Cr other ≡ false → sample_at p3 other x y
    ≡ sample_at p2 other x y)
    → (plane : Plane) (x y : ℕ) → Inside p3.format plane x y 1 → sample_at p3 plane x y ≡ made plane x y
three_planes made p0 p1 p2 p3 f1 f2 f3 luma cb cr kept kept_again = go
  where
    in_two : (plane : Plane) (x y : ℕ) → Inside p3.format plane x y 1 → Inside p2.format plane x y 1
    in_two plane x y inside = subst (λ (f : Format). Inside f plane x y 1) f3 inside

    in_one : (plane : Plane) (x y : ℕ) → Inside p3.format plane x y 1 → Inside p1.format plane x y 1
    in_one plane x y inside = subst (λ (f : Format). Inside f plane x y 1) f2 (in_two plane x y inside)

    in_none : (plane : Plane) (x y : ℕ) → Inside p3.format plane x y 1 → Inside p0.format plane x y 1
    in_none plane x y inside = subst (λ (f : Format). Inside f plane x y 1) f1 (in_one plane x y inside)

    go : (plane : Plane) (x y : ℕ) → Inside p3.format plane x y 1 → sample_at p3 plane x y ≡ made plane x y
    go Y x y inside = kept_again Y x y (in_two Y x y inside) refl ∙ kept Y x y (in_one Y x y inside) refl
        ∙ luma x y (in_none Y x y inside)
    go Cb x y inside = kept_again Cb x y (in_two Cb x y inside) refl ∙ cb x y (in_one Cb x y inside)
    go Cr x y inside = cr x y (in_two Cr x y inside)
