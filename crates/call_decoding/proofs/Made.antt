-- Pictures by their samples, and their reconstruction.
use Rattle.std.proofs.Common.{◌≡◌, ℕ, List, Option, refl, sym}
use Rattle.h263_types.specs.declared.format.Format.{Format}
use Rattle.h263_types.specs.declared.blocks.Mb.{Mb}
use Rattle.h263_types.specs.declared.params.Params.{Params}
use Rattle.h263_types.specs.Blocks.{mb_in}
use Rattle.h263_planes.specs.declared.Plane.{Plane}
use Rattle.h263_planes.specs.Picture.{Picture}
use Rattle.h263_planes.specs.Blocks.{mb_of}
use Rattle.h263_planes.specs.Samples.{Inside, IsWhole, sample_at}
use Rattle.h263_planes.specs.Spots.{spot, sample_of, owner_of, AreSpots, ArePicturesBySamples}
use Rattle.picture_recon.specs.Samples.{sample_in}
use Rattle.picture_recon.specs.Samples as recon
use Rattle.call_model.specs.Coding.{decoded_picture}
use Rattle.call_model.specs.Lawful.{IsMade, IsPictures}
use Rattle.call_decoding.specs.Rules.{rules_of}
use Rattle.call_decoding.specs.Samples.{pictures}
use Rattle.call_decoding.specs.Styles.{Style}

pub pictured : ArePicturesBySamples → (p : Params) → IsPictures (pictures p.format) (rules_of p)
pictured by p = record { picture_same = by.same p.format; sample_is = by.sample p.format }

pub is_made : ArePicturesBySamples → (f : Format) (p : Picture) → p.format ≡ f → IsWhole p → IsMade (pictures f) p
is_made by f p same whole = (
  λ s. sample_of p (spot f s),
  by.only f p (λ s. sample_of p (spot f s)) same whole
      (λ s inside. refl),
)

-- a sample of macroblocks, by its number
abbrev value : Format → Style → Option Picture → List Mb → ℕ → ℕ
value f style reference mbs s = sample_in style.rounding reference (mb_in mbs (owner_of f s)) (spot f s).plane
    (spot f s).x (spot f s).y

pub reconstructed : ArePicturesBySamples → ((f : Format) (rounding : ℕ) (reference : Option Picture) (mbs : List Mb)
    → IsWhole (recon.reconstruction f rounding reference mbs))
    → ((f : Format) (rounding : ℕ) (reference : Option Picture) (mbs : List Mb)
    → (recon.reconstruction f rounding reference mbs).format ≡ f)
    → ((f : Format) (rounding : ℕ) (reference : Option Picture) (mbs : List Mb) (plane : Plane) (x y : ℕ)
    → Inside f plane x y 1 → sample_at (recon.reconstruction f rounding reference mbs) plane x y
    ≡ sample_in rounding reference (mb_in mbs (mb_of f plane x y)) plane x y)
    → AreSpots → (f : Format) (style : Style) (reference : Option Picture) (mbs : List Mb)
    → decoded_picture (pictures f) style reference mbs ≡ recon.reconstruction f style.rounding reference mbs
reconstructed by whole format samples spots f style reference mbs =
    sym (by.only f (recon.reconstruction f style.rounding reference mbs) (value f style reference mbs)
    (format f style.rounding reference mbs) (whole f style.rounding reference mbs)
    (λ s inside. samples f style.rounding reference mbs (spot f s).plane (spot f s).x (spot f s).y
    (spots.inside f s inside)))
