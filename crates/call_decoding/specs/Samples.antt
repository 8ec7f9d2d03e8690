-- The pictures of a format as both ends of a call decode them: samples by their numbers, each by
-- the formulas of reconstruction (H.263, 6.1 to 6.3).
use Rattle.std.specs.Prelude.{ℕ, Option}
use Rattle.h263_types.specs.declared.format.Format.{Format}
use Rattle.h263_types.specs.declared.blocks.Mb.{Mb}
use Rattle.h263_types.specs.declared.blocks.Mb.TheVariants.{Skip}
use Rattle.h263_planes.specs.Picture.{Picture}
use Rattle.h263_planes.specs.Spots.{spot, sample_of, owner_of, picture_by}
use Rattle.picture_recon.specs.Samples.{sample_in}
use Rattle.call_model.specs.Coding.{Pictures}
use Rattle.call_decoding.specs.Styles.{Style}

-- sample s of the macroblock that holds it
abbrev pub sample_of_mb : Format → ℕ → Option Picture → Mb → ℕ → ℕ
sample_of_mb f rounding reference mb s =
    sample_in rounding reference mb (spot f s).plane (spot f s).x (spot f s).y

abbrev pub pictures : Format → Pictures Style Mb Picture
pictures f =
    record {
      skip = Skip;
      owner = owner_of f;
      reconstructed_sample = λ style reference mb s. sample_of_mb f style.rounding reference mb s;
      picture_of = picture_by f;
      sample = λ p s. sample_of p (spot f s);
    }
