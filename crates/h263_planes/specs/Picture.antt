-- A picture: a format and three lists of samples from 0 to 255, each plane by rows from the top (H.263, 4.1).
use Rattle.std.specs.Prelude.{ℕ, List}
use Rattle.h263_types.specs.declared.format.Format.{Format}

pub record Picture : Type 0 where
  pub format : Format
  pub y : List ℕ
  pub cb : List ℕ
  pub cr : List ℕ
