-- What a slice's macroblocks depend on: the picture's kind, how far each vector reaches, and what predicts it.
use Rattle.std.specs.Prelude.{ℕ, ◌+◌, ◌-◌, ◌*◌, ◌/◌, ◌%◌, List, ◌++◌, length, map, replicate, ℤ, pos, neg_ℤ}
use Rattle.std.specs.Int.{int_min, int_max}
use Rattle.h263_types.specs.declared.Kind.{Kind}
use Rattle.h263_types.specs.declared.format.Format.{Format}
use Rattle.h263_types.specs.declared.vector.Vector.{Vector}
use Rattle.h263_types.specs.declared.vector.Reach.{Reach}
use Rattle.h263_types.specs.declared.blocks.Mb.{Mb}
use Rattle.h263_types.specs.declared.blocks.Mb.TheVariants.{Skip, Intra, Inter}
use Rattle.h263_types.specs.Sizes.{width_of, height_of, columns_of}
use Rattle.h263_bits.specs.Syntax.{Syntax}
use Rattle.picture_header.specs.declared.header.Header.{Header}
use Rattle.macroblock_layer.specs.Prediction.{no_vector, predictor_of}
use Rattle.macroblock_layer.specs.Text.{mb}

-- the least component for which 16 samples from `at` on refer to none below 0, and the greatest for which they refer to
-- none past the end, both in the range of vectors (H.263, 6.1.1)
abbrev pub least_component : ℕ → ℤ
least_component at = int_max (neg_ℤ (pos 32)) (neg_ℤ (pos (2 * at)))

abbrev pub most : ℕ → ℕ → ℤ
most at size = int_min (pos 31) (pos (2 * (size - (at + 16))))

-- the reach of macroblock k of a picture
abbrev pub reach_of : Format → ℕ → Reach
reach_of f k = record {
  left = least_component (16 * (k % columns_of f));
  right = most (16 * (k % columns_of f)) (width_of f);
  up = least_component (16 * (k / columns_of f));
  down = most (16 * (k / columns_of f)) (height_of f);
}

-- a macroblock's vector, as its neighbours are predicted from it: none where it isn't Inter
abbrev pub vector_of : Mb → Vector
vector_of Skip = no_vector
vector_of (Intra quant blocks) = no_vector
vector_of (Inter quant vector blocks) = vector

-- the vectors of a picture's macroblocks up to the last of these, which begin with macroblock `first`: what stands
-- before the slice is none
abbrev pub vectors_of : ℕ → List Mb → List Vector
vectors_of first before = replicate first no_vector ++ map vector_of before

pub record Around : Type 0 where
  pub kind : Kind
  pub first : ℕ
  pub reaches : ℕ → Reach
  pub predictor : List Mb → Vector

-- the next macroblock's predictor, after earlier ones of the slice
abbrev pub next_predictor : Format → ℕ → List Mb → Vector
next_predictor f first before = predictor_of (vectors_of first before) first (first + length before) (columns_of f)

-- of a slice that begins with macroblock `first`
abbrev pub around : Header → ℕ → Around
around h first = record {
  kind = h.kind;
  first = first;
  reaches = reach_of h.format;
  predictor = next_predictor h.format first;
}

-- the quantiser after a macroblock (5.3.6)
abbrev pub quant_after : ℕ → Mb → ℕ
quant_after quant Skip = quant
quant_after _ (Intra quant blocks) = quant
quant_after _ (Inter quant vector blocks) = quant

-- the next macroblock, after earlier ones of the slice
abbrev pub next_mb : Around → ℕ → List Mb → Syntax Mb
next_mb a quant before = mb a.kind quant (a.reaches (a.first + length before)) (a.predictor before)
