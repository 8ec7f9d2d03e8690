-- The text that is written of a slice: after the picture header or by itself.
use Rattle.std.specs.Prelude.{◌≡◌, ℕ, ◌+◌, ◌*◌, ◌/◌, ◌<◌, ◌==◌, List, [], ◌∷◌, ◌++◌, length, take, Bool, true, false}
use Rattle.h263_types.specs.declared.Kind.{Kind}
use Rattle.h263_types.specs.declared.vector.Reach.{Reach}
use Rattle.h263_types.specs.declared.blocks.Mb.{Mb}
use Rattle.h263_types.specs.Blocks.{IsMb, IsOfKind, HasWholeBlocks}
use Rattle.h263_types.specs.Sizes.{mbs_of}
use Rattle.h263_bits.specs.Bits.{bits_of, spelled, fields}
use Rattle.h263_bits.specs.Written.{to_byte}
use Rattle.picture_header.specs.declared.header.Header.{Header}
use Rattle.picture_header.specs.Written.{written_header, kind_code, reference_fields}
use Rattle.macroblock_layer.specs.Written.{mb_text, IsStepped, IsReached}
use Rattle.slice_layer.specs.Around.{Around, around, quant_after}
use Rattle.slice_layer.specs.Head.{address_bits}

-- GFID differs between pictures whose kind or rounding differs
abbrev pub gfid : Header → ℕ
gfid h = 2 * h.rounding + kind_code h.kind

-- SEPB1, MBA, SEPB3 after the picture header
abbrev pub first_fields : Header → List (ℕ × ℕ)
first_fields h = (1, 1) ∷ (address_bits h.format, 0) ∷ (1, 1) ∷ []

-- the start code's last bit, SEPB1, MBA, SQUANT, SEPB3
abbrev pub place_fields : Header → ℕ → List (ℕ × ℕ)
place_fields h first = (1, 1) ∷ (1, 1) ∷ (address_bits h.format, first) ∷ (5, h.quant) ∷ (1, 1) ∷ []

-- GFID and TRI, TRPI and TRP, BCI
abbrev pub tail_text : Header → List Bool
tail_text h = fields ((2, gfid h) ∷ (1, 0) ∷ []) ++ (fields (reference_fields h.trp) ++ fields ((2, 1) ∷ []))

-- the header of a slice that begins with macroblock `first`; where it begins a picture, after the picture header
abbrev pub slice_head_text : Header → Bool → ℕ → List Bool
slice_head_text h true first = fields (first_fields h)
slice_head_text h false first = fields (place_fields h first) ++ tail_text h

abbrev pub opening_text : Header → Bool → ℕ → List Bool
opening_text h true first = written_header h ++ slice_head_text h true first
opening_text h false first = slice_head_text h false first

-- macroblocks one after the other, after earlier ones
unfoldable pub mbs_text : Around → ℕ → List Mb → List Mb → List Bool
mbs_text a quant before [] = []
mbs_text a quant before (m ∷ mbs) = mb_text a.kind quant (a.predictor before) m
    ++ mbs_text a (quant_after quant m) (before ++ m ∷ []) mbs

-- the slice, up to its last macroblock
abbrev pub slice_text : Header → Bool → ℕ → List Mb → List Bool
slice_text h begins first mbs = opening_text h begins first ++ mbs_text (around h first) h.quant [] mbs

-- zero bits after a text, up to a whole byte
abbrev pub padded : List Bool → List Bool
padded text = text ++ spelled (to_byte (length text)) 0

-- how many bytes a text takes
abbrev pub bytes_filled_by : List Bool → ℕ
bytes_filled_by text = (length text + to_byte (length text)) / 8

-- bytes begin with a text, padded up to a whole byte
abbrev pub IsPaddedFront : List Bool → List ℕ → Type 0
IsPaddedFront text bytes = bits_of (take (bytes_filled_by text) bytes) ≡ padded text

-- the quantiser after macroblocks
abbrev pub quant_after_all : ℕ → List Mb → ℕ
quant_after_all quant [] = quant
quant_after_all quant (m ∷ mbs) = quant_after_all (quant_after quant m) mbs

-- where a slice may begin: with the picture's first macroblock after the picture header, and with
-- a later one by itself
pub record IsSlicePlace (h : Header) (begins : Bool) (first : ℕ) : Type 0 where
  pub within : first < mbs_of h.format
  pub at_zero : (first == 0) ≡ begins

-- a macroblock that may be written in a picture of this kind, where its quantiser before it and its reach are these
pub record IsWritable (kind : Kind) (quant : ℕ) (reach : Reach) (m : Mb) : Type 0 where
  pub in_range : IsMb m
  pub of_kind : IsOfKind kind m
  pub step : IsStepped quant m
  pub whole : HasWholeBlocks m
  pub reached : IsReached reach m

-- macroblocks that may be written one after the other, after earlier ones
unfoldable pub AreWritable : Around → ℕ → List Mb → List Mb → Type 0
AreWritable a quant before [] = Unit {0}
AreWritable a quant before (m ∷ mbs) =
    IsWritable a.kind quant (a.reaches (a.first + length before)) m
    × AreWritable a (quant_after quant m) (before ++ m ∷ []) mbs
