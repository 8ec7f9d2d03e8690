-- What a packet that has a slice in it needs to know of slices.
use Rattle.std.specs.Prelude.{◌≡◌, ◌↔◌, ℕ, ℤ, ◌+◌, ◌<◌, ◌≤◌, ◌++◌, List, [], ◌∷◌, length, Bool, true, false, Ok}
use Rattle.h263_types.specs.declared.format.Format.{Format}
use Rattle.h263_types.specs.declared.blocks.Mb.{Mb}
use Rattle.h263_types.specs.Blocks.{HasWholeBlocks}
use Rattle.h263_types.specs.Sizes.{mbs_of}
use Rattle.h263_types.specs.Vectors.{InReach, IsWithin}
use Rattle.h263_bits.specs.Bits.{spelled}
use Rattle.h263_bits.specs.Reading.{Bits}
use Rattle.h263_bits.specs.Written.{to_byte}
use Rattle.picture_header.specs.declared.header.Header.{Header}
use Rattle.picture_header.specs.Ranges.{IsHeader}
use Rattle.picture_header.specs.Written.{written_header, written_bits, reference_bits}
use Rattle.slice_layer.specs.Around.{around, reach_of}
use Rattle.slice_layer.specs.Head.{address_bits}
use Rattle.slice_layer.specs.Text.{is_padding, IsSliceText, slice_at}
use Rattle.slice_layer.specs.Written.{slice_head_text, opening_text, mbs_text, slice_text, padded, bytes_filled_by, quant_after_all, IsSlicePlace, IsWritable, AreWritable}

-- bits are read as a slice exactly where they are its text
abbrev pub AreRead : Type 0
AreRead =
    (h : Header) (begins : Bool) (first : ℕ) (mbs : List Mb) (b : Bits)
    → (slice_at h begins b ≡ Ok (first, mbs)) ↔ IsSliceText h begins first mbs b.bits

-- What is written of a slice, with fewer than 8 zero bits after it, is a text of it, where its macroblocks are one at
-- least, all in the picture, and each may be written after those before it.
pub record AreSlicesSpelt : Type 0 where
  pub text : (h : Header) (begins : Bool) (first : ℕ) (mbs : List Mb) (padding : List Bool)
      → IsHeader h → IsSlicePlace h begins first → 0 < length mbs → first + length mbs ≤ mbs_of h.format
      → AreWritable (around h first) h.quant [] mbs → is_padding padding ≡ true
      → IsSliceText h begins first mbs
      (slice_head_text h begins first ++ (mbs_text (around h first) h.quant [] mbs ++ padding))
  -- so is what a writer leaves of a later slice, and of the first one, after the picture header
  pub later : (h : Header) (first : ℕ) (mbs : List Mb)
      → IsHeader h → IsSlicePlace h false first → 0 < length mbs → first + length mbs ≤ mbs_of h.format
      → AreWritable (around h first) h.quant [] mbs
      → IsSliceText h false first mbs (padded (slice_text h false first mbs))
  pub first : (h : Header) (first : ℕ) (mbs : List Mb)
      → IsHeader h → IsSlicePlace h true first → 0 < length mbs → first + length mbs ≤ mbs_of h.format
      → AreWritable (around h first) h.quant [] mbs
      → (text : List Bool) × (padded (slice_text h true first mbs) ≡ written_header h ++ text)
      × IsSliceText h true first mbs text
  -- zero bits up to a whole byte are fewer than 8
  pub padding : (n : ℕ) → is_padding (spelled (to_byte n) 0) ≡ true

-- how long it is, what stands before a slice's macroblocks, and a slice of one macroblock at most
pub record AreSlicesShort : Type 0 where
  pub begins : (h : Header) (first : ℕ)
      → length (opening_text h true first) ≡ written_bits h + (2 + address_bits h.format)
  pub later : (h : Header) (first : ℕ)
      → length (opening_text h false first) ≡ 14 + address_bits h.format + reference_bits h.trp
  pub opening : (h : Header) (begins : Bool) (first : ℕ) → IsHeader h
      → length (opening_text h begins first) ≤ 262
  pub one : (h : Header) (begins : Bool) (first : ℕ) (m : Mb) → IsHeader h → HasWholeBlocks m
      → bytes_filled_by (slice_text h begins first (m ∷ [])) ≤ 1095

-- macroblocks may be written one after the other where each one may after those before it
pub record IsOneMore : Type 0 where
  pub none : (h : Header) (first : ℕ) → AreWritable (around h first) h.quant [] []
  pub more : (h : Header) (first : ℕ) (mbs : List Mb) (m : Mb)
      → AreWritable (around h first) h.quant [] mbs
      → IsWritable h.kind (quant_after_all h.quant mbs) (reach_of h.format (first + length mbs)) m
      → AreWritable (around h first) h.quant [] (mbs ++ m ∷ [])

-- the closed form of a reach has the vectors whose block lies in the picture
abbrev pub AreReached : Type 0
AreReached = (f : Format) (k : ℕ) (x y : ℤ) → k < mbs_of f → InReach f k x y ↔ IsWithin (reach_of f k) x y

pub record SliceLaws : Type 0 where
  pub read : AreRead
  pub spelt : AreSlicesSpelt
  pub short : AreSlicesShort
  pub one_more : IsOneMore
  pub reach : AreReached
