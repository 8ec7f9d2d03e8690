-- A coding of pictures of two samples, over which calls can be computed: each sample is a
-- macroblock and a slice of its own.
use Rattle.std.specs.Prelude.{ℕ, zero, suc, ◌+◌, nat_le, length, ◌==◌, Bool, ◌&&◌, List, [], ◌∷◌, map, slice_index_or, Option, Some, None, Result, Ok, Err, if◌then◌else◌}
use Rattle.std.specs.Option.{option_map}
use Rattle.call_model.specs.Coding.{Slice, Header, Piece, Message, Ack, Nack, Pictures, Decoding, Encoding, Coding}

-- a frame or a picture
pub record Two : Type 0 where
  pub left : ℕ
  pub right : ℕ

-- a sample that is as in the reference, or another one
pub data SmallMb : Type 0 where
  Same : SmallMb
  Value : ℕ → SmallMb

-- bytes that spell nothing
pub data SmallFault : Type 0 where
  Unread : SmallFault

-- sample 0 is the left one, and all others are the right one
abbrev pub small_sample : Two → ℕ → ℕ
small_sample two zero = two.left
small_sample two (suc s) = two.right

-- the macroblock of a sample, by the sample of the reference if there is one
abbrev pub small_choice : ℕ → Option ℕ → SmallMb
small_choice value None = Value value
small_choice value (Some before) = if value == before then Same else Value value

-- decoding is choice backwards
abbrev pub small_value : Option ℕ → SmallMb → ℕ
small_value None Same = 0
small_value (Some before) Same = before
small_value before (Value value) = value

-- an option as one number, and back
abbrev pub option_word : Option ℕ → ℕ
option_word None = 0
option_word (Some m) = suc m

abbrev pub word_option : ℕ → Option ℕ
word_option zero = None
word_option (suc m) = Some m

-- a macroblock as numbers: none where it is as in the reference
abbrev pub mb_words : SmallMb → List ℕ
mb_words Same = []
mb_words (Value value) = value ∷ []

-- the style of a picture: its depth and its quantiser
pub record SmallStyle : Type 0 where
  pub depth : ℕ
  pub quant : ℕ

-- A packet has six numbers: its picture's, the reference's, half the period, the depth, the
-- quantiser and the slice's place. Where its macroblock has a value of its own, that follows. A
-- packet of two macroblocks is read too, but not sent.
abbrev pub small_packet : Header SmallStyle → Slice SmallMb → List ℕ
small_packet header slice =
    header.number ∷ option_word header.reference ∷ header.half ∷ header.style.depth
    ∷ header.style.quant ∷ slice.first ∷ mb_words (slice_index_or slice.mbs 0 Same)

-- a header, and macroblocks from this place on, where they are within the picture
abbrev pub small_piece : Header SmallStyle → ℕ → List SmallMb → Result (Piece SmallStyle SmallMb) SmallFault
small_piece header place mbs =
    if nat_le (place + length mbs) 2 then Ok
    (record { header = header; slice = record { first = place; mbs = mbs } }) else Err Unread

abbrev pub small_header : (number reference half depth quant : ℕ) → Header SmallStyle
small_header number reference half depth quant =
    record {
      number = number;
      reference = word_option reference;
      half = half;
      style = record { depth = depth; quant = quant };
    }

abbrev pub small_read : List ℕ → Result (Piece SmallStyle SmallMb) SmallFault
small_read (number ∷ reference ∷ half ∷ depth ∷ quant ∷ place ∷ []) =
    small_piece (small_header number reference half depth quant) place (Same ∷ [])
small_read (number ∷ reference ∷ half ∷ depth ∷ quant ∷ place ∷ value ∷ []) =
    small_piece (small_header number reference half depth quant) place (Value value ∷ [])
small_read (number ∷ reference ∷ half ∷ depth ∷ quant ∷ place ∷ left ∷ right ∷ []) =
    small_piece (small_header number reference half depth quant) place (Value left ∷ Value right ∷ [])
small_read _ = Err Unread

-- flags as numbers, and back
abbrev pub flag_words : List Bool → List ℕ
flag_words flags = map (λ flag. if flag then 1 else 0) flags

abbrev pub word_flags : List ℕ → List Bool
word_flags words = map (λ word. word == 1) words

-- a message has its kind, its number, in a NACK the number that is offered, and the flags
abbrev pub small_message : Message → List ℕ
small_message (Ack number flags) = 0 ∷ number ∷ flag_words flags
small_message (Nack number offered flags) = 1 ∷ number ∷ offered ∷ flag_words flags

abbrev pub small_read_message : List ℕ → Result Message SmallFault
small_read_message (zero ∷ number ∷ words) = Ok (Ack number (word_flags words))
small_read_message (suc zero ∷ number ∷ offered ∷ words) = Ok (Nack number offered (word_flags words))
small_read_message _ = Err Unread

abbrev pub small_pictures : Pictures SmallStyle SmallMb Two
small_pictures = record {
  skip = Same;
  owner = λ s. s;
  reconstructed_sample = λ style reference mb s. small_value (option_map (λ two. small_sample two s) reference) mb;
  picture_of = λ f. record { left = f 0; right = f 1 };
  sample = small_sample;
}

abbrev pub small_decoding : Decoding SmallStyle SmallMb Two SmallFault
small_decoding = record {
  pictures = small_pictures;
  read = small_read;
  same_style = λ a b. (a.depth == b.depth) && (a.quant == b.quant);
}

abbrev pub small_encoding : Encoding Two SmallStyle SmallMb Two SmallFault
small_encoding = record {
  style = λ frame predicted depth quant. record { depth = depth; quant = quant };
  choice = λ frame reference style. small_choice frame.left (option_map (λ two. two.left) reference)
      ∷ small_choice frame.right (option_map (λ two. two.right) reference) ∷ [];
  cut = λ style mbs. record { first = 0; mbs = slice_index_or mbs 0 Same ∷ [] }
      ∷ record { first = 1; mbs = slice_index_or mbs 1 Same ∷ [] } ∷ [];
  packets = λ n sequence header slices. map (small_packet header) slices;
  write_message = small_message;
  read_message = small_read_message;
}

unfoldable pub small : Coding Two SmallStyle SmallMb Two SmallFault SmallFault
small = record { decoding = small_decoding; encoding = small_encoding }
