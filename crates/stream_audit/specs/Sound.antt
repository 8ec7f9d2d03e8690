-- What a sound stream is: each of its pictures covers the format with slices of one header, stands
-- in its order, and refers to nothing but what its sender knew to be there.
use Rattle.std.specs.Prelude.{◌≡◌, ◌↔◌, ℕ, ◌+◌, ◌%◌, ◌≤◌, ⊤, true, List, [], ◌∷◌, slice_get, Some, Result, Ok}
use Rattle.call_model.specs.Coding.{Rules, window, period, Piece, Message, Decoding}
use Rattle.call_model.specs.CodedPictures.{is_among}
use Rattle.call_model.specs.Sending.{nearest_below}
use Rattle.call_model.specs.Lawful.{Covers}
use Rattle.stream_audit.specs.declared.verdict.Verdict.TheVariants.{Yes}
use Rattle.stream_audit.specs.Stream.{LogEntry, Sent, Fed, StreamPart, StreamPicture, Item, Picture, Feedback, pictures_in, part_slices, known_of, stream_of}
use Rattle.stream_audit.specs.Verdict.{verdict_of}

module _ {Style Mb P Fault : Type 0} (decoding : Decoding Style Mb P Fault) (rules : Rules) where
  -- the bytes are a packet of the picture clock
  abbrev pub IsReadable : List ℕ → Type 0
  IsReadable bytes = (piece : Piece Style Mb) × (decoding.read bytes ≡ Ok piece) × (piece.header.half ≡ rules.half)

  -- so are those of each packet of a log
  abbrev pub AllReadable : List LogEntry → Type 0
  AllReadable [] = ⊤
  AllReadable (Sent bytes ∷ past) = IsReadable bytes × AllReadable past
  AllReadable (Fed bytes ∷ past) = AllReadable past

module _ {Style Mb P Fault MessageFault : Type 0} (decoding : Decoding Style Mb P Fault)
    (read : List ℕ → Result Message MessageFault) (rules : Rules) where
  -- A picture is sound after these items: it is the next by its temporal reference, and of the
  -- picture clock; each of its packets spells a slice with its header; the slices cover it; and its
  -- reference, if it names one, is in the window and was known before it.
  pub record IsSoundAfter (items : List (Item Style Mb)) (p : StreamPicture Style Mb) : Type 0 where
    pub number : p.header.number ≡ pictures_in items % period rules
    pub half : p.header.half ≡ rules.half
    pub packets : (j : ℕ) (part : StreamPart Style Mb) → slice_get p.parts j ≡ Some part
        → (decoding.read part.bytes ≡ Ok part.piece) × (part.piece.header ≡ p.header)
    pub covers : Covers rules.mbs (part_slices p)
    pub reference : (rest : ℕ) → p.header.reference ≡ Some rest
        → (m : ℕ) × (nearest_below rules (pictures_in items) rest ≡ Some m)
        × (pictures_in items ≤ m + window rules) × (is_among (known_of read rules items) m ≡ true)

  -- each picture of a stream is sound after the items before it
  abbrev pub IsSound : List (Item Style Mb) → Type 0
  IsSound [] = ⊤
  IsSound (Feedback bytes ∷ items) = IsSound items
  IsSound (Picture p ∷ items) = IsSoundAfter items p × IsSound items

  -- the verdict on a log is yes exactly where its packets are readable and its stream, of so many
  -- pictures, is sound
  abbrev pub YesIsSound : Type 0
  YesIsSound = (past : List LogEntry) (count : ℕ) → (verdict_of decoding read rules past ≡ Yes count)
      ↔ (AllReadable decoding rules past
      × (pictures_in (stream_of decoding past) ≡ count) × IsSound (stream_of decoding past))
