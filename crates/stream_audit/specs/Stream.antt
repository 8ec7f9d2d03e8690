-- A stream as it was sent: its pictures with their packets, among the feedback that its sender had.
use Rattle.std.specs.Prelude.{ℕ, ◌+◌, Bool, false, ◌==◌, List, [], ◌∷◌, ◌++◌, map, Option, Some, None, Result, Ok, Err, if◌then◌else◌}
use Rattle.std.specs.Option.{option_map_or}
use Rattle.std.specs.Result.{result_ok}
use Rattle.call_model.specs.Coding.{Rules, Slice, Header, Piece, Message, Decoding}
use Rattle.call_model.specs.Sending.{known_by_feedback}

-- what a log has: the bytes of a packet that was sent, or of feedback that had arrived
pub data LogEntry : Type 0 where
  Sent : (bytes : List ℕ) → LogEntry
  Fed : (bytes : List ℕ) → LogEntry

-- the part of a picture that one packet carries: the packet's bytes, and what they spell
pub record StreamPart (Style Mb : Type 0) : Type 0 where
  pub bytes : List ℕ
  pub piece : Piece Style Mb

-- a picture of a stream: the header of its first packet, and its parts in their order
pub record StreamPicture (Style Mb : Type 0) : Type 0 where
  pub header : Header Style
  pub parts : List (StreamPart Style Mb)

-- The pictures of a stream among the feedback, as the stream has them. Feedback between two packets
-- of a picture stands after that picture.
pub data Item (Style Mb : Type 0) : Type 0 where
  Picture : StreamPicture Style Mb → Item Style Mb
  Feedback : (bytes : List ℕ) → Item Style Mb

module _ {Style Mb : Type 0} where
  -- how many pictures there are, where the newest item stands first, as in all that follows
  abbrev pub pictures_in : List (Item Style Mb) → ℕ
  pictures_in [] = 0
  pictures_in (Picture p ∷ items) = pictures_in items + 1
  pictures_in (Feedback bytes ∷ items) = pictures_in items

  -- the last picture, if there is one
  abbrev pub last_picture : List (Item Style Mb) → Option (StreamPicture Style Mb)
  last_picture [] = None
  last_picture (Picture p ∷ items) = Some p
  last_picture (Feedback bytes ∷ items) = last_picture items

  -- picture n, which are numbered from 0
  abbrev pub picture_numbered : List (Item Style Mb) → ℕ → Option (StreamPicture Style Mb)
  picture_numbered [] n = None
  picture_numbered (Picture p ∷ items) n = if pictures_in items == n then Some p else picture_numbered items n
  picture_numbered (Feedback bytes ∷ items) n = picture_numbered items n

  -- the picture with one part more
  abbrev pub with_more : StreamPicture Style Mb → StreamPart Style Mb → StreamPicture Style Mb
  with_more p part = record p { parts = p.parts ++ part ∷ [] }

  -- the stream with one part more of its last picture
  abbrev pub items_with_part : List (Item Style Mb) → StreamPart Style Mb → List (Item Style Mb)
  items_with_part [] part = []
  items_with_part (Picture p ∷ items) part = Picture (with_more p part) ∷ items
  items_with_part (Feedback bytes ∷ items) part = Feedback bytes ∷ items_with_part items part

  -- the picture that a part begins
  abbrev pub begun_by : StreamPart Style Mb → StreamPicture Style Mb
  begun_by part = record { header = part.piece.header; parts = part ∷ [] }

  -- the slices and the packets of a picture
  abbrev pub part_slices : StreamPicture Style Mb → List (Slice Mb)
  part_slices p = map (λ part. part.piece.slice) p.parts

  abbrev pub part_packets : StreamPicture Style Mb → List (List ℕ)
  part_packets p = map (λ part. part.bytes) p.parts

  -- the packets of picture n: none where there is no such picture
  abbrev pub stream_packets : List (Item Style Mb) → ℕ → List (List ℕ)
  stream_packets items n = option_map_or part_packets (picture_numbered items n) []

  -- the packet is of the picture before it, since it has that one's temporal reference
  abbrev pub is_of_piece : Option (StreamPicture Style Mb) → Piece Style Mb → Bool
  is_of_piece None piece = false
  is_of_piece (Some p) piece = p.header.number == piece.header.number

  -- a packet more, which is of the last picture or begins the next one
  abbrev pub items_with_packet : List (Item Style Mb) → StreamPart Style Mb → List (Item Style Mb)
  items_with_packet items part =
      if is_of_piece (last_picture items) part.piece then items_with_part items part else Picture
      (begun_by part) ∷ items

  -- the numbers that the feedback has made known (H.263, Annex N): what is refused or old makes none
  abbrev pub known_of : {MessageFault : Type 0}
      → (List ℕ → Result Message MessageFault) → Rules → List (Item Style Mb) → List ℕ
  known_of read rules [] = []
  known_of read rules (Picture p ∷ items) = known_of read rules items
  known_of read rules (Feedback bytes ∷ items) =
      known_by_feedback rules (pictures_in items) (result_ok (read bytes)) ++ known_of read rules items

module _ {Style Mb P Fault : Type 0} (decoding : Decoding Style Mb P Fault) where
  -- the stream after the bytes of a packet. Bytes that are no packet are passed over
  abbrev pub items_with_bytes : List (Item Style Mb)
      → List ℕ → Result (Piece Style Mb) Fault → List (Item Style Mb)
  items_with_bytes items bytes (Ok piece) = items_with_packet items (record { bytes = bytes; piece = piece })
  items_with_bytes items bytes (Err fault) = items

  -- the stream of a log, the newest first in both
  abbrev pub stream_of : List LogEntry → List (Item Style Mb)
  stream_of [] = []
  stream_of (Sent bytes ∷ past) = items_with_bytes (stream_of past) bytes (decoding.read bytes)
  stream_of (Fed bytes ∷ past) = Feedback bytes ∷ stream_of past
