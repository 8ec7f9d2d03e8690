-- The rules of a stream, and the verdict on a log: the first rule that is broken decides.
use Rattle.std.specs.Prelude.{◌≡◌, ℕ, ◌+◌, ◌-◌, ◌%◌, Bool, true, false, ◌&&◌, not, nat_le, ◌==◌, List, [], ◌∷◌, Option, Some, None, Result, Ok, Err, if◌then◌else◌}
use Rattle.std.specs.Option.{option_map, option_map_or}
use Rattle.std.specs.List.{list_any}
use Rattle.call_model.specs.Numbers.{all_below}
use Rattle.call_model.specs.Coding.{Rules, window, period, has_mb, Header, Piece, Message, Decoding, same_header}
use Rattle.call_model.specs.CodedPictures.{is_among}
use Rattle.call_model.specs.Receiving.{none_in}
use Rattle.call_model.specs.Sending.{nearest_below}
use Rattle.stream_audit.specs.declared.verdict.Broken.{Broken}
use Rattle.stream_audit.specs.declared.verdict.Rule.{Rule}
use Rattle.stream_audit.specs.declared.verdict.Rule.TheVariants as rule
use Rattle.stream_audit.specs.declared.verdict.Verdict.{Verdict}
use Rattle.stream_audit.specs.declared.verdict.Verdict.TheVariants.{Yes, No}
use Rattle.stream_audit.specs.Stream.{LogEntry, Sent, Fed, StreamPicture, Item, pictures_in, last_picture, is_of_piece, known_of, stream_of}

-- a rule that is broken at picture n
abbrev pub broken_at : ℕ → Rule → Broken
broken_at n r = record { number = n; rule = r }

-- the one before, if there is one
abbrev pub first_broken_of : Option Broken → Option Broken → Option Broken
first_broken_of None later = later
first_broken_of (Some b) later = Some b

-- picture m may be the reference of picture n: it is known, and in the window below n
abbrev pub may_refer : Rules → List ℕ → (n m : ℕ) → Bool
may_refer rules known n m = is_among known m && nat_le n (m + window rules)

module _ {Style Mb : Type 0} where
  -- macroblock k is in a packet of the picture
  abbrev pub has : StreamPicture Style Mb → ℕ → Bool
  has p k = list_any (λ part. has_mb part.piece.slice k) p.parts

  -- the picture has all its macroblocks
  abbrev pub is_picture_whole : Rules → StreamPicture Style Mb → Bool
  is_picture_whole rules p = all_below rules.mbs (has p)

  -- the last picture, if there is one, has all its macroblocks
  abbrev pub last_is_whole : Rules → List (Item Style Mb) → Bool
  last_is_whole rules items = option_map_or (is_picture_whole rules) (last_picture items) true

  -- the number of the last picture: 0 before the first
  abbrev pub present : List (Item Style Mb) → ℕ
  present items = pictures_in items - 1

module _ {Style Mb P Fault MessageFault : Type 0} (decoding : Decoding Style Mb P Fault)
    (read : List ℕ → Result Message MessageFault) (rules : Rules) where
  -- the next picture may have the reference that its header names, if it names one
  abbrev pub item_has_reference : List (Item Style Mb) → Header Style → Bool
  item_has_reference items header =
      option_map_or (λ rest.
      option_map_or (may_refer rules (known_of read rules items) (pictures_in items))
      (nearest_below rules (pictures_in items) rest) false)
      header.reference true

  -- the rule that a packet of the last picture breaks
  abbrev pub broken_within : Option (StreamPicture Style Mb) → Piece Style Mb → Option Rule
  broken_within None piece = None
  broken_within (Some p) piece =
      if not (same_header decoding p.header piece.header) then Some rule.Header
      else if not (none_in piece.slice (has p)) then Some rule.Overlap
      else None

  -- the rule that the first packet of the next picture breaks, and where
  abbrev pub broken_next : List (Item Style Mb) → Piece Style Mb → Option Broken
  broken_next items piece =
      if not (last_is_whole rules items) then Some (broken_at (present items) rule.Gap)
      else if not (piece.header.number == pictures_in items % period rules)
      then Some (broken_at (pictures_in items) rule.Number)
      else if not (item_has_reference items piece.header)
      then Some (broken_at (pictures_in items) rule.Reference)
      else None

  -- the rule that a packet breaks: first that it is one, of the picture clock
  abbrev pub broken_by : List (Item Style Mb) → Result (Piece Style Mb) Fault → Option Broken
  broken_by items (Err fault) = Some (broken_at (present items) rule.Packet)
  broken_by items (Ok piece) =
      if not (piece.header.half == rules.half) then Some (broken_at (present items) rule.Packet)
      else if is_of_piece (last_picture items) piece
      then option_map (broken_at (present items)) (broken_within (last_picture items) piece)
      else broken_next items piece

  -- feedback breaks none
  abbrev pub broken_in : List (Item Style Mb) → LogEntry → Option Broken
  broken_in items (Sent bytes) = broken_by items (decoding.read bytes)
  broken_in items (Fed bytes) = None

  -- the first rule that is broken in a log, the newest first
  abbrev pub first_broken : List LogEntry → Option Broken
  first_broken [] = None
  first_broken (e ∷ past) = first_broken_of (first_broken past) (broken_in (stream_of decoding past) e)

  -- at the end the last picture is to have all its macroblocks
  abbrev pub closing : List (Item Style Mb) → Verdict
  closing items = if last_is_whole rules items then Yes (pictures_in items) else No (present items) rule.Gap

  abbrev pub verdict_by : Option Broken → List (Item Style Mb) → Verdict
  verdict_by None items = closing items
  verdict_by (Some b) items = No b.number b.rule

  -- the verdict on a log, the newest first
  abbrev pub verdict_of : List LogEntry → Verdict
  verdict_of past = verdict_by (first_broken past) (stream_of decoding past)

-- No rule asks how many flags the receiver's messages have: with any number of them the verdict is
-- the same.
abbrev pub FlagsAreNotJudged : {Style Mb P Fault MessageFault : Type 0} → Decoding Style Mb P Fault
    → (List ℕ → Result Message MessageFault) → Rules → Type 0
FlagsAreNotJudged decoding read rules = (flags : ℕ) (past : List LogEntry) →
    verdict_of decoding read (record rules { flags = flags }) past ≡ verdict_of decoding read rules past
