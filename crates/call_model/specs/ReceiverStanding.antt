-- That a receiver stands for the longer list after a packet and after a play, from what it kept
-- before.
use Rattle.std.specs.Prelude.{◌≡◌, ℕ, ◌+◌, ◌%◌, ◌<◌, ◌≤◌, Bool, true, false, ◌&&◌, ◌||◌, nat_lt, ◌==◌, List, [], ◌∷◌, Option, Some, None, Result, Ok, Err, is_some, if◌then◌else◌, slice_get}
use Rattle.std.specs.Option.{option_map, option_map_or}
use Rattle.call_model.specs.Numbers.{all_below, greatest, flags_of}
use Rattle.call_model.specs.Coding.{Rules, has_mb, Header, Piece, Message, Mark, Exact, Patched, Held, Decoding, mb_at, mixed, grey}
use Rattle.call_model.specs.Sending.{nearest}
use Rattle.call_model.specs.Receiving.{Heard, Refused, OtherClock, Late, Early, Completed, Taken, nack, header_reference, is_complete, decoded, heard, played_mark, played_picture, played_message, ReceiverEntry, Packet, PlayNext, receiver_run, TakenSlice, has_taken, decoded_sample}
use Rattle.call_model.specs.Stands.{Receiver, ReceiverStands, is_in_slot, judged}

-- the answer takes the slice
abbrev pub is_taking : {Fault : Type 0} → Heard Fault → Bool
is_taking (Completed message) = true
is_taking Taken = true
is_taking _ = false

module _ {Style Mb Picture Fault : Type 0} (decoding : Decoding Style Mb Picture Fault) (rules : Rules) where
  -- the answer to a packet, by what the receiver keeps
  unfoldable pub heard_by_kept : Receiver Style Picture → Result (Piece Style Mb) Fault → Heard Fault
  heard_by_kept r (Err fault) = Refused fault
  heard_by_kept r (Ok piece) =
      if piece.header.half == rules.half
      then option_map_or (λ n.
      if nat_lt n r.played then Late
      else if nat_lt (r.played + rules.lead) n then Early
      else judged decoding rules r n piece)
      (nearest rules r.played piece.header.number) Late
      else OtherClock

  -- the picture of the reference that a header of picture n names, where its slot has it
  abbrev pub reference_picture : Receiver Style Picture → ℕ → Header Style → Option Picture
  reference_picture r n header = option_map (λ m. r.picture (m % rules.slots))
      (header_reference decoding rules n header)

  -- with this slice all macroblocks of picture n are there
  abbrev pub completes : Receiver Style Picture → ℕ → Piece Style Mb → Bool
  completes r n piece = all_below rules.mbs (λ k. has_mb piece.slice k || r.has n k)

  -- a number of a row that is open
  abbrev pub IsInLead : Receiver Style Picture → ℕ → Type 0
  IsInLead r m = (r.played ≤ m) × (m ≤ r.played + rules.lead)

  -- What a slice of picture n leaves: in the row of n its header and its macroblocks, and in the work
  -- picture its samples, by the reference in its slot. Where it makes the picture complete, that
  -- takes its slot with the samples of the work picture. No other row and no other slot changes.
  pub record IsAfterSlice (r t : Receiver Style Picture) (n : ℕ) (piece : Piece Style Mb) : Type 0 where
    pub played : t.played ≡ r.played
    pub screen : t.screen ≡ r.screen
    pub header : t.header n ≡ Some piece.header
    pub has : (k : ℕ) → k < rules.mbs → t.has n k ≡ (has_mb piece.slice k || r.has n k)
    pub drawn : (s : ℕ) → decoding.pictures.owner s < rules.mbs → has_mb piece.slice (decoding.pictures.owner s) ≡ true
        → decoding.pictures.sample (t.work n) s
        ≡ decoding.pictures.reconstructed_sample piece.header.style (reference_picture r
        n piece.header) (mb_at decoding.pictures.skip piece.slice (decoding.pictures.owner s)) s
    pub left : (s : ℕ) → decoding.pictures.owner s < rules.mbs → has_mb piece.slice (decoding.pictures.owner s) ≡ false
        → decoding.pictures.sample (t.work n) s ≡ decoding.pictures.sample (r.work n) s
    pub rows : (m : ℕ) → IsInLead r m → (m ≡ n → ⊥)
        → (t.header m ≡ r.header m) × ((k : ℕ) → k < rules.mbs → t.has m k ≡ r.has m k) × (t.work m ≡ r.work m)
    pub part : completes r n piece ≡ false
        → (t.kept (n % rules.slots) ≡ r.kept (n % rules.slots))
        × (t.picture (n % rules.slots) ≡ r.picture (n % rules.slots))
    pub whole : completes r n piece ≡ true
        → (t.kept (n % rules.slots) ≡ Some n)
        × (t.picture (n % rules.slots) ≡ decoding.pictures.picture_of (λ s. decoding.pictures.sample (t.work n) s))
    pub slots : (rest : ℕ) → rest < rules.slots → (rest ≡ n % rules.slots → ⊥)
        → (t.kept rest ≡ r.kept rest) × (t.picture rest ≡ r.picture rest)

  -- the mark, the picture and the message of the next play, by what the receiver keeps
  unfoldable pub mark_by_kept : Receiver Style Picture → Mark
  mark_by_kept r =
      if is_in_slot decoding rules r r.played then Exact
      else if is_some (r.header r.played) then Patched else Held

  unfoldable pub picture_by_kept : Receiver Style Picture → Picture
  picture_by_kept r =
      if is_in_slot decoding rules r r.played then r.picture (r.played % rules.slots)
      else mixed decoding.pictures (r.has r.played) (r.work r.played) r.screen

  abbrev pub offer_by_kept : Receiver Style Picture → Option ℕ
  offer_by_kept r =
      greatest (λ m. is_in_slot decoding rules r m && nat_lt r.played (m + rules.slots)) (r.played + rules.lead + 1)

  unfoldable pub message_by_kept : Receiver Style Picture → Option Message
  message_by_kept r =
      if is_in_slot decoding rules r r.played then None
      else Some (nack rules r.played (offer_by_kept r) (flags_of rules.flags (is_in_slot decoding rules r) r.played))

  -- What a play leaves: its picture on the screen, and an empty row for the number that becomes
  -- open. No slot changes.
  pub record IsAfterPlay (r t : Receiver Style Picture) : Type 0 where
    pub played : t.played ≡ r.played + 1
    pub screen : t.screen ≡ picture_by_kept r
    pub new_header : t.header (r.played + rules.lead + 1) ≡ None
    pub new_has : (k : ℕ) → k < rules.mbs → t.has (r.played + rules.lead + 1) k ≡ false
    pub rows : (m : ℕ) → IsInLead r m
        → (t.header m ≡ r.header m) × ((k : ℕ) → k < rules.mbs → t.has m k ≡ r.has m k) × (t.work m ≡ r.work m)
    pub slots : (rest : ℕ) → rest < rules.slots → (t.kept rest ≡ r.kept rest) × (t.picture rest ≡ r.picture rest)

  -- a receiver to which nothing was done has empty rows and empty slots
  pub record IsNewReceiver (r : Receiver Style Picture) : Type 0 where
    pub played : r.played ≡ 0
    pub screen : r.screen ≡ grey decoding.pictures
    pub headers : (n : ℕ) → n ≤ rules.lead → r.header n ≡ None
    pub has : (n k : ℕ) → n ≤ rules.lead → k < rules.mbs → r.has n k ≡ false
    pub slots : (rest : ℕ) → rest < rules.slots → r.kept rest ≡ None

  -- what the receiver answers by what it keeps is the answer of its run
  abbrev pub HeardByKept : Type 0
  HeardByKept = (r : Receiver Style Picture) (entries : List ReceiverEntry) (bytes : List ℕ) →
      ReceiverStands decoding rules r entries
      → heard_by_kept r (decoding.read bytes)
      ≡ heard decoding rules (receiver_run decoding rules entries) (decoding.read bytes)

  -- so are the mark, the picture and the message of a play
  abbrev pub PlayByKept : Type 0
  PlayByKept = (r : Receiver Style Picture) (entries : List ReceiverEntry) →
      let run = receiver_run decoding rules entries in
      ReceiverStands decoding rules r entries
      → (mark_by_kept r ≡ played_mark decoding rules run)
      × (picture_by_kept r ≡ played_picture decoding rules run)
      × (message_by_kept r ≡ played_message decoding rules run)

  abbrev pub NewReceiverStands : Type 0
  NewReceiverStands = (r : Receiver Style Picture) → IsNewReceiver r → ReceiverStands decoding rules r []

  -- a packet that is not taken changes nothing
  abbrev pub OtherPacketStands : Type 0
  OtherPacketStands = (r : Receiver Style Picture) (entries : List ReceiverEntry) (bytes : List ℕ) →
      ReceiverStands decoding rules r entries → is_taking (heard_by_kept r (decoding.read bytes)) ≡ false
      → ReceiverStands decoding rules r (Packet bytes ∷ entries)

  -- a slice that is taken
  abbrev pub SliceStands : Type 0
  SliceStands = (r t : Receiver Style Picture)
      (entries : List ReceiverEntry) (bytes : List ℕ) (piece : Piece Style Mb) (n : ℕ) →
      ReceiverStands decoding rules r entries → decoding.read bytes ≡ Ok piece
      → nearest rules r.played piece.header.number ≡ Some n → is_taking (heard_by_kept r (Ok piece)) ≡ true
      → IsAfterSlice r t n piece → ReceiverStands decoding rules t (Packet bytes ∷ entries)

  abbrev pub PlayStands : Type 0
  PlayStands = (r t : Receiver Style Picture) (entries : List ReceiverEntry) →
      ReceiverStands decoding rules r entries → IsAfterPlay r t → ReceiverStands decoding rules t (PlayNext ∷ entries)

  -- a complete picture is decoded the same, whatever comes
  abbrev pub CompleteStays : Type 0
  CompleteStays = (entries : List ReceiverEntry) (e : ReceiverEntry) (m : ℕ) →
      is_complete rules.mbs (receiver_run decoding rules entries).taken m ≡ true
      → (is_complete rules.mbs (receiver_run decoding rules (e ∷ entries)).taken m ≡ true)
      × (decoded decoding rules (receiver_run decoding rules (e ∷ entries)).taken m
      ≡ decoded decoding rules (receiver_run decoding rules entries).taken m)

  -- all slices that were taken of one picture have one header
  abbrev pub OneHeader : Type 0
  OneHeader = (entries : List ReceiverEntry) (i j : ℕ) (t u : TakenSlice Style Mb) →
      let taken = (receiver_run decoding rules entries).taken in
      slice_get taken i ≡ Some t → slice_get taken j ≡ Some u → t.number ≡ u.number → t.piece.header ≡ u.piece.header

  -- a sample is decoded by a slice that has its macroblock, with the reference as it is in the end
  pub record IsDecodedBy (taken : List (TakenSlice Style Mb)) (n s : ℕ) : Type 0 where
    pub place : ℕ
    pub slice : TakenSlice Style Mb
    pub is_taken : slice_get taken place ≡ Some slice
    pub number : slice.number ≡ n
    pub has : has_mb slice.piece.slice (decoding.pictures.owner s) ≡ true
    pub value : decoded_sample decoding rules taken n s
        ≡ decoding.pictures.reconstructed_sample slice.piece.header.style
        (option_map (λ m. decoded decoding rules taken m) (header_reference decoding rules n slice.piece.header))
        (mb_at decoding.pictures.skip slice.piece.slice (decoding.pictures.owner s)) s

  -- each sample of a macroblock that was taken is so
  abbrev pub DecodedInTheEnd : Type 0
  DecodedInTheEnd = (entries : List ReceiverEntry) (n s : ℕ) →
      let taken = (receiver_run decoding rules entries).taken in
      decoding.pictures.owner s < rules.mbs
      → has_taken taken n (decoding.pictures.owner s) ≡ true → IsDecodedBy taken n s
