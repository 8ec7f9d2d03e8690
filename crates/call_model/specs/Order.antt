-- The packets of one picture may come in any order: the lists of entries of which that is said.
use Rattle.std.specs.Prelude.{◌≡◌, ◌↔◌, ◌⊎◌, ℕ, ◌+◌, ◌<◌, ◌≤◌, ⊤, Bool, true, false, ◌==◌, List, [], ◌∷◌, Option, Some, None, Ok, if◌then◌else◌, is_some, option_and_then}
use Rattle.std.specs.Option.{option_map_or}
use Rattle.std.specs.Result.{result_ok}
use Rattle.call_model.specs.Coding.{Rules, window, Slice, has_mb, Header, Piece, Decoding, Shown}
use Rattle.call_model.specs.Sending.{nearest_below}
use Rattle.call_model.specs.Receiving.{piece_number, is_complete, played_shown, ReceiverEntry, Packet, PlayNext, receiver_run}

-- the bytes are one of these
abbrev pub IsOneOf : List ℕ → List (List ℕ) → Type 0
IsOneOf bytes [] = ⊥
IsOneOf bytes (x ∷ xs) = (bytes ≡ x) ⊎ IsOneOf bytes xs

-- how many pictures are played in a list of entries
abbrev pub played_after : List ReceiverEntry → ℕ
played_after [] = 0
played_after (Packet bytes ∷ past) = played_after past
played_after (PlayNext ∷ past) = played_after past + 1

-- the number is this one
abbrev pub is_this_number : ℕ → Option ℕ → Bool
is_this_number n None = false
is_this_number n (Some m) = m == n

-- the slices are one, or have no macroblock in common
abbrev pub SameOrApart : {Mb : Type 0} → Slice Mb → Slice Mb → Type 0
SameOrApart a b = (a ≡ b) ⊎ ((k : ℕ) → has_mb a k ≡ true → has_mb b k ≡ true → ⊥)

module _ {Style Mb Picture Fault : Type 0} (decoding : Decoding Style Mb Picture Fault) (rules : Rules) where
  -- the number of a packet's picture, where the packet comes after this many plays, has no fault
  -- and is of the call's picture clock
  unfoldable pub number_of_bytes : ℕ → List ℕ → Option ℕ
  number_of_bytes played bytes = option_map_or
      (λ piece. piece_number rules played piece) (result_ok (decoding.read bytes)) None

  -- the packet is one of picture n
  unfoldable pub is_own : ℕ → ℕ → List ℕ → Bool
  is_own n played bytes = is_this_number n (number_of_bytes played bytes)

  -- the entries without the packets of n
  abbrev pub others : ℕ → List ReceiverEntry → List ReceiverEntry
  others n [] = []
  others n (Packet bytes ∷ past) =
      if is_own n (played_after past) bytes then others n past else Packet bytes ∷ others n past
  others n (PlayNext ∷ past) = PlayNext ∷ others n past

  -- the packets of n
  abbrev pub own : ℕ → List ReceiverEntry → List (List ℕ)
  own n [] = []
  own n (Packet bytes ∷ past) = if is_own n (played_after past) bytes then bytes ∷ own n past else own n past
  own n (PlayNext ∷ past) = own n past

  -- where each packet of n stands, n is open and its reference, if it has one, is complete and in
  -- the window
  abbrev pub InPlace : ℕ → Option ℕ → List ReceiverEntry → Type 0
  InPlace n reference [] = ⊤
  InPlace n reference (Packet bytes ∷ past) =
      (is_own n (played_after past) bytes ≡ true →
      (played_after past ≤ n) × (n ≤ played_after past + rules.lead)
      × ((m : ℕ) → reference ≡ Some m → (n ≤ m + window rules)
      × (is_complete rules.mbs (receiver_run decoding rules past).taken m ≡ true)))
      × InPlace n reference past
  InPlace n reference (PlayNext ∷ past) = InPlace n reference past

  -- what the play of picture p showed, if it was played
  abbrev pub shown_in : ℕ → List ReceiverEntry → Option (Shown Picture)
  shown_in p [] = None
  shown_in p (Packet bytes ∷ past) = shown_in p past
  shown_in p (PlayNext ∷ past) =
      if (receiver_run decoding rules past).played == p
      then Some (played_shown decoding rules (receiver_run decoding rules past))
      else shown_in p past

  -- what the packet spells is so
  abbrev pub HasPiece : List ℕ → (Piece Style Mb → Type 0) → Type 0
  HasPiece bytes P = (piece : Piece Style Mb) → decoding.read bytes ≡ Ok piece → P piece

  -- the packets of n have one header, their slices are the same or apart, and each comes while n is
  -- open and its reference is there
  pub record AreOfOne (n : ℕ)
      (header : Header Style) (reference : Option ℕ) (entries : List ReceiverEntry) : Type 0 where
    pub in_place : InPlace n reference entries
    pub headers : (bytes : List ℕ) → IsOneOf bytes (own n entries) → HasPiece bytes (λ piece. piece.header ≡ header)
    pub slices : (a b : List ℕ) → IsOneOf a (own n entries) → IsOneOf b (own n entries)
        → HasPiece a (λ p. HasPiece b (λ q. SameOrApart p.slice q.slice))

  -- the lists have the same entries in the same order apart from packets of n, and the same set of
  -- packets of n
  abbrev pub DifferInPacketsOf : ℕ → List ReceiverEntry → List ReceiverEntry → Type 0
  DifferInPacketsOf n a b =
      (others n a ≡ others n b) × ((bytes : List ℕ) → IsOneOf bytes (own n a) ↔ IsOneOf bytes (own n b))

  -- the reference of picture n is the number that its header names, where it names one
  abbrev pub IsNamed : ℕ → Header Style → Option ℕ → Type 0
  IsNamed n header reference =
      (reference ≡ option_and_then (nearest_below rules n) header.reference)
      × (is_some reference ≡ is_some header.reference)

  -- after two lists the next play shows the same, with the same mark
  abbrev pub NextPlayIsSame : List ReceiverEntry → List ReceiverEntry → Type 0
  NextPlayIsSame a b =
      played_shown decoding rules (receiver_run decoding rules a)
      ≡ played_shown decoding rules (receiver_run decoding rules b)

  -- Let two lists of what came before the play of picture n differ in packets of n, and let these be
  -- of one header. Then each play up to the play of n shows the same, with the same mark.
  abbrev pub AnyOrder : Type 0
  AnyOrder = (n : ℕ) (header : Header Style) (reference : Option ℕ) (a b : List ReceiverEntry) →
      IsNamed n header reference → DifferInPacketsOf n a b →
      AreOfOne n header reference a → AreOfOne n header reference b → played_after a ≡ n →
      ((p : ℕ) → p < n → shown_in p a ≡ shown_in p b) × NextPlayIsSame a b
