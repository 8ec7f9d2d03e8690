-- What arrives of one picture of a call: its packets as its sender made them, in any order and
-- number.
use Rattle.std.specs.Prelude.{◌≡◌, ℕ, ◌+◌, ◌<◌, ◌≤◌, ⊤, true, List, [], ◌∷◌, ◌++◌, slice_get, Option, Some}
use Rattle.call_model.specs.Coding.{Rules, Decoding, Coding}
use Rattle.call_model.specs.CodedPictures.{Coded}
use Rattle.call_model.specs.IdealCall.{Event, AllMayHappen}
use Rattle.call_model.specs.JoinedRun.{joined, new_receiver, receiver_entries}
use Rattle.call_model.specs.Lawful.{IsPace}
use Rattle.call_model.specs.Order.{IsOneOf, own, is_own, played_after, shown_in, AreOfOne, DifferInPacketsOf, IsNamed, NextPlayIsSame}
use Rattle.call_model.specs.Receiving.{ReceiverEntry, Packet, PlayNext, is_complete, receiver_run}
use Rattle.call_model.specs.Sending.{header_of, packets_at}

module _ {Style Mb Picture Fault : Type 0} (decoding : Decoding Style Mb Picture Fault) (rules : Rules) where
  -- each packet of n in the entries is one of these packets
  abbrev pub AreAmong : ℕ → List (List ℕ) → List ReceiverEntry → Type 0
  AreAmong n packets entries = (bytes : List ℕ) → IsOneOf bytes (own decoding rules n entries) → IsOneOf bytes packets

  -- where each packet of n stands, n is open and its reference, if it has one, is complete
  abbrev pub ComeInTime : ℕ → Option ℕ → List ReceiverEntry → Type 0
  ComeInTime n reference [] = ⊤
  ComeInTime n reference (Packet bytes ∷ past) =
      (is_own decoding rules n (played_after past) bytes ≡ true →
      (played_after past ≤ n) × (n ≤ played_after past + rules.lead)
      × ((m : ℕ) → reference ≡ Some m → is_complete rules.mbs (receiver_run decoding rules past).taken m ≡ true))
      × ComeInTime n reference past
  ComeInTime n reference (PlayNext ∷ past) = ComeInTime n reference past

  -- no packet of n stands before n is open
  abbrev pub NoneIsEarly : ℕ → List ReceiverEntry → Type 0
  NoneIsEarly n [] = ⊤
  NoneIsEarly n (Packet bytes ∷ past) =
      (is_own decoding rules n (played_after past) bytes ≡ true → n ≤ played_after past + rules.lead)
      × NoneIsEarly n past
  NoneIsEarly n (PlayNext ∷ past) = NoneIsEarly n past

  -- each play up to the play of n, which is the next one, shows the same, with the same mark
  abbrev pub EntriesShowTheSame : ℕ → List ReceiverEntry → List ReceiverEntry → Type 0
  EntriesShowTheSame n a b =
      ((p : ℕ) → p < n → shown_in decoding rules p a ≡ shown_in decoding rules p b)
      × NextPlayIsSame decoding rules a b

module _ {Frame Style Mb Picture Fault MessageFault : Type 0}
    (coding : Coding Frame Style Mb Picture Fault MessageFault) (rules : Rules) where
  -- what the sender has coded in a run of both ends
  abbrev pub coded_in : (List ℕ → ℕ) → List Frame → List Event → List (Coded Style Mb Picture)
  coded_in pace frames past = (joined coding rules (new_receiver coding rules) pace frames past).sender.coded

  -- its packets of picture n
  abbrev pub sent_packets : (List ℕ → ℕ) → List Frame → List Event → ℕ → List (List ℕ)
  sent_packets pace frames past n = packets_at coding.encoding rules (coded_in pace frames past) n

  -- what has come to the receiver in this run
  abbrev pub come_in : (List ℕ → ℕ) → List Frame → List Event → List ReceiverEntry
  come_in pace frames past = receiver_entries coding rules (new_receiver coding rules) pace frames past

  -- Let picture n have been sent in a near call. In any list of entries in which each packet of n is
  -- one of the sender's and comes in time, these packets are of one picture, in whatever order and
  -- number they come.
  abbrev pub SentAreOfOne : Type 0
  SentAreOfOne =
      (pace : List ℕ → ℕ) (frames : List Frame) (past : List Event) (n : ℕ)
      (x : Coded Style Mb Picture) (entries : List ReceiverEntry) → IsPace pace
      → AllMayHappen coding rules pace frames past
      → slice_get (coded_in pace frames past) n ≡ Some x
      → AreAmong coding.decoding rules n (sent_packets pace frames past n) entries
      → ComeInTime coding.decoding rules n x.reference entries
      → IsNamed coding.decoding rules n (header_of rules n x) x.reference
      × AreOfOne coding.decoding rules n (header_of rules n x) x.reference entries

  -- Let picture n have been sent in a near call, and be open, and let no packet of it have come
  -- before it was open. Let two lists of what comes from then on until its play have the same
  -- packets of n, of which each is one of the sender's, and be the same apart from them. Then each
  -- play up to the play of n shows the same.
  abbrev pub SentInAnyOrder : Type 0
  SentInAnyOrder =
      (pace : List ℕ → ℕ) (frames : List Frame) (past : List Event) (n : ℕ)
      (x : Coded Style Mb Picture) (a b : List ReceiverEntry) → IsPace pace
      → AllMayHappen coding rules pace frames past
      → slice_get (coded_in pace frames past) n ≡ Some x
      → let before = come_in pace frames past in
      n ≤ played_after before + rules.lead
      → NoneIsEarly coding.decoding rules n before
      → AreAmong coding.decoding rules n (sent_packets pace frames past n) (a ++ before)
      → DifferInPacketsOf coding.decoding rules n (a ++ before) (b ++ before)
      → played_after (a ++ before) ≡ n
      → EntriesShowTheSame coding.decoding rules n (a ++ before) (b ++ before)
