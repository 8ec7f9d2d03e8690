-- The packets of one coded picture are of one, and may come in any order.
use Rattle.std.proofs.Common.{◌≡◌, ℕ, zero, suc, ◌+◌, ◌%◌, ◌<◌, ◌≤◌, ◌⊎◌, Bool, true, false, Option, Some, None, Ok, List, [], ◌∷◌, ◌++◌, length, refl, sym, ap, subst, ◌∙◌, arith, inl, inr, is_some}
use Rattle.std.specs.Prelude.{◌==◌, if◌then◌else◌, nat_lt, slice_get, option_and_then}
use Rattle.std.specs.Option.{option_map, option_map_or}
use Rattle.std.proofs.Math.Nat.{mod-lt}
use Rattle.std.proofs.lemmas.Bool.{both_ways, and_parts, eq-eqb, eqb-true}
use Rattle.std.proofs.lemmas.Bool.Decides.{nat_tests}
use Rattle.std.proofs.lemmas.List.{append-nil, length-append}
use Rattle.std.proofs.lemmas.Option.{slice_get_cases}
use Rattle.call_model.specs.Coding.{Rules, window, period, Slice, has_mb, Piece, Decoding, Coding}
use Rattle.call_model.specs.CodedPictures.{Coded}
use Rattle.call_model.specs.IdealCall.{Event, Send, Deliver, Play, Back, Call, Source, AllMayHappen, call_from, encoded, ideal}
use Rattle.call_model.specs.JoinedRun.{joined, new_receiver, EachEndRuns, Joined}
use Rattle.call_model.specs.Lawful.{Covers, IsRules, IsPace}
use Rattle.call_model.specs.Order.{IsOneOf, others, is_own, number_of_bytes, played_after, SameOrApart, InPlace, AreOfOne, IsNamed, AnyOrder}
use Rattle.call_model.specs.Receiving.{ReceiverEntry, ReceiverRun, Packet, PlayNext, is_complete, piece_number, receiver_run}
use Rattle.call_model.specs.ReceiverStanding.{CompleteStays}
use Rattle.call_model.specs.Sending.{header_of, packets_at, nearest, nearest_below, NearestIsInPeriod}
use Rattle.call_model.specs.Sound.{Packets, IsPacketOfSlice, AllSound, EncoderIsSound}
use Rattle.call_model.specs.TwoStores.{EndsFollow}
use Rattle.coded_call.specs.OfOnePicture.{AreAmong, ComeInTime, NoneIsEarly, come_in, SentAreOfOne, SentInAnyOrder}

-- ---- lists

-- what is in a list has a place there
place_in : (x : List ℕ) (xs : List (List ℕ)) → IsOneOf x xs → (j : ℕ) × (slice_get xs j ≡ Some x)
place_in x [] is = absurd is
place_in x (y ∷ xs) (inl here) = (0, ap (λ (z : List ℕ). let o : Option (List ℕ) = Some z in o) (sym here))
place_in x (y ∷ xs) (inr there) = let r = place_in x xs there in (suc r.0, r.1)

-- an element of a list with one more at the end is the last one, or stood there before
pushed : {X : Type 0} (xs : List X) (y : X) (n : ℕ) (x : X) → slice_get (xs ++ y ∷ []) n ≡ Some x
    → (slice_get xs n ≡ Some x) ⊎ ((n ≡ length xs) × (x ≡ y))
pushed [] y zero x e = inr (refl, cc)
pushed [] y (suc n) x e = inl e
pushed (z ∷ xs) y zero x e = inl e
pushed (z ∷ xs) y (suc n) x e = elim (pushed xs y n x e) [ inl h ↦ inl h | inr h ↦ inr (omega (arith, h.0), h.1) ]

-- ---- slices that cover a picture

-- two of them are one, or have no macroblock in common
apart : {Mb : Type 0} (count : ℕ) (slices : List (Slice Mb)) → Covers count slices → (i j : ℕ) (a b : Slice Mb)
    → slice_get slices i ≡ Some a → slice_get slices j ≡ Some b
    → SameOrApart a b
unfolding has_mb
apart {Mb} count slices c i j a b at_i at_j = go (i == j) refl
  where
    go : (t : Bool) → (i == j) ≡ t → SameOrApart a b
    go true e =
        let same : i ≡ j = eqb-true i j e in
        let found : slice_get slices j ≡ Some a = subst (λ (k : ℕ). slice_get slices k ≡ Some a) same at_i in
        inl cc
    go false e = inr (λ k in_a in_b.
        let within = (c.inside i a at_i).1 in
        let low = (and_parts _ _ in_a).1 in
        let below : k < count = under k (a.first + length a.mbs) count low within in
        let here : (i == c.place_of k) ≡ true = sym (c.has i k a below at_i) ∙ in_a in
        let there : (j == c.place_of k) ≡ true = sym (c.has j k b below at_j) ∙ in_b in
        let one : i ≡ j = eqb-true i _ here ∙ sym (eqb-true j _ there) in
        both_ways (i == j) e (eq-eqb i j one))
      where
        under : (k m n : ℕ) → nat_lt k m ≡ true → m ≤ n → k < n
        under k m n lt le = grind (arith, nat_tests)

module _ {Style Mb Picture Fault : Type 0} (decoding : Decoding Style Mb Picture Fault) (rules : Rules) where
  -- ---- a picture that is sent

  -- the slices of each picture of a sound sender cover it
  covered : (source : Source Style Mb Picture) (packets : Packets Style Mb Picture) (past : List Event)
      → AllSound decoding rules source packets past → (n : ℕ) (x : Coded Style Mb Picture)
      → slice_get (call_from decoding.pictures rules source past).coded n ≡ Some x → Covers rules.mbs x.slices
  covered source packets [] all n x e = cc
  covered source packets (Send ∷ past) all n x e = go (covered source packets past all.1 n x)
      (source (call_from decoding.pictures rules source past)) refl e
    where
      go : (slice_get (call_from decoding.pictures rules source past).coded n ≡ Some x → Covers rules.mbs x.slices)
          → (o : Option (Coded Style Mb Picture)) → source (call_from decoding.pictures rules source past) ≡ o
          → slice_get ((call_from decoding.pictures rules source past).coded
          ++ option_map_or (λ (y : Coded Style Mb Picture). y ∷ []) o []) n ≡ Some x → Covers rules.mbs x.slices
      go before None is e = before (ap (λ (l : List (Coded Style Mb Picture)). slice_get l n)
          (sym (append-nil (call_from decoding.pictures rules source past).coded)) ∙ e)
      go before (Some y) is e =
          elim (pushed (call_from decoding.pictures rules source past).coded y n x e) [
            | inl old ↦ before old
            | inr new ↦ subst (λ (z : Coded Style Mb Picture). Covers rules.mbs z.slices) (sym new.1)
                (all.0 y is).covers
          ]
  covered source packets (Deliver m j ∷ past) all n x e = covered source packets past all.1 n x e
  covered source packets (Play ∷ past) all n x e = covered source packets past all.1 n x e
  covered source packets (Back k ∷ past) all n x e = covered source packets past all.1 n x e

  -- bytes that are read as a slice of this picture, with its header
  record IsSliceOf (n : ℕ) (x : Coded Style Mb Picture) (bytes : List ℕ) : Type 0 where
    pub place : ℕ
    pub slice : Slice Mb
    pub at_place : slice_get x.slices place ≡ Some slice
    pub read : decoding.read bytes ≡ Ok (record { header = header_of rules n x; slice = slice })

  -- so is each of its packets
  slice_at : (packets : List (List ℕ)) (n : ℕ) (x : Coded Style Mb Picture) (j : ℕ)
      → IsPacketOfSlice decoding rules packets n j x → (bytes : List ℕ) → slice_get packets j ≡ Some bytes
      → IsSliceOf n x bytes
  slice_at packets n x j one bytes at = go (slice_get x.slices j) refl
    where
      go : (o : Option (Slice Mb)) → slice_get x.slices j ≡ o → IsSliceOf n x bytes
      go None none = let no = one.no_other none in cc
      go (Some slice) some =
          let got = one.read_as slice some in
          let same : got.0 ≡ bytes = cc in
          record { place = j; slice = slice; at_place = some; read = ap decoding.read (sym same) ∙ got.2 }

  slice_of : (packets : List (List ℕ)) (n : ℕ) (x : Coded Style Mb Picture)
      → ((j : ℕ) → IsPacketOfSlice decoding rules packets n j x) → (bytes : List ℕ) → IsOneOf bytes packets
      → IsSliceOf n x bytes
  slice_of packets n x each bytes is_in = let p = place_in bytes packets is_in in
      slice_at packets n x p.0 (each p.0) bytes p.1

  -- ---- its packets in a list of entries

  in_place : (n : ℕ) (reference : Option ℕ) → ((m : ℕ) → reference ≡ Some m → n ≤ m + window rules)
      → (entries : List ReceiverEntry) → ComeInTime decoding rules n reference entries
      → InPlace decoding rules n reference entries
  in_place n reference near [] in_time = tt
  in_place n reference near (Packet bytes ∷ past) in_time = (
    λ own. let at = in_time.0 own in (at.0, at.1, λ m e. (near m e, at.2 m e)),
    in_place n reference near past in_time.1,
  )
  in_place n reference near (PlayNext ∷ past) in_time = in_place n reference near past in_time

  of_one : (packets : List (List ℕ)) (n : ℕ) (x : Coded Style Mb Picture) (entries : List ReceiverEntry)
      → Covers rules.mbs x.slices → ((j : ℕ) → IsPacketOfSlice decoding rules packets n j x)
      → ((m : ℕ) → x.reference ≡ Some m → n ≤ m + window rules) → AreAmong decoding rules n packets entries
      → ComeInTime decoding rules n x.reference entries
      → AreOfOne decoding rules n (header_of rules n x) x.reference entries
  of_one packets n x entries covers each near among in_time = record {
    in_place = in_place n x.reference near entries in_time;
    headers = λ bytes is_in piece read.
        let s = slice_of packets n x each bytes (among bytes is_in) in
        let same = s.read in
        header_same piece s.slice bytes read same;
    slices = λ a b in_a in_b p read_a q read_b.
        let s = slice_of packets n x each a (among a in_a) in
        let t = slice_of packets n x each b (among b in_b) in
        let one : s.slice ≡ p.slice = slice_same p s.slice a read_a s.read in
        let two : t.slice ≡ q.slice = slice_same q t.slice b read_b t.read in
        subst (λ (z : Slice Mb). SameOrApart z q.slice) one (subst (λ (z : Slice Mb). SameOrApart s.slice z) two
        (apart rules.mbs x.slices covers s.place t.place s.slice t.slice s.at_place t.at_place));
  }
    where
      header_same : (piece : Piece Style Mb) (slice : Slice Mb) (bytes : List ℕ) → decoding.read bytes ≡ Ok piece
          → decoding.read bytes ≡ Ok (record { header = header_of rules n x; slice = slice })
          → piece.header ≡ header_of rules n x
      header_same piece slice bytes one two = cc

      slice_same : (piece : Piece Style Mb) (slice : Slice Mb) (bytes : List ℕ) → decoding.read bytes ≡ Ok piece
          → decoding.read bytes ≡ Ok (record { header = header_of rules n x; slice = slice })
          → slice ≡ piece.slice
      slice_same piece slice bytes one two = cc

  -- its header names its reference
  named : NearestIsInPeriod → IsRules rules → (n : ℕ) (x : Coded Style Mb Picture)
      → ((m : ℕ) → x.reference ≡ Some m → (m < n) × (n ≤ m + window rules))
      → IsNamed decoding rules n (header_of rules n x) x.reference
  unfolding header_of
  named nearest ruled n x near = go x.reference near
    where
      positive : 0 < period rules
      positive = omega (arith, ruled.lead_small, ruled.slots_small)

      go : (r : Option ℕ) → ((m : ℕ) → r ≡ Some m → (m < n) × (n ≤ m + window rules))
          → (r ≡ option_and_then (nearest_below rules n) (option_map (λ m. m % period rules) r))
          × (is_some r ≡ is_some (option_map (λ m. m % period rules) r))
      go None near = (refl, refl)
      go (Some m) near =
          let h = near m refl in
          let close : n ≤ m + period rules = omega (arith, h.1, ruled.lead_small, ruled.slots_small) in
          (sym ((nearest rules n (m % period rules) m (mod-lt m positive)).1 (h.0, close, refl)), refl)

  played_is : (entries : List ReceiverEntry) → (receiver_run decoding rules entries).played ≡ played_after entries
  played_is [] = refl
  played_is (Packet bytes ∷ past) = played_is past
  played_is (PlayNext ∷ past) = ap (λ k. k + 1) (played_is past)

  -- near the play its packets are of its own number alone
  own_number : NearestIsInPeriod → IsRules rules → (m n played : ℕ) (x : Coded Style Mb Picture) (bytes : List ℕ)
      → IsSliceOf m x bytes → m < played + rules.half → played < m + rules.half
      → is_own decoding rules n played bytes ≡ true → m ≡ n
  unfolding is_own number_of_bytes piece_number nearest header_of
  own_number near ruled m n played x bytes is ahead behind own =
      let positive : 0 < period rules = omega (arith, ruled.lead_small, ruled.slots_small) in
      let number : nearest_below rules (played + rules.half) (m % period rules) ≡ Some m =
      (near rules (played + rules.half) (m % period rules) m (mod-lt m positive)).1 (ahead, omega (arith, behind), refl)
      in
      eqb-true m n (sym (rw (is.read, eq-eqb rules.half rules.half refl, number) refl) ∙ own)

  -- ---- what comes later

  -- a complete picture stays complete
  complete_later : CompleteStays decoding rules → (before : List ReceiverEntry) (m : ℕ)
      → is_complete rules.mbs (receiver_run decoding rules before).taken m ≡ true → (a : List ReceiverEntry)
      → is_complete rules.mbs (receiver_run decoding rules (a ++ before)).taken m ≡ true
  complete_later stays before m done [] = done
  complete_later stays before m done (e ∷ a) = (stays (a ++ before) e m (complete_later stays before m done a)).0

  played_later : (before a : List ReceiverEntry) → played_after before ≤ played_after (a ++ before)
  played_later before [] = omega arith
  played_later before (Packet bytes ∷ a) = played_later before a
  played_later before (PlayNext ∷ a) = omega (arith, played_later before a)

  -- after entries by which n is open and its reference complete, its packets come in time
  in_time_later : CompleteStays decoding rules → (n : ℕ) (reference : Option ℕ) (before : List ReceiverEntry)
      → ComeInTime decoding rules n reference before → n ≤ played_after before + rules.lead
      → ((m : ℕ) → reference ≡ Some m → is_complete rules.mbs (receiver_run decoding rules before).taken m ≡ true)
      → (a : List ReceiverEntry) → played_after (a ++ before) ≤ n
      → ComeInTime decoding rules n reference (a ++ before)
  in_time_later stays n reference before in_time early done [] until = in_time
  in_time_later stays n reference before in_time early done (Packet bytes ∷ a) until = (
    λ own. (until, omega (arith, early, played_later before a), λ m e. complete_later stays before m (done m e) a),
    in_time_later stays n reference before in_time early done a until,
  )
  in_time_later stays n reference before in_time early done (PlayNext ∷ a) until =
      in_time_later stays n reference before in_time early done a (omega (arith, until))

module _ {Frame Style Mb Picture Fault MessageFault : Type 0}
    (coding : Coding Frame Style Mb Picture Fault MessageFault) (rules : Rules) where
  -- what the laws of a call say of this one
  pub record CallLaws : Type 0 where
    pub rules_fit : IsRules rules
    pub nearest : NearestIsInPeriod
    pub sound : EncoderIsSound coding rules
    pub follow : (pace : List ℕ → ℕ) (frames : List Frame) (past : List Event) → IsPace pace
        → AllMayHappen coding rules pace frames past
        → EndsFollow coding rules (ideal coding rules pace frames past)
        (joined coding rules (new_receiver coding rules) pace frames past)

  pub sent_are_of_one : CallLaws → SentAreOfOne coding rules
  sent_are_of_one laws pace frames past n x entries paced near =
      subst P (sym ends.agree.pictures) (λ at among in_time. (
        named coding.decoding rules laws.nearest laws.rules_fit n x (reference_of at),
        of_one coding.decoding rules (packets_at coding.encoding rules c.coded n) n x entries
            (covered coding.decoding rules (encoded coding rules pace frames) (packets_at coding.encoding rules) past
            (laws.sound pace frames past paced) n x at)
            (λ j. (laws.sound pace frames (Deliver n j ∷ past) paced).0 x at)
            (λ m e. (reference_of at m e).1) among in_time,
      ))
    where
      c : Call Style Mb Picture
      c = ideal coding rules pace frames past

      ends : EndsFollow coding rules (ideal coding rules pace frames past)
          (joined coding rules (new_receiver coding rules) pace frames past)
      ends = laws.follow pace frames past paced near

      reference_of : slice_get c.coded n ≡ Some x → (m : ℕ) → x.reference ≡ Some m → (m < n) × (n ≤ m + window rules)
      reference_of at m e = let r = ends.references n m x at e in (r.0, r.1)

      P : List (Coded Style Mb Picture) → Type 0
      P coded = slice_get coded n ≡ Some x
          → AreAmong coding.decoding rules n (packets_at coding.encoding rules coded n) entries
          → ComeInTime coding.decoding rules n x.reference entries
          → IsNamed coding.decoding rules n (header_of rules n x) x.reference
          × AreOfOne coding.decoding rules n (header_of rules n x) x.reference entries

  module _ (laws : CallLaws) (pace : List ℕ → ℕ) (frames : List Frame) (paced : IsPace pace)
      (each_end : EachEndRuns coding rules) where
    abbrev ideal_of : List Event → Call Style Mb Picture
    ideal_of past = ideal coding rules pace frames past

    abbrev both_of : List Event → Joined Style Mb Picture
    both_of past = joined coding rules (new_receiver coding rules) pace frames past

    abbrev come : List Event → List ReceiverEntry
    come past = come_in coding rules pace frames past

    receiver_is : (past : List Event) → (both_of past).receiver ≡ receiver_run coding.decoding rules (come past)
    receiver_is past = (each_end [] pace frames past).1
        ∙ ap (receiver_run coding.decoding rules) (append-nil (come past))

    played_there : (past : List Event) → AllMayHappen coding rules pace frames past → played_after (come past)
        ≡ (ideal_of past).played
    played_there past near =
        sym (played_is coding.decoding rules (come past))
        ∙ ap (λ (r : ReceiverRun Style Mb Picture). r.played) (sym (receiver_is past))
        ∙ (laws.follow pace frames past paced near).agree.played

    -- the reference of a picture that was sent is complete
    done : (past : List Event) → AllMayHappen coding rules pace frames past → (n : ℕ) (x : Coded Style Mb Picture)
        → slice_get (ideal_of past).coded n ≡ Some x → (m : ℕ) → x.reference ≡ Some m
        → is_complete rules.mbs (receiver_run coding.decoding rules (come past)).taken m ≡ true
    done past near n x at m e =
        let ends = laws.follow pace frames past paced near in
        ap (λ (r : ReceiverRun Style Mb Picture). is_complete rules.mbs r.taken m) (sym (receiver_is past))
        ∙ ends.complete m ∙ (ends.references n m x at e).2

    -- a packet that is delivered is of its own picture, which was sent
    own_was_sent : (past : List Event) → AllMayHappen coding rules pace frames past → (m j : ℕ)
        → m < length (ideal_of past).coded → (ideal_of past).played < m + rules.half
        → (bytes : List ℕ) → slice_get (packets_at coding.encoding rules (both_of past).sender.coded m) j ≡ Some bytes
        → (n : ℕ) → is_own coding.decoding rules n (played_after (come past)) bytes ≡ true → m ≡ n
    own_was_sent past near m j sent behind bytes at n own =
        elim (slice_get_cases (ideal_of past).coded m).1 [
          | inl there ↦
              own_number coding.decoding rules laws.nearest laws.rules_fit m n (played_after (come past)) there.0 bytes
              (slice_at coding.decoding rules (packets_at coding.encoding rules (ideal_of past).coded m) m there.0 j
              ((laws.sound pace frames (Deliver m j ∷ past) paced).0 there.0 there.2) bytes
              (ap (λ (coded : List (Coded Style Mb Picture)). slice_get (packets_at coding.encoding rules coded m) j)
              (sym ends.agree.pictures) ∙ at))
              (omega (arith, sent, ends.counts.1, played_there past near))
              (omega (arith, behind, played_there past near)) own
          | inr none ↦ absurd (omega (arith, none.0, sent))
        ]
      where
        ends : EndsFollow coding rules (ideal coding rules pace frames past)
            (joined coding rules (new_receiver coding rules) pace frames past)
        ends = laws.follow pace frames past paced near

    -- of a picture that wasn't sent nothing has come
    none_yet : (n : ℕ) (reference : Option ℕ) (past : List Event) → AllMayHappen coding rules pace frames past
        → length (ideal_of past).coded ≤ n → ComeInTime coding.decoding rules n reference (come past)
    none_yet n reference [] near unsent = tt
    none_yet n reference (Send ∷ past) near unsent =
        let more : List (Coded Style Mb Picture) = option_map_or (λ (y : Coded Style Mb Picture). y ∷ [])
        (encoded coding rules pace frames (ideal_of past)) [] in
        let long : length ((ideal_of past).coded ++ more) ≡ length (ideal_of past).coded + length more =
        length-append (ideal_of past).coded more in
        none_yet n reference past near.1 (omega (arith, long, unsent))
    none_yet n reference (Play ∷ past) near unsent = none_yet n reference past near.1 unsent
    none_yet n reference (Back k ∷ past) near unsent = none_yet n reference past near.1 unsent
    none_yet n reference (Deliver m j ∷ past) near unsent = go (none_yet n reference past near.1 unsent)
        (slice_get (packets_at coding.encoding rules (both_of past).sender.coded m) j) refl
      where
        go : ComeInTime coding.decoding rules n reference (come past) → (o : Option (List ℕ))
            → slice_get (packets_at coding.encoding rules (both_of past).sender.coded m) j ≡ o
            → ComeInTime coding.decoding rules n reference (option_map_or (λ (bytes : List ℕ). Packet bytes ∷ []) o []
            ++ come past)
        go before None at = before
        go before (Some bytes) at = (
          λ own. absurd (omega (
            arith,
            own_was_sent past near.1 m j near.0.0 near.0.1 bytes at n own,
            near.0.0,
            unsent,
          )),
          before,
        )

    -- what has come of a picture that was sent came in time, unless it came early
    came_in_time : (n : ℕ) (x : Coded Style Mb Picture) (past : List Event) → AllMayHappen coding rules pace frames past
        → slice_get (ideal_of past).coded n ≡ Some x → played_after (come past) ≤ n
        → NoneIsEarly coding.decoding rules n (come past) → ComeInTime coding.decoding rules n x.reference (come past)
    came_in_time n x [] near at until early = tt
    came_in_time n x (Send ∷ past) near at until early = go (λ there. came_in_time n x past near.1 there until early)
        (encoded coding rules pace frames (ideal_of past)) at
      where
        go : (slice_get (ideal_of past).coded n ≡ Some x → ComeInTime coding.decoding rules n x.reference (come past))
            → (o : Option (Coded Style Mb Picture))
            → slice_get ((ideal_of past).coded ++ option_map_or (λ (y : Coded Style Mb Picture). y ∷ []) o []) n
            ≡ Some x → ComeInTime coding.decoding rules n x.reference (come past)
        go before None at = before (ap (λ (l : List (Coded Style Mb Picture)). slice_get l n)
            (sym (append-nil (ideal_of past).coded)) ∙ at)
        go before (Some y) at =
            elim (pushed (ideal_of past).coded y n x at) [
              | inl old ↦ before old
              | inr new ↦ none_yet n x.reference past near.1 (omega (arith, new.0))
            ]
    came_in_time n x (Play ∷ past) near at until early = came_in_time n x past near.1 at (omega (arith, until)) early
    came_in_time n x (Back k ∷ past) near at until early = came_in_time n x past near.1 at until early
    came_in_time n x (Deliver m j ∷ past) near at until early = go (came_in_time n x past near.1 at)
        (slice_get (packets_at coding.encoding rules (both_of past).sender.coded m) j) until early
      where
        go : (played_after (come past) ≤ n → NoneIsEarly coding.decoding rules n (come past)
            → ComeInTime coding.decoding rules n x.reference (come past)) → (o : Option (List ℕ))
            → played_after (option_map_or (λ (bytes : List ℕ). Packet bytes ∷ []) o [] ++ come past) ≤ n
            → NoneIsEarly coding.decoding rules n (option_map_or (λ (bytes : List ℕ). Packet bytes ∷ []) o []
            ++ come past)
            → ComeInTime coding.decoding rules n x.reference (option_map_or (λ (bytes : List ℕ). Packet bytes ∷ []) o []
            ++ come past)
        go before None until early = before until early
        go before (Some bytes) until early = (
          λ own. (until, early.0 own, done past near.1 n x at),
          before until early.1,
        )

  -- what the laws say of the receiver in this call
  pub record ReceiverLaws : Type 0 where
    pub of_one : SentAreOfOne coding rules
    pub any_order : AnyOrder coding.decoding rules
    pub stays : CompleteStays coding.decoding rules
    pub each_end : EachEndRuns coding rules
    pub call : CallLaws

  played_of_others : (n : ℕ) (entries : List ReceiverEntry) → played_after (others coding.decoding rules n entries)
      ≡ played_after entries
  played_of_others n [] = refl
  played_of_others n (PlayNext ∷ past) = ap (λ k. k + 1) (played_of_others n past)
  played_of_others n (Packet bytes ∷ past) = go (played_of_others n past)
      (is_own coding.decoding rules n (played_after past) bytes)
    where
      go : played_after (others coding.decoding rules n past) ≡ played_after past → (b : Bool)
          → played_after (if b then others coding.decoding rules n past else Packet bytes ∷ others coding.decoding rules
          n past) ≡ played_after past
      go ih true = ih
      go ih false = ih

  pub sent_in_any_order : ReceiverLaws → SentInAnyOrder coding rules
  sent_in_any_order laws pace frames past n x a b paced near at early none_early among differ at_n =
      laws.any_order n (header_of rules n x) x.reference (a ++ before) (b ++ before) first.0 differ first.1 second.1
      at_n
    where
      before : List ReceiverEntry
      before = come_in coding rules pace frames past

      played : played_after before ≤ n
      played = omega (arith, at_n, played_later coding.decoding rules before a)

      sent : slice_get (ideal coding rules pace frames past).coded n ≡ Some x
      sent = ap (λ (l : List (Coded Style Mb Picture)). slice_get l n)
          (sym (laws.call.follow pace frames past paced near).agree.pictures) ∙ at

      so_far : ComeInTime coding.decoding rules n x.reference before
      so_far = came_in_time laws.call pace frames paced laws.each_end n x past near sent played none_early

      comes : (entries : List ReceiverEntry) → played_after (entries ++ before) ≤ n
          → ComeInTime coding.decoding rules n x.reference (entries ++ before)
      comes entries until = in_time_later coding.decoding rules laws.stays n x.reference before so_far early
          (done laws.call pace frames paced laws.each_end past near n x sent) entries until

      first : IsNamed coding.decoding rules n (header_of rules n x) x.reference
          × AreOfOne coding.decoding rules n (header_of rules n x) x.reference (a ++ before)
      first = laws.of_one pace frames past n x (a ++ before) paced near at among (comes a (omega (arith, at_n)))

      also_at_n : played_after (b ++ before) ≡ n
      also_at_n = sym (played_of_others n (b ++ before)) ∙ ap played_after (sym differ.0)
          ∙ played_of_others n (a ++ before) ∙ at_n

      second : IsNamed coding.decoding rules n (header_of rules n x) x.reference
          × AreOfOne coding.decoding rules n (header_of rules n x) x.reference (b ++ before)
      second = laws.of_one pace frames past n x (b ++ before) paced near at
          (λ bytes is_in. among bytes ((differ.1 bytes).1 is_in)) (comes b (omega (arith, also_at_n)))
