-- The replay of a stream goes with the call of its sender, event by event.
use Rattle.std.proofs.Common.{Ok, ◌∙◌, ap, None, ◌≡◌, ℕ, ◌+◌, ◌%◌, ◌<◌, ◌≤◌, Bool, true, false, ◌&&◌, refl, sym, subst, arith, inl, inr, Some, Option, List, [], ◌∷◌, ◌++◌, length, length-append}
use Rattle.std.specs.Prelude.{if◌then◌else◌, Result, slice_get, map, option_and_then}
use Rattle.std.specs.Option.{option_map, option_map_or}
use Rattle.std.specs.Result.{result_ok}
use Rattle.std.proofs.lemmas.List.{append-nil, append_assoc}
use Rattle.std.proofs.lemmas.Option.{slice_get_cases, slice_get-map, slice_get_within}
use Rattle.call_model.specs.Coding.{Rules, window, period, Slice, Header, Piece, Message, Exact, Shown, Decoding, grey, reconstruction_of_slices}
use Rattle.call_model.specs.CodedPictures.{Coded, is_among, picture_at}
use Rattle.call_model.specs.Before.{WasDelivered}
use Rattle.call_model.specs.IdealCall.{Send, Deliver, Play, Back, NumberedMessage, Got, Lost, about, told_full, Call, Source, reconstruction_at, with_arrival, slices_at, is_full, newest_full, full_flags, delivery_counts, MayHappen}
use Rattle.call_model.specs.Sending.{header_of, nearest_below, known_by_feedback}
use Rattle.call_model.specs.Receiving.{ReceiverRun, Heard, heard, after_packet, after_play, played_message, played_mark, played_picture}
use Rattle.call_model.specs.Sound.{IsSoundPicture, IsPacketOfSlice, Packets, IsSoundEvent, received, delivery_answer, FollowsTheCall, is_refused}
use Rattle.call_model.specs.TwoStores.{travelling}
use Rattle.stream_audit.specs.Stream.{StreamPart, StreamPicture, Item, Picture, Feedback, pictures_in, picture_numbered, part_packets, stream_packets, known_of, part_slices}
use Rattle.stream_audit.specs.Sound.{IsSound, IsSoundAfter}
use Rattle.stream_audit.specs.Replay.{Happens, MessageAbout, PassedOver, Replay, StreamEvent, decoded_in, decoded_next, events_in, item_at, about_said_to, CameInTime, replay_after_bytes, replayed_said, replay, MayHappenIn, AllMayHappenIn, NoneIsRefused, ExactWhereAllCame, ReadsInPeriod}
use Rattle.stream_audit.proofs.Lists.{length_map, not_none, slice_get_left, slice_get_push}
use Rattle.stream_audit.proofs.Streams.{item_next, split_next, pictures_more, picture_here, sound_before, sound_at}
use Rattle.stream_audit.proofs.Calls.{CallLaws, told_of, map_two, coded_of, source, packets, call, IsOf, At, says, no_count, told_by_play, slices_are, is_full_from, exact_where_full, shown_where_full, header_is, header_of_is}

module _ {Style Mb P Fault MessageFault : Type 0} (decoding : Decoding Style Mb P Fault) (read : List ℕ
    → Result Message MessageFault) (rules : Rules) (in_period : ReadsInPeriod decoding rules)
    (laws : CallLaws decoding rules) (stream : List (Item Style Mb)) (sound : IsSound decoding read rules stream) where
  abbrev src : Source Style Mb P
  src = source decoding read rules stream

  abbrev pks : Packets Style Mb P
  pks = packets decoding read rules stream

  abbrev cl : List StreamEvent → Call Style Mb P
  cl past = call decoding read rules stream (events_in past)

  abbrev rp : List StreamEvent → Replay Style Mb P
  rp past = replay decoding read rules stream past

  follows_at : (past : List StreamEvent) → At decoding read rules stream past
      → FollowsTheCall decoding rules src pks (pictures_in stream) (events_in past)
  follows_at past at = laws.sender src pks (pictures_in stream) (events_in past) at.near at.all_sound

  played_is : (past : List StreamEvent) → At decoding read rules stream past → (rp past).receiver.played
      ≡ (cl past).played
  played_is past at = ap (λ (r : ReceiverRun Style Mb P). r.played) at.receiver ∙ (follows_at past at).state.played

  -- ---- a picture that is sent is sound

  sound_send : (past : List StreamEvent) (at : At decoding read rules stream past) (p : StreamPicture Style Mb)
      → IsSoundAfter decoding read rules at.done p
      → IsSoundPicture decoding.pictures rules (cl past) (coded_of decoding read rules stream (length (cl past).coded)
      (cl past).coded p)
  sound_send past at p placed = record {
    covers = placed.covers;
    picture = refl;
    reference = λ m is. named m p.header.reference refl is;
  }
    where
      named : (m : ℕ) (o : Option ℕ) → p.header.reference ≡ o
          → option_and_then (nearest_below rules (length (cl past).coded)) o ≡ Some m
          → (length (cl past).coded ≤ m + window rules) × (is_among (cl past).known m ≡ true)
      named m None header is = absurd (not_none m (sym is))
      named m (Some rest) header is =
          let r = placed.reference rest header in
          let there : nearest_below rules (length (cl past).coded) rest
          ≡ Some r.0 = ap (λ (k : ℕ). nearest_below rules k rest) (sym at.pictures) ∙ r.1 in
          let same : Some r.0 ≡ Some m = sym there ∙ is in
          let equal : r.0 ≡ m = cc in (
            omega (arith, r.2, equal, at.pictures),
            subst (λ (ks : List ℕ). is_among ks m ≡ true) at.known
                (subst (λ (k : ℕ). is_among (known_of read rules at.done) k ≡ true) equal r.3),
          )

  -- ---- a packet that is delivered is that of its slice

  reference_again : (n : ℕ) (o : Option ℕ) → ((rest : ℕ) → o ≡ Some rest → rest < period rules)
      → ((rest : ℕ) → o ≡ Some rest → (m : ℕ) × (nearest_below rules n rest ≡ Some m))
      → option_map (λ m. m % period rules) (option_and_then (nearest_below rules n) o) ≡ o
  reference_again n None small there = refl
  reference_again n (Some rest) small there =
      let r = there rest refl in
      ap (λ (o : Option ℕ). option_map (λ m. m % period rules) o) r.1
      ∙ ap Some (((laws.nearest rules n rest r.0 (small rest refl)).0 r.1).2)

  packet_is : (n j : ℕ) (x : Coded Style Mb P) → IsOf decoding read rules stream n x
      → IsPacketOfSlice decoding rules (stream_packets stream n) n j x
  packet_is n j x is_of = record { read_as = read_as; no_other = no_other }
    where
      p : StreamPicture Style Mb
      p = is_of.picture

      placed : (placed : List (Item Style Mb)) × (pictures_in placed ≡ n) × IsSoundAfter decoding read rules placed p
      placed = sound_at decoding read rules stream n p sound is_of.there

      bytes_at : slice_get (stream_packets stream n) j ≡ option_map (λ part. part.bytes) (slice_get p.parts j)
      bytes_at = ap (λ (o : Option (StreamPicture Style Mb)). slice_get (option_map_or part_packets o []) j) is_of.there
          ∙ slice_get-map (λ (part : StreamPart Style Mb). part.bytes) p.parts j

      slice_at : slice_get x.slices j ≡ option_map (λ part. part.piece.slice) (slice_get p.parts j)
      slice_at = ap (λ (l : List (Slice Mb)). slice_get l j) is_of.slices
          ∙ slice_get-map (λ (part : StreamPart Style Mb). part.piece.slice) p.parts j

      of_part : (part : StreamPart Style Mb) → slice_get p.parts j ≡ Some part → decoding.read part.bytes
          ≡ Ok (record { header = header_of rules n x; slice = part.piece.slice })
      of_part part here =
          let got = placed.2.packets j part here in
          let reference : option_map (λ m. m % period rules) x.reference ≡ p.header.reference =
          ap (λ (o : Option ℕ). option_map (λ m. m % period rules) o) is_of.reference
          ∙ reference_again n p.header.reference
          (λ rest is. in_period part.bytes part.piece rest got.0 (ap (λ (h : Header Style). h.half) got.1
          ∙ placed.2.half) (ap (λ (h : Header Style). h.reference) got.1 ∙ is))
          (λ rest is. let r = placed.2.reference rest is in
          (r.0, ap (λ (k : ℕ). nearest_below rules k rest) (sym placed.1) ∙ r.1)) in
          let number : p.header.number ≡ n % period rules = placed.2.number
          ∙ ap (λ (k : ℕ). k % period rules) placed.1 in
          let whole = header_is p.header (n % period rules) (option_map (λ m. m % period rules) x.reference) rules.half
          number reference placed.2.half in
          let styled : p.header ≡ header_of rules n x =
          whole ∙ ap (λ (s : Style). let g : Header Style = record {
            number = n % period rules;
            reference = option_map (λ m. m % period rules) x.reference;
            half = rules.half;
            style = s;
          } in
          g) (sym is_of.style) ∙ sym (header_of_is rules n x) in
          got.0 ∙ ap (λ (h : Header Style). let r : Result (Piece Style Mb) Fault = Ok (record {
            header = h;
            slice = part.piece.slice;
          }) in r) (got.1 ∙ styled)

      read_as : (slice : Slice Mb) → slice_get x.slices j ≡ Some slice
          → (bytes : List ℕ) × (slice_get (stream_packets stream n) j ≡ Some bytes)
          × (decoding.read bytes ≡ Ok (record { header = header_of rules n x; slice = slice }))
      read_as slice e =
          elim (slice_get_cases p.parts j).1 [
            | inl h ↦
                let here : slice_get p.parts j ≡ Some h.0 = h.2 in
                let same : Some h.0.piece.slice ≡ Some slice = sym (slice_at
                ∙ ap (λ (o : Option (StreamPart Style Mb)). option_map (λ part. part.piece.slice) o) here) ∙ e in
                let equal : h.0.piece.slice ≡ slice = cc in (
                  h.0.bytes,
                  bytes_at ∙ ap (λ (o : Option (StreamPart Style Mb)). option_map (λ part. part.bytes) o) here,
                  of_part h.0 here ∙ ap (λ (s : Slice Mb). let r : Result (Piece Style Mb) Fault =
                      Ok (record { header = header_of rules n x; slice = s }) in r) equal,
                )
            | inr h ↦
                let none : None ≡ Some slice = sym (slice_at
                ∙ ap (λ (o : Option (StreamPart Style Mb)). option_map (λ part. part.piece.slice) o) h.1) ∙ e in
                absurd (not_none slice (sym none))
          ]

      no_other : slice_get x.slices j ≡ None → slice_get (stream_packets stream n) j ≡ None
      no_other e =
          elim (slice_get_cases p.parts j).1 [
            | inl h ↦
                let some : Some h.0.piece.slice ≡ None = sym (slice_at
                ∙ ap (λ (o : Option (StreamPart Style Mb)). option_map (λ part. part.piece.slice) o) h.2) ∙ e in
                absurd (not_none h.0.piece.slice some)
            | inr h ↦ bytes_at ∙ ap (λ (o : Option (StreamPart Style Mb)). option_map (λ part. part.bytes) o) h.1
          ]

  -- a picture that was sent has as many slices as packets
  slices_sent : (past : List StreamEvent) → At decoding read rules stream past → (n : ℕ) → n < length (cl past).coded
      → length (slices_at (cl past).coded n) ≡ length (stream_packets stream n)
  slices_sent past at n sent =
      elim (slice_get_cases (cl past).coded n).1 [
        | inl h ↦
            let o = at.coded n h.0 h.2 in
            ap length (slices_are (cl past).coded n h.0 h.2)
            ∙ ap length o.slices
            ∙ length_map (λ (part : StreamPart Style Mb). part.piece.slice) o.picture.parts
            ∙ sym (length_map (λ (part : StreamPart Style Mb). part.bytes) o.picture.parts)
            ∙ ap (λ (q : Option (StreamPicture Style Mb)). length (option_map_or part_packets q [])) (sym o.there)
        | inr h ↦ absurd (omega (arith, h.0, sent))
      ]

  -- ---- pictures as they are decoded

  picture_before : (coded : List (Coded Style Mb P)) (o : Option ℕ) → option_and_then (picture_at coded) o
      ≡ option_and_then (slice_get (map (λ x. x.picture) coded)) o
  picture_before coded None = refl
  picture_before coded (Some m) = sym (slice_get-map (λ (x : Coded Style Mb P). x.picture) coded m)

  -- the picture that is sent next is the next of those before it
  new_decoded : (coded : List (Coded Style Mb P)) (p : StreamPicture Style Mb)
      → (coded_of decoding read rules stream (length coded) coded p).picture
      ≡ decoded_next decoding rules (map (λ x. x.picture) coded) p
  new_decoded coded p =
      ap (λ (o : Option P). reconstruction_of_slices decoding.pictures p.header.style o (part_slices p))
      (picture_before coded (option_and_then (nearest_below rules (length coded)) p.header.reference))
      ∙ ap (λ (k : ℕ). reconstruction_of_slices decoding.pictures p.header.style
      (option_and_then (slice_get (map (λ x. x.picture) coded))
      (option_and_then (nearest_below rules k) p.header.reference)) (part_slices p))
      (sym (length_map (λ (x : Coded Style Mb P). x.picture) coded))

  -- later items change none of them
  decoded_more : (more done : List (Item Style Mb)) → (rest : List P) × (decoded_in decoding rules (more ++ done)
      ≡ decoded_in decoding rules done ++ rest)
  decoded_more [] done = ([], sym (append-nil (decoded_in decoding rules done)))
  decoded_more (Picture p ∷ more) done =
      let r = decoded_more more done in
      let next = decoded_next decoding rules (decoded_in decoding rules (more ++ done)) p in (
        r.0 ++ next ∷ [],
        ap (λ (l : List P). l ++ next ∷ []) r.1
            ∙ append_assoc (decoded_in decoding rules done) r.0 (next ∷ []),
      )
  decoded_more (Feedback bytes ∷ more) done = decoded_more more done

  -- the picture of number n is that of the call
  decoded_at : (past : List StreamEvent) → At decoding read rules stream past → (n : ℕ) → n < length (cl past).coded
      → slice_get (decoded_in decoding rules stream) n ≡ Some (reconstruction_at decoding.pictures (cl past).coded n)
  decoded_at past at n sent =
      elim (slice_get_cases (cl past).coded n).1 [
        | inl h ↦
            let there : slice_get (map (λ x. x.picture) (cl past).coded) n ≡ Some h.0.picture =
            slice_get-map (λ (x : Coded Style Mb P). x.picture) (cl past).coded n
            ∙ ap (λ (o : Option (Coded Style Mb P)). option_map (λ x. x.picture) o) h.2
            in
            let early : slice_get (decoded_in decoding rules at.done) n
            ≡ Some h.0.picture = ap (λ (l : List P). slice_get l n) (sym at.decoded) ∙ there in
            let more = decoded_more at.more at.done in
            ap (λ (l : List (Item Style Mb)). slice_get (decoded_in decoding rules l) n) at.split
            ∙ ap (λ (l : List P). slice_get l n) more.1
            ∙ slice_get_left (decoded_in decoding rules at.done) more.0 n h.0.picture early
            ∙ ap (λ (o : Option (Coded Style Mb P)). let q : Option P =
            Some (option_map_or (λ x. x.picture) o (grey decoding.pictures)) in q) (sym h.2)
        | inr h ↦ absurd (omega (arith, h.0, sent))
      ]

  -- ---- event by event

  send : (past : List StreamEvent) → At decoding read rules stream past
      → MayHappenIn decoding read rules stream (rp past) (Happens Send)
      → At decoding read rules stream (Happens Send ∷ past)
  send past at near = record {
    near = ((omega (arith, count, at.pictures), omega (arith, near.2, at.sent, played_is past at)), at.near);
    all_sound = (
      λ x is. subst (λ (y : Coded Style Mb P). IsSoundPicture decoding.pictures rules (cl past) y)
          (one x (sym is_source ∙ is)) (sound_send past at p here_sound),
      at.all_sound,
    );
    more = next.0;
    done = Picture p ∷ at.done;
    split = split';
    items = ap (λ (k : ℕ). k + 1) at.items ∙ omega arith;
    sent = omega (arith, at.sent, ap length coded', length-append (cl past).coded (new ∷ []));
    pictures = omega (arith, at.pictures, ap length coded', length-append (cl past).coded (new ∷ []));
    known = at.known;
    receiver = at.receiver;
    said = at.said;
    coded = λ n x got. elim (slice_get_push (cl past).coded new n x
        (sym (ap (λ (l : List (Coded Style Mb P)). slice_get l n) coded') ∙ got)) [
          | inl old ↦ at.coded n x old
          | inr last ↦ record {
            picture = p;
            there = ap (λ (k : ℕ). picture_numbered stream k) last.0 ∙ here;
            slices = ap (λ (y : Coded Style Mb P). y.slices) last.1;
            style = ap (λ (y : Coded Style Mb P). y.style) last.1;
            reference = ap (λ (y : Coded Style Mb P). y.reference) last.1
                ∙ ap (λ (k : ℕ). option_and_then (nearest_below rules k) p.header.reference) (sym last.0);
          }
        ];
    decoded =
        ap (λ (l : List (Coded Style Mb P)). map (λ x. x.picture) l) coded'
        ∙ sym (map_two (λ (x : Coded Style Mb P). x.picture) (cl past).coded (new ∷ []))
        ∙ ap (λ (y : P). map (λ x. x.picture) (cl past).coded ++ y ∷ []) (new_decoded (cl past).coded p)
        ∙ ap (λ (l : List P). l ++ decoded_next decoding rules l p ∷ []) at.decoded;
  }
    where
      p : StreamPicture Style Mb
      p = near.0

      next : (before : List (Item Style Mb)) × (at.more ≡ before ++ Picture p ∷ [])
      next = item_next at.more at.done (Picture p) (ap (λ (l : List (Item Style Mb)). item_at l (length at.done))
          (sym at.split) ∙ ap (item_at stream) (sym at.items) ∙ near.1)

      split' : stream ≡ next.0 ++ Picture p ∷ at.done
      split' = split_next stream at.more at.done next.0 (Picture p) at.split next.1

      here : picture_numbered stream (length (cl past).coded) ≡ Some p
      here = ap (picture_numbered stream) (sym at.pictures)
          ∙ ap (λ (l : List (Item Style Mb)). picture_numbered l (pictures_in at.done)) split'
          ∙ picture_here next.0 at.done p

      new : Coded Style Mb P
      new = coded_of decoding read rules stream (length (cl past).coded) (cl past).coded p

      is_source : src (cl past) ≡ Some new
      is_source = ap (λ (o : Option (StreamPicture Style Mb)). option_map (coded_of decoding read rules stream
          (length (cl past).coded) (cl past).coded) o) here

      coded' : (cl (Happens Send ∷ past)).coded ≡ (cl past).coded ++ new ∷ []
      coded' = ap (λ (o : Option (Coded Style Mb P)). (cl past).coded ++ option_map_or (λ x. x ∷ []) o []) is_source

      here_sound : IsSoundAfter decoding read rules at.done p
      here_sound = (sound_before decoding read rules next.0 (Picture p ∷ at.done)
          (subst (λ (l : List (Item Style Mb)). IsSound decoding read rules l) split' sound)).0

      count : pictures_in at.done + 1 ≤ pictures_in stream
      count = let more : pictures_in (Picture p ∷ at.done) ≤ pictures_in (next.0 ++ Picture p ∷ at.done) =
          pictures_more next.0 (Picture p ∷ at.done) in omega (arith, ap pictures_in split')

      one : (x : Coded Style Mb P) → Some new ≡ Some x → new ≡ x
      one x e = cc

  deliver : (past : List StreamEvent) (n j : ℕ) → At decoding read rules stream past
      → MayHappenIn decoding read rules stream (rp past) (Happens (Deliver n j))
      → At decoding read rules stream (Happens (Deliver n j) ∷ past)
  deliver past n j at near =
      elim (slice_get_cases (stream_packets stream n) j).1 [ inl h ↦ of_packet h.0 h.2 | inr h ↦ of_none h.1 h.0 ]
    where
      near' : MayHappen rules (pictures_in stream) (cl past) (Deliver n j)
      near' = (omega (arith, near.0, at.sent), omega (arith, near.1, played_is past at))

      sound' : IsSoundEvent decoding rules src pks (cl past) (Deliver n j)
      sound' x at_n = packet_is n j x (at.coded n x at_n)

      -- what the replay and the receiver's run come to, by what is delivered
      replay_is : (o : Option (List ℕ)) → slice_get (stream_packets stream n) j ≡ o → rp (Happens (Deliver n j) ∷ past)
          ≡ option_map_or (replay_after_bytes decoding read rules stream (rp past) n) o (rp past)
      replay_is o e = ap (λ (o : Option (List ℕ)). option_map_or (replay_after_bytes decoding read rules stream
          (rp past) n) o
          (rp past)) e

      received_is : (o : Option (List ℕ)) → slice_get (stream_packets stream n) j ≡ o
          → received decoding rules src pks (Deliver n j ∷ events_in past)
          ≡ option_map_or (λ bytes. after_packet decoding rules bytes
          (received decoding rules src pks (events_in past))) o (received decoding rules src pks (events_in past))
      received_is o e = ap (λ (o : Option (List ℕ)). option_map_or (λ bytes. after_packet decoding rules bytes
          (received decoding rules src pks (events_in past))) o (received decoding rules src pks (events_in past))) e

      -- only the receiver and what it said may change
      delivered_as : (w : Replay Style Mb P) → rp (Happens (Deliver n j) ∷ past) ≡ w → w.items ≡ (rp past).items
          → w.sent ≡ (rp past).sent → w.receiver ≡ received decoding rules src pks (Deliver n j ∷ events_in past)
          → w.said ≡ map (told_of rules) (cl (Happens (Deliver n j) ∷ past)).said
          → At decoding read rules stream (Happens (Deliver n j) ∷ past)
      delivered_as w is items sent receiver said = record {
        near = (near', at.near);
        all_sound = (sound', at.all_sound);
        more = at.more;
        done = at.done;
        split = at.split;
        items = ap (λ (w : Replay Style Mb P). w.items) is ∙ items ∙ at.items;
        sent = ap (λ (w : Replay Style Mb P). w.sent) is ∙ sent ∙ at.sent;
        pictures = at.pictures;
        known = at.known;
        receiver = ap (λ (w : Replay Style Mb P). w.receiver) is ∙ receiver;
        said = ap (λ (w : Replay Style Mb P). w.said) is ∙ said;
        coded = at.coded;
        decoded = at.decoded;
      }

      of_packet : (bytes : List ℕ) → slice_get (stream_packets stream n) j ≡ Some bytes
          → At decoding read rules stream (Happens (Deliver n j) ∷ past)
      of_packet bytes e =
          let answer : heard decoding rules (rp past).receiver (decoding.read bytes)
          ≡ delivery_answer rules (cl past) n j =
          ap (λ (r : ReceiverRun Style Mb P). heard decoding rules r (decoding.read bytes)) at.receiver
          ∙ (follows_at past at).answers n j bytes near' sound' e in
          let said' : (rp past).said ++ about_said_to n (heard decoding rules (rp past).receiver (decoding.read bytes))
          ≡ map (told_of rules) (cl (Happens (Deliver n j) ∷ past)).said =
          ap (λ (h : Heard Fault). (rp past).said ++ about_said_to n h) answer
          ∙ ap (λ (l : List MessageAbout). (rp past).said
          ++ l) (says Fault rules (cl past) n j (omega (
            arith,
            slice_get_within (stream_packets stream n) j bytes e,
            slices_sent past at n near'.0,
          )))
          ∙ ap (λ (l : List MessageAbout). l
          ++ map (told_of rules) (if delivery_counts rules (cl past) n j && is_full (cl past).coded
          (with_arrival (cl past).arrivals n j) n then Got n
          (full_flags rules (cl past).coded (with_arrival (cl past).arrivals n j) n) ∷ [] else [])) at.said
          ∙ map_two (told_of rules) (cl past).said _ in
          delivered_as (replay_after_bytes decoding read rules stream (rp past) n bytes) (replay_is (Some bytes) e) refl
          refl
          (ap (after_packet decoding rules bytes) at.receiver ∙ sym (received_is (Some bytes) e)) said'

      of_none : slice_get (stream_packets stream n) j ≡ None → length (stream_packets stream n) ≤ j
          → At decoding read rules stream (Happens (Deliver n j) ∷ past)
      of_none e far =
          let counts : delivery_counts rules (cl past) n j
          ≡ false = no_count rules (cl past) n j (omega (arith, far, slices_sent past at n near'.0)) in
          let same : (cl (Happens (Deliver n j) ∷ past)).said ≡ (cl past).said =
          ap (λ (b : Bool). (cl past).said
          ++ (if b && is_full (cl past).coded (with_arrival (cl past).arrivals n j) n then Got n
          (full_flags rules (cl past).coded (with_arrival (cl past).arrivals n j) n) ∷ [] else [])) counts
          ∙ append-nil (cl past).said in
          delivered_as (rp past) (replay_is None e) refl refl (at.receiver ∙ sym (received_is None e)) (at.said
          ∙ ap (map (told_of rules)) (sym same))

  play : (past : List StreamEvent) → At decoding read rules stream past
      → MayHappenIn decoding read rules stream (rp past) (Happens Play)
      → At decoding read rules stream (Happens Play ∷ past)
  play past at near =
      let near' : MayHappen rules (pictures_in stream) (cl past) Play = omega (
        arith,
        near,
        at.sent,
        played_is past at,
      ) in
      let follows = follows_at past at in
      let says' = (follows.plays near').1 in
      record {
        near = (near', at.near);
        all_sound = (tt, at.all_sound);
        more = at.more;
        done = at.done;
        split = at.split;
        items = at.items;
        sent = at.sent;
        pictures = at.pictures;
        known = at.known;
        receiver = ap (after_play decoding rules) at.receiver;
        said = ap (λ (r : ReceiverRun Style Mb P). (rp past).said ++ replayed_said decoding read rules stream r)
            at.receiver
            ∙ ap (λ (k : ℕ). (rp past).said ++ option_map_or (λ m. let t : MessageAbout = record {
              about = k;
              message = m;
            } in t ∷ [])
            (played_message decoding rules (received decoding rules src pks (events_in past))) [])
            follows.state.played
            ∙ ap (λ (o : Option Message). (rp past).said
            ++ option_map_or (λ m. let t : MessageAbout = record { about = (cl past).played; message = m } in
            t ∷ []) o []) says'
            ∙ ap (λ (l : List MessageAbout). (rp past).said ++ l) (told_by_play rules (cl past))
            ∙ ap (λ (l : List MessageAbout). l
            ++ map (told_of rules) (if is_full (cl past).coded (cl past).arrivals (cl past).played then [] else Lost
            (cl past).played (newest_full rules (cl past).coded (cl past).arrivals (cl past).played)
            (full_flags rules (cl past).coded (cl past).arrivals (cl past).played) ∷ [])) at.said
            ∙ map_two (told_of rules) (cl past).said _;
        coded = at.coded;
        decoded = at.decoded;
      }

  back : (past : List StreamEvent) (k : ℕ) → At decoding read rules stream past
      → MayHappenIn decoding read rules stream (rp past) (Happens (Back k))
      → At decoding read rules stream (Happens (Back k) ∷ past)
  back past k at near =
      elim (slice_get_cases (cl past).said k).1 [
        | inl h ↦ of_note h.0 h.2
        | inr h ↦ absurd (not_none near.0 (sym (sym (told_there ∙ ap (option_map (told_of rules)) h.1) ∙ near.2)))
      ]
    where
      told_there : slice_get (rp past).said k ≡ option_map (told_of rules) (slice_get (cl past).said k)
      told_there = ap (λ (l : List MessageAbout). slice_get l k) at.said
          ∙ slice_get-map (told_of rules) (cl past).said k

      next : (before : List (Item Style Mb)) × (at.more ≡ before ++ Feedback near.1 ∷ [])
      next = item_next at.more at.done (Feedback near.1) (ap (λ (l : List (Item Style Mb)). item_at l (length at.done))
          (sym at.split) ∙ ap (item_at stream) (sym at.items) ∙ near.3)

      of_note : (note : NumberedMessage) → slice_get (cl past).said k ≡ Some note
          → At decoding read rules stream (Happens (Back k) ∷ past)
      of_note note there =
          let same : Some (told_of rules note) ≡ Some near.0 = sym (told_there ∙ ap (option_map (told_of rules)) there)
          ∙ near.2 in
          let told : told_of rules note ≡ near.0 = cc in
          let close : length (cl past).coded < about note + rules.half = omega (
            arith,
            near.5,
            at.sent,
            ap (λ (t : MessageAbout). t.about) told,
          ) in
          let learned = ((follows_at past at).messages k note there).known close in
          let reads : read near.1 ≡ Ok (travelling rules note) = near.4
          ∙ ap (λ (t : MessageAbout). let r : Result Message MessageFault = Ok t.message in r) (sym told) in
          let made : known_by_feedback rules (pictures_in at.done) (result_ok (read near.1)) ≡ told_full note =
          ap (λ (r : Result Message MessageFault). known_by_feedback rules (pictures_in at.done) (result_ok r)) reads
          ∙ ap (λ (n : ℕ). known_by_feedback rules n (Some (travelling rules note))) at.pictures
          ∙ ap (λ (o : Option (List ℕ)). option_map_or (λ numbers. numbers) o []) learned in
          let known' : (cl (Happens (Back k) ∷ past)).known ≡ told_full note
          ++ (cl past).known = ap (λ (o : Option NumberedMessage). option_map_or told_full o []
          ++ (cl past).known) there in
          record {
            near = ((note, there, close), at.near);
            all_sound = (tt, at.all_sound);
            more = next.0;
            done = Feedback near.1 ∷ at.done;
            split = split_next stream at.more at.done next.0 (Feedback near.1) at.split next.1;
            items = ap (λ (i : ℕ). i + 1) at.items ∙ omega arith;
            sent = at.sent;
            pictures = at.pictures;
            known = ap (λ (l : List ℕ). l ++ known_of read rules at.done) made
                ∙ ap (λ (l : List ℕ). told_full note ++ l) at.known ∙ sym known';
            receiver = at.receiver;
            said = at.said;
            coded = at.coded;
            decoded = at.decoded;
          }

  -- feedback that makes nothing known is passed over
  passed : (past : List StreamEvent) → At decoding read rules stream past
      → MayHappenIn decoding read rules stream (rp past) PassedOver → At decoding read rules stream (PassedOver ∷ past)
  passed past at near =
      let next = item_next at.more at.done (Feedback near.0)
      (ap (λ (l : List (Item Style Mb)). item_at l (length at.done)) (sym at.split)
      ∙ ap (item_at stream) (sym at.items) ∙ near.1) in
      let none : known_by_feedback rules (pictures_in at.done) (result_ok (read near.0)) ≡ [] =
      ap (λ (n : ℕ). known_by_feedback rules n (result_ok (read near.0))) (at.pictures ∙ sym at.sent) ∙ near.2
      in
      record {
        near = at.near;
        all_sound = at.all_sound;
        more = next.0;
        done = Feedback near.0 ∷ at.done;
        split = split_next stream at.more at.done next.0 (Feedback near.0) at.split next.1;
        items = ap (λ (i : ℕ). i + 1) at.items ∙ omega arith;
        sent = at.sent;
        pictures = at.pictures;
        known = ap (λ (l : List ℕ). l ++ known_of read rules at.done) none ∙ at.known;
        receiver = at.receiver;
        said = at.said;
        coded = at.coded;
        decoded = at.decoded;
      }

  pub call_at : (past : List StreamEvent) → AllMayHappenIn decoding read rules stream past
      → At decoding read rules stream past
  call_at [] near = record {
    near = tt;
    all_sound = tt;
    more = stream;
    done = [];
    split = sym (append-nil stream);
    items = refl;
    sent = refl;
    pictures = refl;
    known = refl;
    receiver = refl;
    said = refl;
    coded = λ n x e. cc;
    decoded = refl;
  }
  call_at (Happens Send ∷ past) near = send past (call_at past near.1) near.0
  call_at (Happens (Deliver n j) ∷ past) near = deliver past n j (call_at past near.1) near.0
  call_at (Happens Play ∷ past) near = play past (call_at past near.1) near.0
  call_at (Happens (Back k) ∷ past) near = back past k (call_at past near.1) near.0
  call_at (PassedOver ∷ past) near = passed past (call_at past near.1) near.0

  -- ---- what the law says

  pub none_is_refused : NoneIsRefused decoding read rules stream
  none_is_refused past n j bytes near e =
      let at = call_at past near.1 in
      let near' : MayHappen rules (pictures_in stream) (cl past) (Deliver n j) = (
        omega (arith, near.0.0, at.sent),
        omega (arith, near.0.1, played_is past at),
      ) in
      let answer = (follows_at past at).answers n j bytes near' (λ x at_n. packet_is n j x (at.coded n x at_n)) e in
      ap (λ (r : ReceiverRun Style Mb P). is_refused (heard decoding rules r (decoding.read bytes))) at.receiver
      ∙ ap is_refused answer
      ∙ laws.not_refused rules (cl past) n j

  -- what came in time was delivered
  delivered : (past : List StreamEvent) → AllMayHappenIn decoding read rules stream past → (n j : ℕ)
      → j < length (stream_packets stream n) → CameInTime rules (events_in past) n j
      → WasDelivered decoding.pictures rules src (events_in past) n j
  delivered [] near n j lt came = came
  delivered (Happens Send ∷ past) near n j lt came = delivered past near.1 n j lt came
  delivered (Happens Play ∷ past) near n j lt came = delivered past near.1 n j lt came
  delivered (Happens (Back k) ∷ past) near n j lt came = delivered past near.1 n j lt came
  delivered (PassedOver ∷ past) near n j lt came = delivered past near.1 n j lt came
  delivered (Happens (Deliver m i) ∷ past) near n j lt came =
      let before = delivered past near.1 n j lt in
      elim came [
        | inl now ↦
            let at = call_at past near.1 in
            let slices = slices_sent past at n (omega (arith, near.0.0, at.sent, now.0)) in
            inl (now.0, now.1, now.2, omega (arith, lt, slices))
        | inr old ↦ inr (before old)
      ]

  pub exact_where_all_came : ExactWhereAllCame decoding read rules stream
  exact_where_all_came past near all =
      let at = call_at past near.1 in
      let near' : MayHappen rules (pictures_in stream) (cl past) Play = omega (
        arith,
        near.0,
        at.sent,
        played_is past at,
      ) in
      let each : (j : ℕ) → j < length (stream_packets stream (cl past).played)
      → CameInTime rules (events_in past) (cl past).played j =
      subst (λ (k : ℕ). (j : ℕ) → j < length (stream_packets stream k) → CameInTime rules (events_in past) k j)
      (played_is past at) all in
      let slices = slices_sent past at (cl past).played near' in
      let full : is_full (cl past).coded (cl past).arrivals (cl past).played ≡ true =
      is_full_from laws.below (cl past).coded (cl past).arrivals (cl past).played near'
      (λ j lt. let fits : j < length (stream_packets stream (cl past).played) = omega (arith, slices) in
      (laws.arrived src (events_in past) (cl past).played j).1 (delivered past near.1 (cl past).played j fits
      (each j fits))) in
      let shown = ((follows_at past at).plays near').0 in
      let mark : played_mark decoding rules (rp past).receiver ≡ Exact =
      ap (played_mark decoding rules) at.receiver
      ∙ ap (λ (s : Shown P). s.mark) shown
      ∙ exact_where_full decoding.pictures (cl past).coded (cl past).arrivals (cl past).plays (cl past).played full
      in
      let picture : played_picture decoding rules (rp past).receiver
      ≡ reconstruction_at decoding.pictures (cl past).coded (cl past).played =
      ap (played_picture decoding rules) at.receiver
      ∙ ap (λ (s : Shown P). s.picture) shown
      ∙ shown_where_full decoding.pictures (cl past).coded (cl past).arrivals (cl past).plays (cl past).played full
      in (
        mark,
        ap (slice_get (decoded_in decoding rules stream)) (played_is past at)
            ∙ decoded_at past at (cl past).played near'
            ∙ ap Some (sym picture),
      )
