-- Where no rule is broken, each picture of the stream is sound.
use Rattle.std.proofs.Common.{Ok, Err, ◌∙◌, ap, None, ◌≡◌, ℕ, zero, suc, ◌+◌, ◌-◌, ◌%◌, ◌<◌, ◌≤◌, Bool, true, false, refl, sym, subst, arith, inl, inr, Some, Option, List, [], ◌∷◌, length, eqb, ltb, leb}
use Rattle.std.specs.Prelude.{⊤, if◌then◌else◌, Result, slice_get, not}
use Rattle.std.specs.Option.{option_map, option_map_or}
use Rattle.std.specs.List.{list_any}
use Rattle.std.proofs.lemmas.Bool.{cases_Bool, and_parts, or_cases, or_parts, leb-true, ltb-true, eqb-true, eq-eqb, ne_eqb, both_ways, false≢true}
use Rattle.std.proofs.lemmas.Option.{slice_get_cases, slice_get-map, slice_get_within}
use Rattle.call_model.specs.Numbers.{AllBelowIs}
use Rattle.call_model.specs.Coding.{Rules, window, period, Slice, has_mb, Piece, Message, Decoding, same_header}
use Rattle.call_model.specs.CodedPictures.{is_among}
use Rattle.call_model.specs.Receiving.{none_in}
use Rattle.call_model.specs.Sending.{nearest_below}
use Rattle.call_model.specs.Lawful.{Covers, IsDecoding}
use Rattle.stream_audit.specs.declared.verdict.Rule.{Rule}
use Rattle.stream_audit.specs.declared.verdict.Rule.TheVariants as rule
use Rattle.stream_audit.specs.declared.verdict.Verdict.TheVariants.{Yes, No}
use Rattle.stream_audit.specs.Stream.{LogEntry, Sent, Fed, StreamPart, StreamPicture, Item, Picture, Feedback, pictures_in, last_picture, items_with_part, with_more, begun_by, items_with_bytes, part_slices, is_of_piece, known_of, stream_of}
use Rattle.stream_audit.specs.declared.verdict.Broken.{Broken}
use Rattle.stream_audit.specs.Verdict.{has, is_picture_whole, last_is_whole, present, item_has_reference, broken_within, broken_next, broken_by, broken_in, first_broken_of, first_broken, verdict_by, verdict_of, broken_at, may_refer}
use Rattle.stream_audit.specs.Sound.{IsSound, IsReadable, AllReadable}
use Rattle.stream_audit.proofs.Headers.{same_header_is}
use Rattle.stream_audit.proofs.Lists.{not_none, slice_get_push}

-- ---- slices

pub has_from : {Mb : Type 0} (slice : Slice Mb) (k : ℕ) → has_mb slice k ≡ true
    → (slice.first ≤ k) × (k < slice.first + length slice.mbs)
unfolding has_mb
has_from slice k e =
    let parts = and_parts (leb slice.first k) (ltb k (slice.first + length slice.mbs)) e in
    (leb-true _ _ parts.0, ltb-true _ _ parts.1)

-- what is not in a slice that has no macroblock of the others
pub none_of : AllBelowIs → {Mb : Type 0} (slice : Slice Mb) (test : ℕ → Bool) (k : ℕ) → none_in slice test ≡ true
    → has_mb slice k ≡ true → test k ≡ false
none_of below slice test k none inside =
    let within = has_from slice k inside in
    let i = k - slice.first in
    let here : not (test (slice.first + (k - slice.first)))
    ≡ true = (below (length slice.mbs) (λ i. not (test (slice.first + i)))).0 none (k - slice.first)
    (omega (arith, within.0, within.1)) in
    let is : slice.first + (k - slice.first) ≡ k = omega (arith, within.0) in
    turned (test k) (subst (λ (m : ℕ). not (test m) ≡ true) is here)
  where
    turned : (b : Bool) → not b ≡ true → b ≡ false
    turned true e = sym e
    turned false e = refl

module _ {Style Mb : Type 0} where
  -- the place of the first packet that has macroblock k
  pub place_in : List (StreamPart Style Mb) → ℕ → ℕ
  place_in [] k = 0
  place_in (part ∷ parts) k = if has_mb part.piece.slice k then 0 else suc (place_in parts k)

  pub first_part : (parts : List (StreamPart Style Mb)) (k : ℕ) → list_any (λ part. has_mb part.piece.slice k) parts
      ≡ true
      → (part : StreamPart Style Mb) × (slice_get parts (place_in parts k) ≡ Some part)
      × (has_mb part.piece.slice k ≡ true)
  unfolding place_in
  first_part [] k e = absurd (false≢true e)
  first_part (part ∷ parts) k e =
      elim (cases_Bool (has_mb part.piece.slice k)) [
        | inl here ↦ (part, rw here refl, here)
        | inr there ↦
            let r = first_part parts k (rest there) in
            (r.0, rw there r.1, r.2)
      ]
    where
      rest : has_mb part.piece.slice k ≡ false → list_any (λ part. has_mb part.piece.slice k) parts ≡ true
      rest there = elim (or_cases _ _ e) [ inl is ↦ absurd (both_ways _ there is) | inr is ↦ is ]

  in_none : (parts : List (StreamPart Style Mb)) (k j : ℕ) (part : StreamPart Style Mb)
      → list_any (λ part. has_mb part.piece.slice k) parts ≡ false → slice_get parts j ≡ Some part
      → has_mb part.piece.slice k ≡ false
  in_none [] k j part none e = cc
  in_none (q ∷ parts) k zero part none e =
      let parts' = or_parts (has_mb q.piece.slice k) (list_any (λ part. has_mb part.piece.slice k) parts) none in
      let same : q ≡ part = one q part e in
      subst (λ (x : StreamPart Style Mb). has_mb x.piece.slice k ≡ false) same parts'.0
    where
      one : (q part : StreamPart Style Mb) → Some q ≡ Some part → q ≡ part
      one q part e = cc
  in_none (q ∷ parts) k (suc j) part none e =
      let parts' = or_parts (has_mb q.piece.slice k) (list_any (λ part. has_mb part.piece.slice k) parts) none in
      in_none parts k j part parts'.1 e

module _ {Style Mb P Fault MessageFault : Type 0} (decoding : Decoding Style Mb P Fault) (read : List ℕ
    → Result Message MessageFault) (rules : Rules) (lawful : IsDecoding decoding rules) (below : AllBelowIs) where
  -- a picture of which more packets may come
  pub record IsGoing (items : List (Item Style Mb)) (p : StreamPicture Style Mb) : Type 0 where
    pub number : p.header.number ≡ pictures_in items % period rules
    pub half : p.header.half ≡ rules.half
    pub packets : (j : ℕ) (part : StreamPart Style Mb) → slice_get p.parts j ≡ Some part
        → (decoding.read part.bytes ≡ Ok part.piece) × (part.piece.header ≡ p.header)
    pub reference : (rest : ℕ) → p.header.reference ≡ Some rest
        → (m : ℕ) × (nearest_below rules (pictures_in items) rest ≡ Some m)
        × (pictures_in items ≤ m + window rules) × (is_among (known_of read rules items) m ≡ true)
    pub apart : (i j k : ℕ) (a b : StreamPart Style Mb) → slice_get p.parts i ≡ Some a → slice_get p.parts j ≡ Some b
        → has_mb a.piece.slice k ≡ true → has_mb b.piece.slice k ≡ true → i ≡ j

  abbrev pub IsClean : List (Item Style Mb) → Type 0
  IsClean [] = ⊤
  IsClean (Feedback bytes ∷ items) = IsClean items
  IsClean (Picture p ∷ items) = IsGoing items p × IsSound decoding read rules items

  -- ---- a picture that is whole

  covered : (items : List (Item Style Mb)) (p : StreamPicture Style Mb) → IsGoing items p → is_picture_whole rules p
      ≡ true
      → Covers rules.mbs (part_slices p)
  covered items p going whole = record {
    place_of = place_in p.parts;
    below = λ k lt.
        let r = first_part p.parts k ((below rules.mbs (has p)).0 whole k lt) in
        slice_get_within (part_slices p) (place_in p.parts k) r.0.piece.slice
        (slice_get-map (λ (part : StreamPart Style Mb). part.piece.slice) p.parts (place_in p.parts k)
        ∙ ap (option_map (λ (part : StreamPart Style Mb). part.piece.slice)) r.1);
    has = λ j k slice lt at_j.
        let r = first_part p.parts k ((below rules.mbs (has p)).0 whole k lt) in
        let part = of_slice j slice at_j in
        elim (cases_Bool (has_mb slice k)) [
          | inl held ↦
              let same : j ≡ place_in p.parts k = going.apart j (place_in p.parts k) k part.0 r.0 part.1 r.1
              (subst (λ (s : Slice Mb). has_mb s k ≡ true) (sym part.2) held) r.2 in
              held ∙ sym (eq-eqb j (place_in p.parts k) same)
          | inr free ↦
              free ∙ sym (ne_eqb j (place_in p.parts k) (λ (e : j ≡ place_in p.parts k).
              let here : slice_get p.parts j ≡ Some r.0 = ap (slice_get p.parts) e ∙ r.1 in
              let one : Some part.0 ≡ Some r.0 = sym part.1 ∙ here in
              let same : part.0 ≡ r.0 = cc in
              both_ways _ free (subst (λ (s : Slice Mb). has_mb s k
              ≡ true) (ap (λ (x : StreamPart Style Mb). x.piece.slice)
              (sym same) ∙ part.2) r.2)))
        ];
    inside = λ j slice at_j.
        let part = of_slice j slice at_j in
        subst (λ (s : Slice Mb). (0 < length s.mbs) × (s.first + length s.mbs ≤ rules.mbs)) part.2
        (lawful.read_inside part.0.bytes part.0.piece (going.packets j part.0 part.1).0);
  }
    where
      of_slice : (j : ℕ) (slice : Slice Mb) → slice_get (part_slices p) j ≡ Some slice → (part : StreamPart Style Mb)
          × (slice_get p.parts j ≡ Some part) × (part.piece.slice ≡ slice)
      of_slice j slice e =
          elim (slice_get_cases p.parts j).1 [
            | inl h ↦
                let same : Some h.0.piece.slice
                ≡ Some slice = sym (slice_get-map (λ (part : StreamPart Style Mb). part.piece.slice) p.parts j
                ∙ ap (option_map (λ (part : StreamPart Style Mb). part.piece.slice)) h.2) ∙ e in
                (h.0, h.2, (let equal : h.0.piece.slice ≡ slice = cc in equal))
            | inr h ↦
                let none : None ≡ Some slice =
                sym (slice_get-map (λ (part : StreamPart Style Mb). part.piece.slice) p.parts j
                ∙ ap (option_map (λ (part : StreamPart Style Mb). part.piece.slice)) h.1) ∙ e in
                absurd (not_none slice (sym none))
          ]

  pub whole_is_sound : (items : List (Item Style Mb)) → IsClean items → last_is_whole rules items ≡ true
      → IsSound decoding read rules items
  whole_is_sound [] clean whole = tt
  whole_is_sound (Feedback bytes ∷ items) clean whole = whole_is_sound items clean whole
  whole_is_sound (Picture p ∷ items) clean whole =
      let going = clean.0 in (
        record {
          number = going.number;
          half = going.half;
          packets = going.packets;
          covers = covered items p going whole;
          reference = going.reference;
        },
        clean.1,
      )

  -- ---- a packet of the last picture

  more_of : (items : List (Item Style Mb)) (p : StreamPicture Style Mb) (part : StreamPart Style Mb)
      → decoding.read part.bytes ≡ Ok part.piece → IsGoing items p
      → broken_within decoding read rules (Some p) part.piece ≡ None → IsGoing items (with_more p part)
  more_of items p part reads going unbroken =
      elim (cases_Bool (same_header decoding p.header part.piece.header)) [
        | inl same ↦ elim (cases_Bool (none_in part.piece.slice (has p))) [
          | inl none ↦ fresh (sym (same_header_is decoding rules lawful p.header part.piece.header same)) none
          | inr some ↦ absurd (not_none rule.Overlap (sym (rw (same, some) refl) ∙ unbroken))
        ]
        | inr other ↦ absurd (not_none rule.Header (sym (rw other refl) ∙ unbroken))
      ]
    where
      fresh : part.piece.header ≡ p.header → none_in part.piece.slice (has p) ≡ true → IsGoing items (with_more p part)
      fresh header none = record {
        number = going.number;
        half = going.half;
        packets = λ j x at_j. elim (slice_get_push p.parts part j x at_j) [
          | inl old ↦ going.packets j x old
          | inr new ↦ subst (λ (y : StreamPart Style Mb). (decoding.read y.bytes ≡ Ok y.piece)
              × (y.piece.header ≡ p.header))
              (sym new.1) (reads, header)
        ];
        reference = going.reference;
        apart = λ i j k a b at_i at_j in_a in_b.
            elim (slice_get_push p.parts part i a at_i) [
              | inl old_i ↦ elim (slice_get_push p.parts part j b at_j) [
                | inl old_j ↦ going.apart i j k a b old_i old_j in_a in_b
                | inr new_j ↦ absurd (crossed k i a b old_i new_j.1 in_a in_b)
              ]
              | inr new_i ↦ elim (slice_get_push p.parts part j b at_j) [
                | inl old_j ↦ absurd (crossed k j b a old_j new_i.1 in_b in_a)
                | inr new_j ↦ new_i.0 ∙ sym new_j.0
              ]
            ];
      }
        where
          crossed : (k i : ℕ) (a b : StreamPart Style Mb) → slice_get p.parts i ≡ Some a → b ≡ part
              → has_mb a.piece.slice k
              ≡ true → has_mb b.piece.slice k ≡ true → ⊥
          crossed k i a b old new in_a in_b =
              let outside : has p k ≡ false = none_of below part.piece.slice (has p) k none
              (subst (λ (y : StreamPart Style Mb). has_mb y.piece.slice k ≡ true) new in_b) in
              both_ways _ (in_none p.parts k i a outside old) in_a

  clean_part : (items : List (Item Style Mb)) (part : StreamPart Style Mb) → decoding.read part.bytes ≡ Ok part.piece
      → IsClean items → broken_within decoding read rules (last_picture items) part.piece ≡ None
      → IsClean (items_with_part items part)
  clean_part [] part reads clean unbroken = tt
  clean_part (Feedback bytes ∷ items) part reads clean unbroken = clean_part items part reads clean unbroken
  clean_part (Picture p ∷ items) part reads clean unbroken = (more_of items p part reads clean.0 unbroken, clean.1)

  -- ---- the first packet of the next picture

  next_of : (items : List (Item Style Mb)) (part : StreamPart Style Mb) → decoding.read part.bytes ≡ Ok part.piece
      → part.piece.header.half ≡ rules.half → IsClean items → broken_next decoding read rules items part.piece ≡ None
      → IsClean (Picture (begun_by part) ∷ items)
  next_of items part reads half clean unbroken =
      elim (cases_Bool (last_is_whole rules items)) [
        | inr gap ↦ absurd (not_none (broken_at (present items) rule.Gap) (sym (rw gap refl) ∙ unbroken))
        | inl whole ↦ elim (cases_Bool (eqb part.piece.header.number (pictures_in items % period rules))) [
          | inr wrong ↦ absurd (not_none (broken_at (pictures_in items) rule.Number) (sym (rw (whole, wrong) refl)
              ∙ unbroken))
          | inl right ↦ elim (cases_Bool (item_has_reference decoding read rules items part.piece.header)) [
            | inr none ↦ absurd (not_none (broken_at (pictures_in items) rule.Reference)
                (sym (rw (whole, right, none) refl) ∙ unbroken))
            | inl there ↦ (begun (eqb-true _ _ right) there, whole_is_sound items clean whole)
          ]
        ]
      ]
    where
      one : (x : StreamPart Style Mb) (j : ℕ) → slice_get (part ∷ []) j ≡ Some x → (j ≡ 0) × (x ≡ part)
      one x zero e = (refl, cc)
      one x (suc j) e = cc

      begun : part.piece.header.number ≡ pictures_in items % period rules
          → item_has_reference decoding read rules items part.piece.header ≡ true → IsGoing items (begun_by part)
      begun number there = record {
        number = number;
        half = half;
        packets = λ j x at_j. subst (λ (y : StreamPart Style Mb). (decoding.read y.bytes ≡ Ok y.piece)
            × (y.piece.header ≡ part.piece.header)) (sym (one x j at_j).1) (reads, refl);
        reference = λ rest is. named rest (subst (λ (o : Option ℕ). option_map_or (λ rest.
            option_map_or (may_refer rules (known_of read rules items) (pictures_in items))
            (nearest_below rules (pictures_in items) rest) false) o true ≡ true) is there);
        apart = λ i j k a b at_i at_j in_a in_b. (one a i at_i).0 ∙ sym (one b j at_j).0;
      }
        where
          found : (o : Option ℕ) → option_map_or (may_refer rules (known_of read rules items) (pictures_in items)) o
              false ≡ true → (m : ℕ) × (o ≡ Some m) × (pictures_in items ≤ m + window rules)
              × (is_among (known_of read rules items) m ≡ true)
          found None e = absurd (false≢true e)
          found (Some m) e =
              let parts = and_parts (is_among (known_of read rules items) m)
              (leb (pictures_in items) (m + window rules)) e in
              (m, refl, leb-true _ _ parts.1, parts.0)

          named : (rest : ℕ) → option_map_or (may_refer rules (known_of read rules items) (pictures_in items))
              (nearest_below rules (pictures_in items) rest) false ≡ true
              → (m : ℕ) × (nearest_below rules (pictures_in items) rest ≡ Some m)
              × (pictures_in items ≤ m + window rules) × (is_among (known_of read rules items) m ≡ true)
          named rest e = found (nearest_below rules (pictures_in items) rest) e

  -- ---- a log

  clean_packet : (items : List (Item Style Mb)) (bytes : List ℕ) (r : Result (Piece Style Mb) Fault)
      → decoding.read bytes ≡ r → IsClean items → broken_by decoding read rules items r ≡ None
      → IsClean (items_with_bytes decoding items bytes r)
  clean_packet items bytes (Err fault) reads clean unbroken = clean
  clean_packet items bytes (Ok piece) reads clean unbroken =
      elim (cases_Bool (eqb piece.header.half rules.half)) [
        | inr other ↦ absurd (not_none (broken_at (present items) rule.Packet) (sym (rw other refl) ∙ unbroken))
        | inl half ↦ elim (cases_Bool (is_of_piece (last_picture items) piece)) [
          | inl own ↦
              let unbroken' : option_map (broken_at (present items))
              (broken_within decoding read rules (last_picture items) piece) ≡ None = sym (rw (half, own) refl)
              ∙ unbroken in
              rw own (clean_part items (record { bytes = bytes; piece = piece }) reads clean
              (within (broken_within decoding read rules (last_picture items) piece) unbroken'))
          | inr next ↦
              let unbroken' : broken_next decoding read rules items piece ≡ None = sym (rw (half, next) refl)
              ∙ unbroken in
              rw next (next_of items (record { bytes = bytes; piece = piece }) reads (eqb-true _ _ half) clean
              unbroken')
        ]
      ]
    where
      within : (o : Option Rule) → option_map (broken_at (present items)) o ≡ None → o ≡ None
      within None e = refl
      within (Some r) e = absurd (not_none (broken_at (present items) r) e)

  both_none : (a b : Option Broken) → first_broken_of a b ≡ None → (a ≡ None) × (b ≡ None)
  both_none None b e = (refl, e)
  both_none (Some x) b e = absurd (not_none x e)

  clean_log : (past : List LogEntry) → first_broken decoding read rules past ≡ None → IsClean (stream_of decoding past)
  clean_log [] unbroken = tt
  clean_log (Fed bytes ∷ past) unbroken =
      clean_log past (both_none (first_broken decoding read rules past) None unbroken).0
  clean_log (Sent bytes ∷ past) unbroken =
      let both = both_none (first_broken decoding read rules past)
      (broken_in decoding read rules (stream_of decoding past) (Sent bytes)) unbroken in
      clean_packet (stream_of decoding past) bytes (decoding.read bytes) refl (clean_log past both.0) both.1

  readable_packet : (items : List (Item Style Mb)) (bytes : List ℕ) (r : Result (Piece Style Mb) Fault)
      → decoding.read bytes ≡ r → broken_by decoding read rules items r ≡ None → IsReadable decoding rules bytes
  readable_packet items bytes (Err fault) reads unbroken =
      absurd (not_none (broken_at (present items) rule.Packet) unbroken)
  readable_packet items bytes (Ok piece) reads unbroken =
      elim (cases_Bool (eqb piece.header.half rules.half)) [
        | inr other ↦ absurd (not_none (broken_at (present items) rule.Packet) (sym (rw other refl) ∙ unbroken))
        | inl half ↦ (piece, reads, eqb-true _ _ half)
      ]

  readable_log : (past : List LogEntry) → first_broken decoding read rules past ≡ None → AllReadable decoding rules past
  readable_log [] unbroken = tt
  readable_log (Fed bytes ∷ past) unbroken =
      readable_log past (both_none (first_broken decoding read rules past) None unbroken).0
  readable_log (Sent bytes ∷ past) unbroken =
      let both = both_none (first_broken decoding read rules past)
      (broken_in decoding read rules (stream_of decoding past) (Sent bytes)) unbroken in
      (readable_packet (stream_of decoding past) bytes (decoding.read bytes) refl both.1, readable_log past both.0)

  pub yes_is_sound : (past : List LogEntry) (count : ℕ) → verdict_of decoding read rules past ≡ Yes count
      → AllReadable decoding rules past × (pictures_in (stream_of decoding past) ≡ count)
      × IsSound decoding read rules (stream_of decoding past)
  yes_is_sound past count is = go (first_broken decoding read rules past) refl is
    where
      closed : (b : Bool) → (if b then Yes (pictures_in (stream_of decoding past)) else No
          (present (stream_of decoding past)) rule.Gap) ≡ Yes count
          → (b ≡ true) × (pictures_in (stream_of decoding past) ≡ count)
      closed true e = (refl, cc)
      closed false e = cc

      go : (o : Option Broken) → first_broken decoding read rules past ≡ o
          → verdict_by decoding read rules o (stream_of decoding past) ≡ Yes count → AllReadable decoding rules past
          × (pictures_in (stream_of decoding past) ≡ count) × IsSound decoding read rules (stream_of decoding past)
      go (Some b) unbroken e = cc
      go None unbroken e =
          let r = closed (last_is_whole rules (stream_of decoding past)) e in
          (readable_log past unbroken, r.1, whole_is_sound (stream_of decoding past) (clean_log past unbroken) r.0)
