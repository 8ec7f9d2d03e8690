-- A sound stream of packets of the picture clock breaks no rule.
use Rattle.std.proofs.Common.{Ok, ◌∙◌, ap, None, ◌≡◌, ℕ, ◌+◌, ◌%◌, ◌<◌, ◌≤◌, Bool, true, false, refl, sym, subst, arith, inl, inr, Some, Option, List, [], ◌∷◌, ◌++◌, length, eqb}
use Rattle.std.specs.Prelude.{if◌then◌else◌, Result, slice_get, not}
use Rattle.std.specs.Option.{option_map, option_map_or}
use Rattle.std.proofs.lemmas.Bool.{cases_Bool, and_from, eqb-true, eq-eqb, le-leb, lt-ltb, false_from_ne_true}
use Rattle.std.proofs.lemmas.Option.{slice_get_cases, slice_get-map, slice_get_within}
use Rattle.call_model.specs.Numbers.{AllBelowIs}
use Rattle.call_model.specs.Coding.{Rules, window, period, Slice, has_mb, Header, Piece, Message, Decoding, same_header}
use Rattle.call_model.specs.CodedPictures.{is_among}
use Rattle.call_model.specs.Receiving.{none_in}
use Rattle.call_model.specs.Sending.{nearest_below}
use Rattle.call_model.specs.Lawful.{Covers, IsDecoding}
use Rattle.stream_audit.specs.declared.verdict.Broken.{Broken}
use Rattle.stream_audit.specs.declared.verdict.Verdict.TheVariants.{Yes, No}
use Rattle.stream_audit.specs.declared.verdict.Rule.TheVariants as rule
use Rattle.stream_audit.specs.Stream.{LogEntry, Sent, Fed, StreamPart, StreamPicture, Item, Picture, Feedback, pictures_in, last_picture, items_with_part, with_more, begun_by, items_with_packet, items_with_bytes, part_slices, is_of_piece, known_of, stream_of}
use Rattle.stream_audit.specs.Verdict.{broken_at, has, last_is_whole, may_refer, present, item_has_reference, broken_within, broken_next, broken_by, first_broken_of, first_broken, verdict_by, verdict_of}
use Rattle.stream_audit.specs.Sound.{IsSoundAfter, IsSound, AllReadable}
use Rattle.stream_audit.proofs.Headers.{header_self}
use Rattle.stream_audit.proofs.Lists.{any_at, length_map, slice_get_left, slice_get_last}
use Rattle.stream_audit.proofs.Verdicts.{IsGoing, IsClean, first_part, has_from, place_in}

-- a macroblock of the slice
in_slice : {Mb : Type 0} (slice : Slice Mb) (i : ℕ) → i < length slice.mbs → has_mb slice (slice.first + i) ≡ true
unfolding has_mb
in_slice slice i lt = and_from _ _ (le-leb slice.first (slice.first + i) (omega arith))
    (lt-ltb (slice.first + i) (slice.first + length slice.mbs) (omega (arith, lt)))

module _ {Style Mb P Fault MessageFault : Type 0} (decoding : Decoding Style Mb P Fault) (read : List ℕ
    → Result Message MessageFault) (rules : Rules) (lawful : IsDecoding decoding rules) (below : AllBelowIs) where
  abbrev Going : List (Item Style Mb) → StreamPicture Style Mb → Type 0
  Going items p = IsGoing decoding read rules lawful below items p

  abbrev Clean : List (Item Style Mb) → Type 0
  Clean items = IsClean decoding read rules lawful below items

  -- ---- a sound picture

  slice_at : (p : StreamPicture Style Mb) (j : ℕ) (part : StreamPart Style Mb) → slice_get p.parts j ≡ Some part
      → slice_get (part_slices p) j ≡ Some part.piece.slice
  slice_at p j part at =
      slice_get-map (λ (x : StreamPart Style Mb). x.piece.slice) p.parts j
      ∙ ap (option_map (λ (x : StreamPart Style Mb). x.piece.slice)) at

  -- the place of the only packet that has a macroblock
  one_place : (p : StreamPicture Style Mb) (covers : Covers rules.mbs (part_slices p)) (j k : ℕ)
      (part : StreamPart Style Mb)
      → slice_get p.parts j ≡ Some part → has_mb part.piece.slice k ≡ true → j ≡ covers.place_of k
  one_place p covers j k part at held =
      let there = slice_at p j part at in
      let inside = (covers.inside j part.piece.slice there).1 in
      let within = has_from part.piece.slice k held in
      let lt : k < rules.mbs = omega (arith, inside, within.1) in
      eqb-true j (covers.place_of k) (sym (covers.has j k part.piece.slice lt there) ∙ held)

  going_of : (items : List (Item Style Mb)) (p : StreamPicture Style Mb) → IsSoundAfter decoding read rules items p
      → Going items p
  going_of items p sound = record {
    number = sound.number;
    half = sound.half;
    packets = sound.packets;
    reference = sound.reference;
    apart = λ i j k a b at_i at_j in_a in_b.
        one_place p sound.covers i k a at_i in_a ∙ sym (one_place p sound.covers j k b at_j in_b);
  }

  clean_of : (items : List (Item Style Mb)) → IsSound decoding read rules items → Clean items
  clean_of [] sound = tt
  clean_of (Feedback bytes ∷ items) sound = clean_of items sound
  clean_of (Picture p ∷ items) sound = (going_of items p sound.0, sound.1)

  has_covered : (p : StreamPicture Style Mb) → Covers rules.mbs (part_slices p) → (k : ℕ) → k < rules.mbs
      → has p k ≡ true
  has_covered p covers k lt =
      let far : covers.place_of k < length (part_slices p) = covers.below k lt in
      elim (slice_get_cases p.parts (covers.place_of k)).1 [
        | inl h ↦
            let there = slice_at p (covers.place_of k) h.0 h.2 in
            any_at (λ (x : StreamPart Style Mb). has_mb x.piece.slice k) p.parts (covers.place_of k) h.0 h.2
            (covers.has (covers.place_of k) k h.0.piece.slice lt there
            ∙ eq-eqb (covers.place_of k) (covers.place_of k) refl)
        | inr h ↦
            let same : length (part_slices p) ≡ length p.parts = length_map (λ (x : StreamPart Style Mb). x.piece.slice)
            p.parts
            in
            absurd (omega (arith, far, h.0, same))
      ]

  whole_of : (items : List (Item Style Mb)) → IsSound decoding read rules items → last_is_whole rules items ≡ true
  whole_of [] sound = refl
  whole_of (Feedback bytes ∷ items) sound = whole_of items sound
  whole_of (Picture p ∷ items) sound = (below rules.mbs (has p)).1 (has_covered p sound.0.covers)

  -- ---- a packet of the last picture

  part_before : (items : List (Item Style Mb)) (p : StreamPicture Style Mb) (part : StreamPart Style Mb)
      → Going items (with_more p part) → Going items p
  part_before items p part going = record {
    number = going.number;
    half = going.half;
    packets = λ j x at. going.packets j x (slice_get_left p.parts (part ∷ []) j x at);
    reference = going.reference;
    apart = λ i j k a b at_i at_j in_a in_b.
        going.apart i j k a b (slice_get_left p.parts (part ∷ []) i a at_i)
        (slice_get_left p.parts (part ∷ []) j b at_j) in_a in_b;
  }

  fresh_before : (items : List (Item Style Mb)) (p : StreamPicture Style Mb) (part : StreamPart Style Mb)
      → Going items (with_more p part) → (k : ℕ) → has_mb part.piece.slice k ≡ true → has p k ≡ false
  fresh_before items p part going k held = false_from_ne_true _ (λ (old : has p k ≡ true).
      let first = first_part p.parts k old in
      let at : slice_get (p.parts ++ part ∷ []) (place_in p.parts k) ≡ Some first.0 = slice_get_left p.parts (part ∷ [])
      (place_in p.parts k) first.0 first.1 in
      let same : place_in p.parts k ≡ length p.parts = going.apart (place_in p.parts k) (length p.parts) k first.0 part
      at (slice_get_last p.parts part) first.2 held in
      let near = slice_get_within p.parts (place_in p.parts k) first.0 first.1 in
      absurd (omega (arith, same, near)))

  own_before : (items : List (Item Style Mb)) (p : StreamPicture Style Mb) (part : StreamPart Style Mb)
      → Going items (with_more p part) → broken_within decoding read rules (Some p) part.piece ≡ None
  own_before items p part going =
      let header = (going.packets (length p.parts) part (slice_get_last p.parts part)).1 in
      let same : same_header decoding p.header part.piece.header
      ≡ true = subst (λ (h : Header Style). same_header decoding p.header h ≡ true) (sym header)
      (header_self decoding rules lawful p.header) in
      let none : none_in part.piece.slice (has p)
      ≡ true = (below (length part.piece.slice.mbs) (λ i. not (has p (part.piece.slice.first + i)))).1
      (λ i lt. ap not (fresh_before items p part going (part.piece.slice.first + i) (in_slice part.piece.slice i lt)))
      in
      rw (same, none) refl

  part_last : (items : List (Item Style Mb)) (part : StreamPart Style Mb) → Clean (items_with_part items part)
      → Clean items × (broken_within decoding read rules (last_picture items) part.piece ≡ None)
  part_last [] part clean = (tt, refl)
  part_last (Feedback bytes ∷ items) part clean = part_last items part clean
  part_last (Picture p ∷ items) part clean =
      ((part_before items p part clean.0, clean.1), own_before items p part clean.0)

  -- ---- the first packet of the next picture

  refers : (items : List (Item Style Mb)) (o : Option ℕ)
      → ((rest : ℕ) → o ≡ Some rest → (m : ℕ) × (nearest_below rules (pictures_in items) rest ≡ Some m)
      × (pictures_in items ≤ m + window rules) × (is_among (known_of read rules items) m ≡ true))
      → option_map_or (λ rest. option_map_or (may_refer rules (known_of read rules items) (pictures_in items))
      (nearest_below rules (pictures_in items) rest) false) o true ≡ true
  refers items None there = refl
  refers items (Some rest) there =
      let r = there rest refl in
      ap (λ (o : Option ℕ). option_map_or (may_refer rules (known_of read rules items) (pictures_in items)) o false) r.1
      ∙ and_from _ _ r.3 (le-leb (pictures_in items) (r.0 + window rules) r.2)

  next_before : (items : List (Item Style Mb)) (part : StreamPart Style Mb) → Clean (Picture (begun_by part) ∷ items)
      → Clean items × (broken_next decoding read rules items part.piece ≡ None)
  next_before items part clean =
      let whole = whole_of items clean.1 in
      let right : eqb part.piece.header.number (pictures_in items % period rules)
      ≡ true = eq-eqb part.piece.header.number (pictures_in items % period rules) clean.0.number in
      let there : item_has_reference decoding read rules items part.piece.header
      ≡ true = refers items part.piece.header.reference clean.0.reference in
      (clean_of items clean.1, rw (whole, right, there) refl)

  -- ---- a log

  packet_before : (items : List (Item Style Mb)) (part : StreamPart Style Mb) → part.piece.header.half ≡ rules.half
      → Clean (items_with_packet items part) → Clean items × (broken_by decoding read rules items (Ok part.piece)
      ≡ None)
  packet_before items part half clean =
      let clock : eqb part.piece.header.half rules.half ≡ true = eq-eqb part.piece.header.half rules.half half in
      elim (cases_Bool (is_of_piece (last_picture items) part.piece)) [
        | inl own ↦
            let r = part_last items part
            (subst (λ (b : Bool). Clean (if b then items_with_part items part else Picture (begun_by part) ∷ items)) own
            clean) in
            (r.0, rw (clock, own) (ap (option_map (broken_at (present items))) r.1))
        | inr next ↦
            let r = next_before items part
            (subst (λ (b : Bool). Clean (if b then items_with_part items part else Picture (begun_by part) ∷ items))
            next
            clean) in
            (r.0, rw (clock, next) r.1)
      ]

  unbroken : (past : List LogEntry) → AllReadable decoding rules past → Clean (stream_of decoding past)
      → first_broken decoding read rules past ≡ None
  unbroken [] readable clean = refl
  unbroken (Fed bytes ∷ past) readable clean = ap (λ (o : Option Broken). first_broken_of o None)
      (unbroken past readable clean)
  unbroken (Sent bytes ∷ past) readable clean =
      let piece = readable.0.0 in
      let reads : decoding.read bytes ≡ Ok piece = readable.0.1 in
      let part : StreamPart Style Mb = record { bytes = bytes; piece = piece } in
      let r = packet_before (stream_of decoding past) part readable.0.2
      (subst (λ (x : Result (Piece Style Mb) Fault). Clean
      (items_with_bytes decoding (stream_of decoding past) bytes x))
      reads clean) in
      ap (λ (o : Option Broken). first_broken_of o (broken_by decoding read rules (stream_of decoding past)
      (decoding.read bytes))) (unbroken past readable.1 r.0)
      ∙ ap (broken_by decoding read rules (stream_of decoding past)) reads
      ∙ r.1

  pub sound_is_yes : (past : List LogEntry) → AllReadable decoding rules past
      → IsSound decoding read rules (stream_of decoding past) → verdict_of decoding read rules past
      ≡ Yes (pictures_in (stream_of decoding past))
  sound_is_yes past readable sound =
      ap (λ (o : Option Broken). verdict_by decoding read rules o (stream_of decoding past))
      (unbroken past readable (clean_of (stream_of decoding past) sound))
      ∙ ap (λ (b : Bool). if b then Yes (pictures_in (stream_of decoding past)) else No
      (present (stream_of decoding past)) rule.Gap) (whole_of (stream_of decoding past) sound)
