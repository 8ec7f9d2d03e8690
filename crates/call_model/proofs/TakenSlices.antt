-- What is so of the slices that a receiver took, whatever came.
use Rattle.std.proofs.Common.{Ok, Err, Result, ◌≡◌, ◌⊎◌, ℕ, zero, suc, ◌+◌, ◌<◌, ◌≤◌, Bool, true, false, ◌&&◌, ◌||◌, refl, sym, ap, ◌∙◌, subst, inl, inr, Option, Some, None, List, [], ◌∷◌, length, eqb, leb}
use Rattle.std.specs.Prelude.{if◌then◌else◌, not, slice_get, option_and_then}
use Rattle.std.specs.Option.{option_map, option_map_or}
use Rattle.std.specs.List.{list_all}
use Rattle.std.proofs.lemmas.Bool.{cases_eq, cases_Bool, and_parts, and_right, or_cases, both_ways, false≢true, false_from_ne_true, eq-eqb}
use Rattle.call_model.specs.Coding.{Rules, window, has_mb, Header, Piece, Decoding, mb_at, same_header}
use Rattle.call_model.specs.Sending.{nearest, nearest_below}
use Rattle.call_model.specs.Receiving.{ReceiverRun, TakenSlice, OtherClock, Late, has_taken, is_complete, header_fits, has_reference, header_reference, decoded, decoded_sample, heard, taken_after, ReceiverEntry, Packet, PlayNext, receiver_run}
use Rattle.call_model.specs.ReceiverStanding.{is_taking, OneHeader, IsDecodedBy, DecodedInTheEnd}
use Rattle.call_model.specs.Lawful.{IsDecoding, IsRules}
use Rattle.call_model.proofs.NumberLemmas.{nearest_below_less}
use Rattle.call_model.proofs.OwnPackets.{has_taken_first, has_taken_other, img_other, complete_more, all_taken_of}
use Rattle.call_model.proofs.ReceiverStanding.{IsTakenAs, not_taken, taken_as, same_header_is}

module _ {Style Mb Picture Fault : Type 0} (decoding : Decoding Style Mb Picture Fault) (rules : Rules)
    (lawful : IsDecoding decoding rules) (ruled : IsRules rules) where
  never_taken : (b : Bool) → is_taking {Fault = Fault} (if b then Late else OtherClock) ≡ false
  never_taken true = refl
  never_taken false = refl

  late_not_taken : (run : ReceiverRun Style Mb Picture) (piece : Piece Style Mb)
      → nearest rules run.played piece.header.number ≡ None → is_taking (heard decoding rules run (Ok piece)) ≡ false
  unfolding heard
  late_not_taken run piece near = rw near (never_taken (eqb piece.header.half rules.half))

  fault_not_taken : (run : ReceiverRun Style Mb Picture) (fault : Fault)
      → is_taking (heard decoding rules run (Err fault)) ≡ false
  unfolding heard
  fault_not_taken run fault = refl

  -- a packet is taken as one of a picture, or takes nothing
  abbrev TakesOneOrNone : ReceiverRun Style Mb Picture → Result (Piece Style Mb) Fault → Type 0
  TakesOneOrNone run reading = (taken_after decoding rules run reading ≡ run.taken)
      ⊎ ((n : ℕ) × (piece : Piece Style Mb) × (reading ≡ Ok piece) × IsTakenAs decoding rules lawful ruled run n piece)

  packet_cases : (run : ReceiverRun Style Mb Picture) (reading : Result (Piece Style Mb) Fault)
      → TakesOneOrNone run reading
  packet_cases run (Err fault) = inl (not_taken decoding rules lawful ruled run (Err fault) (fault_not_taken run fault))
  packet_cases run (Ok piece) = by_number (nearest rules run.played piece.header.number) refl
    where
      late : nearest rules run.played piece.header.number ≡ None → is_taking (heard decoding rules run (Ok piece))
          ≡ false
      late near = late_not_taken run piece near

      by_number : (o : Option ℕ) → nearest rules run.played piece.header.number ≡ o → TakesOneOrNone run (Ok piece)
      by_number None near = inl (not_taken decoding rules lawful ruled run (Ok piece) (late near))
      by_number (Some n) near =
          elim (cases_Bool (is_taking (heard decoding rules run (Ok piece)))) [
            | inl takes ↦ inr (n, piece, refl, taken_as decoding rules lawful ruled run n piece near takes)
            | inr other ↦ inl (not_taken decoding rules lawful ruled run (Ok piece) other)
          ]

  -- what is so of the slices that were taken
  record IsTidy (ts : List (TakenSlice Style Mb)) : Type 0 where
    pub headers : (i j : ℕ) (t u : TakenSlice Style Mb) → slice_get ts i ≡ Some t → slice_get ts j ≡ Some u
        → t.number ≡ u.number → t.piece.header ≡ u.piece.header
    pub references : (i m : ℕ) (t : TakenSlice Style Mb) → slice_get ts i ≡ Some t
        → header_reference decoding rules t.number t.piece.header ≡ Some m → is_complete rules.mbs ts m ≡ true
    pub samples : (n s : ℕ) → decoding.pictures.owner s < rules.mbs → has_taken ts n (decoding.pictures.owner s) ≡ true
        → IsDecodedBy decoding rules ts n s

  fits_at : (ts : List (TakenSlice Style Mb)) (i n : ℕ) (t : TakenSlice Style Mb) (h : Header Style)
      → header_fits decoding rules ts n h ≡ true → slice_get ts i ≡ Some t → t.number ≡ n → t.piece.header ≡ h
  unfolding header_fits
  fits_at [] i n t h fits at is = cc
  fits_at (x ∷ ts) zero n t h fits at is =
      let same : x ≡ t = cc in
      let parts = and_parts (not (eqb x.number n) || same_header decoding x.piece.header h)
      (list_all (λ y. not (eqb y.number n) || same_header decoding y.piece.header h) ts) fits in
      let mine : eqb x.number n ≡ true = eq-eqb x.number n (ap (λ (y : TakenSlice Style Mb). y.number) same ∙ is) in
      let here : same_header decoding x.piece.header h
      ≡ true = elim (or_cases (not (eqb x.number n)) (same_header decoding x.piece.header h) parts.0) [
        | inl other ↦ absurd (false≢true (sym (ap not mine) ∙ other))
        | inr found ↦ found
      ] in
      ap (λ (y : TakenSlice Style Mb). y.piece.header) (sym same)
      ∙ same_header_is decoding rules lawful ruled x.piece.header h here
  fits_at (x ∷ ts) (suc i) n t h fits at is =
      fits_at ts i n t h (and_parts (not (eqb x.number n) || same_header decoding x.piece.header h)
      (list_all (λ y. not (eqb y.number n) || same_header decoding y.piece.header h) ts) fits).1 at is

  -- the reference that is there is complete, and lies below
  reference_complete : (ts : List (TakenSlice Style Mb)) (n m : ℕ) (h : Header Style)
      → has_reference decoding rules ts n h ≡ true → header_reference decoding rules n h ≡ Some m
      → (is_complete rules.mbs ts m ≡ true) × (m < n)
  unfolding has_reference
  reference_complete ts n m h there named = by_header h.reference there named
    where
      by_number : (rest : ℕ) (o : Option ℕ) → nearest_below rules n rest ≡ o
          → option_map_or (λ m. is_complete rules.mbs ts m && leb n (m + window rules)) o false ≡ true → o ≡ Some m
          → (is_complete rules.mbs ts m ≡ true) × (m < n)
      by_number rest None near is named = cc
      by_number rest (Some k) near is named =
          let same : k ≡ m = cc in
          let parts = and_parts (is_complete rules.mbs ts k) (leb n (k + window rules)) is in
          subst (λ (i : ℕ). (is_complete rules.mbs ts i ≡ true) × (i < n)) same (
            parts.0,
            nearest_below_less rules ruled n rest k near,
          )

      by_header : (o : Option ℕ)
          → option_map_or (λ rest. option_map_or (λ m. is_complete rules.mbs ts m && leb n (m + window rules))
          (nearest_below rules n rest) false) o true ≡ true → option_and_then (nearest_below rules n) o ≡ Some m
          → (is_complete rules.mbs ts m ≡ true) × (m < n)
      by_header None is named = cc
      by_header (Some rest) is named = by_number rest (nearest_below rules n rest) refl is named

  -- one slice more
  tidy_more : (run : ReceiverRun Style Mb Picture) (n : ℕ) (piece : Piece Style Mb)
      → piece.slice.first + length piece.slice.mbs ≤ rules.mbs → IsTakenAs decoding rules lawful ruled run n piece
      → IsTidy run.taken → IsTidy (record { number = n; piece = piece } ∷ run.taken)
  tidy_more run n piece inside taken tidy = record { headers = headers; references = references; samples = samples }
    where
      one : TakenSlice Style Mb
      one = record { number = n; piece = piece }

      not_before : is_complete rules.mbs run.taken n ≡ false
      not_before = false_from_ne_true _
          (λ whole. both_ways _ taken.not_all (all_taken_of decoding rules lawful ruled run.taken n piece.slice inside
          whole))

      headers : (i j : ℕ) (t u : TakenSlice Style Mb) → slice_get (one ∷ run.taken) i ≡ Some t
          → slice_get (one ∷ run.taken) j ≡ Some u → t.number ≡ u.number → t.piece.header ≡ u.piece.header
      headers zero zero t u at_i at_j same = let e : t ≡ u = cc in ap (λ (x : TakenSlice Style Mb). x.piece.header) e
      headers zero (suc j) t u at_i at_j same =
          let e : one ≡ t = cc in
          let number : u.number ≡ n = sym same ∙ sym (ap (λ (x : TakenSlice Style Mb). x.number) e) in
          sym (ap (λ (x : TakenSlice Style Mb). x.piece.header) e)
          ∙ sym (fits_at run.taken j n u piece.header taken.fits at_j number)
      headers (suc i) zero t u at_i at_j same =
          let e : one ≡ u = cc in
          let number : t.number ≡ n = same ∙ sym (ap (λ (x : TakenSlice Style Mb). x.number) e) in
          fits_at run.taken i n t piece.header taken.fits at_i number
          ∙ ap (λ (x : TakenSlice Style Mb). x.piece.header) e
      headers (suc i) (suc j) t u at_i at_j same = tidy.headers i j t u at_i at_j same

      references : (i m : ℕ) (t : TakenSlice Style Mb) → slice_get (one ∷ run.taken) i ≡ Some t
          → header_reference decoding rules t.number t.piece.header ≡ Some m → is_complete rules.mbs (one ∷ run.taken) m
          ≡ true
      references zero m t at named =
          let e : one ≡ t = cc in
          let mine : header_reference decoding rules n piece.header
          ≡ Some m = ap (λ (x : TakenSlice Style Mb). header_reference decoding rules x.number x.piece.header) e
          ∙ named in
          complete_more decoding rules lawful ruled one run.taken m
          (reference_complete run.taken n m piece.header taken.there mine).0
      references (suc i) m t at named = complete_more decoding rules lawful ruled one run.taken m
          (tidy.references i m t at named)

      -- a reference that is complete is decoded as before
      same_reference : (o : Option ℕ) → ((m : ℕ) → o ≡ Some m → is_complete rules.mbs run.taken m ≡ true)
          → option_map (λ m. decoded decoding rules run.taken m) o
          ≡ option_map (λ m. decoded decoding rules (one ∷ run.taken) m) o
      same_reference None each = refl
      same_reference (Some m) each =
          let differ : one.number ≡ m
          → ⊥ = λ (e : one.number ≡ m). both_ways _ not_before (subst (λ (i : ℕ). is_complete rules.mbs run.taken i
          ≡ true) (sym e) (each m refl)) in
          ap Some (lawful.pictures.picture_same _ _
          (λ s lt. sym (img_other decoding rules lawful ruled one run.taken m s differ)))

      older : (m s : ℕ) → decoded_sample decoding rules (one ∷ run.taken) m s
          ≡ decoded_sample decoding rules run.taken m s → IsDecodedBy decoding rules run.taken m s
          → IsDecodedBy decoding rules (one ∷ run.taken) m s
      older m s same by = record {
        place = suc by.place;
        slice = by.slice;
        is_taken = by.is_taken;
        number = by.number;
        has = by.has;
        value = same ∙ by.value ∙ ap (λ (o : Option Picture). decoding.pictures.reconstructed_sample
            by.slice.piece.header.style o (mb_at decoding.pictures.skip by.slice.piece.slice
            (decoding.pictures.owner s)) s) (same_reference (header_reference decoding rules m by.slice.piece.header)
            (λ k named. tidy.references by.place k by.slice by.is_taken
            (ap (λ (i : ℕ). header_reference decoding rules i by.slice.piece.header) by.number ∙ named)));
      }

      newest : (s : ℕ) → has_mb piece.slice (decoding.pictures.owner s) ≡ true
          → IsDecodedBy decoding rules (one ∷ run.taken) n s
      newest s has = record {
        place = 0;
        slice = one;
        is_taken = refl;
        number = refl;
        has = has;
        value = here ∙ ap (λ (o : Option Picture). decoding.pictures.reconstructed_sample piece.header.style o
            (mb_at decoding.pictures.skip piece.slice (decoding.pictures.owner s)) s)
            (same_reference (header_reference decoding rules n piece.header)
            (λ m named. (reference_complete run.taken n m piece.header taken.there named).0));
      }
        where
          here : decoded_sample decoding rules (record { number = n; piece = piece } ∷ run.taken) n s
              ≡ decoding.pictures.reconstructed_sample piece.header.style
              (option_map (λ m. decoded decoding rules run.taken m) (header_reference decoding rules n piece.header))
              (mb_at decoding.pictures.skip piece.slice (decoding.pictures.owner s)) s
          here = rw (eq-eqb n n refl, has) refl

      samples : (m s : ℕ) → decoding.pictures.owner s < rules.mbs
          → has_taken (one ∷ run.taken) m (decoding.pictures.owner s) ≡ true
          → IsDecodedBy decoding rules (one ∷ run.taken) m s
      samples m s lt got =
          elim (cases_eq n m) [
            | inl same ↦ subst (λ (i : ℕ). IsDecodedBy decoding rules (one ∷ run.taken) i s) same
                (own s lt (subst (λ (i : ℕ). has_taken (one ∷ run.taken) i (decoding.pictures.owner s)
                ≡ true) (sym same) got) (has_mb piece.slice (decoding.pictures.owner s)) refl)
            | inr differ ↦ older m s (img_other decoding rules lawful ruled one run.taken m s differ)
                (tidy.samples m s lt (sym (has_taken_other decoding rules lawful ruled one run.taken m
                (decoding.pictures.owner s) differ) ∙ got))
          ]
        where
          own : (s : ℕ) → decoding.pictures.owner s < rules.mbs
              → has_taken (record { number = n; piece = piece } ∷ run.taken) n (decoding.pictures.owner s) ≡ true
              → (b : Bool) → has_mb piece.slice (decoding.pictures.owner s) ≡ b
              → IsDecodedBy decoding rules (record { number = n; piece = piece } ∷ run.taken) n s
          own s lt got true has = newest s has
          own s lt got false has =
              let before : has_taken run.taken n (decoding.pictures.owner s)
              ≡ true = sym (has_taken_first decoding rules lawful ruled one run.taken n (decoding.pictures.owner s)
              refl ∙ ap (λ (b : Bool). b || has_taken run.taken n (decoding.pictures.owner s)) has) ∙ got in
              older n s (rw (has, and_right (eqb n n) false refl) refl) (tidy.samples n s lt before)

  tidy_start : IsTidy []
  unfolding has_taken
  tidy_start = record {
    headers = λ i j t u at_i at_j same. cc;
    references = λ i m t at named. cc;
    samples = λ n s lt got. absurd (false≢true got);
  }

  tidy : (entries : List ReceiverEntry) → IsTidy (receiver_run decoding rules entries).taken
  tidy [] = tidy_start
  tidy (PlayNext ∷ past) = tidy past
  tidy (Packet bytes ∷ past) =
      let run = receiver_run decoding rules past in
      let before = tidy past in
      elim (packet_cases run (decoding.read bytes)) [
        | inl same ↦ subst (λ (ts : List (TakenSlice Style Mb)). IsTidy ts) (sym same) before
        | inr new ↦ subst (λ (ts : List (TakenSlice Style Mb)). IsTidy ts)
            (sym (ap (taken_after decoding rules run) new.2 ∙ new.3.after))
            (tidy_more run new.0 new.1 (lawful.read_inside bytes new.1 new.2).1 new.3 before)
      ]

  pub one_header : OneHeader decoding rules
  one_header entries i j t u at_i at_j same = (tidy entries).headers i j t u at_i at_j same

  pub decoded_in_the_end : DecodedInTheEnd decoding rules
  decoded_in_the_end entries n s lt got = (tidy entries).samples n s lt got
