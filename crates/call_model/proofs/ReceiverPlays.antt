-- A receiver that plays by what it keeps plays as its run does, and stands for the longer list.
use Rattle.std.proofs.Common.{Ok, Err, Result, ◌≡◌, ◌⊎◌, ℕ, ◌+◌, ◌%◌, ◌<◌, ◌≤◌, Bool, true, false, ◌&&◌, ◌||◌, refl, sym, ap, ◌∙◌, subst, arith, inl, inr, Option, Some, None, List, [], ◌∷◌, length, eqb, ltb}
use Rattle.std.specs.Prelude.{if◌then◌else◌, not, is_some}
use Rattle.std.specs.Option.{option_map_or}
use Rattle.std.specs.List.{list_any, list_all}
use Rattle.std.proofs.lemmas.Bool.{cases_eq, cases_lt, cases_Bool, and_left, or_cases, both_ways, false≢true, false_from_ne_true, lt-ltb, le-ltb, eqb-true, ne_eqb}
use Rattle.std.proofs.Math.Nat.{mod-lt}
use Rattle.call_model.specs.Numbers.{greatest, flags_of}
use Rattle.call_model.specs.Coding.{Rules, Header, Piece, Decoding, mixed, same_header}
use Rattle.call_model.specs.Receiving.{ReceiverRun, TakenSlice, has_taken, has_any, is_complete, header_fits, decoded, answer, keep_taken, taken_after, piece_number, complete_flags, offer, played_mark, played_picture, played_message, ReceiverEntry, Packet, PlayNext, receiver_run}
use Rattle.call_model.specs.Store.{store_slot, is_kept}
use Rattle.call_model.specs.Stands.{Receiver, ReceiverStands, IsOpenIn, fits_kept, is_in_slot}
use Rattle.call_model.specs.ReceiverStanding.{mark_by_kept, picture_by_kept, offer_by_kept, message_by_kept, PlayByKept, NewReceiverStands, PlayStands, CompleteStays}
use Rattle.call_model.specs.Lawful.{IsDecoding, IsRules}
use Rattle.call_model.proofs.ListLemmas.{all_below_at, greatest_same, greatest_none, greatest_more, flags_same}
use Rattle.call_model.proofs.Slots.{keep_cases, in_time, none_ahead, references_are_kept, slots_tell_offer, slots_tell_flags}
use Rattle.call_model.proofs.Judging.{slot_test}
use Rattle.call_model.proofs.OwnPackets.{img_other, complete_more, none_of_complete}

module _ {Style Mb Picture Fault : Type 0} (decoding : Decoding Style Mb Picture Fault) (rules : Rules) where
  -- ---- nothing is taken ahead

  abbrev AnyInTime : ℕ → List (TakenSlice Style Mb) → Type 0
  AnyInTime bound taken = (n : ℕ) → has_any taken n ≡ true → n ≤ bound

  any_more : (bound n : ℕ) (piece : Piece Style Mb) (taken : List (TakenSlice Style Mb)) → n ≤ bound
      → AnyInTime bound taken → AnyInTime bound (record { number = n; piece = piece } ∷ taken)
  unfolding has_any
  any_more bound n piece taken within old m got =
      elim (or_cases (eqb n m) _ got) [
        | inl here ↦ let e : n ≡ m = eqb-true n m here in omega arith
        | inr there ↦ old m there
      ]

  any_answer : (run : ReceiverRun Style Mb Picture) (n : ℕ) (piece : Piece Style Mb)
      → AnyInTime (run.played + rules.lead) run.taken
      → AnyInTime (run.played + rules.lead) (keep_taken decoding rules (answer decoding rules run n piece)
      (record { number = n; piece = piece } ∷ run.taken) run.taken)
  unfolding answer
  any_answer run n piece old =
      elim (cases_lt n run.played) [
        | inl late ↦ rw (lt-ltb n run.played late) old
        | inr low ↦ elim (cases_lt (run.played + rules.lead) n) [
          | inl early ↦ rw (le-ltb n run.played low, lt-ltb (run.played + rules.lead) n early) old
          | inr high ↦ elim (keep_cases decoding rules (answer decoding rules run n piece) (record {
            number = n;
            piece = piece;
          } ∷ run.taken) run.taken) [
            | inl more ↦ subst (AnyInTime (run.played + rules.lead)) (sym more)
                (any_more (run.played + rules.lead) n piece run.taken high old)
            | inr same ↦ subst (AnyInTime (run.played + rules.lead)) (sym same) old
          ]
        ]
      ]

  any_packet : (run : ReceiverRun Style Mb Picture) (reading : Result (Piece Style Mb) Fault)
      → AnyInTime (run.played + rules.lead) run.taken
      → AnyInTime (run.played + rules.lead) (taken_after decoding rules run reading)
  unfolding taken_after
  any_packet run (Err fault) old = old
  any_packet run (Ok piece) old = go (piece_number rules run.played piece)
    where
      go : (o : Option ℕ) → AnyInTime (run.played + rules.lead)
          (option_map_or (λ n. keep_taken decoding rules (answer decoding rules run n piece) (record {
            number = n;
            piece = piece;
          } ∷ run.taken) run.taken) o run.taken)
      go None = old
      go (Some n) = any_answer run n piece old

  none_any : (n : ℕ) → has_any {Style = Style} {Mb = Mb} [] n ≡ true → ⊥
  unfolding has_any
  none_any n got = false≢true got

  any_in_time : (entries : List ReceiverEntry) (n : ℕ) → has_any (receiver_run decoding rules entries).taken n ≡ true
      → n ≤ (receiver_run decoding rules entries).played + rules.lead
  any_in_time [] n got = absurd (none_any n got)
  any_in_time (Packet bytes ∷ past) n got = any_packet (receiver_run decoding rules past) (decoding.read bytes)
      (any_in_time past) n got
  any_in_time (PlayNext ∷ past) n got = omega (arith, any_in_time past n got)

  -- ---- a header is kept where something was taken

  none_fits : (ts : List (TakenSlice Style Mb)) (n : ℕ) (h : Header Style) → has_any ts n ≡ false
      → header_fits decoding rules ts n h ≡ true
  unfolding has_any header_fits
  none_fits [] n h e = refl
  none_fits (t ∷ ts) n h e = go (eqb t.number n) refl e (none_fits ts n h)
    where
      go : (b : Bool) → eqb t.number n ≡ b → (b || list_any (λ x. eqb x.number n) ts) ≡ false
          → (list_any (λ x. eqb x.number n) ts ≡ false
          → list_all (λ x. not (eqb x.number n) || same_header decoding x.piece.header h) ts ≡ true)
          → ((not (eqb t.number n) || same_header decoding t.piece.header h) && list_all
          (λ x. not (eqb x.number n) || same_header decoding x.piece.header h) ts) ≡ true
      go true e x rest = absurd (false≢true (sym x))
      go false e x rest = rw e (rest x)

  -- a header with another number
  abbrev other_header : Header Style → Header Style
  other_header h = record h { number = h.number + 1 }

  not_same : (h : Header Style) → same_header decoding h (other_header h) ≡ false
  unfolding same_header
  not_same h = and_left _ _ (ne_eqb h.number (h.number + 1) (omega arith))

  misfit : (ts : List (TakenSlice Style Mb)) (n : ℕ) → has_any ts n ≡ true
      → (h : Header Style) × (header_fits decoding rules ts n h ≡ false)
  unfolding has_any header_fits
  misfit [] n e = absurd (false≢true e)
  misfit (t ∷ ts) n e = go (eqb t.number n) refl e (misfit ts n)
    where
      go : (b : Bool) → eqb t.number n ≡ b → (b || list_any (λ x. eqb x.number n) ts) ≡ true
          → (list_any (λ x. eqb x.number n) ts ≡ true
          → (h : Header Style) × (list_all (λ x. not (eqb x.number n) || same_header decoding x.piece.header h) ts
          ≡ false)) → (h : Header Style)
          × (((not (eqb t.number n) || same_header decoding t.piece.header h) && list_all
          (λ x. not (eqb x.number n) || same_header decoding x.piece.header h) ts) ≡ false)
      go true e x rest = (other_header t.piece.header, rw (e, not_same t.piece.header) refl)
      go false e x rest = let r = rest x in (r.0, rw e r.1)

  header_tells : (ts : List (TakenSlice Style Mb)) (n : ℕ) (kept : Option (Header Style))
      → ((h : Header Style) → header_fits decoding rules ts n h ≡ fits_kept decoding kept h)
      → has_any ts n ≡ is_some kept
  header_tells ts n None each =
      false_from_ne_true _ (λ any. let m = misfit ts n any in both_ways _ m.1 (each m.0))
  header_tells ts n (Some g) each =
      elim (cases_Bool (has_any ts n)) [
        | inl any ↦ any
        | inr none ↦ absurd (both_ways _ (each (other_header g) ∙ not_same g) (none_fits ts n (other_header g) none))
      ]

module _ {Style Mb Picture Fault : Type 0} (decoding : Decoding Style Mb Picture Fault) (rules : Rules)
    (lawful : IsDecoding decoding rules) (ruled : IsRules rules) where
  -- ---- a play

  complete_test : (r : Receiver Style Picture) (entries : List ReceiverEntry) → ReceiverStands decoding rules r entries
      → is_in_slot decoding rules r r.played ≡ is_complete rules.mbs (receiver_run decoding rules entries).taken
      (receiver_run decoding rules entries).played
  complete_test r entries stands =
      let played = stands.played in
      slot_test decoding rules ruled r entries r.played stands (omega (arith, played))
      ∙ ap (is_complete rules.mbs (receiver_run decoding rules entries).taken) stands.played

  now_open : (run : ReceiverRun Style Mb Picture) → IsOpenIn decoding rules run run.played
  now_open run = (omega arith, omega arith)

  mark_is : (r : Receiver Style Picture) (entries : List ReceiverEntry) → ReceiverStands decoding rules r entries
      → mark_by_kept decoding rules r ≡ played_mark decoding rules (receiver_run decoding rules entries)
  unfolding mark_by_kept played_mark
  mark_is r entries stands =
      let run = receiver_run decoding rules entries in
      let any : is_some (r.header r.played) ≡ has_any run.taken run.played =
      ap (λ (p : ℕ). is_some (r.header p)) stands.played
      ∙ sym (header_tells decoding rules run.taken run.played (r.header run.played)
      (stands.headers run.played (now_open run))) in
      rw (complete_test r entries stands, any) refl

  patched_is : (r : Receiver Style Picture) (entries : List ReceiverEntry) → ReceiverStands decoding rules r entries
      → let run = receiver_run decoding rules entries in
      mixed decoding.pictures (r.has run.played) (r.work run.played) r.screen
      ≡ mixed decoding.pictures (has_taken run.taken run.played) (decoded decoding rules run.taken run.played)
      run.screen
  patched_is r entries stands =
      ap (mixed decoding.pictures (r.has run.played) (r.work run.played)) stands.screen
      ∙ lawful.pictures.picture_same _ _ (λ s lt. each s lt (has_taken run.taken run.played (decoding.pictures.owner s))
      refl)
    where
      run : ReceiverRun Style Mb Picture
      run = receiver_run decoding rules entries

      each : (s : ℕ) → decoding.pictures.owner s < rules.mbs → (b : Bool)
          → has_taken run.taken run.played (decoding.pictures.owner s) ≡ b
          → (if r.has run.played (decoding.pictures.owner s) then decoding.pictures.sample
          (r.work run.played) s else decoding.pictures.sample run.screen s)
          ≡ (if has_taken run.taken run.played (decoding.pictures.owner s) then decoding.pictures.sample
          (decoded decoding rules run.taken run.played) s else decoding.pictures.sample run.screen s)
      each s lt true e =
          let mine : r.has run.played (decoding.pictures.owner s)
          ≡ true = stands.taken run.played (decoding.pictures.owner s) (now_open run) lt ∙ e in
          rw (e, mine) (stands.work run.played s (now_open run) lt e ∙ sym (lawful.pictures.sample_is _ s lt))
      each s lt false e =
          let mine : r.has run.played (decoding.pictures.owner s)
          ≡ false = stands.taken run.played (decoding.pictures.owner s) (now_open run) lt ∙ e in
          rw (e, mine) refl

  picture_is : (r : Receiver Style Picture) (entries : List ReceiverEntry) → ReceiverStands decoding rules r entries
      → picture_by_kept decoding rules r ≡ played_picture decoding rules (receiver_run decoding rules entries)
  unfolding picture_by_kept played_picture
  picture_is r entries stands = go (is_complete rules.mbs run.taken run.played) refl
    where
      run : ReceiverRun Style Mb Picture
      run = receiver_run decoding rules entries

      test : is_in_slot decoding rules r r.played ≡ is_complete rules.mbs run.taken run.played
      test = complete_test r entries stands

      go : (b : Bool) → is_complete rules.mbs run.taken run.played ≡ b
          → (if is_in_slot decoding rules r r.played then r.picture (r.played % rules.slots) else mixed
          decoding.pictures (r.has r.played) (r.work r.played) r.screen)
          ≡ (if is_complete rules.mbs run.taken run.played then decoded decoding rules run.taken run.played else mixed
          decoding.pictures (has_taken run.taken run.played) (decoded decoding rules run.taken run.played) run.screen)
      go true e =
          let slot = references_are_kept decoding rules ruled entries run.played run.played (omega arith)
          (omega arith) e in
          rw (test, e) (ap (λ (p : ℕ). r.picture (p % rules.slots)) stands.played
          ∙ stands.pictures (run.played % rules.slots) run.played
          (mod-lt run.played (omega (arith, ruled.lead_small))) slot)
      go false e = rw (test, e) (ap (λ (p : ℕ). mixed decoding.pictures (r.has p) (r.work p) r.screen) stands.played
          ∙ patched_is r entries stands)

  slot_same : (r : Receiver Style Picture) (entries : List ReceiverEntry) (m : ℕ)
      → ReceiverStands decoding rules r entries → is_in_slot decoding rules r m
      ≡ is_kept decoding rules (receiver_run decoding rules entries) m
  slot_same r entries m stands =
      ap (λ (o : Option ℕ). option_map_or (λ k. eqb k m) o false)
      (stands.slots (m % rules.slots) (mod-lt m (omega (arith, ruled.lead_small))))

  offer_is : (r : Receiver Style Picture) (entries : List ReceiverEntry) → ReceiverStands decoding rules r entries
      → offer_by_kept decoding rules r ≡ offer rules (receiver_run decoding rules entries).taken
      (receiver_run decoding rules entries).played
  offer_is r entries stands =
      let run = receiver_run decoding rules entries in
      ap (λ (p : ℕ). greatest (λ m. is_in_slot decoding rules r m && ltb p (m + rules.slots)) (p + rules.lead + 1))
      stands.played
      ∙ greatest_same _ _ (run.played + rules.lead + 1)
      (λ m lt. ap (λ (b : Bool). b && ltb run.played (m + rules.slots)) (slot_same r entries m stands))
      ∙ slots_tell_offer decoding rules ruled entries

  flags_are : (r : Receiver Style Picture) (entries : List ReceiverEntry) → ReceiverStands decoding rules r entries
      → flags_of rules.flags (is_in_slot decoding rules r) r.played
      ≡ complete_flags rules (receiver_run decoding rules entries).taken (receiver_run decoding rules entries).played
  flags_are r entries stands =
      let run = receiver_run decoding rules entries in
      ap (flags_of rules.flags (is_in_slot decoding rules r)) stands.played
      ∙ flags_same rules.flags _ _ run.played (λ m above. slot_same r entries m stands)
      ∙ slots_tell_flags decoding rules ruled entries run.played (omega arith)

  message_is : (r : Receiver Style Picture) (entries : List ReceiverEntry) → ReceiverStands decoding rules r entries
      → message_by_kept decoding rules r ≡ played_message decoding rules (receiver_run decoding rules entries)
  unfolding message_by_kept played_message
  message_is r entries stands =
      rw (complete_test r entries stands, offer_is r entries stands, flags_are r entries stands, stands.played) refl

  pub play_by_kept : PlayByKept decoding rules
  play_by_kept r entries stands = (mark_is r entries stands, picture_is r entries stands, message_is r entries stands)

  -- the slots after a play are those before it
  slot_play : (entries : List ReceiverEntry) (screen : Picture) (rest : ℕ)
      → store_slot decoding rules (record (receiver_run decoding rules entries) {
        played =
            (receiver_run decoding rules entries).played + 1;
        screen = screen;
      }) rest
      ≡ store_slot decoding rules (receiver_run decoding rules entries) rest
  unfolding store_slot
  slot_play entries screen rest =
      let run = receiver_run decoding rules entries in
      let e : run.played + 1 + rules.lead + 1 ≡ 1 + (run.played + rules.lead + 1) = omega arith in
      ap (greatest (λ m. is_complete rules.mbs run.taken m && eqb (m % rules.slots) rest)) e
      ∙ greatest_more (λ m. is_complete rules.mbs run.taken m && eqb (m % rules.slots) rest)
      (run.played + rules.lead + 1) 1
      (λ k le. and_left _ _ (false_from_ne_true _
      (λ whole. omega (arith, none_ahead decoding rules ruled entries k whole))))

  pub play_stands : PlayStands decoding rules
  play_stands r t entries stands after = record {
    played = after.played ∙ ap (λ (p : ℕ). p + 1) stands.played;
    screen = after.screen ∙ picture_is r entries stands;
    headers = λ n opened h. elim (old_or_new n opened.1) [
      | inl old ↦ let row : (run.played ≤ n) × (n ≤ run.played + rules.lead) = (omega (arith, opened.0), old) in
          stands.headers n row h ∙ sym (ap (λ (o : Option (Header Style)). fits_kept decoding o h)
          (after.rows n (mine n row)).0)
      | inr new ↦
          let none : has_any run.taken n
          ≡ false = false_from_ne_true _ (λ any. omega (arith, any_in_time decoding rules entries n any, new)) in
          none_fits decoding rules run.taken n h none
          ∙ sym (ap (λ (o : Option (Header Style)). fits_kept decoding o h) (ap t.header (new
          ∙ ap (λ (p : ℕ). p + rules.lead + 1) (sym stands.played)) ∙ after.new_header))
    ];
    taken = λ n k opened lt. elim (old_or_new n opened.1) [
      | inl old ↦ let row : (run.played ≤ n) × (n ≤ run.played + rules.lead) = (omega (arith, opened.0), old) in
          (after.rows n (mine n row)).1 k lt ∙ stands.taken n k row lt
      | inr new ↦ ap (λ (i : ℕ). t.has i k) (new ∙ ap (λ (p : ℕ). p + rules.lead + 1) (sym stands.played))
          ∙ after.new_has k lt ∙ sym (not_yet n k new)
    ];
    work = λ n s opened lt got. elim (old_or_new n opened.1) [
      | inl old ↦ let row : (run.played ≤ n) × (n ≤ run.played + rules.lead) = (omega (arith, opened.0), old) in
          ap (λ (p : Picture). decoding.pictures.sample p s) (after.rows n (mine n row)).2 ∙ stands.work n s row lt got
      | inr new ↦ absurd (both_ways _ (not_yet n (decoding.pictures.owner s) new) got)
    ];
    slots = λ rest lt. (after.slots rest lt).0 ∙ stands.slots rest lt ∙ sym (slot_play entries _ rest);
    pictures = λ rest m lt at. (after.slots rest lt).1 ∙ stands.pictures rest m lt (sym (slot_play entries _ rest)
        ∙ at);
  }
    where
      run : ReceiverRun Style Mb Picture
      run = receiver_run decoding rules entries

      old_or_new : (n : ℕ) → n ≤ run.played + 1 + rules.lead → (n ≤ run.played + rules.lead)
          ⊎ (n ≡ run.played + rules.lead + 1)
      old_or_new n high = elim (cases_lt (run.played + rules.lead) n) [ inl more ↦ inr (omega arith) | inr le ↦ inl le ]

      mine : (n : ℕ) → IsOpenIn decoding rules run n → (r.played ≤ n) × (n ≤ r.played + rules.lead)
      mine n row = let played = stands.played in (omega (arith, row.0, played), omega (arith, row.1, played))

      not_yet : (n k : ℕ) → n ≡ run.played + rules.lead + 1 → has_taken run.taken n k ≡ false
      not_yet n k new = false_from_ne_true _ (λ got. omega (arith, in_time decoding rules entries n k got, new))

  nothing_taken : (m k : ℕ) → has_taken {Style = Style} {Mb = Mb} [] m k ≡ false
  unfolding has_taken
  nothing_taken m k = refl

  complete_first : (ts : List (TakenSlice Style Mb)) (m : ℕ) → is_complete rules.mbs ts m ≡ true
      → has_taken ts m 0 ≡ true
  unfolding is_complete
  complete_first ts m whole = all_below_at rules.mbs (has_taken ts m) 0 whole ruled.some_mbs

  nothing_complete : (m : ℕ) → is_complete {Style = Style} {Mb = Mb} rules.mbs [] m ≡ false
  nothing_complete m = false_from_ne_true _ (λ whole. both_ways _ (nothing_taken m 0) (complete_first [] m whole))

  nothing_kept : (rest : ℕ) → store_slot decoding rules (receiver_run decoding rules []) rest ≡ None
  unfolding store_slot
  nothing_kept rest = greatest_none _ (0 + rules.lead + 1) (λ k lt. and_left _ _ (nothing_complete k))

  all_fit : (n : ℕ) (h : Header Style) → header_fits {Style = Style} {Mb = Mb} decoding rules [] n h ≡ true
  unfolding header_fits
  all_fit n h = refl

  pub new_receiver_stands : NewReceiverStands decoding rules
  new_receiver_stands r new = record {
    played = new.played;
    screen = new.screen;
    headers = λ n opened h. all_fit n h
        ∙ sym (ap (λ (o : Option (Header Style)). fits_kept decoding o h) (new.headers n (omega (arith, opened.1))));
    taken = λ n k opened lt. new.has n k (omega (arith, opened.1)) lt ∙ sym (nothing_taken n k);
    work = λ n s opened lt got. absurd (both_ways _ (nothing_taken n (decoding.pictures.owner s)) got);
    slots = λ rest lt. new.slots rest lt ∙ sym (nothing_kept rest);
    pictures = λ rest m lt at. absurd (never (sym (nothing_kept rest) ∙ at));
  }
    where
      never : {m : ℕ} → None ≡ Some m → ⊥
      never e = cc

  -- ---- what is complete stays

  complete_answer : (run : ReceiverRun Style Mb Picture) (n m : ℕ) (piece : Piece Style Mb)
      → piece.slice.first + length piece.slice.mbs ≤ rules.mbs → is_complete rules.mbs run.taken m ≡ true
      → let ts = keep_taken decoding rules (answer decoding rules run n piece) (record {
        number = n;
        piece = piece;
      } ∷ run.taken) run.taken in (is_complete rules.mbs ts m ≡ true)
      × (decoded decoding rules ts m ≡ decoded decoding rules run.taken m)
  complete_answer run n m piece inside whole =
      elim (cases_eq n m) [
        | inl same ↦
            let none = none_of_complete decoding rules lawful ruled run n piece (record {
              number = n;
              piece = piece;
            } ∷ run.taken) inside (subst (λ (i : ℕ). is_complete rules.mbs run.taken i
            ≡ true) (sym same) whole) in
            subst Stays (sym none) (whole, refl)
        | inr differ ↦ elim (keep_cases decoding rules (answer decoding rules run n piece) (record {
          number = n;
          piece = piece;
        } ∷ run.taken) run.taken) [
          | inl more ↦ subst Stays (sym more) (
            complete_more decoding rules lawful ruled (record {
              number = n;
              piece = piece;
            }) run.taken m whole,
            lawful.pictures.picture_same _ _ (λ s lt. img_other decoding rules lawful ruled (record {
              number = n;
              piece = piece;
            }) run.taken m s differ),
          )
          | inr same ↦ subst Stays (sym same) (whole, refl)
        ]
      ]
    where
      Stays : List (TakenSlice Style Mb) → Type 0
      Stays ts = (is_complete rules.mbs ts m ≡ true)
          × (decoded decoding rules ts m ≡ decoded decoding rules run.taken m)

  complete_packet : (run : ReceiverRun Style Mb Picture) (m : ℕ) (reading : Result (Piece Style Mb) Fault)
      → ((piece : Piece Style Mb) → reading ≡ Ok piece → piece.slice.first + length piece.slice.mbs ≤ rules.mbs)
      → is_complete rules.mbs run.taken m ≡ true → (is_complete rules.mbs (taken_after decoding rules run reading) m
      ≡ true) × (decoded decoding rules (taken_after decoding rules run reading) m ≡ decoded decoding rules run.taken m)
  unfolding taken_after
  complete_packet run m (Err fault) inside whole = (whole, refl)
  complete_packet run m (Ok piece) inside whole = go (piece_number rules run.played piece)
    where
      go : (o : Option ℕ) → let ts = option_map_or (λ n. keep_taken decoding rules (answer decoding rules run n piece)
          (record { number = n; piece = piece } ∷ run.taken) run.taken) o run.taken in
          (is_complete rules.mbs ts m ≡ true) × (decoded decoding rules ts m ≡ decoded decoding rules run.taken m)
      go None = (whole, refl)
      go (Some n) = complete_answer run n m piece (inside piece refl) whole

  pub complete_stays : CompleteStays decoding rules
  complete_stays entries (Packet bytes) m whole = complete_packet (receiver_run decoding rules entries) m
      (decoding.read bytes) (λ piece read. (lawful.read_inside bytes piece read).1) whole
  complete_stays entries PlayNext m whole = (whole, refl)
