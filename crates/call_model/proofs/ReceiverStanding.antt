-- A receiver stands for the longer list after a packet and after a play.
use Rattle.std.proofs.Common.{Ok, Err, Result, ◌≡◌, ℕ, ◌+◌, ◌%◌, ◌<◌, ◌≤◌, Bool, true, false, ◌&&◌, ◌||◌, refl, sym, ap, ◌∙◌, subst, arith, inl, inr, Option, Some, None, List, ◌∷◌, length, eqb, ltb, leb}
use Rattle.std.specs.Prelude.{if◌then◌else◌, not, option_and_then}
use Rattle.std.specs.Option.{option_map, option_map_or}
use Rattle.std.specs.List.{list_all}
use Rattle.std.proofs.lemmas.Bool.{cases_eq, cases_lt, cases_Bool, and_parts, and_right, both_ways, false≢true, false_from_ne_true, lt-ltb, le-ltb, ltb-false, eqb-true, eq-eqb, ne_eqb, leb-true}
use Rattle.std.proofs.Math.Nat.{mod-lt}
use Rattle.call_model.specs.Coding.{Rules, window, has_mb, Header, Piece, Message, Decoding, mb_at, same_header, same_reference}
use Rattle.call_model.specs.Sending.{nearest, nearest_below}
use Rattle.call_model.specs.Receiving.{ReceiverRun, TakenSlice, Heard, OtherClock, Late, Early, HeaderDiffers, MissingReference, Repeat, Overlap, Completed, Taken, has_taken, is_complete, header_fits, has_reference, header_reference, all_in, none_in, decoded, decoded_sample, answer, heard, keep_taken, taken_after, piece_number, ReceiverEntry, receiver_run}
use Rattle.call_model.specs.Store.{store_slot}
use Rattle.call_model.specs.Stands.{Receiver, ReceiverKeeps, ReceiverStands, IsOpenIn, fits_kept, judged}
use Rattle.call_model.specs.ReceiverStanding.{is_taking, heard_by_kept, reference_picture, completes, IsInLead, HeardByKept, OtherPacketStands, SliceStands}
use Rattle.call_model.specs.Lawful.{IsDecoding, IsRules}
use Rattle.call_model.proofs.ListLemmas.{all_below_at, all_below_same, greatest_same, greatest_passes}
use Rattle.call_model.proofs.Answering.{answer_late, answer_early}
use Rattle.call_model.proofs.Slots.{references_are_kept, new_one_takes_its_slot}
use Rattle.call_model.proofs.Judging.{judged_is_answer, whole_test}
use Rattle.call_model.proofs.OwnPackets.{has_taken_other, has_taken_first, header_fits_other, img_other, all_taken_of}

-- a test of references finds those that are the same
same_reference_is : (a b : Option ℕ) → same_reference a b ≡ true → a ≡ b
same_reference_is None None e = refl
same_reference_is (Some m) (Some n) e = ap Some (eqb-true m n e)
same_reference_is None (Some n) e = absurd (false≢true e)
same_reference_is (Some m) None e = absurd (false≢true e)

-- what an answer that takes says of its tests
taking_chain : (Fault : Type 0) (late early fits there every none whole : Bool) (m : Message)
    → is_taking {Fault = Fault} (if late then Late else if early then Early else if not fits then HeaderDiffers
    else if not there then MissingReference else if every then Repeat else if not none then Overlap
    else if whole then Completed m else Taken) ≡ true → (late ≡ false) × (early ≡ false) × (fits ≡ true)
    × (there ≡ true) × (every ≡ false)
taking_chain Fault true e f t v n w m is = absurd (false≢true is)
taking_chain Fault false true f t v n w m is = absurd (false≢true is)
taking_chain Fault false false false t v n w m is = absurd (false≢true is)
taking_chain Fault false false true false v n w m is = absurd (false≢true is)
taking_chain Fault false false true true true n w m is = absurd (false≢true is)
taking_chain Fault false false true true false n w m is = (refl, refl, refl, refl, refl)

module _ {Style Mb Picture Fault : Type 0} (decoding : Decoding Style Mb Picture Fault) (rules : Rules)
    (lawful : IsDecoding decoding rules) (ruled : IsRules rules) where
  pub same_header_is : (a b : Header Style) → same_header decoding a b ≡ true → a ≡ b
  unfolding same_header
  same_header_is a b e =
      let one = and_parts (eqb a.number b.number) _ e in
      let two = and_parts (same_reference a.reference b.reference) _ one.1 in
      let three = and_parts (eqb a.half b.half) (decoding.same_style a.style b.style) two.1 in
      let number : a.number ≡ b.number = eqb-true a.number b.number one.0 in
      let reference : a.reference ≡ b.reference = same_reference_is a.reference b.reference two.0 in
      let half : a.half ≡ b.half = eqb-true a.half b.half three.0 in
      let style : a.style ≡ b.style = (lawful.same_style_is a.style b.style).0 three.1 in
      ap (λ (x : ℕ). let h : Header Style = record {
        number = x;
        reference = a.reference;
        half = a.half;
        style = a.style;
      } in h) number
      ∙ ap (λ (x : Option ℕ). let h : Header Style = record {
        number = b.number;
        reference = x;
        half = a.half;
        style = a.style;
      } in h) reference
      ∙ ap (λ (x : ℕ). let h : Header Style = record {
        number = b.number;
        reference = b.reference;
        half = x;
        style = a.style;
      } in h) half
      ∙ ap (λ (x : Style). let h : Header Style = record {
        number = b.number;
        reference = b.reference;
        half = b.half;
        style = x;
      } in h) style

  -- ---- the answer

  one_answer : (r : Receiver Style Picture) (entries : List ReceiverEntry) (piece : Piece Style Mb) (n : ℕ)
      → ReceiverStands decoding rules r entries → piece.slice.first + length piece.slice.mbs ≤ rules.mbs
      → (if ltb n r.played then Late else if ltb (r.played + rules.lead) n then Early else judged decoding rules r n
      piece) ≡ answer decoding rules (receiver_run decoding rules entries) n piece
  one_answer r entries piece n stands inside =
      let played = stands.played in
      elim (cases_lt n r.played) [
        | inl late ↦ rw (lt-ltb n r.played late)
            (sym (answer_late decoding rules lawful ruled (receiver_run decoding rules entries) n piece
            (omega (arith, played))))
        | inr low ↦ elim (cases_lt (r.played + rules.lead) n) [
          | inl early ↦ rw (le-ltb n r.played low, lt-ltb (r.played + rules.lead) n early)
              (sym (answer_early decoding rules lawful ruled (receiver_run decoding rules entries) n piece
              (omega (arith, played))))
          | inr high ↦ rw (le-ltb n r.played low, le-ltb (r.played + rules.lead) n high)
              (judged_is_answer decoding rules ruled r entries n piece stands low high inside)
        ]
      ]

  heard_piece : (r : Receiver Style Picture) (entries : List ReceiverEntry) (piece : Piece Style Mb)
      → ReceiverStands decoding rules r entries → piece.slice.first + length piece.slice.mbs ≤ rules.mbs
      → heard_by_kept decoding rules r (Ok piece) ≡ heard decoding rules (receiver_run decoding rules entries)
      (Ok piece)
  unfolding heard heard_by_kept
  heard_piece r entries piece stands inside =
      let same : nearest rules r.played piece.header.number
      ≡ nearest rules (receiver_run decoding rules entries).played piece.header.number =
      ap (λ (p : ℕ). nearest rules p piece.header.number) stands.played in
      go (eqb piece.header.half rules.half) (by_number (nearest rules r.played piece.header.number)
      ∙ ap (λ (o : Option ℕ). option_map_or (λ n. answer decoding rules (receiver_run decoding rules entries) n
      piece) o Late) same)
    where
      by_number : (o : Option ℕ)
          → option_map_or (λ n. if ltb n r.played then Late else if ltb (r.played + rules.lead) n then Early else judged
          decoding rules r n piece) o Late
          ≡ option_map_or (λ n. answer decoding rules (receiver_run decoding rules entries) n piece) o Late
      by_number None = refl
      by_number (Some n) = one_answer r entries piece n stands inside

      go : {x y : Heard Fault} (b : Bool) → x ≡ y → (if b then x else OtherClock) ≡ (if b then y else OtherClock)
      go true e = e
      go false e = refl

  heard_fault : (r : Receiver Style Picture) (entries : List ReceiverEntry) (fault : Fault)
      → heard_by_kept decoding rules r (Err fault) ≡ heard decoding rules (receiver_run decoding rules entries)
      (Err fault)
  unfolding heard heard_by_kept
  heard_fault r entries fault = refl

  pub heard_by_kept_is : HeardByKept decoding rules
  heard_by_kept_is r entries bytes stands = go (decoding.read bytes) refl
    where
      go : (reading : Result (Piece Style Mb) Fault) → decoding.read bytes ≡ reading
          → heard_by_kept decoding rules r reading ≡ heard decoding rules (receiver_run decoding rules entries) reading
      go (Err fault) read = heard_fault r entries fault
      go (Ok piece) read = heard_piece r entries piece stands (lawful.read_inside bytes piece read).1

  -- ---- what is taken

  kept_where : (h : Heard Fault) (more ts : List (TakenSlice Style Mb)) → keep_taken decoding rules h more ts
      ≡ (if is_taking h then more else ts)
  kept_where (Completed message) more ts = refl
  kept_where Taken more ts = refl
  kept_where _ more ts = refl

  pub not_taken : (run : ReceiverRun Style Mb Picture) (reading : Result (Piece Style Mb) Fault)
      → is_taking (heard decoding rules run reading) ≡ false → taken_after decoding rules run reading ≡ run.taken
  unfolding heard taken_after piece_number
  not_taken run (Err fault) is = refl
  not_taken run (Ok piece) is = by_half (eqb piece.header.half rules.half) is
    where
      by_number : (o : Option ℕ) → is_taking (option_map_or (λ n. answer decoding rules run n piece) o Late) ≡ false
          → option_map_or (λ n. keep_taken decoding rules (answer decoding rules run n piece) (record {
            number = n;
            piece = piece;
          } ∷ run.taken) run.taken) o run.taken ≡ run.taken
      by_number None is = refl
      by_number (Some n) is = kept_where (answer decoding rules run n piece) (record {
        number = n;
        piece = piece;
      } ∷ run.taken) run.taken ∙ rw is refl

      by_half : (b : Bool) → is_taking (if b then option_map_or (λ n. answer decoding rules run n piece)
          (nearest rules run.played piece.header.number) Late else OtherClock) ≡ false
          → option_map_or (λ n. keep_taken decoding rules (answer decoding rules run n piece) (record {
            number = n;
            piece = piece;
          } ∷ run.taken) run.taken) (if b then nearest rules run.played piece.header.number else None)
          run.taken ≡ run.taken
      by_half true is = by_number (nearest rules run.played piece.header.number) is
      by_half false is = refl

  pub other_packet_stands : OtherPacketStands decoding rules
  other_packet_stands r entries bytes stands is =
      let same = heard_by_kept_is r entries bytes stands in
      let none : taken_after decoding rules (receiver_run decoding rules entries) (decoding.read bytes)
      ≡ (receiver_run decoding rules entries).taken = not_taken (receiver_run decoding rules entries)
      (decoding.read bytes) (sym (ap is_taking same) ∙ is) in
      subst (λ (ts : List (TakenSlice Style Mb)). ReceiverKeeps decoding rules r
      (record (receiver_run decoding rules entries) { taken = ts })) (sym none) stands

  -- a packet that is heard as one of n and is taken
  pub record IsTakenAs (run : ReceiverRun Style Mb Picture) (n : ℕ) (piece : Piece Style Mb) : Type 0 where
    pub low : run.played ≤ n
    pub high : n ≤ run.played + rules.lead
    pub fits : header_fits decoding rules run.taken n piece.header ≡ true
    pub there : has_reference decoding rules run.taken n piece.header ≡ true
    pub not_all : all_in piece.slice (has_taken run.taken n) ≡ false
    pub after : taken_after decoding rules run (Ok piece) ≡ record { number = n; piece = piece } ∷ run.taken

  answer_facts : (run : ReceiverRun Style Mb Picture) (n : ℕ) (piece : Piece Style Mb)
      → is_taking (answer decoding rules run n piece) ≡ true → (ltb n run.played ≡ false)
      × (ltb (run.played + rules.lead) n ≡ false) × (header_fits decoding rules run.taken n piece.header ≡ true)
      × (has_reference decoding rules run.taken n piece.header ≡ true) × (all_in piece.slice (has_taken run.taken n)
      ≡ false)
  unfolding answer
  answer_facts run n piece is =
      taking_chain Fault (ltb n run.played) (ltb (run.played + rules.lead) n)
      (header_fits decoding rules run.taken n piece.header) (has_reference decoding rules run.taken n piece.header)
      (all_in piece.slice (has_taken run.taken n)) (none_in piece.slice (has_taken run.taken n))
      (is_complete rules.mbs (record { number = n; piece = piece } ∷ run.taken) n) _ is

  pub taken_as : (run : ReceiverRun Style Mb Picture) (n : ℕ) (piece : Piece Style Mb)
      → nearest rules run.played piece.header.number ≡ Some n → is_taking (heard decoding rules run (Ok piece)) ≡ true
      → IsTakenAs run n piece
  unfolding heard taken_after piece_number
  taken_as run n piece near is = by_half (eqb piece.header.half rules.half) refl is
    where
      by_half : (b : Bool) → eqb piece.header.half rules.half ≡ b
          → is_taking (if b then option_map_or (λ n. answer decoding rules run n piece)
          (nearest rules run.played piece.header.number) Late else OtherClock) ≡ true → IsTakenAs run n piece
      by_half false e is = absurd (false≢true is)
      by_half true e is =
          let takes : is_taking (answer decoding rules run n piece)
          ≡ true = sym (ap (λ (o : Option ℕ). is_taking
          (option_map_or (λ n. answer decoding rules run n piece) o Late)) near) ∙ is in
          let facts = answer_facts run n piece takes in
          record {
            low = ltb-false _ _ facts.0;
            high = ltb-false _ _ facts.1;
            fits = facts.2;
            there = facts.3;
            not_all = facts.4;
            after = rw (e, near) (kept_where (answer decoding rules run n piece) (record {
              number = n;
              piece = piece;
            } ∷ run.taken) run.taken ∙ rw takes refl);
          }

  -- ---- a slice more

  pub complete_other : (ts : List (TakenSlice Style Mb)) (n m : ℕ) (piece : Piece Style Mb) → (m ≡ n → ⊥)
      → is_complete rules.mbs (record { number = n; piece = piece } ∷ ts) m ≡ is_complete rules.mbs ts m
  unfolding is_complete has_taken
  complete_other ts n m piece differ = let apart : eqb n m ≡ false = ne_eqb n m (λ e. differ (sym e)) in
      all_below_same rules.mbs _ _ (λ k lt. rw apart refl)

  header_fits_own : (ts : List (TakenSlice Style Mb)) (n : ℕ) (piece : Piece Style Mb) (h : Header Style)
      → header_fits decoding rules ts n piece.header ≡ true
      → header_fits decoding rules (record { number = n; piece = piece } ∷ ts) n h ≡ same_header decoding piece.header h
  unfolding header_fits
  header_fits_own ts n piece h fits = rw (eq-eqb n n refl) (go (same_header decoding piece.header h) refl)
    where
      go : (b : Bool) → same_header decoding piece.header h ≡ b
          → (same_header decoding piece.header h && list_all
          (λ t. not (eqb t.number n) || same_header decoding t.piece.header h) ts) ≡ same_header decoding piece.header h
      go false e = rw e refl
      go true e =
          let same : piece.header ≡ h = same_header_is piece.header h e in
          rw e (subst (λ (g : Header Style). list_all (λ t. not (eqb t.number n) || same_header decoding t.piece.header
          g) ts ≡ true) same fits)

  -- the reference that a taken slice names is in its slot
  reference_there : (r : Receiver Style Picture) (entries : List ReceiverEntry) (n : ℕ) (h : Header Style)
      → ReceiverStands decoding rules r entries → (receiver_run decoding rules entries).played ≤ n
      → has_reference decoding rules (receiver_run decoding rules entries).taken n h ≡ true
      → reference_picture decoding rules r n h
      ≡ option_map (λ m. decoded decoding rules (receiver_run decoding rules entries).taken m)
      (header_reference decoding rules n h)
  unfolding has_reference
  reference_there r entries n h stands low there = by_header h.reference there
    where
      one : (m : ℕ) → (is_complete rules.mbs (receiver_run decoding rules entries).taken m && leb n (m + window rules))
          ≡ true → r.picture (m % rules.slots) ≡ decoded decoding rules (receiver_run decoding rules entries).taken m
      one m is =
          let parts = and_parts (is_complete rules.mbs (receiver_run decoding rules entries).taken m)
          (leb n (m + window rules)) is in
          let slot = references_are_kept decoding rules ruled entries n m low (leb-true _ _ parts.1) parts.0 in
          stands.pictures (m % rules.slots) m (mod-lt m (omega (arith, ruled.lead_small))) slot

      by_number : (o : Option ℕ)
          → option_map_or (λ m. is_complete rules.mbs (receiver_run decoding rules entries).taken m && leb n
          (m + window rules)) o false ≡ true → option_map (λ m. r.picture (m % rules.slots)) o
          ≡ option_map (λ m. decoded decoding rules (receiver_run decoding rules entries).taken m) o
      by_number None is = refl
      by_number (Some m) is = ap Some (one m is)

      by_header : (o : Option ℕ)
          → option_map_or (λ rest. option_map_or (λ m. is_complete rules.mbs (receiver_run decoding rules entries).taken
          m && leb n (m + window rules)) (nearest_below rules n rest) false) o true ≡ true
          → option_map (λ m. r.picture (m % rules.slots)) (option_and_then (nearest_below rules n) o)
          ≡ option_map (λ m. decoded decoding rules (receiver_run decoding rules entries).taken m)
          (option_and_then (nearest_below rules n) o)
      by_header None is = refl
      by_header (Some rest) is = by_number (nearest_below rules n rest) is

  slot_same : (run : ReceiverRun Style Mb Picture) (taken : List (TakenSlice Style Mb)) (rest : ℕ)
      → ((m : ℕ) → is_complete rules.mbs taken m ≡ is_complete rules.mbs run.taken m)
      → store_slot decoding rules (record run { taken = taken }) rest ≡ store_slot decoding rules run rest
  unfolding store_slot
  slot_same run taken rest same = greatest_same _ _ (run.played + rules.lead + 1)
      (λ m lt. ap (λ (b : Bool). b && eqb (m % rules.slots) rest) (same m))

  -- the number in a slot has this rest, and is complete
  in_slot : (run : ReceiverRun Style Mb Picture) (rest m : ℕ) → store_slot decoding rules run rest ≡ Some m
      → (is_complete rules.mbs run.taken m ≡ true) × (m % rules.slots ≡ rest)
  unfolding store_slot
  in_slot run rest m e =
      let passes = greatest_passes (λ i. is_complete rules.mbs run.taken i && eqb (i % rules.slots) rest)
      (run.played + rules.lead + 1) m e in
      let parts = and_parts (is_complete rules.mbs run.taken m) (eqb (m % rules.slots) rest) passes.0 in
      (parts.0, eqb-true _ _ parts.1)

  taken_of : (ts : List (TakenSlice Style Mb)) (n k : ℕ) → is_complete rules.mbs ts n ≡ true → k < rules.mbs
      → has_taken ts n k ≡ true
  unfolding is_complete
  taken_of ts n k whole lt = all_below_at rules.mbs (has_taken ts n) k whole lt

  pub slice_stands : SliceStands decoding rules
  slice_stands r t entries bytes piece n stands read near takes after =
      subst (λ (ts : List (TakenSlice Style Mb)). ReceiverKeeps decoding rules t
      (record (receiver_run decoding rules entries) { taken = ts }))
      (sym (ap (taken_after decoding rules (receiver_run decoding rules entries)) read ∙ as_taken.after)) keeps
    where
      run : ReceiverRun Style Mb Picture
      run = receiver_run decoding rules entries

      inside : (0 < length piece.slice.mbs) × (piece.slice.first + length piece.slice.mbs ≤ rules.mbs)
      inside = lawful.read_inside bytes piece read

      as_taken : IsTakenAs (receiver_run decoding rules entries) n piece
      as_taken = taken_as run n piece (ap (λ (p : ℕ). nearest rules p piece.header.number) (sym stands.played)
          ∙ near) (sym (ap is_taking (heard_piece r entries piece stands inside.1)) ∙ takes)

      one : TakenSlice Style Mb
      one = record { number = n; piece = piece }

      row : (m : ℕ) → IsOpenIn decoding rules run m → IsInLead decoding rules r m
      row m opened = let played = stands.played in (omega (arith, opened.0, played), omega (arith, opened.1, played))

      opened_n : IsOpenIn decoding rules run n
      opened_n = (as_taken.low, as_taken.high)

      not_before : is_complete rules.mbs run.taken n ≡ false
      not_before = false_from_ne_true _ (λ whole. both_ways _ as_taken.not_all
          (all_taken_of decoding rules lawful ruled run.taken n piece.slice inside.1 whole))

      whole_is : completes decoding rules r n piece ≡ is_complete rules.mbs (one ∷ run.taken) n
      whole_is = whole_test decoding rules ruled r run n piece (λ k lt. stands.taken n k opened_n lt)

      differs : (m : ℕ) → (m ≡ n → ⊥) → one.number ≡ m → ⊥
      differs m differ e = differ (sym e)

      has_is : (m k : ℕ) → IsOpenIn decoding rules run m → k < rules.mbs → t.has m k ≡ has_taken (one ∷ run.taken) m k
      has_is m k opened lt =
          elim (cases_eq m n) [
            | inl same ↦ subst (λ (i : ℕ). t.has i k ≡ has_taken (one ∷ run.taken) i k) (sym same) (after.has k lt
                ∙ ap (λ (b : Bool). has_mb piece.slice k || b) (stands.taken n k opened_n lt)
                ∙ sym (has_taken_first decoding rules lawful ruled one run.taken n k refl))
            | inr differ ↦ (after.rows m (row m opened) differ).1 k lt ∙ stands.taken m k opened lt
                ∙ sym (has_taken_other decoding rules lawful ruled one run.taken m k (differs m differ))
          ]

      header_is : (m : ℕ) → IsOpenIn decoding rules run m → (h : Header Style)
          → header_fits decoding rules (one ∷ run.taken) m h ≡ fits_kept decoding (t.header m) h
      header_is m opened h =
          elim (cases_eq m n) [
            | inl same ↦ subst (λ (i : ℕ). header_fits decoding rules (one ∷ run.taken) i h
                ≡ fits_kept decoding (t.header i) h) (sym same) (header_fits_own run.taken n piece h as_taken.fits
                ∙ sym (ap (λ (o : Option (Header Style)). fits_kept decoding o h) after.header))
            | inr differ ↦ header_fits_other decoding rules lawful ruled one run.taken m h (differs m differ)
                ∙ stands.headers m opened h
                ∙ sym (ap (λ (o : Option (Header Style)). fits_kept decoding o h)
                (after.rows m (row m opened) differ).0)
          ]

      drawn : (s : ℕ) → decoding.pictures.owner s < rules.mbs
          → has_taken (one ∷ run.taken) n (decoding.pictures.owner s) ≡ true → (b : Bool)
          → has_mb piece.slice (decoding.pictures.owner s) ≡ b → decoding.pictures.sample (t.work n) s
          ≡ decoded_sample decoding rules (record { number = n; piece = piece } ∷ run.taken) n s
      drawn s lt got true has =
          let reference : reference_picture decoding rules r n piece.header
          ≡ option_map (λ m. decoded decoding rules run.taken m) (header_reference decoding rules n piece.header) =
          reference_there r entries n piece.header stands as_taken.low as_taken.there in
          after.drawn s lt has ∙ ap (λ (o : Option Picture). decoding.pictures.reconstructed_sample piece.header.style o
          (mb_at decoding.pictures.skip piece.slice (decoding.pictures.owner s)) s) reference
          ∙ rw (eq-eqb n n refl, has) refl
      drawn s lt got false has =
          let before : has_taken run.taken n (decoding.pictures.owner s)
          ≡ true = sym (has_taken_first decoding rules lawful ruled one run.taken n (decoding.pictures.owner s) refl
          ∙ ap (λ (b : Bool). b || has_taken run.taken n (decoding.pictures.owner s)) has) ∙ got in
          after.left s lt has ∙ stands.work n s opened_n lt before ∙ rw (has, and_right (eqb n n) false refl) refl

      work_is : (m s : ℕ) → IsOpenIn decoding rules run m → decoding.pictures.owner s < rules.mbs
          → has_taken (one ∷ run.taken) m (decoding.pictures.owner s) ≡ true → decoding.pictures.sample (t.work m) s
          ≡ decoded_sample decoding rules (one ∷ run.taken) m s
      work_is m s opened lt got =
          elim (cases_eq m n) [
            | inl same ↦
                let got_n : has_taken (one ∷ run.taken) n (decoding.pictures.owner s)
                ≡ true = subst (λ (i : ℕ). has_taken (one ∷ run.taken) i (decoding.pictures.owner s)
                ≡ true) same got in
                subst (λ (i : ℕ). decoding.pictures.sample (t.work i) s
                ≡ decoded_sample decoding rules (one ∷ run.taken) i s) (sym same)
                (drawn s lt got_n (has_mb piece.slice (decoding.pictures.owner s)) refl)
            | inr differ ↦
                let before : has_taken run.taken m (decoding.pictures.owner s)
                ≡ true = sym (has_taken_other decoding rules lawful ruled one run.taken m
                (decoding.pictures.owner s) (differs m differ)) ∙ got in
                ap (λ (p : Picture). decoding.pictures.sample p s) (after.rows m (row m opened) differ).2
                ∙ stands.work m s opened lt before
                ∙ sym (img_other decoding rules lawful ruled one run.taken m s (differs m differ))
          ]

      next_run : ReceiverRun Style Mb Picture
      next_run = record run { taken = one ∷ run.taken }

      positive : 0 < rules.slots
      positive = omega (arith, ruled.lead_small)

      -- where the picture becomes complete
      when_whole : is_complete rules.mbs (one ∷ run.taken) n ≡ true
          → (store_slot decoding rules next_run (n % rules.slots) ≡ Some n) × ((rest : ℕ) → (rest ≡ n % rules.slots → ⊥)
          → store_slot decoding rules next_run rest ≡ store_slot decoding rules run rest)
      when_whole whole = new_one_takes_its_slot decoding rules ruled entries n (one ∷ run.taken) as_taken.low
          as_taken.high whole (λ m lt differ. complete_other run.taken n m piece differ)

      -- where it does not
      when_part : is_complete rules.mbs (one ∷ run.taken) n ≡ false → (rest : ℕ)
          → store_slot decoding rules next_run rest
          ≡ store_slot decoding rules run rest
      when_part part rest = slot_same run (one ∷ run.taken) rest same_complete
        where
          same_complete : (m : ℕ) → is_complete rules.mbs (record { number = n; piece = piece } ∷ run.taken) m
              ≡ is_complete rules.mbs run.taken m
          same_complete m = elim (cases_eq m n) [
            | inl same ↦ subst (λ (i : ℕ). is_complete rules.mbs (record { number = n; piece = piece } ∷ run.taken) i
                ≡ is_complete rules.mbs run.taken i) (sym same) (part ∙ sym not_before)
            | inr differ ↦ complete_other run.taken n m piece differ
          ]

      slot_is : (rest : ℕ) → rest < rules.slots → t.kept rest ≡ store_slot decoding rules next_run rest
      slot_is rest lt = elim (cases_Bool (is_complete rules.mbs (one ∷ run.taken) n)) [
        | inl whole ↦ elim (cases_eq rest (n % rules.slots)) [
          | inl same ↦ subst (λ (i : ℕ). t.kept i ≡ store_slot decoding rules next_run i) (sym same)
              ((after.whole (whole_is ∙ whole)).0 ∙ sym (when_whole whole).0)
          | inr differ ↦ (after.slots rest lt differ).0 ∙ stands.slots rest lt ∙ sym ((when_whole whole).1 rest differ)
        ]
        | inr part ↦ elim (cases_eq rest (n % rules.slots)) [
          | inl same ↦ subst (λ (i : ℕ). t.kept i ≡ store_slot decoding rules next_run i) (sym same)
              ((after.part (whole_is ∙ part)).0 ∙ stands.slots (n % rules.slots) (mod-lt n positive)
              ∙ sym (when_part part (n % rules.slots)))
          | inr differ ↦ (after.slots rest lt differ).0 ∙ stands.slots rest lt ∙ sym (when_part part rest)
        ]
      ]

      -- of another picture than n decoding gives what it gave
      decoded_other : (m : ℕ) → (m ≡ n → ⊥) → decoded decoding rules run.taken m
          ≡ decoded decoding rules (one ∷ run.taken) m
      decoded_other m differ = lawful.pictures.picture_same _ _
          (λ s lt. sym (img_other decoding rules lawful ruled one run.taken m s (differs m differ)))

      old_picture : (rest m : ℕ) → rest < rules.slots → store_slot decoding rules run rest ≡ Some m
          → t.picture rest ≡ r.picture rest → t.picture rest ≡ decoded decoding rules (one ∷ run.taken) m
      old_picture rest m lt at same =
          let differ : m ≡ n → ⊥ = λ (e : m ≡ n). both_ways _ not_before
          (subst (λ (i : ℕ). is_complete rules.mbs run.taken i ≡ true) e (in_slot run rest m at).0) in
          same ∙ stands.pictures rest m lt at ∙ decoded_other m differ

      new_picture : is_complete rules.mbs (one ∷ run.taken) n ≡ true → t.picture (n % rules.slots)
          ≡ decoded decoding rules (one ∷ run.taken) n
      new_picture whole =
          (after.whole (whole_is ∙ whole)).1
          ∙ lawful.pictures.picture_same _ _
          (λ s lt. work_is n s opened_n lt (taken_of (one ∷ run.taken) n (decoding.pictures.owner s) whole lt))

      picture_is : (rest m : ℕ) → rest < rules.slots → store_slot decoding rules next_run rest ≡ Some m
          → t.picture rest ≡ decoded decoding rules (one ∷ run.taken) m
      picture_is rest m lt at = elim (cases_Bool (is_complete rules.mbs (one ∷ run.taken) n)) [
        | inl whole ↦ elim (cases_eq rest (n % rules.slots)) [
          | inl same ↦
              let is : n ≡ m = let e : Some n ≡ Some m = sym (when_whole whole).0
              ∙ subst (λ (i : ℕ). store_slot decoding rules next_run i ≡ Some m) same at in cc in
              ap t.picture same ∙ new_picture whole ∙ ap (decoded decoding rules (one ∷ run.taken)) is
          | inr differ ↦ old_picture rest m lt (sym ((when_whole whole).1 rest differ)
              ∙ at) (after.slots rest lt differ).1
        ]
        | inr part ↦ elim (cases_eq rest (n % rules.slots)) [
          | inl same ↦ old_picture rest m lt (sym (when_part part rest) ∙ at) (ap t.picture same
              ∙ (after.part (whole_is ∙ part)).1 ∙ ap r.picture (sym same))
          | inr differ ↦ old_picture rest m lt (sym (when_part part rest) ∙ at) (after.slots rest lt differ).1
        ]
      ]

      keeps : ReceiverKeeps decoding rules t (record (receiver_run decoding rules entries) {
        taken =
            record { number = n; piece = piece } ∷ (receiver_run decoding rules entries).taken;
      })
      keeps = record {
        played = after.played ∙ stands.played;
        screen = after.screen ∙ stands.screen;
        headers = header_is;
        taken = has_is;
        work = work_is;
        slots = slot_is;
        pictures = picture_is;
      }
