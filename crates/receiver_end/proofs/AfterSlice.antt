-- What a slice leaves, as the laws of a call see it.
use Rattle.std.proofs.Common.{◌≡◌, ℕ, ◌+◌, ◌-◌, ◌%◌, ◌<◌, ◌≤◌, min, Bool, true, false, ◌&&◌, ◌||◌, eqb, leb, ltb, List, length, take, drop, get_or, set, Option, Some, None, refl, ap, sym, ◌∙◌, subst, arith, length-set, length-take, length-drop}
use Rattle.std.specs.Prelude.{if◌then◌else◌}
use Rattle.std.specs.Option.{option_map, option_map_or}
use Rattle.std.proofs.Math.Nat.{mod-lt}
use Rattle.std.proofs.lemmas.Bool.{eq-eqb, and_parts, leb-true, ltb-true}
use Rattle.std.proofs.lemmas.List.{get_or-take, get_or-drop, get_or-set_same, get_or-set_other}
use Rattle.h263_types.specs.declared.blocks.Mb.{Mb}
use Rattle.h263_types.specs.declared.blocks.Mb.TheVariants.{Skip}
use Rattle.h263_types.specs.declared.params.Params.{Params}
use Rattle.h263_types.specs.Sizes.{mbs_of}
use Rattle.h263_types.specs.Blocks.{mb_in}
use Rattle.h263_planes.specs.Picture.{Picture}
use Rattle.h263_planes.specs.Spots.{spot, sample_of, owner_of, picture_by, AreSpots, ArePicturesBySamples}
use Rattle.picture_recon.specs.Samples.{sample_in}
use Rattle.picture_store.specs.Pictures.{StoredPictures, slots_of, slot_of, slot_number, picture_in, work_in, Keeps}
use Rattle.slice_layer.specs.Filled.{mbs_from}
use Rattle.packet_collector.specs.declared.collector.Collector.{Collector}
use Rattle.packet_collector.specs.declared.piece.Piece.{Piece}
use Rattle.packet_collector.specs.Taken.{head_holds as has_piece}
use Rattle.packet_collector.specs.Collected.{IsInRow, has_in}
use Rattle.call_model.specs.Numbers.{OneRestIsFar, all_below, flags_of}
use Rattle.call_model.specs.Coding as call
use Rattle.call_model.specs.ReceiverStanding.{IsAfterSlice, completes, reference_picture}
use Rattle.call_decoding.specs.Rules.{rules_of}
use Rattle.call_decoding.specs.Styles.{Style, call_header_of}
use Rattle.receiver_end.specs.declared.kept.Kept.{Kept}
use Rattle.receiver_end.specs.declared.judging.Fresh.{Fresh}
use Rattle.receiver_end.specs.Decoding.{decoding}
use Rattle.receiver_end.specs.State.{Fits, seen, slot_holds, open_picture, screen_in, work_of, last_work}
use Rattle.receiver_end.specs.Steps.{IsFreshPiece, IsDrawn, IsSameBut, IsReferenceOf, ack_of, picture_of_reference, piece_in, taking}
use Rattle.receiver_end.specs.Answers.{IsHeard, IsSaid}
use Rattle.receiver_end.specs.declared.answers.Heard.TheVariants as heards
use Rattle.back_messages.specs.declared.writing.Said.{Said}
use Rattle.receiver_end.proofs.Headers.{both}
use Rattle.receiver_end.proofs.Marked.{all_same}
use Rattle.receiver_end.proofs.Rings.{apart, differ}

pub run_long : (out : List Mb) (first count : ℕ) → first + count ≤ length out → length (mbs_from first count out)
    ≡ count
run_long out first count fits =
    let whole : length (take count (drop first out)) ≡ min count (length (drop first out)) =
    length-take count (drop first out) in
    omega (arith, whole, length-drop first out)

mb_same : (out : List Mb) (first count k : ℕ) → first ≤ k → k < first + count
    → get_or (mbs_from first count out) (k - first) Skip ≡ mb_in out k
mb_same out first count k low high =
    let e : first + (k - first) ≡ k = omega (arith, low) in
    get_or-take count (drop first out) (k - first) Skip (omega (arith, low, high))
    ∙ get_or-drop first out (k - first) Skip ∙ ap (λ (i : ℕ). get_or out i Skip) e

module _ (p : Params) (some : 0 < p.slots) where
  pub held_same : (s t : StoredPictures) (m : ℕ) → t.numbers ≡ s.numbers → slot_holds p t m ≡ slot_holds p s m
  held_same s t m same = ap (λ (l : List (Option ℕ)). option_map_or (λ k. eqb k m) (get_or l (m % p.slots) None) false)
      same

  -- a picture that isn't in the work picture that was drawn
  pub picture_still : (s t : StoredPictures) (m w : ℕ) → slots_of s ≡ p.slots → IsSameBut s t w → (work_of p m ≡ w → ⊥)
      → open_picture p t m ≡ open_picture p s m
  picture_still s t m w slots same differ =
      let lt : m % p.slots < p.slots = mod-lt m some in
      let test = held_same s t m same.numbers in
      let kept : picture_in t (m % p.slots) ≡ picture_in s (m % p.slots) = same.others (m % p.slots)
      (λ e. omega (arith, lt, e, slots)) in
      let count : slots_of t ≡ slots_of s = ap length same.numbers in
      let work : work_in t (work_of p m) ≡ work_in s (work_of p m) =
      ap (λ (k : ℕ). picture_in t (k + work_of p m)) count
      ∙ same.others (slots_of s + work_of p m) (λ e. differ (omega (arith, e))) in
      λ i. if test i then kept i else work i

  pub screen_still : (s t : StoredPictures) (played w : ℕ) (exact : Bool) → slots_of s ≡ p.slots → IsSameBut s t w
      → (last_work p played ≡ w → ⊥) → screen_in p t exact played ≡ screen_in p s exact played
  screen_still s t played w true slots same differ =
      same.others ((played - 1) % p.slots) (λ e. let lt : (played - 1) % p.slots < p.slots = mod-lt (played - 1) some in
      omega (arith, lt, e, slots))
  screen_still s t played w false slots same differ =
      let count : slots_of t ≡ slots_of s = ap length same.numbers in
      ap (λ (k : ℕ). picture_in t (k + last_work p played)) count
      ∙ same.others (slots_of s + last_work p played) (λ e. differ (omega (arith, e)))

module _ (r : Kept) (c : Collector) (s : StoredPictures) (mbs : List Mb) (piece : Piece) (f : Fresh)
    (d : IsDrawn r c s mbs piece f) (inside-mbs : piece.head.first + piece.head.count ≤ length mbs) where
  holds_same : (k : ℕ) → call.has_mb (piece_in piece mbs).slice k ≡ has_piece piece.head k
  unfolding call.has_mb
  holds_same k = ap (λ (i : ℕ). leb piece.head.first k && ltb k (piece.head.first + i))
      (run_long mbs piece.head.first piece.head.count inside-mbs)

  holds_more : (k : ℕ) → k < mbs_of r.params.format
      → has_in c f.number k ≡ (call.has_mb (piece_in piece mbs).slice k || has_in r.collector f.number k)
  holds_more k lt = d.has k lt ∙ ap (λ (b : Bool). b || has_in r.collector f.number k) (sym (holds_same k))

  -- the slice completes its picture where all its macroblocks are marked then
  pub completed : completes (decoding r.params.format) (rules_of r.params) (seen r) f.number (piece_in piece mbs)
      ≡ all_below (mbs_of r.params.format) (has_in c f.number)
  completed = all_same (mbs_of r.params.format) _ _ (λ k lt. sym (holds_more k lt))

  said_same : ack_of r.params s f.number ≡ ack_of r.params r.store f.number
  said_same = ap (λ (l : List (Option ℕ)). call.Ack (f.number % call.period (rules_of r.params))
      (flags_of (call.Rules.flags (rules_of r.params))
      (λ m. option_map_or (λ k. eqb k m) (get_or l (m % r.params.slots) None) false) f.number)) d.store.numbers

  pub taken_whole : (said : Said) → all_below (mbs_of r.params.format) (has_in c f.number) ≡ true
      → IsSaid r.params.clock said (ack_of r.params s f.number)
      → IsHeard r.params.clock (heards.Completed said) (taking r f.number (piece_in piece mbs))
  taken_whole said all is = rw (completed ∙ all) (said, refl, subst (IsSaid r.params.clock said) said_same is)

  pub taken_part : all_below (mbs_of r.params.format) (has_in c f.number) ≡ false
      → IsHeard r.params.clock heards.Taken (taking r f.number (piece_in piece mbs))
  taken_part none = rw (completed ∙ none) refl

module _ (far : OneRestIsFar) (spots : AreSpots) (by : ArePicturesBySamples) (r : Kept) (c : Collector)
    (s : StoredPictures)
    (mbs : List Mb) (piece : Piece) (f : Fresh)
    (ok : Fits r) (fresh : IsFreshPiece r piece f) (d : IsDrawn r c s mbs piece f)
    (inside-mbs : piece.head.first + piece.head.count ≤ length mbs) (unheld : slot_holds r.params r.store f.number
    ≡ false) where
  abbrev n : ℕ
  n = f.number

  abbrev p : call.Piece Style Mb
  p = piece_in piece mbs

  some : 0 < r.params.slots
  some = omega (arith, ok.params.slots_low)

  low : r.played ≤ n
  low = omega (arith, fresh.1.row.low, ok.collects.begins)

  high : n ≤ r.played + r.params.lead
  high = omega (arith, fresh.1.row.high, ok.collects.begins, ok.row)

  slots_are : slots_of s ≡ r.params.slots
  slots_are = ap length d.store.numbers ∙ ok.slots

  has_is : (k : ℕ) → call.has_mb p.slice k ≡ has_piece piece.head k
  has_is = holds_same r c s mbs piece f d inside-mbs

  has_after : (k : ℕ) → k < mbs_of r.params.format → has_in c n k ≡ (call.has_mb p.slice k || has_in r.collector n k)
  has_after = holds_more r c s mbs piece f d inside-mbs

  all_is : completes (decoding r.params.format) (rules_of r.params) (seen r) n p
      ≡ all_below (mbs_of r.params.format) (has_in c n)
  all_is = completed r c s mbs piece f d inside-mbs

  at_work : (t : StoredPictures) → t.numbers ≡ r.store.numbers → open_picture r.params t n
      ≡ work_in t (work_of r.params n)
  at_work t same = ap (λ (b : Bool). if b then picture_in t (n % r.params.slots) else work_in t (work_of r.params n))
      (held_same r.params some r.store t n same ∙ unheld)

  reference_is : (x : Option ℕ) → IsReferenceOf r n piece.header.trp x → picture_of_reference r.store x
      ≡ reference_picture (decoding r.params.format) (rules_of r.params) (seen r) n p.header
  reference_is None is = rw is refl
  reference_is (Some m) is = rw is.0 (ap (λ (k : ℕ). Some (picture_in r.store (m % k))) ok.slots)

  abbrev Here : ℕ → Bool → Type 0
  Here i b = sample_of (work_in s (work_of r.params n)) (spot r.params.format i)
      ≡ (if b then sample_in piece.header.rounding (picture_of_reference r.store f.reference)
      (mb_in mbs (owner_of r.params.format i)) (spot r.params.format i).plane (spot r.params.format i).x
      (spot r.params.format i).y
      else sample_of (work_in r.store (work_of r.params n)) (spot r.params.format i))

  here : (i : ℕ) (b : Bool) → owner_of r.params.format i < mbs_of r.params.format
      → call.has_mb p.slice (owner_of r.params.format i) ≡ b → Here i b
  here i b inside has = subst (Here i) (sym (has_is (owner_of r.params.format i))
      ∙ has) (d.sets (spot r.params.format i).plane (spot r.params.format i).x (spot r.params.format i).y
      (spots.inside r.params.format i inside))

  drawn : (i : ℕ) → owner_of r.params.format i < mbs_of r.params.format
      → call.has_mb p.slice (owner_of r.params.format i) ≡ true
      → sample_of (open_picture r.params s n) (spot r.params.format i)
      ≡ sample_in piece.header.rounding (reference_picture (decoding r.params.format) (rules_of r.params)
      (seen r) n p.header) (call.mb_at Skip p.slice (owner_of r.params.format i)) (spot r.params.format i).plane
      (spot r.params.format i).x (spot r.params.format i).y
  drawn i inside has =
      let test : has_piece piece.head (owner_of r.params.format i) ≡ true = sym (has_is (owner_of r.params.format i))
      ∙ has in
      let parts = and_parts _ _ test in
      ap (λ (q : Picture). sample_of q (spot r.params.format i)) (at_work s d.store.numbers) ∙ here i true inside has
      ∙ ap (λ (o : Option Picture). sample_in piece.header.rounding o (mb_in mbs (owner_of r.params.format i))
      (spot r.params.format i).plane (spot r.params.format i).x (spot r.params.format i).y)
      (reference_is f.reference fresh.1.named)
      ∙ ap (λ (m : Mb). sample_in piece.header.rounding (reference_picture (decoding r.params.format)
      (rules_of r.params) (seen r) n p.header) m (spot r.params.format i).plane (spot r.params.format i).x
      (spot r.params.format i).y)
      (sym (mb_same mbs piece.head.first piece.head.count (owner_of r.params.format i) (leb-true _ _ parts.0)
      (ltb-true _ _ parts.1)))

  left : (i : ℕ) → owner_of r.params.format i < mbs_of r.params.format
      → call.has_mb p.slice (owner_of r.params.format i) ≡ false
      → sample_of (open_picture r.params s n) (spot r.params.format i)
      ≡ sample_of (open_picture r.params r.store n) (spot r.params.format i)
  left i inside has =
      ap (λ (q : Picture). sample_of q (spot r.params.format i)) (at_work s d.store.numbers) ∙ here i false inside has
      ∙ ap (λ (q : Picture). sample_of q (spot r.params.format i)) (sym (at_work r.store refl))

  last_differs : last_work r.params r.played ≡ work_of r.params n → ⊥
  last_differs e = apart far (r.params.lead + 2) n (r.played + r.params.lead + 1) (omega (arith, high))
      (omega (arith, low)) (sym e)

  work_differs : (m : ℕ) → r.played ≤ m → m ≤ r.played + r.params.lead → (m ≡ n → ⊥)
      → work_of r.params m ≡ work_of r.params n → ⊥
  work_differs m low' high' ne e = differ far (r.params.lead + 2) m n ne (omega (arith, low', high))
      (omega (arith, low, high')) e

  slot_differs : (m : ℕ) → r.played ≤ m → m ≤ r.played + r.params.lead → (m ≡ n → ⊥)
      → m % r.params.slots ≡ n % r.params.slots → ⊥
  slot_differs m low' high' ne e = differ far r.params.slots m n ne (omega (arith, low', high, ok.params.lead))
      (omega (arith, low, high', ok.params.lead)) e

  row_of_number : (m : ℕ) → r.played ≤ m → m ≤ r.played + r.params.lead → IsInRow r.collector m
  row_of_number m low' high' = record {
    low = omega (arith, low', ok.collects.begins);
    high = omega (arith, high', ok.collects.begins, ok.row);
  }

  abbrev with_part : Kept
  with_part = record r { collector = c; store = s }

  number_same : (k : ℕ) → slot_number s k ≡ slot_number r.store k
  number_same k = ap (λ (l : List (Option ℕ)). get_or l k None) d.store.numbers

  slot_same : (k : ℕ) → k < r.params.slots → picture_in s k ≡ picture_in r.store k
  slot_same k lt = d.store.others k (λ e. omega (arith, lt, e, ok.slots))

  pub in_part : all_below (mbs_of r.params.format) (has_in c n) ≡ false
      → IsAfterSlice (decoding r.params.format) (rules_of r.params) (seen r) (seen with_part) n p
  in_part none = record {
    played = refl;
    screen = screen_still r.params some r.store s r.played (work_of r.params n) r.exact ok.slots d.store last_differs;
    header = ap (option_map call_header_of) d.header;
    has = has_after;
    drawn = drawn;
    left = left;
    rows = λ m row ne. let kept = d.rows m (row_of_number m row.0 row.1) ne in (
      ap (option_map call_header_of) kept.0,
      kept.1,
      picture_still r.params some r.store s m (work_of r.params n) ok.slots d.store
          (work_differs m row.0 row.1 ne),
    );
    part = λ e. (number_same (n % r.params.slots), slot_same (n % r.params.slots) (mod-lt n some));
    whole = λ e. absurd (both _ e (all_is ∙ none));
    slots = λ rest lt ne. (number_same rest, slot_same rest lt);
  }

  module _ (u : StoredPictures) (k : Keeps s u n (work_of r.params n)) (all : all_below (mbs_of r.params.format)
      (has_in c n)
      ≡ true) where
    abbrev with_whole : Kept
    with_whole = record r { collector = c; store = u }

    slots_kept : slots_of u ≡ slots_of s
    slots_kept = ap length k.numbers ∙ length-set s.numbers (slot_of s n) (Some n)

    slot_is : slot_of s n ≡ n % r.params.slots
    slot_is = ap (λ (i : ℕ). n % i) slots_are

    long : length s.pictures ≡ r.params.slots + (r.params.lead + 2)
    long = d.store.many ∙ ok.works

    other_slot : (i : ℕ) → i < r.params.slots → (i ≡ n % r.params.slots → ⊥) → (slot_number u i ≡ slot_number s i)
        × (picture_in u i ≡ picture_in s i)
    other_slot i lt ne = (
      ap (λ (l : List (Option ℕ)). get_or l i None) k.numbers
          ∙ get_or-set_other s.numbers (slot_of s n) i (Some n) None (λ e. ne (e ∙ slot_is)),
      k.others i (omega (arith, lt, long)) (λ e. ne (e ∙ slot_is)) (λ e. omega (arith, e, lt, slots_are)),
    )

    other_work : (w : ℕ) → w < r.params.lead + 2 → (w ≡ work_of r.params n → ⊥) → work_in u w ≡ work_in s w
    other_work w lt ne =
        let small : n % r.params.slots < r.params.slots = mod-lt n some in
        ap (λ (i : ℕ). picture_in u (i + w)) slots_kept
        ∙ k.others (slots_of s + w) (omega (arith, lt, long, slots_are)) (λ e. omega (
          arith,
          e,
          slot_is,
          small,
          slots_are,
        )) (λ e. ne (omega (arith, e)))

    own_number : slot_number u (n % r.params.slots) ≡ Some n
    own_number =
        ap (λ (l : List (Option ℕ)). get_or l (n % r.params.slots) None) k.numbers
        ∙ ap (λ (i : ℕ). get_or (set s.numbers (slot_of s n) (Some n)) i None) (sym slot_is)
        ∙ get_or-set_same s.numbers (slot_of s n) (Some n) None (subst (λ (i : ℕ). i < slots_of s) (sym slot_is)
        (let lt : n % r.params.slots < r.params.slots = mod-lt n some in omega (arith, lt, slots_are)))

    own_picture : picture_in u (n % r.params.slots) ≡ work_in s (work_of r.params n)
    own_picture = ap (picture_in u) (sym slot_is) ∙ k.kept

    own_at : open_picture r.params u n ≡ open_picture r.params s n
    own_at =
        ap (λ (o : Option ℕ). if option_map_or (λ i. eqb i n) o false then picture_in u
        (n % r.params.slots) else work_in u (work_of r.params n)) own_number
        ∙ ap (λ (b : Bool). if b then picture_in u (n % r.params.slots) else work_in u (work_of r.params n))
        (eq-eqb n n refl)
        ∙ own_picture ∙ sym (at_work s d.store.numbers)

    screen_kept : (exact : Bool) → (exact ≡ true → 1 ≤ r.played) → screen_in r.params u exact r.played
        ≡ screen_in r.params s exact r.played
    screen_kept true first =
        (other_slot ((r.played - 1) % r.params.slots) (mod-lt (r.played - 1) some)
        (λ e. let one = first refl in
        apart far r.params.slots (r.played - 1) n (omega (arith, low, one)) (omega (
          arith,
          high,
          one,
          ok.params.lead,
        )) e)).1
    screen_kept false first = other_work (last_work r.params r.played) (mod-lt (r.played + r.params.lead + 1)
        (omega arith)) last_differs

    at_kept : (m : ℕ) → r.played ≤ m → m ≤ r.played + r.params.lead → (m ≡ n → ⊥) → open_picture r.params u m
        ≡ open_picture r.params s m
    at_kept m low' high' ne =
        let slot = other_slot (m % r.params.slots) (mod-lt m some) (slot_differs m low' high' ne) in
        let work = other_work (work_of r.params m) (mod-lt m (omega arith)) (work_differs m low' high' ne) in
        λ i. if option_map_or (λ j. eqb j m) (slot.0 i) false then slot.1 i else work i

    pub in_whole : IsAfterSlice (decoding r.params.format) (rules_of r.params) (seen r) (seen with_whole) n p
    in_whole =
        record {
          played = refl;
          screen = screen_kept r.exact (λ e. (ok.exact e).0)
              ∙ screen_still r.params some r.store s r.played (work_of r.params n) r.exact ok.slots d.store
              last_differs;
          header = ap (option_map call_header_of) d.header;
          has = has_after;
          drawn = λ i inside has. ap (λ (q : Picture). sample_of q (spot r.params.format i)) own_at
              ∙ drawn i inside has;
          left = λ i inside has. ap (λ (q : Picture). sample_of q (spot r.params.format i)) own_at ∙ left i inside has;
          rows = λ m row ne. let kept = d.rows m (row_of_number m row.0 row.1) ne in (
            ap (option_map call_header_of) kept.0,
            kept.1,
            at_kept m row.0 row.1 ne ∙ picture_still r.params some r.store s m (work_of r.params n) ok.slots d.store
                (work_differs m row.0 row.1 ne),
          );
          part = λ e. absurd (both _ all (sym all_is ∙ e));
          whole = λ e. (own_number, made);
          slots = λ rest lt ne. let kept = other_slot rest lt ne in
              (kept.0 ∙ number_same rest, kept.1 ∙ slot_same rest lt);
        }
      where
        is_at : open_picture r.params u n ≡ work_in s (work_of r.params n)
        is_at = own_at ∙ at_work s d.store.numbers

        made : picture_in u (n % r.params.slots)
            ≡ picture_by r.params.format (λ i. sample_of (open_picture r.params u n) (spot r.params.format i))
        made =
            own_picture
            ∙ by.only r.params.format (work_in s (work_of r.params n)) (λ i. sample_of (open_picture r.params u n)
            (spot r.params.format i)) d.whole.0 d.whole.1.whole
            (λ i inside. ap (λ (q : Picture). sample_of q (spot r.params.format i)) (sym is_at))
