-- What a play leaves, as the laws of a call see it.
use Rattle.std.proofs.Common.{◌≡◌, ℕ, ◌+◌, ◌-◌, ◌*◌, ◌%◌, ◌^◌, ◌<◌, ◌≤◌, Bool, true, false, eqb, List, ◌∷◌, length, get_or, Option, Some, None, refl, ap, sym, ◌∙◌, subst, arith}
use Rattle.std.specs.Prelude.{if◌then◌else◌}
use Rattle.std.specs.Option.{option_map, option_map_or}
use Rattle.std.proofs.Math.Nat.{add-mul-mod_self_left}
use Rattle.std.proofs.lemmas.Bool.{ne_eqb, eqb-true, eqb-false}
use Rattle.h263_types.specs.declared.format.Format.{Format}
use Rattle.h263_types.specs.Sizes.{mbs_of}
use Rattle.h263_planes.specs.Picture.{Picture}
use Rattle.h263_planes.specs.Spots.{spot, sample_of, owner_of, picture_by, AreSpots, ArePicturesBySamples}
use Rattle.picture_store.specs.Pictures.{StoredPictures, slots_of, slot_number, picture_in, work_in, IsKept}
use Rattle.packet_collector.specs.declared.collector.Collector.{Collector}
use Rattle.packet_collector.specs.Taken.{is_any_taken}
use Rattle.packet_collector.specs.Collected.{Collects, IsInRow, IsRowFrom, first_of, header_in, has_in}
use Rattle.call_model.specs.Numbers.{OneRestIsFar}
use Rattle.call_model.specs.Receiving.{ReceiverEntry, PlayNext, receiver_run}
use Rattle.call_model.specs.Stands.{Receiver, fits_kept}
use Rattle.call_model.specs.ReceiverStanding.{IsAfterPlay, PlayStands, picture_by_kept}
use Rattle.call_decoding.specs.Rules.{rules_of}
use Rattle.call_decoding.specs.Styles.{Style, call_header_of}
use Rattle.receiver_end.specs.declared.kept.Kept.{Kept}
use Rattle.receiver_end.specs.Decoding.{decoding}
use Rattle.receiver_end.specs.State.{Fits, seen, slot_holds, open_picture, screen_in, work_of, last_work, Stands}
use Rattle.receiver_end.specs.Steps.{IsShownIn}
use Rattle.receiver_end.proofs.Headers.{one_kept, kept_none, none_of, untaken}
use Rattle.receiver_end.proofs.Rings.{apart}
use Rattle.receiver_end.proofs.AfterSlice.{picture_still}

one_round : (n d m : ℕ) → m ≡ n + d → m % d ≡ n % d
one_round n d m e = let one : m ≡ n + d * 1 = omega (arith, e) in ap (λ (k : ℕ). k % d) one
    ∙ add-mul-mod_self_left n d 1

module _ (far : OneRestIsFar) (spots : AreSpots) (by : ArePicturesBySamples) (r : Kept) (c : Collector)
    (s : StoredPictures)
    (ok : Fits r)
    (shown : IsShownIn r (slot_holds r.params r.store r.played) s) (collects : Collects c (r.played + 1) ok.taken)
    (same : IsRowFrom (first_of r.collector + 1) r.collector c) (few : r.played < 2 ^ 20) where
  abbrev after : Kept
  after = record r { played = r.played + 1; exact = slot_holds r.params r.store r.played; collector = c; store = s }

  some : 0 < r.params.slots
  some = omega (arith, ok.params.slots_low)

  -- the numbers of the slots stay
  numbers : (b : Bool) → IsShownIn r b s → s.numbers ≡ r.store.numbers
  numbers true is = ap (λ (t : StoredPictures). t.numbers) is
  numbers false is = is.store.numbers

  many : (b : Bool) → IsShownIn r b s → length s.pictures ≡ length r.store.pictures
  many true is = ap (λ (t : StoredPictures). length t.pictures) is
  many false is = is.store.many

  format : (b : Bool) → IsShownIn r b s → s.format ≡ r.store.format
  format true is = ap (λ (t : StoredPictures). t.format) is
  format false is = is.store.format

  slot_same : (b : Bool) → IsShownIn r b s → (k : ℕ) → k < r.params.slots → picture_in s k ≡ picture_in r.store k
  slot_same true is k lt = ap (λ (t : StoredPictures). picture_in t k) is
  slot_same false is k lt = is.store.others k (λ e. omega (arith, lt, e, ok.slots))

  numbers_are : s.numbers ≡ r.store.numbers
  numbers_are = numbers (slot_holds r.params r.store r.played) shown

  work_differs : (m : ℕ) → r.played < m → m ≤ r.played + r.params.lead → work_of r.params m ≡ work_of r.params r.played
      → ⊥
  work_differs m low high e = apart far (r.params.lead + 2) r.played m low (omega (arith, high)) (sym e)

  at_still : (b : Bool) → IsShownIn r b s → (m : ℕ) → r.played < m → m ≤ r.played + r.params.lead
      → open_picture r.params s m ≡ open_picture r.params r.store m
  at_still true is m low high = ap (λ (t : StoredPictures). open_picture r.params t m) is
  at_still false is m low high = picture_still r.params some r.store s m (work_of r.params r.played) ok.slots is.store
      (work_differs m low high)

  kept_then : slot_holds r.params r.store r.played ≡ true → IsKept s r.played
  kept_then held =
      let there : slot_number r.store (r.played % r.params.slots)
      ≡ Some r.played = at (slot_number r.store (r.played % r.params.slots)) held in
      subst (λ (l : List (Option ℕ)). get_or l (r.played % length l) None ≡ Some r.played) (sym numbers_are)
      (subst (λ (k : ℕ). slot_number r.store (r.played % k) ≡ Some r.played) (sym ok.slots) there)
    where
      at : (o : Option ℕ) → option_map_or (λ k. eqb k r.played) o false ≡ true → o ≡ Some r.played
      at None e = absurd cc
      at (Some k) e = ap (λ (i : ℕ). Some i) (eqb-true k r.played e)

  pub fits_after : Fits after
  fits_after = record {
    params = ok.params;
    format = format (slot_holds r.params r.store r.played) shown ∙ ok.format;
    slots = ap length numbers_are ∙ ok.slots;
    works = many (slot_holds r.params r.store r.played) shown ∙ ok.works;
    collected = same.format ∙ ok.collected;
    row = same.many ∙ ok.row;
    few = omega (arith, few);
    exact = λ e. (
      omega arith,
      let back : r.played + 1 - 1 ≡ r.played = omega arith in
          subst (IsKept s) (sym back) (kept_then e),
    );
    taken = ok.taken;
    collects = collects;
  }

  -- the new screen
  last_is : last_work r.params (r.played + 1) ≡ work_of r.params r.played
  last_is = one_round r.played (r.params.lead + 2) (r.played + 1 + r.params.lead + 1) (omega arith)

  slots_are : slots_of s ≡ slots_of r.store
  slots_are = ap length numbers_are

  abbrev over : ℕ → ℕ
  over i =
      if has_in r.collector r.played (owner_of r.params.format i) then sample_of
      (open_picture r.params r.store r.played)
      (spot r.params.format i)
      else sample_of (screen_in r.params r.store r.exact r.played) (spot r.params.format i)

  abbrev the_picture : Bool → Picture
  the_picture b = if b then picture_in r.store (r.played % r.params.slots) else picture_by r.params.format over

  picture_is : (b : Bool) → slot_holds r.params r.store r.played ≡ b
      → the_picture b ≡ picture_by_kept (decoding r.params.format) (rules_of r.params) (seen r)
  unfolding picture_by_kept
  picture_is b held = sym (ap the_picture held)

  at_work : slot_holds r.params r.store r.played ≡ false → open_picture r.params r.store r.played
      ≡ work_in r.store (work_of r.params r.played)
  at_work held = ap (λ (b : Bool). if b then picture_in r.store (r.played % r.params.slots) else work_in r.store
      (work_of r.params r.played)) held

  screen_is : (b : Bool) → slot_holds r.params r.store r.played ≡ b → IsShownIn r b s
      → screen_in r.params s b (r.played + 1)
      ≡ picture_by_kept (decoding r.params.format) (rules_of r.params) (seen r)
  screen_is true held is =
      let back : r.played + 1 - 1 ≡ r.played = omega arith in
      ap (λ (k : ℕ). picture_in s (k % r.params.slots)) back
      ∙ ap (λ (t : StoredPictures). picture_in t (r.played % r.params.slots)) is ∙ picture_is true held
  screen_is false held is =
      ap (work_in s) last_is
      ∙ by.only r.params.format (work_in s (work_of r.params r.played)) over is.whole.0 is.whole.1.whole
      (λ i inside. is.patches (spot r.params.format i).plane (spot r.params.format i).x (spot r.params.format i).y
      (spots.inside r.params.format i inside)
      ∙ ap (λ (q : Picture). if has_in r.collector r.played (owner_of r.params.format i) then sample_of q
      (spot r.params.format i) else sample_of (screen_in r.params r.store r.exact r.played)
      (spot r.params.format i)) (sym (at_work held)))
      ∙ picture_is false held

  -- as it would be seen if the row of the picture that was played were still there
  abbrev before : Receiver Style Picture
  before = record (seen after) {
    header = λ m. if eqb m r.played then (seen r).header m else (seen after).header m;
    has = λ m k. if eqb m r.played then (seen r).has m k else (seen after).has m k;
    work = λ m. if eqb m r.played then (seen r).work m else (seen after).work m;
  }

  in_row : (m : ℕ) → r.played ≤ m → m ≤ r.played + r.params.lead → IsInRow r.collector m
  in_row m low high = record {
    low = omega (arith, low, ok.collects.begins);
    high = omega (arith, high, ok.collects.begins, ok.row);
  }

  in_new_row : (m : ℕ) → r.played < m → m ≤ r.played + r.params.lead + 1 → IsInRow c m
  in_new_row m low high = record {
    low = omega (arith, low, collects.begins);
    high = omega (arith, high, collects.begins, same.many, ok.row);
  }

  header_same : (m : ℕ) → r.played < m → m ≤ r.played + r.params.lead → header_in c m ≡ header_in r.collector m
  header_same m low high = one_kept ok.taken m (header_in c m) (header_in r.collector m)
      (collects.headers m (in_new_row m low (omega (arith, high))))
      (ok.collects.headers m (in_row m (omega (arith, low)) high))

  has_same : (m k : ℕ) → r.played < m → m ≤ r.played + r.params.lead → k < mbs_of r.params.format
      → has_in c m k ≡ has_in r.collector m k
  has_same m k low high lt =
      collects.marks m k (in_new_row m low (omega (arith, high))) (subst (λ (f : Format). k < mbs_of f)
      (sym (same.format ∙ ok.collected)) lt)
      ∙ sym (ok.collects.marks m k (in_row m (omega (arith, low)) high) (subst (λ (f : Format). k < mbs_of f)
      (sym ok.collected) lt))

  new_number : IsInRow c (r.played + r.params.lead + 1)
  new_number = in_new_row (r.played + r.params.lead + 1) (omega arith) (omega arith)

  none_new : is_any_taken ok.taken (r.played + r.params.lead + 1) ≡ false
  none_new = none_of ok.taken (r.played + r.params.lead + 1) (λ t is e. let lt = ok.collects.below t is in
      omega (arith, lt, e, ok.row))

  is_after : IsAfterPlay (decoding r.params.format) (rules_of r.params) (seen r) before
  is_after = record {
    played = refl;
    screen = screen_is (slot_holds r.params r.store r.played) refl shown;
    new_header = let other : r.played + r.params.lead + 1 ≡ r.played → ⊥ = λ e. omega (arith, e) in
        rw (ne_eqb (r.played + r.params.lead + 1) r.played other)
        (ap (option_map call_header_of) (kept_none ok.taken (r.played + r.params.lead + 1)
        (header_in c (r.played + r.params.lead + 1)) none_new
        (collects.headers (r.played + r.params.lead + 1) new_number)));
    new_has = λ k lt. let other : r.played + r.params.lead + 1 ≡ r.played → ⊥ = λ e. omega (arith, e) in
        rw (ne_eqb (r.played + r.params.lead + 1) r.played other)
        (collects.marks (r.played + r.params.lead + 1) k new_number (subst (λ (f : Format). k < mbs_of f)
        (sym (same.format ∙ ok.collected)) lt) ∙ untaken ok.taken (r.played + r.params.lead + 1) k none_new);
    rows = λ m row. row_at m row.0 row.1 (eqb m r.played) refl;
    slots = λ rest lt. (
      ap (λ (l : List (Option ℕ)). get_or l rest None) numbers_are,
      slot_same (slot_holds r.params r.store r.played) shown rest lt,
    );
  }
    where
      row_at : (m : ℕ) → r.played ≤ m → m ≤ r.played + r.params.lead → (b : Bool) → eqb m r.played ≡ b
          → (before.header m ≡ (seen r).header m) × ((k : ℕ) → k < mbs_of r.params.format
          → before.has m k ≡ (seen r).has m k) × (before.work m ≡ (seen r).work m)
      row_at m low high true e = rw e (refl, λ k lt. refl, refl)
      row_at m low high false e =
          let gt : r.played < m = let ne = eqb-false m r.played e in omega (arith, low, ne) in
          rw e (
            ap (option_map call_header_of) (header_same m gt high),
            λ k lt. has_same m k gt high lt,
            at_still (slot_holds r.params r.store r.played) shown m gt high,
          )

  pub stands_after : (past : List ReceiverEntry) → PlayStands (decoding r.params.format) (rules_of r.params)
      → Stands r past → Stands after (PlayNext ∷ past)
  stands_after past law stands =
      let k = law (seen r) before past stands is_after in
      let open_at : (n : ℕ) → (receiver_run (decoding r.params.format) (rules_of r.params) past).played + 1 ≤ n
      → eqb n r.played ≡ false =
      λ n low. ne_eqb n r.played (λ e. omega (arith, e, low, stands.played)) in
      record {
        played = k.played;
        screen = k.screen;
        headers = λ n row h. k.headers n row h
            ∙ ap (λ (b : Bool). fits_kept (decoding r.params.format)
            (if b then (seen r).header n else (seen after).header n) h) (open_at n row.0);
        taken = λ n i row lt. sym (ap (λ (b : Bool). if b then (seen r).has n i else (seen after).has n i)
            (open_at n row.0)) ∙ k.taken n i row lt;
        work = λ n i row inside got. sym
            (ap (λ (b : Bool). sample_of (if b then (seen r).work n else (seen after).work n) (spot r.params.format i))
            (open_at n row.0)) ∙ k.work n i row inside got;
        slots = k.slots;
        pictures = k.pictures;
      }
