-- A store some of whose pictures aren't drawn yet, and what it is once they are.
use Rattle.std.proofs.Common.{◌≡◌, ℕ, zero, suc, ◌+◌, ◌<◌, refl, sym, ap, ◌∙◌, subst, arith, inl, inr, List, Option, Some, None, length, mod-lt, set}
use Rattle.std.proofs.lemmas.Bool.{cases_eq}
use Rattle.std.proofs.lemmas.List.{get_or-set_same, get_or-set_other, length-set, set-get_or}
use Rattle.std.proofs.lemmas.List.FromFn.{length-map-range_with_len, get_or-map-range_with_len}
use Rattle.h263_types.specs.declared.format.Format.{Format}
use Rattle.h263_planes.specs.Picture.{Picture}
use Rattle.picture_recon.specs.Samples.{reconstruction}
use Rattle.picture_recon.specs.Undrawn.{undrawn_mbs}
use Rattle.picture_store.specs.Pictures.{StoredPictures, IsEmpty, Keeps, picture_in, slot_of, slots_of, work_in}
use Rattle.sender_end.specs.Coding.{IsCodedInto}
use Rattle.sender_end.specs.Late.{AreDrawn, AreKeptAs, AreLate, CanBeDrawn, once_drawn, pictures_once_drawn, quant_at, store_once_drawn}

-- ---- one picture

pub drawn_already : (q : ℕ) (p : Picture) → q ≡ 0 → once_drawn q p ≡ p
unfolding once_drawn
drawn_already zero p none = refl
drawn_already (suc q) p none = absurd (omega (arith, none))

pub drawn_later : (q : ℕ) (p : Picture) → 0 < q → once_drawn q p ≡ reconstruction p.format 0 None (undrawn_mbs q p)
unfolding once_drawn
drawn_later zero p some = absurd (omega (arith, some))
drawn_later (suc q) p some = refl

-- ---- its pictures

pub as_many : (quants : List ℕ) (store : StoredPictures) → length (pictures_once_drawn quants store)
    ≡ length store.pictures
unfolding pictures_once_drawn
as_many quants store = length-map-range_with_len (λ k. once_drawn (quant_at quants k) (picture_in store k)) 0
    (length store.pictures)

pub seen_at : (quants : List ℕ) (store : StoredPictures) (k : ℕ) → k < length store.pictures
    → picture_in (store_once_drawn quants store) k ≡ once_drawn (quant_at quants k) (picture_in store k)
unfolding pictures_once_drawn
seen_at quants store k below =
    get_or-map-range_with_len (λ k. once_drawn (quant_at quants k) (picture_in store k)) 0 (length store.pictures) k k
    _ below (omega arith)

-- one that is drawn
pub seen_drawn : (quants : List ℕ) (store : StoredPictures) (k : ℕ) → k < length store.pictures → quant_at quants k ≡ 0
    → picture_in (store_once_drawn quants store) k ≡ picture_in store k
seen_drawn quants store k below none = seen_at quants store k below
    ∙ drawn_already (quant_at quants k) (picture_in store k) none

same_drawn : {q r : ℕ} {p o : Picture} → q ≡ r → p ≡ o → once_drawn q p ≡ once_drawn r o
same_drawn a b = λ i. once_drawn (a i) (b i)

-- ---- the kept pictures

pub kept_as : (quants more : List ℕ) (old new : StoredPictures) → length old.pictures ≡ slots_of old + 1
    → new.format ≡ old.format → new.numbers ≡ old.numbers
    → length new.pictures ≡ length old.pictures → new.room ≡ old.room
    → ((k : ℕ) → k < slots_of old → once_drawn (quant_at more k) (picture_in new k)
    ≡ once_drawn (quant_at quants k) (picture_in old k))
    → AreKeptAs (store_once_drawn quants old) (store_once_drawn more new)
kept_as quants more old new works format numbers pictures room each = record {
  format = format;
  numbers = numbers;
  pictures = as_many more new ∙ pictures ∙ sym (as_many quants old);
  room = room;
  others = λ k below.
      seen_at more new k (omega (arith, below, works, pictures)) ∙ each k below
      ∙ sym (seen_at quants old k (omega (arith, below, works)));
}

pub kept_itself : (store : StoredPictures) → AreKeptAs store store
kept_itself store = record { format = refl; numbers = refl; pictures = refl; room = refl; others = λ k below. refl }

-- ---- a quantiser that is set

pub quant_set : (quants : List ℕ) (at q : ℕ) → at < length quants → quant_at (set quants at q) at ≡ q
quant_set quants at q below = get_or-set_same quants at q 0 below

pub quant_other : (quants : List ℕ) (at k q : ℕ) → (k ≡ at → ⊥) → quant_at (set quants at q) k ≡ quant_at quants k
quant_other quants at k q differ = get_or-set_other quants at k q 0 differ

pub set_same : (quants : List ℕ) (at q : ℕ) → quant_at quants at ≡ q → set quants at q ≡ quants
set_same quants at q is = ap (set quants at) (sym is) ∙ set-get_or quants at 0

-- one that is drawn more, or none
pub still_drawn : (quants : List ℕ) (at : ℕ) → at < length quants → AreDrawn quants → AreDrawn (set quants at 0)
still_drawn quants at below drawn k = elim (cases_eq k at) [
  | inl same ↦ subst (λ (n : ℕ). quant_at (set quants at 0) n ≡ 0) (sym same) (quant_set quants at 0 below)
  | inr differ ↦ quant_other quants at k 0 differ ∙ drawn k
]

pub can_as : {q r : ℕ} {p o : Picture} → q ≡ r → p ≡ o → CanBeDrawn q p → CanBeDrawn r o
can_as {q} {r} {p} {o} a b can = subst (λ (x : Picture). CanBeDrawn r x) b (subst (λ (n : ℕ). CanBeDrawn n p) a can)

-- Where a store has another work picture, with this quantiser, and the same kept ones: the work picture is the last.
pub late_with : (quants : List ℕ) (q : ℕ) (old new : StoredPictures) → AreLate quants old → new.numbers ≡ old.numbers
    → length new.pictures ≡ length old.pictures
    → ((k : ℕ) → k < slots_of old → picture_in new k ≡ picture_in old k) → (0 < q → CanBeDrawn q (work_in new 0))
    → AreLate (set quants (slots_of old) q) new
late_with quants q old new are numbers pictures others work =
    let slots = slots_of old in
    let same : slots_of new ≡ slots = ap (λ (l : List (Option ℕ)). length l) numbers in
    record {
      count = length-set quants slots q ∙ are.count ∙ sym pictures;
      works = pictures ∙ are.works ∙ ap (λ (n : ℕ). n + 1) (sym same);
      some = omega (arith, are.some, same);
      late = λ k below some. elim (cases_eq k slots) [
        | inl here ↦
            let at : k ≡ slots_of new + 0 = omega (arith, here, same) in
            let is : quant_at (set quants slots q) k ≡ q = ap (quant_at (set quants slots q)) here
            ∙ quant_set quants slots q (omega (arith, are.count, are.works)) in
            can_as (sym is) (ap (λ (n : ℕ). picture_in new n) (sym at)) (work (omega (arith, some, is)))
        | inr differ ↦
            let is : quant_at (set quants slots q) k ≡ quant_at quants k = quant_other quants slots k q differ in
            let inside : k < slots = omega (arith, below, differ, pictures, are.works) in
            can_as (sym is) (sym (others k inside)) (are.late k (omega (arith, inside, are.works))
            (omega (arith, some, is)))
      ];
    }

-- ---- a picture that is coded

-- The kept pictures of `start` and of `old` are the same once they are drawn, and one is coded into `old`.
pub coded_as : (start : StoredPictures) (quants : List ℕ) (q : ℕ) (old new : StoredPictures) (raw picture : Picture)
    → AreLate quants old
    → AreKeptAs start (store_once_drawn quants old) → IsCodedInto old new raw → once_drawn q raw ≡ picture
    → IsCodedInto start (store_once_drawn (set quants (slots_of old) q) new) picture
coded_as start quants q old new raw picture are kept coded is =
    let slots = slots_of old in
    let more = set quants slots q in
    let same : slots_of new ≡ slots = ap (λ (l : List (Option ℕ)). length l) coded.numbers in
    let first : slots_of start ≡ slots = ap (λ (l : List (Option ℕ)). length l) (sym kept.numbers) in
    record {
      format = coded.format ∙ kept.format;
      numbers = coded.numbers ∙ kept.numbers;
      pictures = as_many more new ∙ coded.pictures ∙ sym (as_many quants old) ∙ kept.pictures;
      work =
          let at : slots_of new + 0 ≡ slots = omega (arith, same) in
          let has : quant_at more (slots_of new + 0) ≡ q = ap (quant_at more) at
          ∙ quant_set quants slots q (omega (arith, are.count, are.works)) in
          seen_at more new (slots_of new + 0) (omega (arith, same, coded.pictures, are.works))
          ∙ same_drawn has coded.work ∙ is;
      others = λ k below.
          let inside : k < slots = omega (arith, below, first) in
          seen_at more new k (omega (arith, inside, coded.pictures, are.works))
          ∙ same_drawn (quant_other quants slots k q (λ e. omega (arith, inside, e))) (coded.others k inside)
          ∙ sym (seen_at quants old k (omega (arith, inside, are.works)))
          ∙ kept.others k below;
    }

-- ---- one that is drawn

-- the work picture is given up
pub without_work : (quants : List ℕ) (store : StoredPictures) → AreLate quants store
    → AreLate (set quants (slots_of store) 0) store
without_work quants store are = late_with quants 0 store store are refl refl (λ k below. refl)
    (λ some. absurd (omega (arith, some)))

pub kept_without_work : (quants : List ℕ) (store : StoredPictures) → AreLate quants store
    → AreKeptAs (store_once_drawn quants store) (store_once_drawn (set quants (slots_of store) 0) store)
kept_without_work quants store are =
    kept_as quants (set quants (slots_of store) 0) store store are.works refl refl refl refl
    (λ k below. same_drawn (quant_other quants (slots_of store) k 0 (λ e. omega (arith, below, e))) refl)

-- the picture of one slot is drawn, where there is no work picture
module _ (quants : List ℕ) (old new : StoredPictures) (slot : ℕ) (are : AreLate quants old)
    (below : slot < slots_of old)
    (free : quant_at quants (slots_of old) ≡ 0)
    (format : new.format ≡ old.format) (numbers : new.numbers ≡ old.numbers) (pictures : length new.pictures
    ≡ length old.pictures) (room : new.room ≡ old.room)
    (drawn : picture_in new slot ≡ once_drawn (quant_at quants slot) (picture_in old slot))
    (others : (k : ℕ) → k < slots_of old → (k ≡ slot → ⊥) → picture_in new k ≡ picture_in old k) where
  slot_inside : slot < length quants
  slot_inside = omega (arith, below, are.count, are.works)

  pub drawn_late : AreLate (set quants slot 0) new
  drawn_late =
      let same : slots_of new ≡ slots_of old = ap (λ (l : List (Option ℕ)). length l) numbers in
      record {
        count = length-set quants slot 0 ∙ are.count ∙ sym pictures;
        works = pictures ∙ are.works ∙ ap (λ (n : ℕ). n + 1) (sym same);
        some = omega (arith, are.some, same);
        late = λ k inside some. elim (cases_eq k slot) [
          | inl here ↦
              let none : quant_at (set quants slot 0) k ≡ 0 = ap (quant_at (set quants slot 0)) here
              ∙ quant_set quants slot 0 slot_inside in
              absurd (omega (arith, some, none))
          | inr differ ↦
              let is : quant_at (set quants slot 0) k ≡ quant_at quants k = quant_other quants slot k 0 differ in
              elim (cases_eq k (slots_of old)) [
                | inl last ↦
                    let none : quant_at quants k ≡ 0 = ap (quant_at quants) last ∙ free in
                    absurd (omega (arith, some, is, none))
                | inr earlier ↦
                    let kept : k < slots_of old = omega (arith, inside, earlier, pictures, are.works) in
                    can_as (sym is) (sym (others k kept differ)) (are.late k (omega (arith, inside, pictures))
                    (omega (arith, some, is)))
              ]
        ];
      }

  pub drawn_kept : AreKeptAs (store_once_drawn quants old) (store_once_drawn (set quants slot 0) new)
  drawn_kept =
      kept_as quants (set quants slot 0) old new are.works format numbers pictures room
      (λ k kept. elim (cases_eq k slot) [
        | inl here ↦
            subst (λ (n : ℕ). once_drawn (quant_at (set quants slot 0) n) (picture_in new n)
            ≡ once_drawn (quant_at quants n) (picture_in old n)) (sym here)
            (drawn_already (quant_at (set quants slot 0) slot) (picture_in new slot)
            (quant_set quants slot 0 slot_inside) ∙ drawn)
        | inr differ ↦ same_drawn (quant_other quants slot k 0 differ) (others k kept differ)
      ])

pub kept_twice : {a b c : StoredPictures} → AreKeptAs a b → AreKeptAs b c → AreKeptAs a c
kept_twice first second = record {
  format = second.format ∙ first.format;
  numbers = second.numbers ∙ first.numbers;
  pictures = second.pictures ∙ first.pictures;
  room = second.room ∙ first.room;
  others = λ k below.
      second.others k (omega (arith, below, ap (λ (l : List (Option ℕ)). length l) first.numbers))
      ∙ first.others k below;
}

-- ---- the work picture is kept

-- the quantisers then: that of the work picture goes to the slot
abbrev moved : List ℕ → StoredPictures → ℕ → List ℕ
moved quants old number = set quants (slot_of old number) (quant_at quants (slots_of old))

abbrev pub after_keep : List ℕ → StoredPictures → ℕ → List ℕ
after_keep quants old number = set (moved quants old number) (slots_of old) 0

module _ (quants : List ℕ) (old new : StoredPictures) (number : ℕ) (are : AreLate quants old)
    (keeps : Keeps old new number 0) where
  abbrev afterwards : List ℕ
  afterwards = after_keep quants old number

  slot_low : slot_of old number < slots_of old
  slot_low = mod-lt number are.some

  at_slot : quant_at afterwards (slot_of old number) ≡ quant_at quants (slots_of old)
  at_slot =
      quant_other (moved quants old number) (slots_of old) (slot_of old number) 0 (λ e. omega (arith, slot_low, e))
      ∙ quant_set quants (slot_of old number) (quant_at quants (slots_of old)) (omega (
        arith,
        slot_low,
        are.count,
        are.works,
      ))

  elsewhere : (k : ℕ) → (k ≡ slot_of old number → ⊥) → (k ≡ slots_of old → ⊥) → quant_at afterwards k
      ≡ quant_at quants k
  elsewhere k one last = quant_other (moved quants old number) (slots_of old) k 0 last
      ∙ quant_other quants (slot_of old number) k (quant_at quants (slots_of old)) one

  at_work : quant_at afterwards (slots_of old) ≡ 0
  at_work = quant_set (moved quants old number) (slots_of old) 0
      (omega (arith, length-set quants (slot_of old number) (quant_at quants (slots_of old)), are.count, are.works))

  same_slots : slots_of new ≡ slots_of old
  same_slots = ap (λ (l : List (Option ℕ)). length l) keeps.numbers
      ∙ length-set old.numbers (slot_of old number) (Some number)

  last_is : slots_of old + 0 ≡ slots_of old
  last_is = omega arith

  pub kept_late : AreLate afterwards new
  kept_late = record {
    count = length-set (moved quants old number) (slots_of old) 0
        ∙ length-set quants (slot_of old number) (quant_at quants (slots_of old)) ∙ are.count ∙ sym keeps.works;
    works = keeps.works ∙ are.works ∙ ap (λ (n : ℕ). n + 1) (sym same_slots);
    some = omega (arith, are.some, same_slots);
    late = λ k inside some. elim (cases_eq k (slot_of old number)) [
      | inl here ↦
          let is : quant_at afterwards k ≡ quant_at quants (slots_of old) = ap (quant_at afterwards) here ∙ at_slot in
          let from : work_in old 0 ≡ picture_in new k = sym (ap (λ (n : ℕ). picture_in new n) here ∙ keeps.kept) in
          let there : picture_in old (slots_of old) ≡ picture_in new k = ap (λ (n : ℕ). picture_in old n) (sym last_is)
          ∙ from in
          can_as (sym is) there (are.late (slots_of old) (omega (arith, are.works)) (omega (arith, some, is)))
      | inr differ ↦ elim (cases_eq k (slots_of old)) [
        | inl last ↦
            let none : quant_at afterwards k ≡ 0 = ap (quant_at afterwards) last ∙ at_work in
            absurd (omega (arith, some, none))
        | inr earlier ↦
            let is : quant_at afterwards k ≡ quant_at quants k = elsewhere k differ earlier in
            let before : k < length old.pictures = omega (arith, inside, keeps.works) in
            can_as (sym is) (sym (keeps.others k before differ (λ e. earlier (e ∙ last_is))))
            (are.late k before (omega (arith, some, is)))
      ]
    ];
  }

  pub kept_seen : Keeps (store_once_drawn quants old) (store_once_drawn afterwards new) number 0
  kept_seen = record {
    format = keeps.format;
    numbers = keeps.numbers;
    works = as_many afterwards new ∙ keeps.works ∙ sym (as_many quants old);
    room = keeps.room;
    kept =
        seen_at afterwards new (slot_of old number) (omega (arith, slot_low, keeps.works, are.works))
        ∙ same_drawn (at_slot ∙ ap (quant_at quants) (sym last_is)) keeps.kept
        ∙ sym (seen_at quants old (slots_of old + 0) (omega (arith, are.works)));
    others = λ k inside differ last.
        let before : k < length old.pictures = omega (arith, inside, as_many quants old) in
        seen_at afterwards new k (omega (arith, before, keeps.works))
        ∙ same_drawn (elsewhere k differ (λ e. last (e ∙ sym last_is))) (keeps.others k before differ last)
        ∙ sym (seen_at quants old k before);
  }

pub kept_drawn : (quants : List ℕ) (old : StoredPictures) (number : ℕ) → AreLate quants old → AreDrawn quants
    → AreDrawn (after_keep quants old number)
kept_drawn quants old number are drawn =
    let low : slot_of old number < slots_of old = mod-lt number are.some in
    still_drawn (moved quants old number) (slots_of old)
    (omega (arith, length-set quants (slot_of old number) (quant_at quants (slots_of old)), are.count, are.works))
    (λ k. elim (cases_eq k (slot_of old number)) [
      | inl here ↦
          ap (quant_at (moved quants old number)) here
          ∙ quant_set quants (slot_of old number) (quant_at quants (slots_of old)) (omega (
            arith,
            low,
            are.count,
            are.works,
          )) ∙ drawn (slots_of old)
      | inr differ ↦ quant_other quants (slot_of old number) k (quant_at quants (slots_of old)) differ ∙ drawn k
    ])

-- ---- an empty store

pub empty_seen : (f : Format) (slots works : ℕ) (quants : List ℕ) (store : StoredPictures) → IsEmpty f slots works store
    → IsEmpty f slots works (store_once_drawn quants store)
empty_seen f slots works quants store empty = record {
  format = empty.format;
  numbers = empty.numbers;
  pictures = as_many quants store ∙ empty.pictures;
  room = empty.room;
}
