-- A receiver that has played, and heard nothing.
use Rattle.std.proofs.Common.{◌≡◌, ℕ, zero, suc, ◌+◌, ◌<◌, ◌≤◌, ◌^◌, false, List, [], length, replicate, get_or, Option, Some, None, refl, ap, sym, ◌∙◌, subst, arith, mod-lt}
use Rattle.std.specs.Option.{option_map}
use Rattle.std.proofs.lemmas.Bool.{false≢true}
use Rattle.std.proofs.lemmas.List.{length-replicate}
use Rattle.h263_types.specs.declared.format.Format.{Format}
use Rattle.h263_types.specs.declared.params.Params.{Params}
use Rattle.h263_types.specs.Params.{IsParams}
use Rattle.h263_types.specs.Sizes.{mbs_of}
use Rattle.h263_planes.specs.Spots.{picture_by}
use Rattle.picture_store.specs.Pictures.{StoredPictures, slots_of, works_of, work_in, IsEmpty}
use Rattle.packet_collector.specs.declared.collector.Collector.{Collector}
use Rattle.packet_collector.specs.Taken.{is_any_taken}
use Rattle.packet_collector.specs.Collected.{Collects, IsInRow, row_of, format_of, header_in}
use Rattle.call_model.specs.Coding.{Rules, Header, Decoding, grey}
use Rattle.call_model.specs.Lawful.{IsDecoding}
use Rattle.call_model.specs.Stands.{Receiver, ReceiverStands, fits_kept}
use Rattle.call_model.specs.ReceiverStanding.{NewReceiverStands, PlayStands, picture_by_kept}
use Rattle.call_decoding.specs.Rules.{rules_of}
use Rattle.call_decoding.specs.Styles.{call_header_of}
use Rattle.receiver_end.specs.declared.kept.Kept.{Kept}
use Rattle.receiver_end.specs.Decoding.{decoding}
use Rattle.receiver_end.specs.State.{Fits, Stands, last_work, plays_alone, seen}
use Rattle.receiver_end.specs.Steps.{IsSameBut}
use Rattle.receiver_end.proofs.Headers.{kept_none, untaken}

abbrev nones : ℕ → List (Option ℕ)
nones n = replicate n None

none_in : (n k : ℕ) → get_or (nones n) k None ≡ None
none_in zero k = refl
none_in (suc n) zero = refl
none_in (suc n) (suc k) = none_in n k

nothing : (n : ℕ) → is_any_taken [] n ≡ false
unfolding is_any_taken
nothing n = refl

low : (n k m : ℕ) → n ≡ k → k ≤ m → n ≤ m
low n k m e h = omega (arith, e, h)

high : (n k m d : ℕ) → n ≡ k → m ≤ k + d → m ≤ n + d
high n k m d e h = omega (arith, e, h)

-- ---- as the laws of a call see it

module _ {Style Mb Picture Fault : Type 0} (decoding : Decoding Style Mb Picture Fault) (rules : Rules)
    (lawful : IsDecoding decoding rules) (new : NewReceiverStands decoding rules)
    (play : PlayStands decoding rules) where
  -- one that has played n pictures, with all rows and slots empty
  abbrev alone : ℕ → Receiver Style Picture
  alone n = record {
    played = n;
    screen = grey decoding.pictures;
    header = λ m. None;
    has = λ m k. false;
    work = λ m. grey decoding.pictures;
    kept = λ rest. None;
    picture = λ rest. grey decoding.pictures;
  }

  -- it goes on to show grey
  shows : (n : ℕ) → picture_by_kept decoding rules (alone n) ≡ grey decoding.pictures
  unfolding picture_by_kept
  shows n = lawful.pictures.picture_same _ _ (λ s inside. lawful.pictures.sample_is (λ (k : ℕ). 128) s inside)

  stood : (n : ℕ) → ReceiverStands decoding rules (alone n) (plays_alone n)
  stood zero = new (alone zero) (record {
    played = refl;
    screen = refl;
    headers = λ n low. refl;
    has = λ n k low lt. refl;
    slots = λ rest lt. refl;
  })
  stood (suc n) =
      play (alone n) (alone (suc n)) (plays_alone n) (stood n)
      (record {
        played = (let e : suc n ≡ n + 1 = omega arith in e);
        screen = sym (shows n);
        new_header = refl;
        new_has = λ k lt. refl;
        rows = λ m in_row. (refl, (λ k lt. refl), refl);
        slots = λ rest lt. (refl, refl);
      })

  -- any that shows grey, and whose rows and slots are empty
  pub stands_alone : (n : ℕ) (r : Receiver Style Picture) → r.played ≡ n → r.screen ≡ grey decoding.pictures
      → ((m : ℕ) → n ≤ m → m ≤ n + rules.lead → r.header m ≡ None)
      → ((m k : ℕ) → n ≤ m → m ≤ n + rules.lead → k < rules.mbs → r.has m k ≡ false)
      → ((rest : ℕ) → rest < rules.slots → r.kept rest ≡ None) → ReceiverStands decoding rules r (plays_alone n)
  stands_alone n r played screen headers has slots =
      let a = stood n in
      record {
        played = played ∙ a.played;
        screen = screen ∙ a.screen;
        headers = λ m inside h. a.headers m inside h
            ∙ ap (λ (o : Option (Header Style)). fits_kept decoding o h)
            (sym (headers m (low n _ m a.played inside.0) (high n _ m rules.lead a.played inside.1)));
        taken = λ m k inside lt. has m k (low n _ m a.played inside.0) (high n _ m rules.lead a.played inside.1) lt
            ∙ a.taken m k inside lt;
        work = λ m s inside lt is. absurd (false≢true (a.taken m (decoding.pictures.owner s) inside lt ∙ is));
        slots = λ rest lt. slots rest lt ∙ a.slots rest lt;
        pictures = λ rest m lt is. absurd (apart m (a.slots rest lt ∙ is));
      }
    where
      apart : (m : ℕ) → (let o : Option ℕ = None in o) ≡ Some m → ⊥
      apart m e = cc

-- ---- what is kept

module _ (p : Params) (old : StoredPictures) (slots : slots_of old ≡ p.slots) (many : length old.pictures
    ≡ p.slots + (p.lead + 2)) where
  works_are : works_of old ≡ p.lead + 2
  works_are = omega (arith, slots, many)

  -- a receiver's store that keeps no picture any more is one as at its start
  pub emptied : (new : StoredPictures) → old.format ≡ p.format → IsEmpty old.format (slots_of old) (works_of old) new
      → IsEmpty p.format p.slots (p.lead + 2) new
  emptied new format empty =
      subst (λ (f : Format). IsEmpty f p.slots (p.lead + 2) new) format
      (subst (λ (n : ℕ). IsEmpty old.format n (p.lead + 2) new) slots
      (subst (λ (w : ℕ). IsEmpty old.format (slots_of old) w new) works_are empty))

-- the work picture on the screen is one of such a store
pub last_inside : (p : Params) (n : ℕ) (s : StoredPictures) → IsEmpty p.format p.slots (p.lead + 2) s
    → last_work p n < works_of s
last_inside p n s empty =
    let slots : length s.numbers ≡ p.slots = ap (λ (l : List (Option ℕ)). length l) empty.numbers
    ∙ length-replicate p.slots None in
    let below : last_work p n < p.lead + 2 = mod-lt (n + p.lead + 1) (omega arith) in
    omega (arith, below, slots, empty.pictures)

module _ (p : Params) (is : IsParams p) (n : ℕ) (c : Collector) (s t : StoredPictures)
    (empty : IsEmpty p.format p.slots (p.lead + 2) s) (same : IsSameBut s t (last_work p n))
    (collects : Collects c n []) (many : row_of c ≡ p.lead + 1) (format : format_of c ≡ p.format) where
  abbrev new_at : Kept
  new_at = record { params = p; played = n; exact = false; collector = c; store = t }

  row : (m : ℕ) → n ≤ m → m ≤ n + p.lead → IsInRow c m
  row m low high = record {
    low = omega (arith, low, collects.begins);
    high = omega (arith, high, collects.begins, many);
  }

  pub is_alone : IsDecoding (decoding p.format) (rules_of p) → NewReceiverStands (decoding p.format) (rules_of p)
      → PlayStands (decoding p.format) (rules_of p)
      → work_in t (last_work p n) ≡ picture_by p.format (λ s. 128) → Stands new_at (plays_alone n)
  is_alone lawful law_new law_play grey_there =
      stands_alone (decoding p.format) (rules_of p) lawful law_new law_play n (seen new_at) refl grey_there
      (λ m low high. ap (option_map call_header_of) (kept_none [] m (header_in c m) (nothing m)
      (collects.headers m (row m low high))))
      (λ m k low high lt. collects.marks m k (row m low high) (subst (λ (f : Format). k < mbs_of f) (sym format) lt)
      ∙ untaken [] m k (nothing m))
      (λ rest lt. ap (λ (l : List (Option ℕ)). get_or l rest None) (same.numbers ∙ empty.numbers)
      ∙ none_in p.slots rest)

  pub fits_alone : n ≤ 2 ^ 20 → Fits new_at
  fits_alone few = record {
    params = is;
    format = same.format ∙ empty.format;
    slots = ap (λ (l : List (Option ℕ)). length l) (same.numbers ∙ empty.numbers) ∙ length-replicate p.slots None;
    works = same.many ∙ empty.pictures;
    collected = format;
    row = many;
    few = few;
    exact = λ e. absurd (false≢true e);
    taken = [];
    collects = collects;
  }
