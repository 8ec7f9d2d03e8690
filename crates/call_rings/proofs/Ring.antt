-- What a ring keeps of all pictures, after one more was begun, and after one more packet.
use Rattle.std.proofs.Common.{◌≡◌, ℕ, zero, suc, ◌+◌, ◌-◌, ◌<◌, ◌≤◌, inl, inr, List, [], ◌∷◌, ◌++◌, length, take, drop, get_or, refl, sym, ap, ◌∙◌, subst, arith, Option, Some}
use Rattle.std.specs.Prelude.{slice_get, IfSome, All}
use Rattle.std.proofs.lemmas.Bool.{cases_lt}
use Rattle.std.proofs.lemmas.Option.{slice_get_within, get_or_from_slice_get}
use Rattle.std.proofs.lemmas.List.Elements.{All-drop, All-push}
use Rattle.std.proofs.lemmas.List.{length-append, length-drop, length-take-le, get_or_append_left, get_or_push}
use Rattle.circular_buffer.specs.Buffer.{Buffer, buffer, keep_last, last_item}
use Rattle.call_rings.specs.declared.kept.KeptPackets.{KeptPackets}
use Rattle.call_rings.specs.declared.sent_packets.SentPackets.{SentPackets}
use Rattle.call_rings.specs.Kept.{KeepsPackets}
use Rattle.call_rings.specs.Keeping.{PacketsOfPictures, HoldsPackets}

-- ---- one item of a list

module _ {X : Type 0} where
  pub get_before : (xs : List X) (x : X) (i : ℕ) → i < length xs → slice_get (xs ++ x ∷ []) i ≡ slice_get xs i
  get_before [] x i lt = absurd (omega arith)
  get_before (y ∷ xs) x zero lt = refl
  get_before (y ∷ xs) x (suc i) lt = get_before xs x i (omega arith)

  pub get_pushed : (xs : List X) (x : X) (i : ℕ) → i ≡ length xs → slice_get (xs ++ x ∷ []) i ≡ Some x
  get_pushed [] x i e = ap (λ (k : ℕ). slice_get (x ∷ []) k) e
  get_pushed (y ∷ xs) x zero e = absurd (omega arith)
  get_pushed (y ∷ xs) x (suc i) e = get_pushed xs x i (omega arith)

  pub get_dropped : (xs : List X) (i : ℕ) → slice_get (drop 1 xs) i ≡ slice_get xs (suc i)
  get_dropped [] i = refl
  get_dropped (x ∷ xs) i = refl

  pub get_taken : (k : ℕ) (xs : List X) (i : ℕ) → i < k → slice_get (take k xs) i ≡ slice_get xs i
  get_taken zero xs i lt = absurd (omega arith)
  get_taken (suc k) [] i lt = refl
  get_taken (suc k) (x ∷ xs) zero lt = refl
  get_taken (suc k) (x ∷ xs) (suc i) lt = get_taken k xs i (omega arith)

  -- a buffer that lost one item keeps all others with one more
  pub keep_all : (xs : List X) (x : X) (n : ℕ) → length xs + 1 ≤ n → keep_last n (xs ++ x ∷ []) ≡ xs ++ x ∷ []
  keep_all xs x n e =
      let none : length (xs ++ x ∷ []) - n ≡ 0 = omega (arith, e, length-append xs (x ∷ [])) in
      ap (λ (k : ℕ). drop k (xs ++ x ∷ [])) none

  pub refilled : (items : List X) (capacity : ℕ) (mid new : Buffer X) (x : X) → length items + 1 ≤ capacity
      → mid ≡ buffer items capacity
      → new ≡ buffer (keep_last mid.capacity (mid.items ++ x ∷ [])) mid.capacity
      → new ≡ buffer (items ++ x ∷ []) capacity
  refilled items capacity mid new x e mid_is new_is =
      new_is ∙ ap (λ (b : Buffer X). buffer (keep_last b.capacity (b.items ++ x ∷ [])) b.capacity) mid_is
      ∙ ap (λ (l : List X). buffer l capacity) (keep_all items x capacity e)

-- what holds of all holds with the first one changed, as the last
pub All-turned : (P : KeptPackets → Type 0) (xs : List KeptPackets) (old x : KeptPackets) → All P xs
    → slice_get xs 0 ≡ Some old → (P old → P x) → All P (drop 1 xs ++ x ∷ [])
All-turned P xs old x all first keeps =
    let is : P old = subst P (get_or_from_slice_get xs 0 old old first) (all 0 old (slice_get_within xs 0 old first)) in
    All-push P (drop 1 xs) x (All-drop P 1 xs all) (keeps is)

-- ---- a picture begun

-- the newest places of a ring in which the oldest one is used again
abbrev turned : SentPackets → KeptPackets → List KeptPackets
turned r x = drop 1 (r.pictures.items) ++ x ∷ []

pub begun_holds : (r new : SentPackets) (x : KeptPackets) (pictures : PacketsOfPictures) → HoldsPackets r pictures
    → KeepsPackets x []
    → new.pictures ≡ buffer (turned r x) (r.pictures.capacity) → new.begun ≡ r.begun + 1
    → HoldsPackets new (pictures ++ [] ∷ [])
begun_holds r new x pictures kept none is begun =
    let count = length pictures in
    let many : length (pictures ++ [] ∷ []) ≡ count + 1 = length-append pictures ([] ∷ []) in
    let capacity : new.pictures.capacity ≡ r.pictures.capacity = ap (λ (b : Buffer KeptPackets). b.capacity) is in
    let long : length (drop 1 (r.pictures.items)) ≡ r.pictures.capacity - 1 = length-drop 1 (r.pictures.items)
    ∙ ap (λ (k : ℕ). k - 1) r.full in
    record {
      begun = omega (arith, begun, kept.begun, many);
      each = λ n low near.
          let place = n + new.pictures.capacity - new.begun in
          let Is = λ (o : Option KeptPackets) (packets : List (List ℕ)). IfSome o
          (λ (k : KeptPackets). KeepsPackets k packets) in
          let items : slice_get (new.pictures.items) place ≡ slice_get (turned r x) place =
          ap (λ (b : Buffer KeptPackets). slice_get (b.items) place) is in
          elim (cases_lt n count) as (λ _. Is (slice_get (new.pictures.items) place)
          (get_or (pictures ++ [] ∷ []) n [])) [
            | inl old ↦
                let inside : place < length (drop 1 (r.pictures.items)) = omega (
                  arith,
                  old,
                  long,
                  capacity,
                  begun,
                  kept.begun,
                  near,
                  many,
                ) in
                let was : suc place ≡ n + r.pictures.capacity - r.begun = omega (
                  arith,
                  old,
                  capacity,
                  begun,
                  kept.begun,
                  near,
                  many,
                ) in
                let at = items ∙ get_before (drop 1 (r.pictures.items)) x place inside
                ∙ get_dropped (r.pictures.items) place ∙ ap (λ (k : ℕ). slice_get (r.pictures.items) k) was in
                let packets = get_or_append_left pictures ([] ∷ []) [] n old in
                subst (λ (o : Option KeptPackets). Is o (get_or (pictures ++ [] ∷ []) n [])) (sym at)
                (subst (Is (slice_get (r.pictures.items) (n + r.pictures.capacity - r.begun))) (sym packets)
                (kept.each n old (omega (arith, near, many, capacity))))
            | inr last ↦
                let newest : n ≡ count = omega (arith, last, low, many) in
                let at = items ∙ get_pushed (drop 1 (r.pictures.items)) x place (omega (
                  arith,
                  newest,
                  long,
                  capacity,
                  begun,
                  kept.begun,
                  r.some,
                )) in
                let packets = get_or_push pictures [] [] n (sym newest) in
                subst (λ (o : Option KeptPackets). Is o (get_or (pictures ++ [] ∷ []) n [])) (sym at)
                (subst (Is (Some x)) (sym packets) none)
          ];
    }

-- ---- a packet more

abbrev changed : SentPackets → KeptPackets → List KeptPackets
changed r x = take (length (r.pictures.items) - 1) (r.pictures.items) ++ x ∷ []

pub pushed_holds : (r new : SentPackets) (old x : KeptPackets) (before : PacketsOfPictures) (packets : List (List ℕ))
    (packet : List ℕ) → HoldsPackets r (before ++ packets ∷ [])
    → last_item (r.pictures.items) ≡ Some old → (KeepsPackets old packets → KeepsPackets x (packets ++ packet ∷ []))
    → new.pictures ≡ buffer (changed r x) (r.pictures.capacity) → new.begun ≡ r.begun
    → HoldsPackets new (before ++ (packets ++ packet ∷ []) ∷ [])
pushed_holds r new old x before packets packet kept last more is begun =
    let count = length before in
    let more_packets = packets ++ packet ∷ [] in
    let all = before ++ more_packets ∷ [] in
    let many_before : length (before ++ packets ∷ []) ≡ count + 1 = length-append before (packets ∷ []) in
    let many : length all ≡ count + 1 = length-append before (more_packets ∷ []) in
    let capacity : new.pictures.capacity ≡ r.pictures.capacity = ap (λ (b : Buffer KeptPackets). b.capacity) is in
    let front = take (length (r.pictures.items) - 1) (r.pictures.items) in
    let long : length front ≡ r.pictures.capacity - 1 = length-take-le (length (r.pictures.items) - 1)
    (r.pictures.items) (omega arith) ∙ ap (λ (k : ℕ). k - 1) r.full in
    let Is = λ (o : Option KeptPackets) (packets : List (List ℕ)). IfSome o
    (λ (k : KeptPackets). KeepsPackets k packets)
    in
    record {
      begun = omega (arith, begun, kept.begun, many, many_before);
      each = λ n low near.
          let place = n + new.pictures.capacity - new.begun in
          let items : slice_get (new.pictures.items) place ≡ slice_get (changed r x) place =
          ap (λ (b : Buffer KeptPackets). slice_get (b.items) place) is in
          elim (cases_lt n count) as (λ _. Is (slice_get (new.pictures.items) place) (get_or all n [])) [
            | inl older ↦
                let inside : place < length front = omega (
                  arith,
                  older,
                  long,
                  capacity,
                  begun,
                  kept.begun,
                  near,
                  many,
                  many_before,
                ) in
                let was : place ≡ n + r.pictures.capacity - r.begun = omega (arith, capacity, begun) in
                let within : place < length (r.pictures.items) - 1 = omega (arith, inside, long, r.full) in
                let at = items ∙ get_before front x place inside
                ∙ get_taken (length (r.pictures.items) - 1) (r.pictures.items) place within
                ∙ ap (λ (k : ℕ). slice_get (r.pictures.items) k) was in
                let same = get_or_append_left before (packets ∷ []) [] n older
                ∙ sym (get_or_append_left before (more_packets ∷ []) [] n older) in
                subst (λ (o : Option KeptPackets). Is o (get_or all n [])) (sym at)
                (subst (Is (slice_get (r.pictures.items) (n + r.pictures.capacity - r.begun))) same
                (kept.each n (omega (arith, older, many_before)) (omega (
                  arith,
                  near,
                  many,
                  many_before,
                  capacity,
                ))))
            | inr not ↦
                let newest : n ≡ count = omega (arith, not, low, many) in
                let at = items ∙ get_pushed front x place (omega (
                  arith,
                  newest,
                  long,
                  capacity,
                  begun,
                  kept.begun,
                  many_before,
                  r.some,
                )) in
                let old_place : n + r.pictures.capacity - r.begun ≡ length (r.pictures.items) - 1 = omega (
                  arith,
                  newest,
                  kept.begun,
                  many_before,
                  r.full,
                ) in
                let was = kept.each n (omega (arith, newest, many_before)) (omega (arith, newest, many_before, r.some))
                in
                let there : slice_get (r.pictures.items) (n + r.pictures.capacity - r.begun)
                ≡ Some old = ap (λ (k : ℕ). slice_get (r.pictures.items) k) old_place ∙ last in
                let had : KeepsPackets old packets = subst (λ (o : Option KeptPackets). Is o packets) there
                (subst (Is (slice_get (r.pictures.items) (n + r.pictures.capacity - r.begun)))
                (get_or_push before packets [] n (sym newest)) was) in
                subst (λ (o : Option KeptPackets). Is o (get_or all n [])) (sym at)
                (subst (Is (Some x)) (sym (get_or_push before more_packets [] n (sym newest))) (more had))
          ];
    }
