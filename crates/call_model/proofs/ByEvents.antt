-- The ideal call of any source by its events.
use Rattle.std.proofs.Common.{◌≡◌, ◌⊎◌, ℕ, ◌+◌, ◌<◌, Bool, true, false, ◌&&◌, refl, sym, ap, ◌∙◌, subst, arith, inl, inr, Option, Some, List, [], ◌∷◌, length, length-append, eqb, ltb, leb}
use Rattle.std.specs.Prelude.{not, if◌then◌else◌}
use Rattle.std.specs.Option.{option_map}
use Rattle.std.proofs.lemmas.Bool.{and_parts, and_from, or_cases, or_left, or_right, le-leb, leb-true, lt-ltb, ltb-true, eq-eqb, eqb-true, ne_eqb, cases_Bool, false≢true, both_ways}
use Rattle.std.proofs.lemmas.Option.{slice_get_cases}
use Rattle.call_model.specs.Coding.{Rules, Mark, Exact, Patched, Held, Pictures, Coding, pictures_of, mixed, Shown}
use Rattle.call_model.specs.CodedPictures.{Coded, picture_at}
use Rattle.call_model.specs.Sending.{next_coded}
use Rattle.call_model.specs.IdealCall.{Event, Send, Deliver, Play, Back, Arrival, Call, has_arrived, any_arrived, with_arrival, is_open, slices_at, is_full, mb_arrived, shown_last, reconstruction_at, shown_at, delivery_counts, Source, call_from, AllMayHappenFrom, encoded}
use Rattle.call_model.specs.Before.{sent_before, played_before, IsOpen, play_at, Sends, arrived, slices_before, WasDelivered, CountsByEvents, ArrivedByEvents, ExactByEvents, ShownByEvents, CountsAreThose}

module _ {Style Mb Picture : Type 0} (pictures : Pictures Style Mb Picture) (rules : Rules)
    (source : Source Style Mb Picture) where
  sent_is : (count : ℕ) → Sends source count → (past : List Event) → AllMayHappenFrom pictures rules source count past
      → length (call_from pictures rules source past).coded ≡ sent_before past
  sent_is count sends [] near = refl
  sent_is count sends (Send ∷ past) near =
      let got = sends (call_from pictures rules source past) near.0.0 in
      rw (got.1, length-append) (omega (arith, sent_is count sends past near.1))
  sent_is count sends (Deliver n j ∷ past) near = sent_is count sends past near.1
  sent_is count sends (Play ∷ past) near = sent_is count sends past near.1
  sent_is count sends (Back k ∷ past) near = sent_is count sends past near.1

  played_is : (past : List Event) → (call_from pictures rules source past).played ≡ played_before past
  played_is [] = refl
  played_is (Send ∷ past) = played_is past
  played_is (Deliver n j ∷ past) = played_is past
  played_is (Play ∷ past) = ap (λ (k : ℕ). k + 1) (played_is past)
  played_is (Back k ∷ past) = played_is past

  pub counts_by_events : CountsByEvents pictures rules source
  counts_by_events count sends past = (sent_is count sends past, played_is past)

  -- ---- what has arrived

  -- the picture is open by the call where it is by the events
  open_is : (past : List Event) (n : ℕ) → is_open rules (call_from pictures rules source past).played n ≡ true
      → IsOpen rules past n
  unfolding is_open
  open_is past n opened =
      let parts = and_parts (leb (call_from pictures rules source past).played n)
      (leb n ((call_from pictures rules source past).played + rules.lead)) opened in
      let played = played_is past in
      (omega (arith, leb-true _ _ parts.0, played), omega (arith, leb-true _ _ parts.1, played))

  is_opened : (past : List Event) (n : ℕ) → IsOpen rules past n
      → is_open rules (call_from pictures rules source past).played n ≡ true
  unfolding is_open
  is_opened past n opened =
      let played = played_is past in
      and_from _ _ (le-leb (call_from pictures rules source past).played n (omega (arith, opened.0, played)))
      (le-leb n ((call_from pictures rules source past).played + rules.lead) (omega (arith, opened.1, played)))

  -- a delivery that counts
  fresh_parts : (c : Call Style Mb Picture) (n j : ℕ) → delivery_counts rules c n j ≡ true
      → (is_open rules c.played n ≡ true) × (j < length (slices_at c.coded n))
  unfolding delivery_counts
  fresh_parts c n j fresh =
      let parts = and_parts (is_open rules c.played n) (ltb j (length (slices_at c.coded n)) && not
      (has_arrived c.arrivals n j)) fresh in (
        parts.0,
        ltb-true _ _ (and_parts (ltb j (length (slices_at c.coded n))) (not (has_arrived c.arrivals n j))
            parts.1).0,
      )

  -- a delivery in time counts, or came before
  counts_or_came : (c : Call Style Mb Picture) (n j : ℕ) → is_open rules c.played n ≡ true
      → j < length (slices_at c.coded n) → (delivery_counts rules c n j ≡ true) ⊎ (has_arrived c.arrivals n j ≡ true)
  unfolding delivery_counts
  counts_or_came c n j opened lt =
      elim (cases_Bool (has_arrived c.arrivals n j)) [
        | inl came ↦ inr came
        | inr not_yet ↦ inl (and_from _ _ opened (and_from _ _ (lt-ltb j (length (slices_at c.coded n)) lt)
            (ap not not_yet)))
      ]

  here : (bs : List Arrival) (n j : ℕ) → has_arrived (with_arrival bs n j) n j ≡ true
  here bs n j = or_left _ _ (and_from _ _ (eq-eqb n n refl) (eq-eqb j j refl))

  arrived_from : (past : List Event) (n j : ℕ) → arrived pictures rules source past n j ≡ true
      → WasDelivered pictures rules source past n j
  arrived_from [] n j got = false≢true got
  arrived_from (Send ∷ past) n j got = arrived_from past n j got
  arrived_from (Play ∷ past) n j got = arrived_from past n j got
  arrived_from (Back k ∷ past) n j got = arrived_from past n j got
  arrived_from (Deliver m i ∷ past) n j got = go (delivery_counts rules (call_from pictures rules source past) m i)
      refl got (arrived_from past n j)
    where
      go : (b : Bool) → delivery_counts rules (call_from pictures rules source past) m i ≡ b
          → has_arrived (if b then with_arrival (call_from pictures rules source past).arrivals m i
          else (call_from pictures rules source past).arrivals) n j ≡ true
          → (has_arrived (call_from pictures rules source past).arrivals n j ≡ true
          → WasDelivered pictures rules source past n j) → WasDelivered pictures rules source (Deliver m i ∷ past) n j
      go false fresh got old = inr (old got)
      go true fresh got old =
          elim (or_cases (eqb m n && eqb i j) _ got) [
            | inl now ↦
                let parts = and_parts (eqb m n) (eqb i j) now in
                let same : m ≡ n = eqb-true m n parts.0 in
                let place : i ≡ j = eqb-true i j parts.1 in
                let f = fresh_parts (call_from pictures rules source past) m i fresh in
                let opened : IsOpen rules past n = subst (IsOpen rules past) same (open_is past m f.0) in
                let below : i < slices_before pictures rules source past n =
                subst (λ (k : ℕ). i < slices_before pictures rules source past k) same f.1 in
                inl (same, place, opened, subst (λ (k : ℕ). k < slices_before pictures rules source past n) place below)
            | inr before ↦ inr (old before)
          ]

  arrived_to : (past : List Event) (n j : ℕ) → WasDelivered pictures rules source past n j
      → arrived pictures rules source past n j ≡ true
  arrived_to [] n j was = absurd was
  arrived_to (Send ∷ past) n j was = arrived_to past n j was
  arrived_to (Play ∷ past) n j was = arrived_to past n j was
  arrived_to (Back k ∷ past) n j was = arrived_to past n j was
  arrived_to (Deliver m i ∷ past) n j was = go (delivery_counts rules (call_from pictures rules source past) m i)
      refl was (arrived_to past n j)
    where
      go : (b : Bool) → delivery_counts rules (call_from pictures rules source past) m i ≡ b
          → WasDelivered pictures rules source (Deliver m i ∷ past) n j → (WasDelivered pictures rules source past n j
          → has_arrived (call_from pictures rules source past).arrivals n j ≡ true)
          → has_arrived (if b then with_arrival (call_from pictures rules source past).arrivals m i
          else (call_from pictures rules source past).arrivals) n j ≡ true
      go true fresh (inl now) old = or_left _ _ (and_from _ _ (eq-eqb m n now.0) (eq-eqb i j now.1))
      go true fresh (inr before) old = or_right _ _ (old before)
      go false fresh (inr before) old = old before
      go false fresh (inl now) old =
          let opened : is_open rules (call_from pictures rules source past).played m
          ≡ true = subst (λ (k : ℕ). is_open rules (call_from pictures rules source past).played k
          ≡ true) (sym now.0) (is_opened past n now.2) in
          let below : i < slices_before pictures rules source past m =
          subst (λ (k : ℕ). i < slices_before pictures rules source past k) (sym now.0)
          (subst (λ (k : ℕ). k < slices_before pictures rules source past n) (sym now.1) now.3) in
          elim (counts_or_came (call_from pictures rules source past) m i opened below) [
            | inl counts ↦ absurd (both_ways _ fresh counts)
            | inr came ↦ subst (λ (k : ℕ). has_arrived (call_from pictures rules source past).arrivals k j ≡ true) now.0
                (subst (λ (k : ℕ). has_arrived (call_from pictures rules source past).arrivals m k ≡ true) now.1 came)
          ]

  pub arrived_by_events : ArrivedByEvents pictures rules source
  arrived_by_events past n j = (arrived_from past n j, arrived_to past n j)

  -- ---- what is shown

  shown_length : (past : List Event) → length (call_from pictures rules source past).plays ≡ played_before past
  shown_length [] = refl
  shown_length (Send ∷ past) = shown_length past
  shown_length (Deliver n j ∷ past) = shown_length past
  shown_length (Play ∷ past) = omega (arith, shown_length past)
  shown_length (Back k ∷ past) = shown_length past

  newest : (past : List Event) → play_at (call_from pictures rules source (Play ∷ past)).plays (played_before past)
      ≡ Some (shown_at pictures (call_from pictures rules source past).coded
      (call_from pictures rules source past).arrivals (call_from pictures rules source past).plays (played_before past))
  newest past =
      rw (eq-eqb (length (call_from pictures rules source past).plays) (played_before past) (shown_length past))
      (ap (λ (k : ℕ). let o : Option (Shown Picture) =
      Some (shown_at pictures (call_from pictures rules source past).coded
      (call_from pictures rules source past).arrivals (call_from pictures rules source past).plays k) in
      o) (played_is past))

  not_exact : (b : Bool) → (if b then Patched else Held) ≡ Exact → ⊥
  not_exact true e = cc
  not_exact false e = cc

  the_full_one : (b : Bool) (p q : Picture) (m : Mark) → (m ≡ Exact → ⊥)
      → (let s : Shown Picture = if b then record { mark = Exact; picture = p } else record { mark = m; picture = q } in
      s).mark ≡ Exact → b ≡ true
  the_full_one true p q m differ is = refl
  the_full_one false p q m differ is = absurd (differ is)

  exact_is : (coded : List (Coded Style Mb Picture)) (bs : List Arrival) (before : List (Shown Picture)) (n : ℕ)
      → (shown_at pictures coded bs before n).mark ≡ Exact → is_full coded bs n ≡ true
  unfolding shown_at
  exact_is coded bs before n is =
      the_full_one (is_full coded bs n) (reconstruction_at pictures coded n) (mixed pictures (mb_arrived coded bs n)
      (reconstruction_at pictures coded n) (shown_last pictures before))
      (if any_arrived bs n then Patched else Held) (not_exact (any_arrived bs n)) is

  full_shows : (coded : List (Coded Style Mb Picture)) (bs : List Arrival) (before : List (Shown Picture)) (n : ℕ)
      → is_full coded bs n ≡ true → shown_at pictures coded bs before n ≡ record {
        mark = Exact;
        picture = reconstruction_at pictures coded n;
      }
  unfolding shown_at
  full_shows coded bs before n full = rw full refl

  sent_of : (coded : List (Coded Style Mb Picture)) (bs : List Arrival) (n : ℕ) → is_full coded bs n ≡ true
      → picture_at coded n ≡ Some (reconstruction_at pictures coded n)
  unfolding is_full
  sent_of coded bs n full =
      let below : n < length coded = ltb-true _ _ (and_parts _ _ full).0 in
      elim (slice_get_cases coded n).1 [
        | inl got ↦ rw got.2 refl
        | inr out ↦ absurd (omega (arith, out.0, below))
      ]

  pub exact_by_events : ExactByEvents pictures rules source
  exact_by_events past =
      let c = call_from pictures rules source past in
      let n = played_before past in (
        (
          λ is. let marks : Some (shown_at pictures c.coded c.arrivals c.plays n).mark
              ≡ Some Exact = sym (ap (option_map (λ (x : Shown Picture). x.mark)) (newest past)) ∙ is in
              let mark : (shown_at pictures c.coded c.arrivals c.plays n).mark ≡ Exact = cc in
              exact_is c.coded c.arrivals c.plays n mark,
          λ full. ap (option_map (λ (x : Shown Picture). x.mark)) (newest past
              ∙ ap Some (full_shows c.coded c.arrivals c.plays n full)),
        ),
        λ full. ap (option_map (λ (x : Shown Picture). x.picture)) (newest past
            ∙ ap Some (full_shows c.coded c.arrivals c.plays n full)) ∙ sym (sent_of c.coded c.arrivals n full),
      )

  -- an earlier play is found under a new one
  earlier : (x : Shown Picture) (before : List (Shown Picture)) (n : ℕ) → n < length before → play_at (x ∷ before) n
      ≡ play_at before n
  earlier x before n lt = rw (ne_eqb (length before) n (omega arith)) refl

  pub shown_by_events : ShownByEvents pictures rules source
  shown_by_events past Send n lt = (refl, refl)
  shown_by_events past (Deliver m i) n lt = (refl, refl)
  shown_by_events past (Back k) n lt = (refl, refl)
  shown_by_events past Play n lt =
      let c = call_from pictures rules source past in
      let same : play_at (call_from pictures rules source (Play ∷ past)).plays n
      ≡ play_at c.plays n = earlier (shown_at pictures c.coded c.arrivals c.plays c.played) c.plays n
      (omega (arith, shown_length past)) in
      (ap (option_map (λ (x : Shown Picture). x.mark)) same, ap (option_map (λ (x : Shown Picture). x.picture)) same)

-- ---- the call of an encoder

module _ {Frame Style Mb Picture Fault MessageFault : Type 0}
    (coding : Coding Frame Style Mb Picture Fault MessageFault) (rules : Rules) (pace : List ℕ
    → ℕ) (frames : List Frame) where
  -- a frame is sent while one is left
  encoder_sends : Sends (encoded coding rules pace frames) (length frames)
  encoder_sends c left =
      elim (slice_get_cases frames (length c.coded)).1 [
        | inl got ↦ (
          next_coded (pictures_of coding) coding.encoding rules pace got.0 c.coded c.known,
          ap (option_map (λ (frame : Frame). next_coded (pictures_of coding) coding.encoding rules pace frame c.coded
              c.known)) got.2,
        )
        | inr out ↦ absurd (omega (arith, out.0, left))
      ]

  pub counts_are_those : CountsAreThose coding rules pace frames
  counts_are_those past = counts_by_events (pictures_of coding) rules (encoded coding rules pace frames)
      (length frames) encoder_sends past
