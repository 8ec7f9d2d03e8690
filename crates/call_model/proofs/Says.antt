-- The receiver of any sound sender says what the call says.
use Rattle.std.proofs.Common.{◌≡◌, ℕ, ◌+◌, ◌<◌, ◌≤◌, Bool, true, false, ◌&&◌, refl, sym, ap, ◌∙◌, arith, inl, inr, Option, Some, None, List, [], ◌∷◌, ◌++◌, length, ltb}
use Rattle.std.specs.Prelude.{slice_get, not, map, if◌then◌else◌}
use Rattle.std.specs.Option.{option_map_or}
use Rattle.std.proofs.lemmas.List.{map-append}
use Rattle.std.proofs.lemmas.Bool.{cases_lt, cases_Bool, and_left, and_right, lt-ltb, le-ltb, lt-leb, le-leb}
use Rattle.std.proofs.lemmas.Option.{slice_get_cases}
use Rattle.call_model.specs.Coding.{Rules, Message, Decoding}
use Rattle.call_model.specs.CodedPictures.{Coded}
use Rattle.call_model.specs.IdealCall.{Event, Send, Deliver, Play, Back, NumberedMessage, Got, Lost, Call, Source, has_arrived, with_arrival, is_open, slices_at, is_full, full_flags, newest_full, delivery_counts, call_from, AllMayHappenFrom}
use Rattle.call_model.specs.Receiving.{heard}
use Rattle.call_model.specs.TwoStores.{travelling}
use Rattle.call_model.specs.Sound.{AllSound, AnySoundSender, Packets, received, delivery_answer, play_message}
use Rattle.call_model.specs.Says.{answer_says, receiver_said, SaysAsTheCall}

module _ {Style Mb Picture Fault : Type 0} (decoding : Decoding Style Mb Picture Fault) (rules : Rules) where
  slices_there : (coded : List (Coded Style Mb Picture)) (n : ℕ) (x : Coded Style Mb Picture)
      → slice_get coded n ≡ Some x → slices_at coded n ≡ x.slices
  unfolding slices_at
  slices_there coded n x e = rw e refl

  -- what a delivery adds to the messages of the call
  abbrev new_ack : Call Style Mb Picture → ℕ → ℕ → List NumberedMessage
  new_ack c n j =
      if delivery_counts rules c n j && is_full c.coded (with_arrival c.arrivals n j) n
      then Got n (full_flags rules c.coded (with_arrival c.arrivals n j) n) ∷ [] else []

  not_open : (c : Call Style Mb Picture) (n j : ℕ) → is_open rules c.played n ≡ false → new_ack c n j ≡ []
  unfolding delivery_counts
  not_open c n j closed = rw closed refl

  no_slice : (c : Call Style Mb Picture) (n j : ℕ) → length (slices_at c.coded n) ≤ j → new_ack c n j ≡ []
  unfolding delivery_counts
  no_slice c n j none = rw (and_right (is_open rules c.played n) _ (and_left _ (not (has_arrived c.arrivals n j))
      (le-ltb j (length (slices_at c.coded n)) none))) refl

  by_full : (b : Bool) (c : Call Style Mb Picture) (n j : ℕ) → is_full c.coded (with_arrival c.arrivals n j) n ≡ b
      → n < c.played + rules.lead + 1 → c.played ≤ n → has_arrived c.arrivals n j ≡ false
      → j < length (slices_at c.coded n) → answer_says (delivery_answer {Fault = Fault} rules c n j)
      ≡ map (travelling rules) (new_ack c n j)
  unfolding delivery_answer delivery_counts is_open
  by_full true c n j full high low fresh lt =
      rw (
        le-ltb n c.played low,
        le-ltb (c.played + rules.lead) n (omega (arith, high)),
        le-leb c.played n low,
        le-leb n (c.played + rules.lead) (omega (arith, high)),
        lt-ltb j (length (slices_at c.coded n)) lt,
        fresh,
        full,
      ) refl
  by_full false c n j full high low fresh lt =
      rw (
        le-ltb n c.played low,
        le-ltb (c.played + rules.lead) n (omega (arith, high)),
        le-leb c.played n low,
        le-leb n (c.played + rules.lead) (omega (arith, high)),
        lt-ltb j (length (slices_at c.coded n)) lt,
        fresh,
        full,
      ) refl

  closed_before : (c : Call Style Mb Picture) (n : ℕ) → n < c.played → is_open rules c.played n ≡ false
  unfolding is_open
  closed_before c n late = and_left _ _ (lt-leb c.played n late)

  closed_ahead : (c : Call Style Mb Picture) (n : ℕ) → c.played + rules.lead < n → is_open rules c.played n ≡ false
  unfolding is_open
  closed_ahead c n early = and_right _ _ (lt-leb n (c.played + rules.lead) early)

  said_late : (c : Call Style Mb Picture) (n j : ℕ) → n < c.played
      → answer_says (delivery_answer {Fault = Fault} rules c n j) ≡ []
  unfolding delivery_answer
  said_late c n j late = rw (lt-ltb n c.played late) refl

  said_early : (c : Call Style Mb Picture) (n j : ℕ) → c.played ≤ n → c.played + rules.lead < n
      → answer_says (delivery_answer {Fault = Fault} rules c n j) ≡ []
  unfolding delivery_answer
  said_early c n j low early = rw (le-ltb n c.played low, lt-ltb (c.played + rules.lead) n early) refl

  said_again : (c : Call Style Mb Picture) (n j : ℕ) → c.played ≤ n → n ≤ c.played + rules.lead
      → has_arrived c.arrivals n j ≡ true → answer_says (delivery_answer {Fault = Fault} rules c n j) ≡ []
  unfolding delivery_answer
  said_again c n j low high got = rw (le-ltb n c.played low, le-ltb (c.played + rules.lead) n high, got) refl

  arrived_adds_none : (c : Call Style Mb Picture) (n j : ℕ) → has_arrived c.arrivals n j ≡ true → new_ack c n j ≡ []
  unfolding delivery_counts
  arrived_adds_none c n j got =
      rw (and_right (is_open rules c.played n) _ (and_right (ltb j (length (slices_at c.coded n)))
      (not (has_arrived c.arrivals n j)) (ap not got))) refl

  said_is : (c : Call Style Mb Picture) (n j : ℕ) → j < length (slices_at c.coded n)
      → answer_says (delivery_answer {Fault = Fault} rules c n j) ≡ map (travelling rules) (new_ack c n j)
  said_is c n j lt =
      elim (cases_lt n c.played) [
        | inl late ↦ said_late c n j late ∙ sym (ap (map (travelling rules)) (not_open c n j (closed_before c n late)))
        | inr low ↦ elim (cases_lt (c.played + rules.lead) n) [
          | inl early ↦ said_early c n j low early
              ∙ sym (ap (map (travelling rules)) (not_open c n j (closed_ahead c n early)))
          | inr high ↦ elim (cases_Bool (has_arrived c.arrivals n j)) [
            | inl got ↦ said_again c n j low high got ∙ sym (ap (map (travelling rules)) (arrived_adds_none c n j got))
            | inr fresh ↦ by_full (is_full c.coded (with_arrival c.arrivals n j) n) c n j refl (omega (arith, high)) low
                fresh lt
          ]
        ]
      ]

  by_play : (b : Bool) (c : Call Style Mb Picture) → is_full c.coded c.arrivals c.played ≡ b
      → option_map_or (λ (m : Message). m ∷ []) (play_message rules c) []
      ≡ map (travelling rules) (if is_full c.coded c.arrivals c.played then [] else Lost c.played
      (newest_full rules c.coded c.arrivals c.played) (full_flags rules c.coded c.arrivals c.played) ∷ [])
  unfolding play_message
  by_play true c full = rw full refl
  by_play false c full = rw full refl

  module _ (follows : AnySoundSender decoding rules) (source : Source Style Mb Picture)
      (packets : Packets Style Mb Picture) (count : ℕ) where
    says : (past : List Event) → AllMayHappenFrom decoding.pictures rules source count past
        → AllSound decoding rules source packets past → receiver_said decoding rules source packets past
        ≡ map (travelling rules) (call_from decoding.pictures rules source past).said
    says [] near sound = refl
    says (Send ∷ past) near sound = says past near.1 sound.1
    says (Back k ∷ past) near sound = says past near.1 sound.1
    says (Play ∷ past) near sound =
        let c = call_from decoding.pictures rules source past in
        let follow = follows source packets count past near.1 sound.1 in
        let new = ap (λ (o : Option Message). option_map_or (λ (m : Message). m ∷ []) o []) (follow.plays near.0).1
        ∙ by_play (is_full c.coded c.arrivals c.played) c refl in
        ap (λ (ms : List Message). receiver_said decoding rules source packets past ++ ms) new
        ∙ ap (λ (ms : List Message). ms
        ++ map (travelling rules) (if is_full c.coded c.arrivals c.played then [] else Lost c.played
        (newest_full rules c.coded c.arrivals c.played) (full_flags rules c.coded c.arrivals c.played) ∷ []))
        (says past near.1 sound.1)
        ∙ sym (map-append (travelling rules) c.said _)
    says (Deliver n j ∷ past) near sound = from_new (of_bytes (slice_get (packets c.coded n) j) refl)
        (says past near.1 sound.1)
      where
        c : Call Style Mb Picture
        c = call_from decoding.pictures rules source past

        new_said : Option (List ℕ) → List Message
        new_said o = option_map_or
            (λ bytes. answer_says (heard decoding rules (received decoding rules source packets past)
            (decoding.read bytes))) o []

        of_bytes : (o : Option (List ℕ)) → slice_get (packets c.coded n) j ≡ o
            → new_said o ≡ map (travelling rules) (new_ack c n j)
        of_bytes None none = sym (ap (map (travelling rules)) (no_slice c n j (past_end none)))
          where
            differ : (bytes : List ℕ) → (let o : Option (List ℕ) = None in o) ≡ Some bytes → ⊥
            differ bytes e = cc

            past_end : slice_get (packets c.coded n) j ≡ None → length (slices_at c.coded n) ≤ j
            past_end none =
                elim (slice_get_cases c.coded n).1 [
                  | inl h ↦ elim (slice_get_cases h.0.slices j).1 [
                    | inl s ↦ let got = (sound.0 h.0 h.2).read_as s.0 s.2 in absurd (differ got.0 (sym none ∙ got.1))
                    | inr out ↦ omega (arith, out.0, ap length (slices_there c.coded n h.0 h.2))
                  ]
                  | inr h ↦ absurd (omega (arith, h.0, near.0.0))
                ]
        of_bytes (Some bytes) some =
            ap answer_says ((follows source packets count past near.1 sound.1).answers n j bytes near.0 sound.0 some)
            ∙ said_is c n j inside
          where
            differ : (let o : Option (List ℕ) = None in o) ≡ Some bytes → ⊥
            differ e = cc

            inside : j < length (slices_at c.coded n)
            inside =
                elim (slice_get_cases c.coded n).1 [
                  | inl h ↦ elim (slice_get_cases h.0.slices j).1 [
                    | inl s ↦ omega (arith, s.1, ap length (slices_there c.coded n h.0 h.2))
                    | inr out ↦ absurd (differ (sym ((sound.0 h.0 h.2).no_other out.1) ∙ some))
                  ]
                  | inr h ↦ absurd (omega (arith, h.0, near.0.0))
                ]

        from_new : new_said (slice_get (packets c.coded n) j) ≡ map (travelling rules) (new_ack c n j)
            → receiver_said decoding rules source packets past ≡ map (travelling rules) c.said
            → receiver_said decoding rules source packets (Deliver n j ∷ past)
            ≡ map (travelling rules) (call_from decoding.pictures rules source (Deliver n j ∷ past)).said
        from_new new before =
            ap (λ (ms : List Message). receiver_said decoding rules source packets past ++ ms) new
            ∙ ap (λ (ms : List Message). ms ++ map (travelling rules) (new_ack c n j)) before
            ∙ sym (map-append (travelling rules) c.said _)

  pub says_as_the_call : AnySoundSender decoding rules → SaysAsTheCall decoding rules
  says_as_the_call follows source packets count past near sound = says follows source packets count past near sound
