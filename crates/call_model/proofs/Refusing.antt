-- An event is refused exactly where it is not in place or not near.
use Rattle.std.proofs.Common.{◌≡◌, ℕ, ◌+◌, ◌<◌, true, refl, sym, ap, ◌∙◌, arith, inl, inr, Option, Some, None, List, [], ◌∷◌, length, leb}
use Rattle.std.specs.Prelude.{◌↔◌, slice_get, map, not, is_some, if◌then◌else◌}
use Rattle.std.specs.Option.{option_map, option_map_or}
use Rattle.std.proofs.lemmas.Bool.{cases_lt, le-leb, lt-leb, and_parts, and_from, false≢true}
use Rattle.std.proofs.lemmas.Option.{slice_get-map}
use Rattle.call_model.specs.Coding.{Rules, Pictures, Coding}
use Rattle.call_model.specs.IdealCall.{Event, Send, Deliver, Play, Back, NumberedMessage, about, Call, Source, MayHappen, call_from, after, AllMayHappenFrom}
use Rattle.call_model.specs.JoinedRun.{SaidMessage, MayHappenBoth}
use Rattle.call_model.specs.Refusals.{Refusal, NotSent, NotSaid, Far, PlayBeforeSend, NoFrame, first_refusal, refusal_in, NoneWhereItMayHappen, NoneWhereItMayHappenBoth, checked_call, PassedWhereNear}

-- of two numbers the test leaves out
one_test : (a b : ℕ) (r : Refusal) → ((if leb a b then Some r else None) ≡ None) ↔ (b < a)
one_test a b r = (forth, λ lt. rw (lt-leb a b lt) refl)
  where
    forth : (if leb a b then Some r else None) ≡ None → b < a
    forth e = elim (cases_lt b a) [ inl lt ↦ lt | inr le ↦ absurd (never (sym (rw (le-leb a b le) refl) ∙ e)) ]
      where
        never : Some r ≡ None → ⊥
        never e = cc

-- of two tests in a row
two_tests : (a b c d : ℕ) (r s : Refusal) → ((if leb a b then Some r else if leb c d then Some s else None) ≡ None)
    ↔ ((b < a) × (d < c))
two_tests a b c d r s = (forth, λ lt. rw (lt-leb a b lt.0, lt-leb c d lt.1) refl)
  where
    never : (t : Refusal) → Some t ≡ None → ⊥
    never t e = cc

    forth : (if leb a b then Some r else if leb c d then Some s else None) ≡ None → (b < a) × (d < c)
    forth e = elim (cases_lt b a) [
      | inl lt ↦ elim (cases_lt d c) [
        | inl lt' ↦ (lt, lt')
        | inr le ↦ absurd (never s (sym (rw (lt-leb a b lt, le-leb c d le) refl) ∙ e))
      ]
      | inr le ↦ absurd (never r (sym (rw (le-leb a b le) refl) ∙ e))
    ]

-- the numbers of pictures that messages were about
abbrev about_test : Rules → ℕ → Option ℕ → Option Refusal
about_test rules sent o = option_map_or (λ t. if leb (t + rules.half) sent then Some (Far t sent) else None) o
    (Some NotSaid)

about_far : (rules : Rules) (sent : ℕ) (o : Option ℕ) → about_test rules sent o ≡ None → (t : ℕ) × (o ≡ Some t)
    × (sent < t + rules.half)
about_far rules sent None e = cc
about_far rules sent (Some t) e = (t, refl, (one_test (t + rules.half) sent (Far t sent)).0 e)

about_near : (rules : Rules) (sent t : ℕ) (o : Option ℕ) → o ≡ Some t → sent < t + rules.half → about_test rules sent o
    ≡ None
about_near rules sent t o is lt = rw is ((one_test (t + rules.half) sent (Far t sent)).1 lt)

module _ (Style Mb Picture : Type 0) (rules : Rules) where
  pub none_where_near : NoneWhereItMayHappen rules Style Mb Picture
  unfolding first_refusal
  none_where_near pictures c Send =
      let t = two_tests (c.played + rules.half) (length c.coded) pictures (length c.coded)
      (Far (length c.coded) c.played) NoFrame in
      (λ e. let h = t.0 e in (h.1, h.0), λ near. t.1 (near.1, near.0))
  none_where_near pictures c (Deliver n j) = two_tests (length c.coded) n (n + rules.half) c.played NotSent
      (Far n c.played)
  none_where_near pictures c Play = one_test (length c.coded) c.played PlayBeforeSend
  none_where_near pictures c (Back k) = (forth, back)
    where
      found : slice_get (map about c.said) k ≡ option_map about (slice_get c.said k)
      found = slice_get-map about c.said k

      forth : about_test rules (length c.coded) (slice_get (map about c.said) k) ≡ None
          → MayHappen rules pictures c (Back k)
      forth e =
          let h = about_far rules (length c.coded) (slice_get (map about c.said) k) e in
          by_note (slice_get c.said k) refl h.0 (sym found ∙ h.1) h.2
        where
          by_note : (o : Option NumberedMessage) → slice_get c.said k ≡ o → (t : ℕ) → option_map about o ≡ Some t
              → length c.coded < t + rules.half → MayHappen rules pictures c (Back k)
          by_note None at t is lt = cc
          by_note (Some note) at t is lt = let same : about note ≡ t = cc in (note, at, omega (arith, same, lt))

      back : MayHappen rules pictures c (Back k) → about_test rules (length c.coded) (slice_get (map about c.said) k)
          ≡ None
      back near = about_near rules (length c.coded) (about near.0) _ (found ∙ ap (option_map about) near.1) near.2

module _ {Frame Style Mb Picture Fault MessageFault : Type 0}
    (coding : Coding Frame Style Mb Picture Fault MessageFault) (rules : Rules) where
  abbrev about_told : SaidMessage → ℕ
  about_told told = told.about

  pub none_where_near_both : NoneWhereItMayHappenBoth coding rules
  unfolding first_refusal
  none_where_near_both frames both Send =
      let t = two_tests (both.receiver.played + rules.half) (length both.sender.coded) (length frames)
      (length both.sender.coded) (Far (length both.sender.coded) both.receiver.played) NoFrame in
      (λ e. let h = t.0 e in (h.1, h.0), λ near. t.1 (near.1, near.0))
  none_where_near_both frames both (Deliver n j) = two_tests (length both.sender.coded) n
      (n + rules.half) both.receiver.played NotSent (Far n both.receiver.played)
  none_where_near_both frames both Play = one_test (length both.sender.coded) both.receiver.played PlayBeforeSend
  none_where_near_both frames both (Back k) = (forth, back)
    where
      found : slice_get (map (λ (told : SaidMessage). told.about) both.said) k
          ≡ option_map about_told (slice_get both.said k)
      found = slice_get-map about_told both.said k

      forth : about_test rules (length both.sender.coded)
          (slice_get (map (λ (told : SaidMessage). told.about) both.said) k) ≡ None
          → MayHappenBoth coding rules frames both (Back k)
      forth e =
          let h = about_far rules (length both.sender.coded)
          (slice_get (map (λ (told : SaidMessage). told.about) both.said) k) e in
          by_told (slice_get both.said k) refl h.0 (sym found ∙ h.1) h.2
        where
          by_told : (o : Option SaidMessage) → slice_get both.said k ≡ o → (t : ℕ) → option_map about_told o ≡ Some t
              → length both.sender.coded < t + rules.half → MayHappenBoth coding rules frames both (Back k)
          by_told None at t is lt = cc
          by_told (Some told) at t is lt = let same : told.about ≡ t = cc in (told, at, omega (arith, same, lt))

      back : MayHappenBoth coding rules frames both (Back k)
          → about_test rules (length both.sender.coded) (slice_get (map (λ (told : SaidMessage). told.about) both.said)
          k) ≡ None
      back near = about_near rules (length both.sender.coded) near.0.about _ (found
          ∙ ap (option_map about_told) near.1) near.2

none_test : (o : Option Refusal) → (not (is_some o) ≡ true) ↔ (o ≡ None)
none_test None = (λ e. refl, λ e. refl)
none_test (Some r) = (λ e. absurd (false≢true e), λ e. cc)

module _ {Style Mb Picture : Type 0} (pictures : Pictures Style Mb Picture) (rules : Rules)
    (source : Source Style Mb Picture) (count : ℕ) where
  call_is : (past : List Event) → (checked_call pictures rules source count past).call
      ≡ call_from pictures rules source past
  call_is [] = refl
  call_is (e ∷ past) = ap (λ (c : Call Style Mb Picture). after pictures rules source c e) (call_is past)

  one_event : (past : List Event) (e : Event)
      → (not (is_some (refusal_in rules count (checked_call pictures rules source count past).call e)) ≡ true)
      ↔ MayHappen rules count (call_from pictures rules source past) e
  one_event past e =
      let test = none_test (refusal_in rules count (checked_call pictures rules source count past).call e) in
      let near = none_where_near Style Mb Picture rules count (call_from pictures rules source past) e in
      let same : refusal_in rules count (checked_call pictures rules source count past).call e
      ≡ refusal_in rules count (call_from pictures rules source past) e =
      ap (λ (c : Call Style Mb Picture). refusal_in rules count c e) (call_is past) in
      (λ passed. near.0 (sym same ∙ test.0 passed), λ now. test.1 (same ∙ near.1 now))

  forth : (past : List Event) → (checked_call pictures rules source count past).passed ≡ true
      → AllMayHappenFrom pictures rules source count past
  forth [] passed = tt
  forth (e ∷ past) passed =
      let parts = and_parts _ _ passed in
      ((one_event past e).0 parts.0, forth past parts.1)

  back : (past : List Event) → AllMayHappenFrom pictures rules source count past
      → (checked_call pictures rules source count past).passed ≡ true
  back [] near = refl
  back (e ∷ past) near = and_from _ _ ((one_event past e).1 near.0) (back past near.1)

  -- the events pass the checks exactly where each is near
  pub passed_where_near : PassedWhereNear pictures rules source count
  passed_where_near past = (forth past, back past)
