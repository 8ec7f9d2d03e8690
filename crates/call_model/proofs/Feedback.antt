-- What feedback makes known was sent, also where it lies.
use Rattle.std.proofs.Common.{◌≡◌, ℕ, ◌+◌, ◌<◌, Bool, true, false, refl, sym, ◌∙◌, arith, inl, inr, Option, Some, None, List, [], ◌∷◌, ◌++◌, eqb, ltb}
use Rattle.std.specs.Prelude.{if◌then◌else◌, filter, option_and_then}
use Rattle.std.specs.Option.{option_map_or}
use Rattle.std.proofs.lemmas.Bool.{or_cases, eqb-true, ltb-true, false≢true}
use Rattle.std.proofs.lemmas.List.Folds.{list_any-append}
use Rattle.call_model.specs.Numbers.{flagged_after}
use Rattle.call_model.specs.Coding.{Rules, Message, Ack, Nack}
use Rattle.call_model.specs.CodedPictures.{is_among}
use Rattle.call_model.specs.Sending.{called_complete, made_known, known_by_feedback, message_flags, number_of, nearest, nearest_below}
use Rattle.call_model.specs.Lawful.{IsRules}
use Rattle.call_model.proofs.NumberLemmas.{nearest_below_less}

module _ (rules : Rules) (ruled : IsRules rules) where
  called_below : (sent t m : ℕ) (message : Message) → t < sent → is_among (called_complete rules sent t message) m
      ≡ true → m < sent
  unfolding called_complete
  called_below sent t m (Ack number flags) below is = elim (or_cases (eqb t m) false is) [
    | inl e ↦ omega (
      arith,
      eqb-true t m e,
    )
    | inr f ↦ absurd (false≢true f)
  ]
  called_below sent t m (Nack number offered flags) below is = go (eqb number offered) is
    where
      inner : (o : Option ℕ) → is_among (option_map_or (λ q. if ltb q sent then q ∷ [] else []) o []) m ≡ true
          → m < sent
      inner None is = absurd (false≢true is)
      inner (Some q) is = by_test (ltb q sent) refl is
        where
          by_test : (b : Bool) → ltb q sent ≡ b → is_among (if b then q ∷ [] else []) m ≡ true → m < sent
          by_test true e is = elim (or_cases (eqb q m) false is) [
            | inl same ↦ omega (
              arith,
              ltb-true _ _ e,
              eqb-true q m same,
            )
            | inr f ↦ absurd (false≢true f)
          ]
          by_test false e is = absurd (false≢true is)

      go : (b : Bool) → is_among (if b then [] else option_map_or (λ q. if ltb q sent then q ∷ [] else [])
          (nearest rules t offered) []) m ≡ true → m < sent
      go true is = absurd (false≢true is)
      go false is = inner (nearest rules t offered) is

  -- flags make nothing known that was not sent
  filtered_below : (sent m : ℕ) (xs : List ℕ) → is_among (filter (λ q. ltb q sent) xs) m ≡ true → m < sent
  filtered_below sent m [] is = absurd (false≢true is)
  filtered_below sent m (x ∷ xs) is = go (ltb x sent) refl is (filtered_below sent m xs)
    where
      go : (b : Bool) → ltb x sent ≡ b
          → is_among (if b then x ∷ filter (λ q. ltb q sent) xs else filter (λ q. ltb q sent) xs) m ≡ true
          → (is_among (filter (λ q. ltb q sent) xs) m ≡ true → m < sent) → m < sent
      go false e is rest = rest is
      go true e is rest = elim (or_cases (eqb x m) (is_among (filter (λ q. ltb q sent) xs) m) is) [
        | inl same ↦
            omega (arith, ltb-true _ _ e, eqb-true x m same)
        | inr later ↦ rest later
      ]

  -- what feedback makes known was sent
  pub feedback_below : (sent m : ℕ) (reading : Option Message) → is_among (known_by_feedback rules sent reading) m
      ≡ true → m < sent
  unfolding made_known
  feedback_below sent m None is = absurd (false≢true is)
  feedback_below sent m (Some message) is = go (nearest_below rules sent (number_of message)) refl is
    where
      go : (o : Option ℕ) → nearest_below rules sent (number_of message) ≡ o
          → is_among (option_map_or (λ names. names)
          (option_and_then (λ t. if ltb sent (t + rules.half) then Some (called_complete rules sent t message
          ++ filter (λ q. ltb q sent) (flagged_after t (message_flags message))) else None) o) []) m ≡ true → m < sent
      go None e is = absurd (false≢true is)
      go (Some t) e is = by_test (ltb sent (t + rules.half)) is
        where
          by_test : (b : Bool) → is_among
              (option_map_or (λ names. names) (if b then Some (called_complete rules sent t message
              ++ filter (λ q. ltb q sent) (flagged_after t (message_flags message))) else None) []) m ≡ true → m < sent
          by_test true is =
              elim (or_cases _ _ (sym (list_any-append (λ x. eqb x m) (called_complete rules sent t message)
              (filter (λ q. ltb q sent) (flagged_after t (message_flags message)))) ∙ is)) [
                | inl one ↦ called_below sent t m message (nearest_below_less rules ruled sent (number_of message) t e)
                    one
                | inr other ↦ filtered_below sent m (flagged_after t (message_flags message)) other
              ]
          by_test false is = absurd (false≢true is)
