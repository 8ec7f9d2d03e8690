-- The number that a temporal reference stands for.
use Rattle.std.proofs.Common.{◌≡◌, ℕ, ◌+◌, ◌-◌, ◌*◌, ◌/◌, ◌%◌, ◌<◌, ◌≤◌, Bool, true, false, refl, sym, ap, ◌∙◌, arith, inl, inr, Option, Some, None, eqb, ltb}
use Rattle.std.specs.Prelude.{if◌then◌else◌}
use Rattle.std.proofs.Math.Nat.{add-mod_right, mod-eq_of_lt, mod-lt, mod-add-mod, add-mul-mod_self_right}
use Rattle.std.proofs.lemmas.Nat.{div-add-mod'}
use Rattle.std.proofs.lemmas.Bool.{cases_Bool, eq-eqb, eqb-true, ltb-false, ltb-true}
use Rattle.call_model.specs.Numbers.{first_from, greatest}
use Rattle.call_model.specs.Coding.{Rules, period}
use Rattle.call_model.specs.Sending.{nearest_below, NearestIsGreatest, NearestIsInPeriod, NearestIsNone}
use Rattle.call_model.proofs.NumberLemmas.{nearest_below_is}
use Rattle.call_model.proofs.Searching.{one_rest_is_far, greatest_is, greatest_is_none}

module _ (rules : Rules) (n rest : ℕ) (small : rest < period rules) where
  abbrev pub first : ℕ
  first = n + (rest + (period rules - n % period rules)) % period rules

  positive : 0 < period rules
  positive = omega (arith, small)

  first_low : n ≤ first
  first_low = omega arith

  first_high : first < n + period rules
  first_high = omega (arith, mod-lt (rest + (period rules - n % period rules)) positive)

  first_rest : first % period rules ≡ rest
  first_rest =
      let p = period rules in
      let k = rest + (p - n % p) in
      let whole : n / p * p + n % p ≡ n = div-add-mod' n p in
      let less : n % p < p = mod-lt n positive in
      let turned : (n + k % p) % p ≡ (k % p + n) % p = ap (λ (i : ℕ). i % p) (omega arith) in
      let all : (k % p + n) % p ≡ (k + n) % p = mod-add-mod k p n in
      let sum : k + n ≡ rest + (n / p + 1) * p = omega arith in
      turned ∙ all ∙ ap (λ (i : ℕ). i % p) sum ∙ add-mul-mod_self_right rest (n / p + 1) p ∙ mod-eq_of_lt small

  forth : (m : ℕ) → nearest_below rules n rest ≡ Some m → (m < n) × (n ≤ m + period rules) × (m % period rules ≡ rest)
  unfolding nearest_below first_from
  forth m e = go (ltb first (period rules)) refl e
    where
      go : (b : Bool) → ltb first (period rules) ≡ b
          → (let o : Option ℕ = if b then None else Some (first - period rules) in o) ≡ Some m
          → (m < n) × (n ≤ m + period rules) × (m % period rules ≡ rest)
      go true is e = cc
      go false is e =
          let value : first - period rules ≡ m = cc in
          let enough : period rules ≤ first = ltb-false _ _ is in
          let back : m + period rules ≡ first = omega (arith, value, enough) in (
            omega (arith, back, first_high),
            omega (arith, back, first_low),
            sym (add-mod_right m (period rules)) ∙ ap (λ (i : ℕ). i % period rules) back ∙ first_rest,
          )

  found : (m : ℕ) → m < n → n ≤ m + period rules → m % period rules ≡ rest → nearest_below rules n rest ≡ Some m
  found m below close is = ap (nearest_below rules n) (sym is) ∙ nearest_below_is rules n m below close

  none_low : nearest_below rules n rest ≡ None → n ≤ period rules
  unfolding nearest_below first_from
  none_low e = go (ltb first (period rules)) refl e
    where
      go : (b : Bool) → ltb first (period rules) ≡ b
          → (let o : Option ℕ = if b then None else Some (first - period rules) in o) ≡ None → n ≤ period rules
      go true is e = omega (arith, ltb-true _ _ is, first_low)
      go false is e = cc

  none_forth : nearest_below rules n rest ≡ None → (m : ℕ) → m < n → m % period rules ≡ rest → ⊥
  none_forth e m below is = differ (sym e ∙ found m below (omega (arith, none_low e)) is)
    where
      differ : (let o : Option ℕ = None in o) ≡ Some m → ⊥
      differ e = cc

  none_back : ((m : ℕ) → m < n → m % period rules ≡ rest → ⊥) → nearest_below rules n rest ≡ None
  none_back none = go (nearest_below rules n rest) refl
    where
      go : (o : Option ℕ) → nearest_below rules n rest ≡ o → nearest_below rules n rest ≡ None
      go None e = e
      go (Some m) e = let f = forth m e in absurd (none m f.0 f.2)

-- ---- what is said of it

pub nearest_is_in_period : NearestIsInPeriod
nearest_is_in_period rules n rest m small = (forth rules n rest small m, λ p. found rules n rest small m p.0 p.1 p.2)

pub nearest_is_none : NearestIsNone
nearest_is_none rules n rest small = (none_forth rules n rest small, none_back rules n rest small)

pub nearest_is_greatest : NearestIsGreatest
nearest_is_greatest rules n rest small = go (nearest_below rules n rest) refl
  where
    has_rest : ℕ → Bool
    has_rest m = eqb (m % period rules) rest

    not_rest : (m : ℕ) → (m % period rules ≡ rest → ⊥) → has_rest m ≡ false
    not_rest m other = elim (cases_Bool (has_rest m)) [
      | inl is ↦ absurd (other (eqb-true (m % period rules) rest is))
      | inr is ↦ is
    ]

    go : (o : Option ℕ) → nearest_below rules n rest ≡ o → nearest_below rules n rest ≡ greatest has_rest n
    go None e =
        e ∙ sym ((greatest_is_none has_rest n).1 (λ k below. not_rest k (none_forth rules n rest small e k below)))
    go (Some m) e =
        let f = forth rules n rest small m e in
        e ∙ sym ((greatest_is has_rest n m).1 (
          eq-eqb (m % period rules) rest f.2,
          f.0,
          λ k above below.
              not_rest k (λ is. let far : m + period rules ≤ k = one_rest_is_far (period rules) m k
              (omega (arith, small)) (f.2 ∙ sym is) above in omega (arith, far, below, f.1)),
        ))
