-- The nearest number below another one with a temporal reference, and what a message makes known.
use Rattle.std.proofs.Common.{◌≡◌, ℕ, ◌+◌, ◌-◌, ◌*◌, ◌%◌, ◌<◌, ◌≤◌, Bool, sym, ap, ◌∙◌, refl, subst, List, [], ◌∷◌, ◌++◌, Option, Some, None, ltb}
use Rattle.std.specs.Prelude.{if◌then◌else◌, filter}
use Rattle.std.specs.Option.{option_map_or}
use Rattle.std.proofs.lemmas.Bool.{lt-ltb, le-ltb, ne_eqb, eq-eqb}
use Rattle.h263_types.specs.declared.clock.Clock.{Clock}
use Rattle.h263_types.specs.Clocks.{half_of, period_of}
use Rattle.call_model.specs.Coding.{Rules, period, Message, Ack, Nack}
use Rattle.call_model.specs.Numbers.{first_from, flagged_after}
use Rattle.call_model.specs.Sending.{nearest_below, nearest, made_known, called_complete, number_of, message_flags}

pub period_is : (rules : Rules) (clock : Clock) → rules.half ≡ half_of clock → period_of clock ≡ period rules
period_is rules clock half = ap (λ (h : ℕ). 2 * h) (sym half)

-- the first number from n on with this rest
abbrev first : ℕ → ℕ → ℕ → ℕ
first p n rest = n + (rest + (p - n % p)) % p

code : (rules : Rules) (n rest p : ℕ) → p ≡ period rules → nearest_below rules n rest
    ≡ (if ltb (first p n rest) p then None else Some (first p n rest - p))
unfolding nearest_below first_from
code rules n rest p is = ap (λ (q : ℕ). if ltb (first q n rest) q then None else Some (first q n rest - q)) (sym is)

pub nearest_none : (rules : Rules) (n rest r p : ℕ) → p ≡ period rules → r ≡ rest → first p n r < p
    → None ≡ nearest_below rules n rest
nearest_none rules n rest r p is same less =
    subst (λ (k : ℕ). None ≡ nearest_below rules n k) same (sym (code rules n r p is ∙ rw (lt-ltb _ p less) refl))

pub nearest_some : (rules : Rules) (n rest r p : ℕ) → p ≡ period rules → r ≡ rest → p ≤ first p n r
    → Some (first p n r - p) ≡ nearest_below rules n rest
nearest_some rules n rest r p is same more =
    subst (λ (k : ℕ). Some (first p n r - p) ≡ nearest_below rules n k) same (sym (code rules n r p is
    ∙ rw (le-ltb _ p more) refl))

-- what a message about t makes known
abbrev pub known_from : Rules → ℕ → Message → ℕ → List ℕ
known_from rules sent message t =
    called_complete rules sent t message ++ filter (λ q. ltb q sent) (flagged_after t (message_flags message))

pub made_none : (rules : Rules) (sent : ℕ) (message : Message) (rest : ℕ) → rest ≡ number_of message
    → None ≡ nearest_below rules sent rest → None ≡ made_known rules sent message
unfolding made_known
made_none rules sent message rest same none = rw (sym same, sym none) refl

pub made_old : (rules : Rules) (sent t h : ℕ) (message : Message) (rest : ℕ) → rules.half ≡ h → rest ≡ number_of message
    → Some t ≡ nearest_below rules sent rest → t + h ≤ sent → None ≡ made_known rules sent message
unfolding made_known
made_old rules sent t h message rest half same some old = rw (sym same, sym some, half, le-ltb sent (t + h) old) refl

pub made_some : (rules : Rules) (sent t h : ℕ) (message : Message) (rest : ℕ) → rules.half ≡ h
    → rest ≡ number_of message → Some t ≡ nearest_below rules sent rest → sent < t + h
    → Some (known_from rules sent message t) ≡ made_known rules sent message
unfolding made_known
made_some rules sent t h message rest half same some new = sym (rw (sym same, sym some, half, lt-ltb sent (t + h) new)
    refl)

pub called_other : (rules : Rules) (sent t number offered h : ℕ) (flags : List Bool) (o : Option ℕ) → rules.half ≡ h
    → (number ≡ offered → ⊥) → o ≡ nearest_below rules (t + h) offered
    → called_complete rules sent t (Nack number offered flags)
    ≡ option_map_or (λ q. if ltb q sent then q ∷ [] else []) o []
unfolding called_complete nearest
called_other rules sent t number offered h flags o half differ is =
    let there : nearest_below rules (t + rules.half) offered
    ≡ o = ap (λ (k : ℕ). nearest_below rules (t + k) offered) half ∙ sym is in
    rw (ne_eqb number offered differ, there) refl

pub called_none : (rules : Rules) (sent t number offered : ℕ) (flags : List Bool) → number ≡ offered
    → called_complete rules sent t (Nack number offered flags) ≡ []
unfolding called_complete
called_none rules sent t number offered flags same = rw (eq-eqb number offered same) refl

pub called_ack : (rules : Rules) (sent t number : ℕ) (flags : List Bool)
    → called_complete rules sent t (Ack number flags) ≡ t ∷ []
unfolding called_complete
called_ack rules sent t number flags = refl
