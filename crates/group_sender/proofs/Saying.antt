-- What a receiver has said.
use Rattle.std.proofs.Common.{◌≡◌, ℕ, ◌+◌, ◌-◌, ◌*◌, ◌%◌, ◌<◌, ◌≤◌, Bool, true, false, ◌||◌, refl, sym, ◌∙◌, subst, arith, List, [], ◌∷◌, ◌++◌, Option, Some, None, eqb, ltb}
use Rattle.std.specs.Prelude.{if◌then◌else◌, filter, option_and_then}
use Rattle.std.specs.Option.{option_map_or}
use Rattle.std.proofs.lemmas.Bool.{ltb-true, ltb-false, eqb-true}
use Rattle.std.proofs.lemmas.List.Folds.{list_any-append}
use Rattle.std.proofs.Math.Nat.{mod-lt}
use Rattle.call_model.specs.Coding.{Rules, Message, Ack, Nack}
use Rattle.call_model.specs.CodedPictures.{is_among}
use Rattle.call_model.specs.Numbers.{first_from, flagged_after}
use Rattle.call_model.specs.Sending.{called_complete, known_by_feedback, made_known, message_flags, nearest, nearest_below, number_of}

-- what isn't so is false
pub is_false : (b : Bool) → (b ≡ true → ⊥) → b ≡ false
is_false true no_way = absurd (no_way refl)
is_false false no_way = refl

-- each number among these is below the bound
abbrev pub AreBelow : ℕ → List ℕ → Type 0
AreBelow sent numbers = (m : ℕ) → is_among numbers m ≡ true → m < sent

none_below : (sent : ℕ) → AreBelow sent []
none_below sent m is = let e : false ≡ true = is in cc

or_either : (A : Type 0) (a b : Bool) → (a || b) ≡ true → (a ≡ true → A) → (b ≡ true → A) → A
or_either A true b is left right = left refl
or_either A false b is left right = right is

more_below : (sent q : ℕ) (numbers : List ℕ) → q < sent → AreBelow sent numbers → AreBelow sent (q ∷ numbers)
more_below sent q numbers below rest m is =
    or_either (m < sent) (eqb q m) (is_among numbers m) is (λ t. subst (λ (k : ℕ). k < sent) (eqb-true q m t) below)
    (rest m)

pub both_below : (sent : ℕ) (a b : List ℕ) → AreBelow sent a → AreBelow sent b → AreBelow sent (a ++ b)
both_below sent a b left right m is =
    or_either (m < sent) (is_among a m) (is_among b m) (sym (list_any-append (λ q. eqb q m) a b)
    ∙ is) (left m) (right m)

-- those that pass this test are
filtered_below : (sent : ℕ) (numbers : List ℕ) → AreBelow sent (filter (λ q. ltb q sent) numbers)
filtered_below sent [] = none_below sent
filtered_below sent (x ∷ xs) = go (ltb x sent) refl (filtered_below sent xs)
  where
    go : (b : Bool) → ltb x sent ≡ b → AreBelow sent (filter (λ q. ltb q sent) xs)
        → AreBelow sent (filter (λ q. ltb q sent) (x ∷ xs))
    go true is rest = rw is (more_below sent x (filter (λ q. ltb q sent) xs) (ltb-true x sent is) rest)
    go false is rest = rw is rest

apart : (x p n y t : ℕ) → x ≡ n + y % p → p ≤ x → x - p ≡ t → y % p < p → t < n
apart x p n y t is high same small = omega (arith, is, high, same, small)

-- the nearest number below n is below n
below_is_below : (rules : Rules) (n rest t : ℕ) → 0 < rules.half → nearest_below rules n rest ≡ Some t → t < n
unfolding nearest_below first_from
below_is_below rules n rest t some is = go (ltb x p) refl is
  where
    p : ℕ
    p = 2 * rules.half

    x : ℕ
    x = n + (rest + (p - n % p)) % p

    go : (b : Bool) → ltb x p ≡ b → (let o : Option ℕ = if b then None else Some (x - p) in o) ≡ Some t → t < n
    go true low e = cc
    go false low e =
        let same : x - p ≡ t = cc in
        let small : (rest + (p - n % p)) % p < p = mod-lt (rest + (p - n % p)) (omega (arith, some)) in
        apart x p n (rest + (p - n % p)) t refl (ltb-false x p low) same small

-- a number that is called complete was sent
called_below : (rules : Rules) (sent t : ℕ) (message : Message) → t < sent
    → AreBelow sent (called_complete rules sent t message)
unfolding called_complete
called_below rules sent t (Ack number flags) below = more_below sent t [] below (none_below sent)
called_below rules sent t (Nack number offered flags) below = go (eqb number offered) (nearest rules t offered)
  where
    kept : (q : ℕ) (b : Bool) → ltb q sent ≡ b → AreBelow sent (if b then q ∷ [] else [])
    kept q true is = more_below sent q [] (ltb-true q sent is) (none_below sent)
    kept q false is = none_below sent

    go : (same : Bool) (o : Option ℕ)
        → AreBelow sent (if same then [] else option_map_or (λ q. if ltb q sent then q ∷ [] else []) o [])
    go true o = none_below sent
    go false None = none_below sent
    go false (Some q) = kept q (ltb q sent) refl

-- so was each number that a message makes known
pub said_below : (rules : Rules) (sent : ℕ) (message : Message) → 0 < rules.half
    → AreBelow sent (known_by_feedback rules sent (Some message))
unfolding made_known
said_below rules sent message some = go (nearest_below rules sent (number_of message)) refl
  where
    flagged : ℕ → List ℕ
    flagged t = filter (λ q. ltb q sent) (flagged_after t (message_flags message))

    at : (t : ℕ) (b : Bool) → t < sent
        → AreBelow sent (option_map_or (λ l. l) (if b then Some (called_complete rules sent t message
        ++ flagged t) else None) [])
    at t true below = both_below sent (called_complete rules sent t message) (flagged t)
        (called_below rules sent t message below) (filtered_below sent (flagged_after t (message_flags message)))
    at t false below = none_below sent

    go : (o : Option ℕ) → nearest_below rules sent (number_of message) ≡ o
        → AreBelow sent (option_map_or (λ l. l)
        (option_and_then (λ t. if ltb sent (t + rules.half) then Some (called_complete rules sent t message
        ++ flagged t) else None) o) [])
    go None is = none_below sent
    go (Some t) is = at t (ltb sent (t + rules.half)) (below_is_below rules sent (number_of message) t some is)
