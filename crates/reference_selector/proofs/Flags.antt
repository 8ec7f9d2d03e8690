-- The numbers that flags name, as they are marked one after the other.
use Rattle.std.proofs.Common.{◌≡◌, ℕ, zero, suc, ◌+◌, ◌-◌, ◌<◌, Bool, true, false, ◌&&◌, ◌||◌, cond, nat_eq, nat_lt, nat_le, refl, sym, ap, ◌∙◌, arith, zero-add, List, [], ◌∷◌, ◌++◌, Option, Some, ltb}
use Rattle.std.specs.Prelude.{filter}
use Rattle.std.proofs.lemmas.Bool.Decides.{nat_tests}
use Rattle.call_model.specs.Numbers.{flags_of, flagged_after}
use Rattle.call_model.specs.CodedPictures.{is_among}
use Rattle.std.specs.Option.{option_map_or}
use Rattle.back_messages.specs.declared.message.Message.{Message as Written}
use Rattle.back_messages.specs.declared.message.Message.TheVariants as written
use Rattle.back_messages.specs.Text.{message_marks}
use Rattle.call_model.specs.Sending.{message_flags}
use Rattle.reference_selector.specs.Messages.{flags_in, is_flagged, is_named, message_of}

none_yet : (t sent : ℕ) (x : Bool) (m : ℕ) → (nat_lt t m && (nat_le m (t + 0) && (nat_lt m sent && x))) ≡ false
none_yet t sent true m = grind (arith, nat_tests)
none_yet t sent false m = grind (arith, nat_tests)

step : (t c sent m : ℕ) (b x y now rest : Bool)
    → rest ≡ (nat_lt (t + 1) m && (nat_le m (t + 1 + c) && (nat_lt m sent && x)))
    → now ≡ cond b (cond (nat_lt (t + 1) sent) (nat_eq (t + 1) m || rest) rest) rest → (m ≡ t + 1 → y ≡ b)
    → (t + 1 < m → y ≡ x)
    → now ≡ (nat_lt t m && (nat_le m (t + suc c) && (nat_lt m sent && y)))
step t c sent m true true true now rest h e here later = grind (arith, nat_tests)
step t c sent m true true false now rest h e here later = grind (arith, nat_tests)
step t c sent m true false true now rest h e here later = grind (arith, nat_tests)
step t c sent m true false false now rest h e here later = grind (arith, nat_tests)
step t c sent m false true true now rest h e here later = grind (arith, nat_tests)
step t c sent m false true false now rest h e here later = grind (arith, nat_tests)
step t c sent m false false true now rest h e here later = grind (arith, nat_tests)
step t c sent m false false false now rest h e here later = grind (arith, nat_tests)

sent_only : (sent x m : ℕ) (xs : List ℕ) → is_among (filter (λ q. ltb q sent) (x ∷ xs)) m
    ≡ cond (ltb x sent) (nat_eq x m || is_among (filter (λ q. ltb q sent) xs) m)
    (is_among (filter (λ q. ltb q sent) xs) m)
sent_only sent x m xs = at (ltb x sent) refl
  where
    at : (b : Bool) → ltb x sent ≡ b → is_among (filter (λ q. ltb q sent) (x ∷ xs)) m
        ≡ cond b (nat_eq x m || is_among (filter (λ q. ltb q sent) xs) m) (is_among (filter (λ q. ltb q sent) xs) m)
    at true e = rw e refl
    at false e = rw e refl

pick : (sent x m : ℕ) (xs : List ℕ) (b : Bool) → is_among (filter (λ q. ltb q sent) (cond b (x ∷ xs) xs)) m
    ≡ cond b (cond (ltb x sent) (nat_eq x m || is_among (filter (λ q. ltb q sent) xs) m)
    (is_among (filter (λ q. ltb q sent) xs) m)) (is_among (filter (λ q. ltb q sent) xs) m)
pick sent x m xs true = sent_only sent x m xs
pick sent x m xs false = refl

-- the numbers that flags name, by the number of the picture
pub named_are : (c t n sent m : ℕ) (test : ℕ → Bool)
    → is_among (filter (λ q. ltb q sent) (flagged_after t (flags_of c test n))) m
    ≡ is_named t sent (λ k. test (n + k)) c m
named_are zero t n sent m test = sym (none_yet t sent (test (n + (m - t))) m)
named_are (suc c) t n sent m test =
    step t c sent m (test (n + 1)) (test (n + 1 + (m - (t + 1)))) (test (n + (m - t))) _ _
    (named_are c (t + 1) (n + 1) sent m test)
    (pick sent (t + 1) m (flagged_after (t + 1) (flags_of c test (n + 1))) (test (n + 1)))
    (λ e. let k : n + (m - t) ≡ n + 1 = omega (arith, e) in ap test k)
    (λ h. let k : n + (m - t) ≡ n + 1 + (m - (t + 1)) = omega (arith, h) in ap test k)

-- none of them was looked at
pub none_named : (t sent m : ℕ) (flag : ℕ → Bool) (known : Bool) → known ≡ (is_named t sent flag 0 m || known)
none_named t sent m flag known = sym (ap (λ (b : Bool). b || known) (none_yet t sent (flag (m - t)) m))

marks_one : (t j sent m : ℕ) (x k : Bool) → t + 1 + j < sent → (m ≡ t + 1 + j → x ≡ true) →
    (nat_eq (t + 1 + j) m || ((nat_lt t m && (nat_le m (t + j) && (nat_lt m sent && x))) || k))
    ≡ ((nat_lt t m && (nat_le m (t + (j + 1)) && (nat_lt m sent && x))) || k)
marks_one t j sent m true true below set = grind (arith, nat_tests)
marks_one t j sent m true false below set = grind (arith, nat_tests)
marks_one t j sent m false true below set = grind (arith, nat_tests)
marks_one t j sent m false false below set = grind (arith, nat_tests)

-- the next one is marked
pub one_marked : (t j sent m : ℕ) (flag : ℕ → Bool) (k : Bool) → t + 1 + j < sent → flag (j + 1) ≡ true
    → (nat_eq (t + 1 + j) m || (is_named t sent flag j m || k)) ≡ (is_named t sent flag (j + 1) m || k)
one_marked t j sent m flag k below set =
    marks_one t j sent m (flag (m - t)) k below (λ e. let n : m - t ≡ j + 1 = omega (arith, e) in ap flag n ∙ set)

passes_one : (t j sent m : ℕ) (x : Bool) → (m ≡ t + 1 + j → m < sent → x ≡ false) →
    (nat_lt t m && (nat_le m (t + j) && (nat_lt m sent && x)))
    ≡ (nat_lt t m && (nat_le m (t + (j + 1)) && (nat_lt m sent && x)))
passes_one t j sent m true unset = grind (arith, nat_tests)
passes_one t j sent m false unset = grind (arith, nat_tests)

-- the next one was not sent, or its flag isn't set
pub one_passed : (t j sent m : ℕ) (flag : ℕ → Bool) (k : Bool) → (t + 1 + j < sent → flag (j + 1) ≡ false)
    → (is_named t sent flag j m || k) ≡ (is_named t sent flag (j + 1) m || k)
one_passed t j sent m flag k unset =
    ap (λ (b : Bool). b || k) (passes_one t j sent m (flag (m - t)) (λ e below. let n : m - t
    ≡ j + 1 = omega (arith, e) in ap flag n ∙ unset (omega (arith, e, below))))

pub among_both : (xs ys : List ℕ) (m : ℕ) → is_among (xs ++ ys) m ≡ (is_among xs m || is_among ys m)
among_both [] ys m = refl
among_both (x ∷ xs) ys m = at (nat_eq x m) (among_both xs ys m)
  where
    at : (b : Bool) → is_among (xs ++ ys) m ≡ (is_among xs m || is_among ys m) → (b || is_among (xs ++ ys) m)
        ≡ ((b || is_among xs m) || is_among ys m)
    at true more = refl
    at false more = more

pub regroup : (a b k : Bool) → (b || (a || k)) ≡ ((a || b) || k)
regroup true true k = refl
regroup true false k = refl
regroup false b k = refl

-- all fourteen flags were looked at
pub named_all : (t sent m j marks : ℕ) → j ≡ 14
    → is_among (filter (λ q. ltb q sent) (flagged_after t (flags_in (Some marks)))) m
    ≡ is_named t sent (is_flagged marks) j m
named_all t sent m j marks all =
    named_are 14 t 0 sent m (is_flagged marks)
    ∙ ap (λ (k : ℕ). nat_lt t m && (nat_le m (t + 14) && (nat_lt m sent && is_flagged marks k))) (zero-add (m - t))
    ∙ ap (λ (n : ℕ). is_named t sent (is_flagged marks) n m) (sym all)

pub among_one : (q m : ℕ) → is_among (q ∷ []) m ≡ nat_eq q m
among_one q m = at (nat_eq q m)
  where
    at : (b : Bool) → (b || false) ≡ b
    at true = refl
    at false = refl

-- what a message makes known: what it calls complete, and what it flags
pub known_both : (called flagged : List ℕ) (made : Option (List ℕ)) (m : ℕ) (k : Bool) → Some (called ++ flagged) ≡ made
    → (is_among flagged m || (is_among called m || k))
    ≡ (is_among (option_map_or (λ (numbers : List ℕ). numbers) made []) m || k)
known_both called flagged made m k is =
    regroup (is_among called m) (is_among flagged m) k
    ∙ ap (λ (b : Bool). b || k) (sym (among_both called flagged m))
    ∙ ap (λ (o : Option (List ℕ)). is_among (option_map_or (λ (numbers : List ℕ). numbers) o []) m || k) is

pub flags_are : (m : Written) → message_flags (message_of m) ≡ flags_in (message_marks m)
flags_are (written.Ack tr marks) = refl
flags_are (written.Nack tr rtr marks) = refl
