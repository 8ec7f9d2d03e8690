-- The first receiver that is waited for.
use Rattle.std.proofs.Common.{◌≡◌, ℕ, ◌+◌, ◌<◌, ◌≤◌, Bool, true, false, not, ◌&&◌, ◌||◌, refl, ap, ◌∙◌, arith, inl, inr, List, Option, Some, None, length, cond, leb, ltb}
use Rattle.std.specs.List.{position}
use Rattle.std.proofs.lemmas.Bool.{and_left, and_right, cases_lt, le-ltb, lt-leb, lt-ltb}
use Rattle.std.proofs.lemmas.List.Sums.{position_or_len_is}
use Rattle.call_model.specs.Numbers.{GreatestIsNone, greatest}
use Rattle.group_sender.specs.Parties.{Party, nobody, party_at}

-- of a receiver that is there, what it has
pub has_of : (b h : Bool) → b ≡ true → (not b || h) ≡ h
has_of true h there = refl
has_of false h there = let wrong : false ≡ true = there in cc

-- where none of the last pictures passes a test, none in the window does
pub none_in : GreatestIsNone → (test : ℕ → Bool) (n near : ℕ) → ((m : ℕ) → m < n → n ≤ m + near → test m ≡ false)
    → greatest (λ m. test m && leb n (m + near)) n ≡ None
none_in greatest_is test n near none = (greatest_is (λ m. test m && leb n (m + near)) n).1
    (λ m below. elim (cases_lt (m + near) n) [
      | inl far ↦ and_right (test m) (leb n (m + near)) (lt-leb n (m + near) far)
      | inr close ↦ and_left (test m) (leb n (m + near)) (none m below close)
    ])

pub first_is : (p : Party → Bool) (parties : List Party) (k : ℕ) → k < length parties
    → ((j : ℕ) → j < k → p (party_at parties j) ≡ false) → p (party_at parties k) ≡ true
    → position p parties ≡ Some k
first_is p parties k below before here =
    ap (λ (i : ℕ). let o : Option ℕ = cond (ltb i (length parties)) (Some i) None in
    o) (position_or_len_is p parties k nobody (omega (arith, below)) before (λ lt. here))
    ∙ ap (λ (b : Bool). let o : Option ℕ = cond b (Some k) None in o) (lt-ltb k (length parties) below)

pub none_is : (p : Party → Bool) (parties : List Party)
    → ((j : ℕ) → j < length parties → p (party_at parties j) ≡ false) → position p parties ≡ None
none_is p parties before =
    ap (λ (i : ℕ). let o : Option ℕ = cond (ltb i (length parties)) (Some i) None in
    o) (position_or_len_is p parties (length parties) nobody (omega arith) before
    (λ lt. absurd (omega (arith, lt))))
    ∙ ap (λ (b : Bool). let o : Option ℕ = cond b (Some (length parties)) None in
    o) (le-ltb (length parties) (length parties) (omega arith))
