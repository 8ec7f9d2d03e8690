-- Numbers of a window, and the greatest of them that passes a test.
use Rattle.std.proofs.Common.{◌≡◌, ℕ, zero, suc, ◌+◌, ◌-◌, ◌%◌, ◌<◌, ◌≤◌, Bool, true, false, ◌&&◌, refl, sym, ap, ◌∙◌, subst, arith, inl, inr, Some, None, ltb, leb}
use Rattle.std.specs.Prelude.{if◌then◌else◌}
use Rattle.std.proofs.lemmas.Bool.{and_left, and_right, and_from, le-leb, lt-leb, cases_eq, cases_lt}
use Rattle.call_model.specs.Numbers.{first_from, greatest}
use Rattle.call_model.specs.Numbers.{first_from, greatest, OneInAPeriod}
use Rattle.call_model.specs.Coding.{Rules, window}
use Rattle.call_model.specs.CodedPictures.{reference_for}

-- two of the last slots numbers with one rest are the same
pub one_rest : OneInAPeriod → (slots sent m n : ℕ) → 0 < slots → m < sent → sent ≤ m + slots → n < sent
    → sent ≤ n + slots → m % slots ≡ n % slots → m ≡ n
one_rest one slots sent m n pos m_below m_last n_below n_last same =
    let a : first_from slots (sent - slots) (m % slots) ≡ m = one slots (sent - slots) m pos (omega arith)
    (omega arith) in
    let b : first_from slots (sent - slots) (n % slots) ≡ n = one slots (sent - slots) n pos (omega arith)
    (omega arith) in
    sym a ∙ ap (first_from slots (sent - slots)) same ∙ b

pub greatest_found : (test : ℕ → Bool) (n m : ℕ) → test m ≡ true → m < n → ((k : ℕ) → m < k → k < n → test k ≡ false)
    → greatest test n ≡ Some m
greatest_found test zero m passes below above = absurd (omega arith)
greatest_found test (suc n) m passes below above =
    elim (cases_eq m n) [
      | inl e ↦ let here : test n ≡ true = subst (λ (i : ℕ). test i ≡ true) e passes in rw (here, e) refl
      | inr ne ↦
          let lt : m < n = omega arith in
          let here : test n ≡ false = above n lt (omega arith) in
          rw here (greatest_found test n m passes lt (λ k low high. above k low (omega arith)))
    ]

pub greatest_none : (test : ℕ → Bool) (n : ℕ) → ((k : ℕ) → k < n → test k ≡ false) → greatest test n ≡ None
greatest_none test zero none = refl
greatest_none test (suc n) none = rw (none n (omega arith)) (greatest_none test n (λ k lt. none k (omega arith)))

-- the newest known number of the window is the reference, if its chain may grow
pub reference_found : (rules : Rules) (depth : ℕ → ℕ) (known : ℕ → Bool) (n m : ℕ) → m < n → n ≤ m + window rules
    → known m ≡ true → ((k : ℕ) → m < k → k < n → known k ≡ false) → reference_for rules depth known n
    ≡ (if ltb (depth m) rules.chain then Some m else None)
unfolding reference_for
reference_found rules depth known n m below close is_known newer =
    rw (greatest_found (λ k. known k && leb n (k + window rules)) n m
    (and_from _ _ is_known (le-leb n (m + window rules) close)) below
    (λ k low high. and_left _ _ (newer k low high))) refl

pub reference_none : (rules : Rules) (depth : ℕ → ℕ) (known : ℕ → Bool) (n : ℕ)
    → ((k : ℕ) → k < n → n ≤ k + window rules → known k ≡ false) → reference_for rules depth known n ≡ None
unfolding reference_for
reference_none rules depth known n none =
    rw (greatest_none (λ k. known k && leb n (k + window rules)) n (λ k lt. elim (cases_lt (k + window rules) n) [
      | inl far ↦ and_right _ _ (lt-leb n (k + window rules) far)
      | inr close ↦ and_left _ _ (none k lt close)
    ])) refl
