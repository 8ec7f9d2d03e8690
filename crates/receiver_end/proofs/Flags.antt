-- The flags of a message as they are put together, the last one first.
use Rattle.std.proofs.Common.{◌≡◌, ℕ, zero, suc, ◌+◌, ◌-◌, ◌*◌, ◌/◌, ◌%◌, ◌^◌, ◌<◌, ◌≤◌, Bool, true, false, cond, eqb, List, ◌∷◌, refl, ap, sym, ◌∙◌, subst, arith, add-one}
use Rattle.std.specs.Int.{bit_at}
use Rattle.std.proofs.Math.Nat.{pow-suc}
use Rattle.std.proofs.lemmas.Nat.Bits.{bit_at_lowest, bit_at-suc}
use Rattle.call_model.specs.Numbers.{flags_of}
use Rattle.reference_selector.specs.Messages.{is_flagged}

shifted : (c n : ℕ) (test : ℕ → Bool) → flags_of c test (n + 1) ≡ flags_of c (λ k. test (k + 1)) n
shifted zero n test = refl
shifted (suc c) n test = ap (λ (l : List Bool). test (n + 1 + 1) ∷ l) (shifted c (n + 1) test)

flags_same : (c n : ℕ) (f g : ℕ → Bool) → ((k : ℕ) → n < k → f k ≡ g k) → flags_of c f n ≡ flags_of c g n
flags_same zero n f g same = refl
flags_same (suc c) n f g same =
    ap (λ (b : Bool). b ∷ flags_of c f (n + 1)) (same (n + 1) (omega arith))
    ∙ ap (λ (l : List Bool). g (n + 1) ∷ l) (flags_same c (n + 1) f g (λ k lt. same k (omega (arith, lt))))

first : (m : ℕ) (test : Bool) → is_flagged (2 * m + cond test 1 0) 1 ≡ test
first m true = let e : (2 * m + 1) % 2 ≡ 1 = omega arith in ap (λ (k : ℕ). eqb k 1) (bit_at_lowest (2 * m + 1) ∙ e)
first m false = let e : (2 * m + 0) % 2 ≡ 0 = omega arith in ap (λ (k : ℕ). eqb k 1) (bit_at_lowest (2 * m + 0) ∙ e)

half : (m : ℕ) (test : Bool) → (2 * m + cond test 1 0) / 2 ≡ m
half m true = omega arith
half m false = omega arith

later : (m k : ℕ) (test : Bool) → 0 < k → is_flagged (2 * m + cond test 1 0) (k + 1) ≡ is_flagged m k
later m k test some =
    let e : k + 1 - 1 ≡ suc (k - 1) = omega (arith, some) in
    ap (λ (i : ℕ). eqb i 1) (ap (bit_at (2 * m + cond test 1 0)) e ∙ bit_at-suc (2 * m + cond test 1 0) (k - 1)
    ∙ ap (λ (i : ℕ). bit_at i (k - 1)) (half m test))

pub one_more : (c n m : ℕ) (test : ℕ → Bool) → flags_of c (is_flagged m) 0 ≡ flags_of c test (n + 1)
    → flags_of (c + 1) (is_flagged (2 * m + cond (test (n + 1)) 1 0)) 0 ≡ flags_of (c + 1) test n
one_more c n m test so_far = subst (λ (k : ℕ). flags_of k (is_flagged (2 * m + cond (test (n + 1)) 1 0)) 0
    ≡ flags_of k test n) (sym (add-one c))
    (ap (λ (b : Bool). b ∷ flags_of c (is_flagged (2 * m + cond (test (n + 1)) 1 0)) 1) (first m (test (n + 1)))
    ∙ ap (λ (l : List Bool). test (n + 1) ∷ l) (shifted c 0 (is_flagged (2 * m + cond (test (n + 1)) 1 0))
    ∙ flags_same c 0 _ (is_flagged m) (λ k some. later m k (test (n + 1)) some) ∙ so_far))

pub one_more_at : (j top m b : ℕ) (test : ℕ → Bool) → j < top → b ≡ cond (test (top - j)) 1 0
    → flags_of j (is_flagged m) 0 ≡ flags_of j test (top - j)
    → flags_of (j + 1) (is_flagged (2 * m + b)) 0 ≡ flags_of (j + 1) test (top - (j + 1))
one_more_at j top m b test below is so_far =
    let e : top - j ≡ top - (j + 1) + 1 = omega (arith, below) in
    ap (λ (k : ℕ). flags_of (j + 1) (is_flagged (2 * m + k)) 0) (is ∙ ap (λ (k : ℕ). cond (test k) 1 0) e)
    ∙ one_more j (top - (j + 1)) m test (so_far ∙ ap (flags_of j test) e)

bit : (b : ℕ) (test : Bool) → b ≡ cond test 1 0 → b ≤ 1
bit b true e = omega (arith, e)
bit b false e = omega (arith, e)

-- twice a number and a bit
pub doubled : (m b j : ℕ) (test : Bool) → b ≡ cond test 1 0 → m < 2 ^ j → 2 * m + b < 2 ^ (j + 1)
doubled m b j test is less =
    let e : 2 ^ (j + 1) ≡ 2 ^ j * 2 = ap (λ (k : ℕ). 2 ^ k) (add-one j) ∙ pow-suc 2 j in
    let low : b ≤ 1 = bit b test is in
    omega (arith, e, low, less)
