-- How large products of signed numbers are.
use Rattle.std.proofs.Common.{ℕ, ◌*◌, ◌≤◌, ℤ, pos, negsuc, ◌*ℤ◌, arith, unsigned_abs, subst, sym}
use Rattle.std.proofs.lemmas.Int.{ints, unsigned_abs-mul}
use Rattle.std.proofs.Math.Nat.{mul-le-mul}
use Rattle.idct8.specs.Ranges.{Within}

abs_mul_le : (a b : ℤ) (m n : ℕ) → unsigned_abs a ≤ m → unsigned_abs b ≤ n → unsigned_abs (a *ℤ b) ≤ m * n
abs_mul_le a b m n ha hb = let P : ℕ → Type 0 = λ k. k ≤ m * n in
    subst P (sym (unsigned_abs-mul a b)) (mul-le-mul ha hb)

pub abs_from_within : (n : ℕ) (z : ℤ) → Within n z → unsigned_abs z ≤ n
abs_from_within n (pos k) h = omega (arith, ints)
abs_from_within n (negsuc k) h = omega (arith, ints)

pub within_from_abs : (n : ℕ) (z : ℤ) → unsigned_abs z ≤ n → Within n z
within_from_abs n (pos k) h = omega (arith, ints)
within_from_abs n (negsuc k) h = omega (arith, ints)

-- a product is within the product of the bounds
pub within_mul : (m n : ℕ) (a b : ℤ) → Within m a → Within n b → Within (m * n) (a *ℤ b)
within_mul m n a b ha hb = within_from_abs (m * n) (a *ℤ b) (abs_mul_le a b m n (abs_from_within m a ha)
    (abs_from_within n b hb))

pub within_more : (m n : ℕ) (z : ℤ) → m ≤ n → Within m z → Within n z
within_more m n z h w = omega (arith, ints)
