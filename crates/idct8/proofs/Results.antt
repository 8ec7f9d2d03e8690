-- How large the results of the transforms are.
use Rattle.std.proofs.Common.{◌≡◌, ℕ, ◌*◌, ◌^◌, ◌+◌, ◌-◌, ◌<◌, ◌≤◌, ◌∙◌, sym, ℤ, pos, negsuc, neg_ℤ, ◌+ℤ◌, ◌*ℤ◌, ◌≤ℤ◌, List, arith, lit≤, w16, to_z, of_z}
use Rattle.std.specs.Int.{int_shr}
use Rattle.std.proofs.lemmas.Int.{ints}
use Rattle.h263_types.specs.Blocks.{IsCoefficient, IsValue}
use Rattle.idct8.specs.declared.passes.Direction.{Direction}
use Rattle.idct8.specs.declared.passes.Direction.TheVariants.{Inverse, Forward}
use Rattle.idct8.specs.Sums.{sum_below}
use Rattle.idct8.specs.Ranges.{IsSample, Within}
use Rattle.idct8.specs.Transform.{entry, rounded, inverse_at, forward_at}
use Rattle.idct8.specs.Passes.{factor}
use Rattle.idct8.proofs.Sums.{same_sum, factor_sum, times_assoc}
use Rattle.idct8.proofs.Factors.{within_pass, within_same}
use Rattle.idct8.proofs.Shifts.{all_bits}

-- sum r over column i of a block
abbrev column_sums : Direction → List ℤ → ℕ → ℕ → ℤ
column_sums d block r i = sum_below 8 (λ j. factor d j r *ℤ entry block j i)

-- the double sum over a block of numbers from -b to b
double_small : (d : Direction) (b : ℕ) (c : List ℤ) (r k : ℕ) → r < 8 → k < 8
    → ((j i : ℕ) → j < 8 → i < 8 → Within b (entry c j i)) →
    Within (2841 * (2841 * b * 8) * 8)
    (sum_below 8 (λ i. sum_below 8 (λ j. factor d i k *ℤ factor d j r *ℤ entry c j i)))
double_small d b c r k hr hk h =
    within_same (2841 * (2841 * b * 8) * 8) (2841 * (2841 * b * 8) * 8) (omega arith)
    (same_sum 8 (λ i. sum_below 8 (λ j. factor d i k *ℤ factor d j r *ℤ entry c j i))
    (λ i. factor d i k *ℤ column_sums d c r i)
    (λ i hi. sym (factor_sum (factor d i k) 8 (λ j. factor d j r *ℤ entry c j i)
    ∙ same_sum 8 _ _ (λ j hj. times_assoc (factor d i k) (factor d j r) (entry c j i)))))
    (within_pass d (2841 * b * 8) k (λ i. column_sums d c r i) hk (λ i hi. within_pass d b r (λ j. entry c j i) hr
    (λ j hj. h j i hj hi)))

-- rounding takes 25 bits away
shifted_40 : (z : ℤ) → neg_ℤ (pos (2 ^ 40 - 2 ^ 24)) ≤ℤ z → z ≤ℤ pos (2 ^ 40 + 2 ^ 24) → Within (2 ^ 15) (int_shr z 25)
shifted_40 (pos n) low high = omega (arith, ints)
shifted_40 (negsuc n) low high = omega (arith, ints)

rounded_40 : (z : ℤ) → Within (2 ^ 40) z → Within (2 ^ 15) (rounded z)
rounded_40 z h = shifted_40 (z +ℤ pos (2 ^ 24)) (omega (arith, ints)) (omega (arith, ints))

within_more : (m n : ℕ) (z : ℤ) → m ≤ n → Within m z → Within n z
within_more m n z h w = omega (arith, ints)

pub value_within : {z : ℤ} → IsValue z → Within (2 ^ 11) z
value_within {z} h = omega (arith, ints)

-- a value comes back from 16 bits
pub value_kept : (z : ℤ) → IsValue z → to_z w16 (of_z w16 z) ≡ z
value_kept z h = omega (arith, ints)

pub sample_within : {z : ℤ} → IsSample z → Within 255 z
sample_within {z} h = omega (arith, ints)

pub inverse_small : (c : List ℤ) (y x : ℕ) → y < 8 → x < 8
    → ((j i : ℕ) → j < 8 → i < 8 → Within (2 ^ 11) (entry c j i)) →
    {z : ℤ} → z ≡ inverse_at c y x → Within (2 ^ 15) z
inverse_small c y x hy hx h {z} e =
    within_same (2 ^ 15) (2 ^ 15) (lit≤ tt) e
    (rounded_40 _ (within_more (2841 * (2841 * 2 ^ 11 * 8) * 8) (2 ^ 40) _ (lit≤ tt)
    (double_small Inverse (2 ^ 11) c y x hy hx h)))

-- it fits 16 bits
narrow_rounded : (z : ℤ) → Within (2841 * (2841 * 2 ^ 11 * 8) * 8) z → Within 32000 (rounded z)
narrow_rounded z h = (
  omega (arith, ints, h, all_bits (z +ℤ pos (2 ^ 24))),
  omega (arith, ints, h, all_bits (z +ℤ pos (2 ^ 24))),
)

pub inverse_narrow : (c : List ℤ) (y x : ℕ) → y < 8 → x < 8
    → ((j i : ℕ) → j < 8 → i < 8 → Within (2 ^ 11) (entry c j i)) →
    {z : ℤ} → z ≡ inverse_at c y x → Within 32000 z
inverse_narrow c y x hy hx h {z} e = within_same 32000 32000 (lit≤ tt) e
    (narrow_rounded _ (double_small Inverse (2 ^ 11) c y x hy hx h))

pub forward_small : (s : List ℤ) (v u : ℕ) → v < 8 → u < 8 → ((j i : ℕ) → j < 8 → i < 8 → Within 255 (entry s j i)) →
    {z : ℤ} → z ≡ forward_at s v u → IsCoefficient z
forward_small s v u hv hu h {z} e =
    let w : Within (2 ^ 15) z = within_same (2 ^ 15) (2 ^ 15) (lit≤ tt) e
    (rounded_40 _ (within_more (2841 * (2841 * 255 * 8) * 8) (2 ^ 40) _ (lit≤ tt)
    (double_small Forward 255 s v u hv hu h))) in
    record { low = omega (arith, ints); high = omega (arith, ints) }
