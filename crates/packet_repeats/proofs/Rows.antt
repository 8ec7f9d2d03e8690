-- Numbers that follow one another have other remainders, up to as many as there are places.
use Rattle.std.proofs.Common.{◌≡◌, ℕ, ◌+◌, ◌*◌, ◌-◌, ◌/◌, ◌%◌, ◌^◌, ◌<◌, ◌≤◌, ap, sym, arith, ◌∙◌, inl, inr}
use Rattle.std.proofs.lemmas.Bool.{cases_lt}
use Rattle.std.proofs.lemmas.Nat.{mod_below}
use Rattle.std.proofs.Math.Nat.{mul-add-mod_self_left, mul-add-mod_self_right, div-add-mod, mod-eq_of_lt, mod-eq-sub-mod, mod-mod}
use Rattle.std.proofs.Math.Pow.{pow-lt, mod-pow-add}
use Rattle.packet_repeats.specs.Sent.{ArePlaces}

pub other_remainder : (s k places : ℕ) → 0 < k → k < places → (s + k) % places ≡ s % places → ⊥
other_remainder s k places some few same =
    let r = s % places in
    let low : r < places = mod_below s places (omega (arith, some, few)) in
    let whole : places * (s / places) + r ≡ s = div-add-mod s places in
    let split : s + k ≡ places * (s / places) + (r + k) = omega (arith, whole) in
    let modulo : (s + k) % places ≡ (r + k) % places =
    ap (λ (n : ℕ). n % places) split ∙ mul-add-mod_self_left places (s / places) (r + k) in
    elim (cases_lt (r + k) places) [
      | inl below ↦
          let is : (r + k) % places ≡ r + k = mod-eq_of_lt below in
          omega (arith, some, same, modulo, is)
      | inr beyond ↦
          let less : r + k - places < places = omega (arith, low, few, beyond) in
          let is : (r + k) % places ≡ r + k - places = mod-eq-sub-mod beyond ∙ mod-eq_of_lt less in
          omega (arith, some, few, same, modulo, is, beyond)
    ]

pow_le : (i j : ℕ) → i ≤ j → 2 ^ i ≤ 2 ^ j
pow_le i j le =
    elim (cases_lt i j) [
      | inl lt ↦
          let less : 2 ^ i < 2 ^ j = pow-lt lt in
          omega (arith, less)
      | inr ge ↦
          let same : i ≡ j = omega (arith, le, ge) in
          let both : 2 ^ i ≡ 2 ^ j = ap (λ (n : ℕ). 2 ^ n) same in
          omega (arith, both)
    ]

-- the power of two is at most the sixteenth
power_few : (k count : ℕ) → 2 ^ k < 2 * count → count ≤ 65536 → k ≤ 16
power_few k count few small =
    elim (cases_lt 16 k) [
      | inl above ↦
          let more : 2 ^ 17 ≤ 2 ^ k = pow_le 17 k (omega (arith, above)) in
          absurd (omega (arith, more, few, small))
      | inr it ↦ it
    ]

pub bounded : (count places : ℕ) → ArePlaces count places → count ≤ 65536 → places ≤ 65536
bounded count places are small =
    let k = are.power.0 in
    let is : places ≡ 2 ^ k = are.power.1 in
    let few : 2 ^ k < 2 * count = omega (arith, are.few, is) in
    let most : 2 ^ k ≤ 2 ^ 16 = pow_le k 16 (power_few k count few small) in
    omega (arith, most, is)

-- a number modulo 65,536 has the remainder that the number has
pub remainder_kept : (count places n : ℕ) → ArePlaces count places → count ≤ 65536 → n % 65536 % places ≡ n % places
remainder_kept count places n are small =
    let k = are.power.0 in
    let is : places ≡ 2 ^ k = are.power.1 in
    let few : 2 ^ k < 2 * count = omega (arith, are.few, is) in
    let most : k ≤ 16 = power_few k count few small in
    let all : 16 ≡ (16 - k) + k = omega (arith, most) in
    let as_power : n % 65536 ≡ n % 2 ^ ((16 - k) + k) = ap (λ (j : ℕ). n % 2 ^ j) all in
    ap (λ (m : ℕ). n % 65536 % m) is ∙ ap (λ (m : ℕ). m % 2 ^ k) (as_power ∙ mod-pow-add n (16 - k) k)
    ∙ mul-add-mod_self_right (n / 2 ^ k % 2 ^ (16 - k)) (2 ^ k) (n % 2 ^ k) ∙ mod-mod n (2 ^ k)
    ∙ ap (λ (m : ℕ). n % m) (sym is)
