use Rattle.std.proofs.Common.{ℕ, ◌^◌, ◌<◌, ◌≤◌, arith, lit<}
use Rattle.std.proofs.Math.Nat.{pow-le-pow_right}
use Rattle.loss_trace.proofs.event.digits.Goals as goal

small : (value i : ℕ) → value < 10 ^ i → i ≤ 6 → value < 1000000
small value i below le =
    let power : 10 ^ i ≤ 10 ^ 6 = pow-le-pow_right (lit< tt) le in
    omega (arith, power)

pub overflow_mul-value : goal.overflow_mul-value
overflow_mul-value c = omega (
  arith,
  small c.loop-digit.value c.loop-digit.digit-index c.loop-digit.invariant.small
      (omega arith),
)

pub overflow_add-value : goal.overflow_add-value
overflow_add-value c = omega (
  arith,
  small c.loop-digit.value c.loop-digit.digit-index c.loop-digit.invariant.small
      (omega arith),
  c.is_ascii_digit.ensures.bound,
)
