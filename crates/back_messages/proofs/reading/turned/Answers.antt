use Rattle.std.proofs.Common.{sym, arith}
use Rattle.std.proofs.Math.Nat.{pow-le-pow_right}
use Rattle.std.proofs.lemmas.Nat.{pow-add}
use Rattle.back_messages.proofs.Flags.{turned-none, turned-more}
use Rattle.back_messages.proofs.reading.turned.Goals as goal

pub places-init : goal.places-init
places-init c = record { value = sym (turned-none c.args.bits); below = omega arith; places = omega arith }

pub places-preserved : goal.places-preserved
places-preserved c =
    let k = c.places.place in
    record {
      value = omega (arith, turned-more k c.args.bits, c.places.invariant.value);
      below = omega (arith, c.places.invariant.below, pow-add 2 k 1);
      places = omega arith;
    }

pub overflow_mul-turned : goal.overflow_mul-turned
overflow_mul-turned c = omega (
  arith,
  c.places.invariant.below,
  pow-le-pow_right {n = 2} (omega arith) {i = c.places.place} {j = 7} c.places.invariant.places,
)
