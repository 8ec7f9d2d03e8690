use Rattle.std.proofs.Common.{◌≡◌, ◌*◌, ◌/◌, ◌%◌, ◌^◌, refl, arith}
use Rattle.std.proofs.lemmas.Nat.{and_mask, one_shl}
use Rattle.h263_bits.proofs.reader.bits_above.Goals as goal

pub returns : goal.returns
returns c =
    let mask : 1 * 2 ^ c.args.n % 18446744073709551616
    ≡ 2 ^ c.args.n = one_shl c.args.n 64 (omega (arith, c.requires.few)) in
    rw (mask, and_mask (c.args.number / 2 ^ c.args.below) c.args.n) refl
