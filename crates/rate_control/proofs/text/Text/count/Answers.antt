use Rattle.std.proofs.Common.{length, length-append, ap, arith}
use Rattle.rate_control.proofs.Digits.{decimal_short}
use Rattle.rate_control.proofs.text.Text.count.Goals as goal

pub put_digits-requires : goal.put_digits-requires
put_digits-requires c =
    let e = simp length-append at (ap length c.put.ensures) in
    let d = decimal_short c.args.number c.ranges.number.fits in
    omega (arith, e, d)

pub returns-clause-len : goal.returns-clause-len
returns-clause-len c =
    let e = simp length-append at (ap length c.put.ensures) in
    let f = simp length-append at (ap length c.put_digits.ensures) in
    let d = decimal_short c.args.number c.ranges.number.fits in
    omega (arith, e, f, d)
