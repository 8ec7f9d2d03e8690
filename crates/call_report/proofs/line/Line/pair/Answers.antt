use Rattle.std.proofs.Common.{◌≡◌, ap, arith, decimal, length, length-append}
use Rattle.call_report.specs.View.{line_text}
use Rattle.call_report.proofs.Digits.{decimal_short, gap_short}
use Rattle.call_report.proofs.line.Line.pair.Goals as goal

pub returns-clause-len : goal.returns-clause-len
returns-clause-len c =
    let gapped = simp length-append at (ap length c.put_gap.ensures.value) in
    let digits : length c.format.result.now ≡ length (decimal c.args.number) = ap length c.format.ensures.text in
    omega (
      arith,
      gapped,
      gap_short (line_text c.args.self.now),
      c.put.ensures.len,
      c.put-2.ensures.len,
      c.put-3.ensures.len,
      digits,
      decimal_short c.args.number c.ranges.number.fits,
    )
