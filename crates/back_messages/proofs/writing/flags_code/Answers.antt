use Rattle.std.proofs.Common.{◌≡◌, ◌+◌, ◌*◌, ◌/◌, ◌%◌, ◌^◌, ap, ◌∙◌, arith}
use Rattle.h263_bits.specs.Bits.{spelled}
use Rattle.back_messages.proofs.Flags.{turned, turned_low, flags_code, marks_text}
use Rattle.back_messages.proofs.writing.flags_code.Goals as goal

pub returns-clause-text : goal.returns-clause-text
returns-clause-text c =
    let marks = c.args.marks in
    let fits : 2 ^ 15 + c.turned.result * 2 ^ 8 % 2 ^ 32 + 2 ^ 7 + c.turned-2.result
    ≡ flags_code (turned marks) (turned (marks / 2 ^ 7)) =
    omega (arith, c.turned.ensures.value, c.turned-2.ensures.value, turned_low marks) in
    ap (spelled 16) fits ∙ marks_text marks
