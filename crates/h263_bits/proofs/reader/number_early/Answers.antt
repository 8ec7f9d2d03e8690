use Rattle.std.proofs.Common.{ℕ, ◌-◌, ◌/◌, ◌%◌, ◌^◌, ap, ◌∙◌, arith}
use Rattle.h263_bits.proofs.BitLists.{number-from_bytes}
use Rattle.h263_bits.proofs.reader.number_early.Goals as goal

pub returns-clause-value : goal.returns-clause-value
returns-clause-value c =
    let bytes = c.args.bytes.now in
    let at = c.args.at in
    let n = c.args.n in
    let below = 64 - at % 8 - n in
    c.bits_above.ensures ∙ ap (λ (s : ℕ). s / 2 ^ below % 2 ^ n) c.eight_bytes.ensures
    ∙ number-from_bytes bytes at n (at / 8) 8 below (omega arith) (omega (arith, c.requires.few))
    (omega (arith, c.requires.many))
