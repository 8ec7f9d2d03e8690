use Rattle.std.proofs.Common.{ℕ, eqb, ap, ◌∙◌, arith}
use Rattle.macroblock_layer.proofs.Skipped.{first_skipped}
use Rattle.macroblock_layer.proofs.reading.is_skipped.Goals as goal

pub returns-else-rest-eq0 : goal.returns-else-rest-eq0
returns-else-rest-eq0 c =
    rw c.in-P.is (ap (λ (seen : ℕ). eqb seen 1) c.peek.ensures.value
    ∙ first_skipped c.args.reader.now.bits (omega (arith, c.rest.ensures, c.if-rest-eq0.false)))
