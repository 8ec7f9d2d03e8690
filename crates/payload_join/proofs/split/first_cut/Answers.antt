use Rattle.std.proofs.Common.{sym, ◌∙◌, arith}
use Rattle.payload_join.proofs.Cuts.{none_left, uncut, first_cut}
use Rattle.payload_join.proofs.split.first_cut.Goals as goal

pub returns-then-bytes-lt3-clause-none : goal.returns-then-bytes-lt3-clause-none
returns-then-bytes-lt3-clause-none c e =
    uncut c.args.bytes.now (none_left c.args.bytes.now 0 (omega arith) (λ k lt. absurd (omega arith)))

pub returns-then-is_cut-clause-some : goal.returns-then-is_cut-clause-some
returns-then-is_cut-clause-some c = first_cut c.args.bytes.now c.bytes.at c.bytes.invariant (sym c.is_cut.ensures
    ∙ c.if-is_cut.true)

pub returns-clause-none : goal.returns-clause-none
returns-clause-none c e = uncut c.args.bytes.now (none_left c.args.bytes.now c.bytes.at (omega arith) c.bytes.invariant)
