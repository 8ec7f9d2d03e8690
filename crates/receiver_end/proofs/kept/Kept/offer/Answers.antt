use Rattle.std.proofs.Common.{◌+◌, ◌-◌, sym, ◌∙◌, arith}
use Rattle.receiver_end.proofs.Offers.{offers}
use Rattle.receiver_end.proofs.kept.Kept.offer.Goals as goal

pub returns-then-holds : goal.returns-then-holds
returns-then-holds c =
    offers c.searches.ensures.greatest c.args.self.now (c.args.self.now.played + c.args.self.now.params.lead - c.scan.i)
    (sym c.holds.ensures.value ∙ c.if-holds.true) (omega (arith, c.scan-test.true, c.if-i-top.false)) (omega arith)
    (λ k more below. c.scan.invariant k (omega (arith, below)) (omega (arith, more, c.if-i-top.false)))
