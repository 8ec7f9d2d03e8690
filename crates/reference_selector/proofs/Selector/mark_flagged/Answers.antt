use Rattle.std.proofs.Common.{Bool, ◌||◌, sym, ap, ◌∙◌, arith, refl}
use Rattle.reference_selector.specs.Messages.{is_flagged}
use Rattle.reference_selector.proofs.Flags.{named_all, none_named}
use Rattle.reference_selector.proofs.Keeping.{same_known}
use Rattle.reference_selector.proofs.Selector.mark_flagged.Goals as goal

pub loop-j-init : goal.loop-j-init
loop-j-init c = record {
  clock = refl;
  known = λ rules depth known stands.
      same_known rules c.args.self.now c.args.sent depth _ _ (λ m. none_named c.args.t c.args.sent m
      (is_flagged c.args.marks) (known m)) stands;
}

pub loop-j-preserved : goal.loop-j-preserved
loop-j-preserved c = record {
  clock = c.mark_next.ensures.clock ∙ c.loop-j.invariant.clock;
  known = λ rules depth known stands. c.mark_next.ensures.known rules depth known
      (c.loop-j.invariant.known rules depth known stands);
}

pub returns-clause-known : goal.returns-clause-known
returns-clause-known c rules depth known stands =
    same_known rules c.loop-j.self c.args.sent depth _ _
    (λ m. ap (λ (b : Bool). b || known m)
    (sym (named_all c.args.t c.args.sent m c.loop-j.j c.args.marks (omega (
      arith,
      c.loop-j-test.false,
      c.loop-j.auto.j-end,
    )))))
    (c.loop-j.invariant.known rules depth known stands)
