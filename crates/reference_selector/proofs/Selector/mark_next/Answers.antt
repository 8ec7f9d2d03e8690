use Rattle.std.proofs.Common.{◌+◌, ◌<◌, ◌||◌, sym, ◌∙◌, arith}
use Rattle.reference_selector.specs.Messages.{is_flagged, is_named}
use Rattle.reference_selector.proofs.Flags.{one_marked, one_passed}
use Rattle.reference_selector.proofs.Keeping.{same_known}
use Rattle.reference_selector.proofs.Selector.mark_next.Goals as goal

pub returns-then-number-sent-clause-known : goal.returns-then-number-sent-clause-known
returns-then-number-sent-clause-known c rules depth known stands =
    same_known rules c.args.self.now c.args.sent depth _ _
    (λ m. one_passed c.args.t c.args.j c.args.sent m (is_flagged c.args.marks) (known m)
    (λ (below : c.args.t + 1 + c.args.j < c.args.sent). absurd (omega (arith, c.if-number-sent.true, below))))
    stands

pub returns-then-not-has_flag-clause-known : goal.returns-then-not-has_flag-clause-known
returns-then-not-has_flag-clause-known c rules depth known stands =
    same_known rules c.args.self.now c.args.sent depth _ _
    (λ m. one_passed c.args.t c.args.j c.args.sent m (is_flagged c.args.marks) (known m)
    (λ below. sym c.has_flag.ensures ∙ c.if-not-has_flag.true)) stands

pub returns-clause-known : goal.returns-clause-known
returns-clause-known c rules depth known stands =
    same_known rules c.mark.new.self c.args.sent depth _ _
    (λ m. one_marked c.args.t c.args.j c.args.sent m (is_flagged c.args.marks) (known m) c.if-number-sent.false
    (sym c.has_flag.ensures ∙ c.if-not-has_flag.false))
    (c.mark.ensures.known rules depth (λ m. is_named c.args.t c.args.sent (is_flagged c.args.marks) c.args.j m || known
    m) stands)
