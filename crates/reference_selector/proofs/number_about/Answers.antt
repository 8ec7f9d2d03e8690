use Rattle.std.proofs.Common.{sym, ◌∙◌}
use Rattle.reference_selector.specs.Messages.{message_of}
use Rattle.reference_selector.proofs.Nearest.{made_none, made_old, made_some}
use Rattle.reference_selector.proofs.number_about.Goals as goal

pub returns-in_err-t-clause-value : goal.returns-in_err-t-clause-value
returns-in_err-t-clause-value c rules half =
    rw c.from_residual.ensures (made_none rules c.args.sent (message_of c.args.message.now) c.reference_in.result
    c.reference_in.ensures (c.in_err-t.ensures.value rules half))

pub returns-then-t-half-clause-value : goal.returns-then-t-half-clause-value
returns-then-t-half-clause-value c rules half =
    made_old rules c.args.sent c.in_ok-t.t c.half.result (message_of c.args.message.now) c.reference_in.result (half
    ∙ sym c.half.ensures) c.reference_in.ensures (c.in_ok-t.ensures.value rules half) c.if-t-half.true

pub returns-clause-value : goal.returns-clause-value
returns-clause-value c rules half =
    made_some rules c.args.sent c.in_ok-t.t c.half.result (message_of c.args.message.now) c.reference_in.result (half
    ∙ sym c.half.ensures) c.reference_in.ensures (c.in_ok-t.ensures.value rules half) c.if-t-half.false
