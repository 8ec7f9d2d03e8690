use Rattle.std.proofs.Common.{None, sym, ◌∙◌, refl}
use Rattle.std.proofs.lemmas.Bool.{lt-ltb, le-ltb}
use Rattle.reference_selector.specs.Messages.{flags_in}
use Rattle.reference_selector.proofs.Nearest.{called_ack, called_none, called_other}
use Rattle.reference_selector.proofs.number_called.Goals as goal

pub returns-in-Ack-clause-value : goal.returns-in-Ack-clause-value
returns-in-Ack-clause-value c rules half =
    rw c.in-Ack.is (sym (called_ack rules c.args.sent c.args.t c.in-Ack.tr (flags_in c.in-Ack.marks)))

pub returns-then-tr-rtr-clause-value : goal.returns-then-tr-rtr-clause-value
returns-then-tr-rtr-clause-value c rules half =
    rw c.in-Nack.is (sym (called_none rules c.args.sent c.args.t c.in-Nack.tr c.in-Nack.rtr (flags_in c.in-Nack.marks)
    c.if-tr-rtr.true))

pub returns-in_err-q-in-Nack-clause-value : goal.returns-in_err-q-in-Nack-clause-value
returns-in_err-q-in-Nack-clause-value c rules half =
    rw (c.in-Nack.is, c.from_residual.ensures)
    (sym (called_other rules c.args.sent c.args.t c.in-Nack.tr c.in-Nack.rtr c.half.result
    (flags_in c.in-Nack.marks) None (half ∙ sym c.half.ensures) c.if-tr-rtr.false
    (c.in_err-q-in-Nack.ensures.value rules half)))

pub returns-then-q-sent-clause-value : goal.returns-then-q-sent-clause-value
returns-then-q-sent-clause-value c rules half =
    rw c.in-Nack.is (sym (called_other rules c.args.sent c.args.t c.in-Nack.tr c.in-Nack.rtr c.half.result
    (flags_in c.in-Nack.marks) _ (half ∙ sym c.half.ensures) c.if-tr-rtr.false
    (c.in_ok-q-in-Nack.ensures.value rules half) ∙ rw (lt-ltb _ _ c.if-q-sent.true) refl))

pub returns-else-q-sent-clause-value : goal.returns-else-q-sent-clause-value
returns-else-q-sent-clause-value c rules half =
    rw c.in-Nack.is (sym (called_other rules c.args.sent c.args.t c.in-Nack.tr c.in-Nack.rtr c.half.result
    (flags_in c.in-Nack.marks) _ (half ∙ sym c.half.ensures) c.if-tr-rtr.false
    (c.in_ok-q-in-Nack.ensures.value rules half) ∙ rw (le-ltb _ _ c.if-q-sent.false) refl))
