-- The line of the last picture and that of the log are the meter's.
use Rattle.std.proofs.Common.{◌≡◌, OnOk, OnErr, sym, ◌∙◌, subst, arith}
use Rattle.std.proofs.lemmas.Result.{on_err_weaker, on_ok_weaker}
use Rattle.rate_control.specs.declared.meter.Totals.{Totals}
use Rattle.rate_control.specs.Metering.{totals_of}
use Rattle.rate_control.specs.Text.{meter_text}
use Rattle.desk_program.specs.Ends.{Gains, GainsFronts}
use Rattle.rate_command.specs.Rate.{closing_text}
use Rattle.rate_command.proofs.Telling.{cut_last, cut_totals, on_err, whole_totals}
use Rattle.rate_command.proofs.rate.MeteringLogCommand.close.Goals as goal

pub close-totals-requires : goal.close-totals-requires
close-totals-requires g c =
    let counted = c.requires.is.counted in
    let few = c.requires.few in
    let less = counted.few in
    record { packets = counted.packets; stands = counted.stands; few = omega (arith, few, less) }

pub returns-in_err-tell_last-clause-err : goal.returns-in_err-tell_last-clause-err
returns-in_err-tell_last-clause-err g c = λ s stands.
    let outside = g.D.Desk.outside in
    let totals : c.close-totals.result ≡ totals_of s.bucket.target s.bucket.bucket s.packets =
    c.close-totals.ensures s.packets stands.meter
    ∙ (λ i. totals_of (sym stands.target i) (sym stands.bucket i) s.packets)
    in
    on_err c.from_residual.result
    (subst (λ (t : Totals). GainsFronts (closing_text t) (outside c.args.desk.now).written
    (outside c.tell_last.new.desk).written) totals
    (cut_last c.turn_laws.ensures c.close-totals.result (outside c.args.desk.now).written
    (outside c.tell_last.new.desk).written
    c.in_err-tell_last.ensures.err))

pub returns-clause-ok : goal.returns-clause-ok
returns-clause-ok g c = λ s stands.
    let outside = g.D.Desk.outside in
    let totals : c.close-totals.result ≡ totals_of s.bucket.target s.bucket.bucket s.packets =
    c.close-totals.ensures s.packets stands.meter
    ∙ (λ i. totals_of (sym stands.target i) (sym stands.bucket i) s.packets)
    in
    subst (λ (t : Totals). OnOk c.put_text.result (Gains (closing_text t) (outside c.args.desk.now).written
    (outside c.put_text.new.desk).written)) totals
    (on_ok_weaker c.put_text.result
    (whole_totals c.turn_laws.ensures c.close-totals.result (outside c.args.desk.now).written
    (outside c.tell_last.new.desk).written (outside c.put_text.new.desk).written
    c.in_ok-tell_last.ensures.ok (meter_text c.totals_text.result) c.totals_text.ensures)
    c.put_text.ensures.ok)

pub returns-clause-err : goal.returns-clause-err
returns-clause-err g c = λ s stands.
    let outside = g.D.Desk.outside in
    let totals : c.close-totals.result ≡ totals_of s.bucket.target s.bucket.bucket s.packets =
    c.close-totals.ensures s.packets stands.meter
    ∙ (λ i. totals_of (sym stands.target i) (sym stands.bucket i) s.packets)
    in
    subst (λ (t : Totals). OnErr c.put_text.result (GainsFronts (closing_text t) (outside c.args.desk.now).written
    (outside c.put_text.new.desk).written)) totals
    (on_err_weaker c.put_text.result
    (cut_totals c.turn_laws.ensures c.close-totals.result (outside c.args.desk.now).written
    (outside c.tell_last.new.desk).written (outside c.put_text.new.desk).written
    c.in_ok-tell_last.ensures.ok (meter_text c.totals_text.result) c.totals_text.ensures)
    c.put_text.ensures.err)
