-- A packet of the next picture ends the one before it, whose line is told.
use Rattle.std.proofs.Common.{ℕ, [], ◌∷◌, ◌++◌, OnOk, OnErr, sym, ◌∙◌, subst, arith, rules}
use Rattle.std.proofs.lemmas.List.{length_push}
use Rattle.desk_program.specs.Ends.{Gains, GainsFronts}
use Rattle.rate_control.specs.declared.meter.Metered.{Metered}
use Rattle.rate_control.specs.Metering.{metered}
use Rattle.rate_command.specs.Rate.{answer_text}
use Rattle.rate_command.proofs.rate.MeteringLogCommand.packet.Goals as goal

pub packet-metered-requires : goal.packet-metered-requires
packet-metered-requires g c =
    let counted = c.requires.is.counted in
    let few = c.requires.few in
    let less = counted.few in
    record { packets = counted.packets; stands = counted.stands; few = omega (arith, few, less) }

pub returns-clause-stands : goal.returns-clause-stands
returns-clause-stands g c = λ s stands.
    record {
      target = stands.target ∙ sym c.packet-metered.ensures.target;
      bucket = stands.bucket ∙ sym c.packet-metered.ensures.bucket;
      plays = stands.plays;
      meter = c.packet-metered.ensures.stands s.packets stands.meter;
    }

pub returns-clause-ready : goal.returns-clause-ready
returns-clause-ready g c = λ n ready.
    let counted = ready.counted in
    let bytes = c.args.bytes.now in
    let less = counted.few in
    let one = length_push counted.packets bytes in
    record {
      report = search rules;
      counted = record {
        packets = counted.packets ++ bytes ∷ [];
        stands = c.packet-metered.ensures.stands counted.packets counted.stands;
        few = omega (arith, less, one);
      };
    }

pub returns-clause-ok : goal.returns-clause-ok
returns-clause-ok g c = λ s stands.
    let outside = g.D.Desk.outside in
    let bytes = c.args.bytes.now in
    subst (λ (n : ℕ). OnOk c.tell.result (Gains (answer_text (metered n s.packets bytes))
    (outside c.args.desk.now).written (outside c.tell.new.desk).written)) (sym stands.target)
    (subst (λ (x : Metered). OnOk c.tell.result (Gains (answer_text x) (outside c.args.desk.now).written
    (outside c.tell.new.desk).written))
    (c.packet-metered.ensures.answer s.packets stands.meter) c.tell.ensures.ok)

pub returns-clause-err : goal.returns-clause-err
returns-clause-err g c = λ s stands.
    let outside = g.D.Desk.outside in
    let bytes = c.args.bytes.now in
    subst (λ (n : ℕ). OnErr c.tell.result (GainsFronts (answer_text (metered n s.packets bytes))
    (outside c.args.desk.now).written (outside c.tell.new.desk).written)) (sym stands.target)
    (subst (λ (x : Metered). OnErr c.tell.result (GainsFronts (answer_text x) (outside c.args.desk.now).written
    (outside c.tell.new.desk).written))
    (c.packet-metered.ensures.answer s.packets stands.meter) c.tell.ensures.err)
