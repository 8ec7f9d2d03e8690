use Rattle.std.proofs.Common.{◌≤◌, length, ◌++◌, ◌∷◌, [], subst, sym, ◌∙◌}
use Rattle.rate_control.specs.declared.meter.Meter.{Meter}
use Rattle.rate_control.specs.Metering.{MeterStands}
use Rattle.rate_control.proofs.Meters.{read_as, refused_stands, room_for, taken_stands, told}
use Rattle.rate_control.proofs.meter.Meter.packet.Goals as goal

pub take-requires : goal.take-requires
take-requires c =
    let w = c.in-Ok.ensures.range in
    let short : length c.args.bytes.now ≤ 65535 = w.short in
    room_for c.payload_within.ensures c.args.self.now c.requires.packets c.requires.stands c.requires.few
    (read_as c.in-Ok.header c.args.bytes.now) short

pub returns-in-Ok-clause-stands : goal.returns-in-Ok-clause-stands
returns-in-Ok-clause-stands c = λ packets s.
    subst (λ (m : Meter). MeterStands m (packets ++ c.args.bytes.now ∷ [])) (sym c.take.ensures.meter)
    (taken_stands c.args.self.now packets c.args.bytes.now c.in-Ok.header (sym c.in-Ok.ensures.exact) s)

pub returns-in-Ok-clause-answer : goal.returns-in-Ok-clause-answer
returns-in-Ok-clause-answer c = λ packets s.
    c.take.ensures.answer
    ∙ told c.args.self.now packets c.args.bytes.now c.in-Ok.header (sym c.in-Ok.ensures.exact) s

pub returns-in-Err-clause-stands : goal.returns-in-Err-clause-stands
returns-in-Err-clause-stands c = λ packets s.
    refused_stands c.args.self.now packets c.args.bytes.now c.in-Err.fault (sym c.in-Err.ensures.exact) s
