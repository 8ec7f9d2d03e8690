use Rattle.rate_control.proofs.Meters.{closed_empty, closed_with, room_at_end}
use Rattle.rate_control.proofs.meter.Meter.close.Goals as goal

pub end-requires : goal.end-requires
end-requires c =
    room_at_end c.payload_within.ensures c.args.self c.requires.packets c.requires.stands c.requires.few
    c.in-Some.picture c.in-Some.is

pub returns-in-None : goal.returns-in-None
returns-in-None c = λ packets s. closed_empty c.args.self packets c.in-None.is s

pub returns-in-Some : goal.returns-in-Some
returns-in-Some c = λ packets s.
    closed_with c.args.self packets c.in-Some.picture c.in-Some.is s c.end.new.self c.end.ensures
