use Rattle.rate_control.proofs.Meters.{new_stands}
use Rattle.rate_control.proofs.meter.Meter.new.Goals as goal

pub returns-clause-stands : goal.returns-clause-stands
returns-clause-stands c = new_stands c.args.target c.args.bucket
