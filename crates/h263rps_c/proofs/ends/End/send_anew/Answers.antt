use Rattle.std.proofs.Common.{[], Bool, Some, subst}
use Rattle.h263rps_c.specs.declared.ends.End.{End}
use Rattle.h263rps_c.specs.Ends.{HoldsSteered}
use Rattle.h263rps_c.specs.Steering.{Steers}
use Rattle.h263rps_c.proofs.ends.End.send_anew.Goals as goal

-- what was inside has the parameters that it keeps, and fits or follows as before
pub returns-in-Sending-clause-steers : goal.returns-in-Sending-clause-steers
returns-in-Sending-clause-steers c = λ p fits first past before ok.
    let held = subst (λ (e : End). HoldsSteered p fits first past (Some e)) c.in-Sending.is before in
    subst (λ (b : Bool). Steers p b c.args.target [] c.restart.new.self) held.fits_as
    (c.restart.ensures.steers p held.params ok)
