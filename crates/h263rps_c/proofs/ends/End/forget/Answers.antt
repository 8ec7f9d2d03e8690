use Rattle.std.proofs.Common.{Some, subst}
use Rattle.h263rps_c.specs.declared.ends.End.{End}
use Rattle.h263rps_c.specs.Ends.{HoldsSteered}
use Rattle.h263rps_c.proofs.ends.End.forget.Goals as goal

pub returns-in-Sending-clause-steers : goal.returns-in-Sending-clause-steers
returns-in-Sending-clause-steers c = λ p fits first past before ok.
    c.forget.ensures.steers p fits first past (subst (λ (e : End). HoldsSteered p fits first past (Some e))
    c.in-Sending.is before)
