use Rattle.std.proofs.Common.{rules, Option, subst}
use Rattle.std.specs.Prelude.{IsOk}
use Rattle.h263rps_c.specs.declared.ends.End.{End}
use Rattle.h263rps_c.specs.Ends.{HoldsSteered}
use Rattle.h263rps_c.proofs.sender.h263rps_raw_sender_code.Goals as goal

pub returns-in-Ok-clause-steers : goal.returns-in-Ok-clause-steers
returns-in-Ok-clause-steers c = λ p fits first past back before read status.
    let ok : IsOk c.code.result = search rules in
    c.code.ensures.steers p fits first past back (subst (λ (o : Option End). HoldsSteered p fits first past o)
    c.end_mut.ensures.value before) read ok
