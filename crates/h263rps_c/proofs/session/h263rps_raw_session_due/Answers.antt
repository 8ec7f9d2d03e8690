use Rattle.std.proofs.Common.{Option, subst}
use Rattle.call_session.specs.declared.session.Session.{Session}
use Rattle.h263rps_c.specs.Sessions.{HoldsSession}
use Rattle.h263rps_c.proofs.session.h263rps_raw_session_due.Goals as goal

pub returns-clause-told : goal.returns-clause-told
returns-clause-told c = λ s past held.
    c.due.ensures s past (subst (λ (o : Option Session). HoldsSession s past o) c.session_mut.ensures.value held)
