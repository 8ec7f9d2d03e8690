use Rattle.std.proofs.Common.{Option, subst}
use Rattle.call_session.specs.declared.session.Session.{Session}
use Rattle.h263rps_c.specs.Sessions.{HoldsSession}
use Rattle.h263rps_c.proofs.session.h263rps_raw_session_play.Goals as goal

pub returns-clause-stands : goal.returns-clause-stands
returns-clause-stands c = λ s past held.
    c.play.ensures.stands s past (subst (λ (o : Option Session). HoldsSession s past o) c.session_mut.ensures.value
    held)

pub returns-clause-answer : goal.returns-clause-answer
returns-clause-answer c = λ s past held.
    c.play.ensures.answer s past (subst (λ (o : Option Session). HoldsSession s past o) c.session_mut.ensures.value
    held)
