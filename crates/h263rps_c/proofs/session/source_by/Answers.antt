use Rattle.std.proofs.Common.{Option, ap, sym, subst, ◌∙◌}
use Rattle.call_session.specs.declared.session.Session.{Session}
use Rattle.h263rps_c.specs.Sessions.{HoldsSession, source_named}
use Rattle.h263rps_c.proofs.session.source_by.Goals as goal

pub returns-in-Some-clause-value : goal.returns-in-Some-clause-value
returns-in-Some-clause-value c = λ s past held.
    c.source.ensures s past (subst (λ (o : Option Session). HoldsSession s past o) c.session_mut.ensures.value held)
    ∙ ap (source_named s past) (sym c.in-Some.is ∙ c.run_of.ensures)
