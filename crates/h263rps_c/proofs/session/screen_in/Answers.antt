use Rattle.std.proofs.Common.{Option, ap, refl, subst, sym}
use Rattle.call_session.specs.declared.session.Session.{Session}
use Rattle.h263rps_c.specs.Sessions.{HoldsSession, unless_started}
use Rattle.h263rps_c.proofs.session.screen_in.Goals as goal

pub returns : goal.returns
returns c =
    let is = c.session_mut-session.ensures.value in (
      (refl, (λ _. tt), sym is),
      record {
        refusal = ap unless_started (sym is);
        shown = λ s past held. c.shown.ensures s past (subst (λ (o : Option Session). HoldsSession s past o) is held);
        same = tt;
      },
    )
