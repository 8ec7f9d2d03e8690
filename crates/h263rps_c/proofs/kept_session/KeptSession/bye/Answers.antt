use Rattle.std.proofs.Common.{◌∙◌}
use Rattle.h263rps_c.proofs.Held.{same}
use Rattle.h263rps_c.proofs.kept_session.KeptSession.bye.Goals as goal

pub returns : goal.returns
returns c = λ s past held.
    let h = same c.self.inside.session c.args.self.now s past c.self.view_is held in
    (c.bye.ensures.settings ∙ h.0, c.bye.ensures.stands past h.1)
