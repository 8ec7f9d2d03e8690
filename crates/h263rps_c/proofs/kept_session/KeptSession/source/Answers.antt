use Rattle.std.proofs.Common.{◌≡◌, List}
use Rattle.session_intake.specs.declared.settings.Settings.{Settings}
use Rattle.call_session.specs.Sessions.{SessionEntry}
use Rattle.h263rps_c.specs.Sessions.{source_after}
use Rattle.h263rps_c.proofs.Held.{by_settings, same}
use Rattle.h263rps_c.proofs.kept_session.KeptSession.source.Goals as goal

pub returns : goal.returns
returns c = λ s past held.
    let h = same c.self.inside.session c.args.self.now s past c.self.view_is held in
    by_settings (λ (s : Settings) (past : List SessionEntry). c.source.result
    ≡ source_after s past c.args.run) c.self.inside.session s past c.source.ensures h
