use Rattle.std.proofs.Common.{◌≡◌, List, ap, ◌∙◌}
use Rattle.session_intake.specs.declared.settings.Settings.{Settings}
use Rattle.session_runs.specs.Following.{due_next}
use Rattle.session_runs.specs.Kept.{config_in}
use Rattle.call_session.specs.Sessions.{SessionEntry}
use Rattle.h263rps_c.specs.SessionNumbers.{time_or_never}
use Rattle.h263rps_c.specs.Sessions.{state_after}
use Rattle.h263rps_c.proofs.Held.{by_settings, same}
use Rattle.h263rps_c.proofs.kept_session.KeptSession.due.Goals as goal

pub returns : goal.returns
returns c = λ s past held.
    let h = same c.self.inside.session c.args.self.now s past c.self.view_is held in
    c.time_or_never.ensures ∙ ap time_or_never (by_settings (λ (s : Settings) (past : List SessionEntry). c.due.result
    ≡ due_next (config_in s) (state_after s past).follows) c.self.inside.session s past c.due.ensures h)
