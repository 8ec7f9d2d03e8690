use Rattle.std.proofs.Common.{◌≡◌, List, ap, ◌∙◌}
use Rattle.session_intake.specs.declared.settings.Settings.{Settings}
use Rattle.call_session.specs.Sessions.{SessionEntry}
use Rattle.h263rps_c.specs.SessionNumbers.{counts_numbers}
use Rattle.h263rps_c.specs.Sessions.{state_after}
use Rattle.h263rps_c.proofs.Held.{by_settings, same}
use Rattle.h263rps_c.proofs.kept_session.KeptSession.counts.Goals as goal

pub returns : goal.returns
returns c = λ s past held.
    let h = same c.self.inside.session c.args.self.now s past c.self.view_is held in
    c.of.ensures ∙ ap counts_numbers (by_settings (λ (s : Settings) (past : List SessionEntry). c.statistics.result
    ≡ (state_after s past).counts) c.self.inside.session s past c.statistics.ensures h)
