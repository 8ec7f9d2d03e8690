use Rattle.std.proofs.Common.{◌≡◌, List, ap, ◌∙◌}
use Rattle.session_intake.specs.declared.settings.Settings.{Settings}
use Rattle.session_runs.specs.Kept.{config_in}
use Rattle.call_session.specs.Sessions.{SessionEntry, at, missing_at}
use Rattle.h263rps_c.specs.SessionNumbers.{nack_numbers}
use Rattle.h263rps_c.specs.Sessions.{state_after}
use Rattle.h263rps_c.proofs.Held.{by_settings, same}
use Rattle.h263rps_c.proofs.kept_session.KeptSession.missing.Goals as goal

pub returns-clause-answer : goal.returns-clause-answer
returns-clause-answer c = λ s past held.
    let x = c.self.inside.session in let h = same x c.args.self.now s past c.self.view_is held in
    c.of.ensures ∙ ap nack_numbers (by_settings (λ (s : Settings) (past : List SessionEntry). c.missing.result
    ≡ missing_at (config_in s) c.args.round_trip (at c.args.now (state_after s past))) x s past
    c.missing.ensures.answer h)

pub returns-clause-stands : goal.returns-clause-stands
returns-clause-stands c = λ s past held.
    let h = same c.self.inside.session c.args.self.now s past c.self.view_is held in
    (c.missing.ensures.settings ∙ h.0, c.missing.ensures.stands past h.1)
