use Rattle.std.proofs.Common.{◌≡◌, subst, ◌∙◌}
use Rattle.session_intake.specs.declared.settings.Settings.{Settings}
use Rattle.session_runs.specs.Kept.{config_in}
use Rattle.call_session.specs.Sessions.{Asked, after_missing, at, missing_at, session_run}
use Rattle.call_session.specs.Ruled.{StateStands}
use Rattle.call_session.proofs.Settling.{settled}
use Rattle.call_session.proofs.session.Session.missing.Goals as goal

pub returns-clause-answer : goal.returns-clause-answer
returns-clause-answer c = λ past s.
    let st = session_run (config_in c.args.self.now.rules.settings) past in let then = at c.args.now st in
    subst (λ (z : Settings). c.missing.result ≡ missing_at (config_in z) c.args.round_trip then)
    c.tick.ensures.settings (c.missing.ensures.answer then (c.tick.ensures.stands st s))

pub returns-clause-stands : goal.returns-clause-stands
returns-clause-stands c = λ past s.
    let old = c.args.self.now.rules.settings in
    let st = session_run (config_in old) past in let then = at c.args.now st in
    settled c.missing.new.self old (Asked c.args.round_trip c.args.now) past
    (c.missing.ensures.settings ∙ c.tick.ensures.settings)
    (subst (λ (z : Settings). StateStands c.missing.new.self (after_missing (config_in z) c.args.round_trip then))
    c.tick.ensures.settings (c.missing.ensures.stands then (c.tick.ensures.stands st s)))
