use Rattle.std.proofs.Common.{subst, ◌∙◌}
use Rattle.session_intake.specs.declared.settings.Settings.{Settings}
use Rattle.session_runs.specs.Kept.{config_in}
use Rattle.call_session.specs.Sessions.{Turn, after_played, at, played_run, session_run}
use Rattle.call_session.specs.Ruled.{IsRunPlayed, StateStands}
use Rattle.call_session.proofs.Settling.{settled}
use Rattle.call_session.proofs.session.Session.play.Goals as goal

pub returns-clause-told : goal.returns-clause-told
returns-clause-told c = λ past s.
    let st = session_run (config_in c.args.self.now.rules.settings) past in let then = at c.args.now st in
    subst (λ (z : Settings). IsRunPlayed (config_in z) then (played_run (config_in z) then) c.play.result)
    c.tick.ensures.settings (c.play.ensures.told then (c.tick.ensures.stands st s))

pub returns-clause-stands : goal.returns-clause-stands
returns-clause-stands c = λ past s.
    let old = c.args.self.now.rules.settings in
    let st = session_run (config_in old) past in let then = at c.args.now st in
    settled c.play.new.self old (Turn c.args.now) past (c.play.ensures.settings ∙ c.tick.ensures.settings)
    (subst (λ (z : Settings). StateStands c.play.new.self
    (after_played (config_in z) (played_run (config_in z) then) then))
    c.tick.ensures.settings (c.play.ensures.stands then (c.tick.ensures.stands st s)))
