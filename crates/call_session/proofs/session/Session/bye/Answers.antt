use Rattle.std.proofs.Common.{◌∙◌}
use Rattle.session_runs.specs.Kept.{config_in}
use Rattle.call_session.specs.Sessions.{Ended, at, session_run}
use Rattle.call_session.proofs.Settling.{settled}
use Rattle.call_session.proofs.session.Session.bye.Goals as goal

pub returns-clause-stands : goal.returns-clause-stands
returns-clause-stands c = λ past s.
    let old = c.args.self.now.rules.settings in
    let st = session_run (config_in old) past in
    settled c.ended.new.self old (Ended c.args.source c.args.now) past (c.ended.ensures.settings
    ∙ c.tick.ensures.settings)
    (c.ended.ensures.stands (at c.args.now st) (c.tick.ensures.stands st s))
