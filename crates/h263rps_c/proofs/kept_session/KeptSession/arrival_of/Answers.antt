use Rattle.std.proofs.Common.{◌≡◌, List, ◌∙◌}
use Rattle.session_intake.specs.declared.settings.Settings.{Settings}
use Rattle.session_runs.specs.Kept.{config_in}
use Rattle.call_session.specs.Sessions.{SessionEntry, outcome_of_one, told_of_one}
use Rattle.call_session.specs.Ruled.{IsVerdict}
use Rattle.h263rps_c.specs.Sessions.{state_after}
use Rattle.h263rps_c.proofs.Held.{by_settings, same}
use Rattle.h263rps_c.proofs.kept_session.KeptSession.arrival_of.Goals as goal

pub returns-clause-answer : goal.returns-clause-answer
returns-clause-answer c = λ s past held.
    let x = c.self.inside.session in let h = same x c.args.self.now s past c.self.view_is held in
    record {
      told = c.arrival_of.result;
      is_verdict = by_settings (λ (s : Settings) (past : List SessionEntry). IsVerdict s.params.clock
          c.arrival_of.result.verdict (outcome_of_one (config_in s) c.args.source c.args.bytes.now c.args.now
          (state_after s past))) x s past c.arrival_of.ensures.answer h;
      is_rival = by_settings (λ (s : Settings) (past : List SessionEntry). c.arrival_of.result.is_rival
          ≡ told_of_one (config_in s) c.args.source c.args.bytes.now c.args.now (state_after s past)) x s past
          c.arrival_of.ensures.told h;
      is_told = c.of.ensures;
    }

pub returns-clause-stands : goal.returns-clause-stands
returns-clause-stands c = λ s past held.
    let h = same c.self.inside.session c.args.self.now s past c.self.view_is held in
    (c.arrival_of.ensures.settings ∙ h.0, c.arrival_of.ensures.stands past h.1)
