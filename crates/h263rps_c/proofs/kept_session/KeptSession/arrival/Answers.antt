use Rattle.std.proofs.Common.{◌≡◌, List, ◌∙◌}
use Rattle.session_intake.specs.declared.settings.Settings.{Settings}
use Rattle.session_runs.specs.Kept.{config_in}
use Rattle.call_session.specs.Sessions.{SessionEntry, outcome_of, told_of_datagram}
use Rattle.call_session.specs.Ruled.{IsVerdict}
use Rattle.h263rps_c.specs.Sessions.{state_after}
use Rattle.h263rps_c.proofs.Held.{by_settings, same}
use Rattle.h263rps_c.proofs.kept_session.KeptSession.arrival.Goals as goal

pub returns-clause-answer : goal.returns-clause-answer
returns-clause-answer c = λ s past held.
    let x = c.self.inside.session in let h = same x c.args.self.now s past c.self.view_is held in
    record {
      told = c.arrival.result;
      is_verdict = by_settings (λ (s : Settings) (past : List SessionEntry). IsVerdict s.params.clock
          c.arrival.result.verdict
          (outcome_of (config_in s) c.args.bytes.now c.args.now (state_after s past))) x s past c.arrival.ensures.answer
          h;
      is_rival = by_settings (λ (s : Settings) (past : List SessionEntry). c.arrival.result.is_rival
          ≡ told_of_datagram (config_in s) c.args.bytes.now c.args.now (state_after s past)) x s past
          c.arrival.ensures.told h;
      is_told = c.of.ensures;
    }

pub returns-clause-stands : goal.returns-clause-stands
returns-clause-stands c = λ s past held.
    let h = same c.self.inside.session c.args.self.now s past c.self.view_is held in
    (c.arrival.ensures.settings ∙ h.0, c.arrival.ensures.stands past h.1)
