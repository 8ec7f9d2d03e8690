use Rattle.std.proofs.Common.{◌≡◌, ◌∷◌, List, Option, Some, ap, sym, subst, ◌∙◌}
use Rattle.session_intake.specs.declared.settings.Settings.{Settings}
use Rattle.session_runs.specs.Kept.{config_in}
use Rattle.call_session.specs.declared.verdict.RunPlayed.{RunPlayed}
use Rattle.call_session.specs.Sessions.{SessionEntry, Turn, at, played_run}
use Rattle.call_session.specs.Ruled.{IsRunPlayed}
use Rattle.h263rps_c.specs.Numbers.{number_or_zero}
use Rattle.h263rps_c.specs.SessionNumbers.{turn_numbers}
use Rattle.h263rps_c.specs.Sessions.{HoldsSession, numbers_of_turn, source_after, played_source, state_after}
use Rattle.h263rps_c.proofs.Held.{by_settings, run_played, same}
use Rattle.h263rps_c.proofs.kept_session.KeptSession.play.Goals as goal
use Rattle.h263rps_c.proofs.kept_session.KeptSession.play.Goals.{in-None, in-Some}

pub returns-clause-answer : goal.returns-clause-answer
returns-clause-answer c = λ s past held.
    let x = c.self.inside.session in let h = same x c.args.self.now s past c.self.view_is held in
    let st = at c.args.now (state_after s past) in let run = played_run (config_in s) st in
    let then = Turn c.args.now ∷ past in
    let played = by_settings (λ (s : Settings) (past : List SessionEntry). IsRunPlayed (config_in s)
    (at c.args.now (state_after s past)) (played_run (config_in s) (at c.args.now (state_after s past)))
    c.play.result) x s past c.play.ensures.told h in
    let holds : HoldsSession s then (Some c.play.new.self) = (
      c.play.ensures.settings
          ∙ h.0,
      c.play.ensures.stands past h.1,
    ) in
    record {
      told = c.play.result;
      is_played = played;
      is_told = elim c.match-play.branch [
        | in-None w ↦ w.result-is ∙ w.none.ensures
            ∙ ap (λ (o : Option RunPlayed). numbers_of_turn o (played_source s then run)) (sym w.in-None.is)
        | in-Some w ↦
            let turn = w.in-Some.turn in
            let named = by_settings (λ (s : Settings) (past : List SessionEntry). w.source.result
            ≡ source_after s past turn.run) c.play.new.self s then w.source.ensures holds in
            let of = run_played (config_in s) st run turn
            (subst (λ (o : Option RunPlayed). IsRunPlayed (config_in s) st run o) w.in-Some.is played) in
            w.result-is ∙ w.of.ensures ∙ ap (turn_numbers turn) (w.number_or_zero.ensures ∙ ap number_or_zero named
            ∙ ap (played_source s then) (sym of))
            ∙ ap (λ (o : Option RunPlayed). numbers_of_turn o (played_source s then run)) (sym w.in-Some.is)
      ];
    }

pub returns-clause-stands : goal.returns-clause-stands
returns-clause-stands c = λ s past held.
    let h = same c.self.inside.session c.args.self.now s past c.self.view_is held in
    (c.play.ensures.settings ∙ h.0, c.play.ensures.stands past h.1)
