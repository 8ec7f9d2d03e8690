-- A picture is played where one is due, and nothing changes where none is.
use Rattle.std.proofs.Common.{ℕ, Some, None, ap, subst, ◌∙◌}
use Rattle.session_intake.specs.declared.counts.Counts.{Counts}
use Rattle.session_intake.specs.Counts.{counts_after_play}
use Rattle.session_runs.specs.Kept.{config_in}
use Rattle.session_runs.specs.Following.{after_play_of, run_due}
use Rattle.session_runs.specs.Followed.{ArePlayed, FollowsStand}
use Rattle.call_session.proofs.Plays.{counted, counted_none, told, told_none}
use Rattle.call_session.proofs.rules.Rules.play.Goals as goal

pub returns-in-None-clause-told : goal.returns-in-None-clause-told
returns-in-None-clause-told c = λ st s.
    let r = c.args.self.now in let k = config_in r.settings in
    told_none k st (run_due k st.now st.follows)
    (subst (λ (n : ℕ). ArePlayed k st.follows (run_due k n st.follows) None) s.time
    (c.in-None.ensures.told st.follows s.follows))

pub returns-in-None-clause-stands : goal.returns-in-None-clause-stands
returns-in-None-clause-stands c = λ st s.
    let r = c.args.self.now in let k = config_in r.settings in
    let a = subst (λ (n : ℕ). ArePlayed k st.follows (run_due k n st.follows) None) s.time
    (c.in-None.ensures.told st.follows s.follows) in
    record {
      time = s.time;
      follows = subst (λ (n : ℕ). FollowsStand c.play.new.self (after_play_of k (run_due k n st.follows) n st.follows))
          s.time (c.in-None.ensures.stands st.follows s.follows);
      asked = s.asked;
      rivals = s.rivals;
      counts = s.counts ∙ counted_none k st.follows (run_due k st.now st.follows) st.counts a;
    }

pub returns-in-Some-clause-told : goal.returns-in-Some-clause-told
returns-in-Some-clause-told c = λ st s.
    let r = c.args.self.now in let k = config_in r.settings in
    told k st (run_due k st.now st.follows) c.in-Some.run' c.in-Some.played
    (subst (λ (n : ℕ). ArePlayed k st.follows (run_due k n st.follows) (Some (c.in-Some.run', c.in-Some.played)))
    s.time (c.in-Some.ensures.told st.follows s.follows))

pub returns-in-Some-clause-stands : goal.returns-in-Some-clause-stands
returns-in-Some-clause-stands c = λ st s.
    let r = c.args.self.now in let k = config_in r.settings in
    let a = subst
    (λ (n : ℕ). ArePlayed k st.follows (run_due k n st.follows) (Some (c.in-Some.run', c.in-Some.played)))
    s.time (c.in-Some.ensures.told st.follows s.follows) in
    record {
      time = s.time;
      follows = subst (λ (n : ℕ). FollowsStand c.play.new.self (after_play_of k (run_due k n st.follows) n st.follows))
          s.time (c.in-Some.ensures.stands st.follows s.follows);
      asked = s.asked;
      rivals = s.rivals;
      counts = c.play_of.ensures
          ∙ ap (λ (x : Counts). counts_after_play c.in-Some.run' c.in-Some.played.mark x) s.counts
          ∙ counted k st.follows (run_due k st.now st.follows) c.in-Some.run' c.in-Some.played st.counts a;
    }
