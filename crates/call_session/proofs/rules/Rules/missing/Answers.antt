use Rattle.std.proofs.Common.{ℕ, ap, subst, ◌∙◌}
use Rattle.session_runs.specs.Kept.{config_in}
use Rattle.session_runs.specs.Following.{after_asked, nack_of_followed}
use Rattle.session_runs.specs.Followed.{FollowsStand}
use Rattle.call_session.proofs.rules.Rules.missing.Goals as goal

pub returns-clause-answer : goal.returns-clause-answer
returns-clause-answer c = λ st s.
    let k = config_in c.args.self.now.settings in
    c.missing.ensures.answer st.follows s.follows
    ∙ ap (λ (n : ℕ). nack_of_followed k c.args.round_trip n st.follows) s.time

pub returns-clause-stands : goal.returns-clause-stands
returns-clause-stands c = λ st s.
    let k = config_in c.args.self.now.settings in
    record {
      time = s.time;
      follows = subst (λ (n : ℕ). FollowsStand c.missing.new.self (after_asked k c.args.round_trip n st.follows))
          s.time (c.missing.ensures.stands st.follows s.follows);
      asked = s.asked;
      rivals = s.rivals;
      counts = s.counts;
    }
