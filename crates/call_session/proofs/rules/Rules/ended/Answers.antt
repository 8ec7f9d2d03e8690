use Rattle.std.proofs.Common.{ℕ, subst}
use Rattle.session_runs.specs.Following.{after_bye}
use Rattle.session_runs.specs.Followed.{FollowsStand}
use Rattle.call_session.proofs.rules.Rules.ended.Goals as goal

pub returns-clause-stands : goal.returns-clause-stands
returns-clause-stands c = λ st s.
    record {
      time = s.time;
      follows = subst (λ (n : ℕ). FollowsStand c.ended.new.self (after_bye c.args.source n st.follows))
          s.time (c.ended.ensures.stands st.follows s.follows);
      asked = s.asked;
      rivals = s.rivals;
      counts = s.counts;
    }
