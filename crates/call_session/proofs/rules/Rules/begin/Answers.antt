use Rattle.std.proofs.Common.{ℕ, subst}
use Rattle.session_runs.specs.Followed.{FollowsStand, begun_follows}
use Rattle.call_session.proofs.rules.Rules.begin.Goals as goal

pub returns-clause-stands : goal.returns-clause-stands
returns-clause-stands c = λ st s.
    record {
      time = s.time;
      follows = subst (λ (n : ℕ). FollowsStand c.begin.new.self (begun_follows n)) s.time c.begin.ensures.stands;
      asked = s.asked;
      rivals = s.rivals;
      counts = s.counts;
    }
