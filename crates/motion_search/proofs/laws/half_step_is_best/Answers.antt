use Rattle.motion_search.proofs.Bests.{near_is_candidate, none_before_near}
use Rattle.motion_search.proofs.laws.half_step_is_best.Goals as goal

pub returns-clause-candidate : goal.returns-clause-candidate
returns-clause-candidate c = λ block reference mb rounding from h.
    (near_is_candidate block reference mb rounding from h).0

pub returns-clause-near : goal.returns-clause-near
returns-clause-near c = λ block reference mb rounding from h. (near_is_candidate block reference mb rounding from h).1

pub returns-clause-none_before : goal.returns-clause-none_before
returns-clause-none_before c = none_before_near
