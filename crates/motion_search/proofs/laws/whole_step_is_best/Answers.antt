use Rattle.motion_search.proofs.Bests.{whole_is_candidate, none_before_whole}
use Rattle.motion_search.proofs.laws.whole_step_is_best.Goals as goal

pub returns-clause-candidate : goal.returns-clause-candidate
returns-clause-candidate c = λ block reference mb radius rounding h. whole_is_candidate block reference mb rounding
    radius h

pub returns-clause-none_before : goal.returns-clause-none_before
returns-clause-none_before c = λ block reference mb radius rounding v whole reaches. none_before_whole block reference
    mb rounding radius v whole reaches
