use Rattle.motion_search.specs.Cost.{samples_of}
use Rattle.motion_search.specs.Best.{best_whole}
use Rattle.motion_search.proofs.Bests.{whole_is_candidate, near_is_candidate}
use Rattle.motion_search.proofs.laws.best_is_a_candidate.Goals as goal

pub returns : goal.returns
returns c = λ frame reference mb radius rounding h.
    let block = samples_of frame mb in
    (near_is_candidate block reference mb rounding (best_whole block reference mb radius rounding)
    (whole_is_candidate block reference mb rounding radius h).candidate).0
