use Rattle.std.proofs.Common.{refl, subst, sym}
use Rattle.h263_types.specs.Vectors.{InReach}
use Rattle.h263_planes.specs.Lent.{picture}
use Rattle.motion_search.specs.declared.candidate.Candidate.{Candidate}
use Rattle.motion_search.specs.Best.{IsCandidate}
use Rattle.motion_search.specs.Vectors.{IsEven}
use Rattle.motion_search.proofs.Bests.{whole_is_candidate, near_is_candidate}
use Rattle.motion_search.proofs.Held.{sums_alone}
use Rattle.motion_search.proofs.search_from.Goals as goal

pub best_of_neighbours-best-requires-clause-candidate : goal.best_of_neighbours-best-requires-clause-candidate
best_of_neighbours-best-requires-clause-candidate c =
    let block = c.samples-block.result in
    let p = picture c.args.reference in
    subst (IsCandidate block p c.args.mb c.args.rounding) (sym (c.best_of_whole-whole.ensures.best c.args.rounding))
    (whole_is_candidate block p c.args.mb c.args.rounding c.args.radius c.requires.mb).candidate

pub best_of_neighbours-best-requires-clause-whole : goal.best_of_neighbours-best-requires-clause-whole
best_of_neighbours-best-requires-clause-whole c =
    let block = c.samples-block.result in
    let p = picture c.args.reference in
    subst (λ (d : Candidate). IsEven d.vector) (sym (c.best_of_whole-whole.ensures.best c.args.rounding))
    (whole_is_candidate block p c.args.mb c.args.rounding c.args.radius c.requires.mb).whole.even

pub returns-clause-reach : goal.returns-clause-reach
returns-clause-reach c =
    let block = c.samples-block.result in
    let p = picture c.args.reference in
    let is_whole = subst (IsCandidate block p c.args.mb c.args.rounding)
    (sym (c.best_of_whole-whole.ensures.best c.args.rounding))
    (whole_is_candidate block p c.args.mb c.args.rounding c.args.radius c.requires.mb).candidate in
    subst (λ (d : Candidate). InReach p.format c.args.mb d.vector.x d.vector.y)
    (sym c.best_of_neighbours-best.ensures.best)
    (near_is_candidate block p c.args.mb c.args.rounding c.best_of_whole-whole.result is_whole).0.reach

pub returns-clause-sums : goal.returns-clause-sums
returns-clause-sums c = sums_alone (picture c.args.reference) c.best_of_whole-whole.new.sums
    _ c.best_of_whole-whole.ensures.sums refl refl refl
