use Rattle.std.proofs.Common.{◌≡◌, sym, subst, false}
use Rattle.h263_planes.specs.Lent.{picture}
use Rattle.motion_search.specs.declared.candidate.Candidate.{Candidate}
use Rattle.motion_search.specs.Order.{before}
use Rattle.motion_search.specs.Best.{IsWholeCandidate}
use Rattle.motion_search.proofs.Bests.{is_best_whole, zero_is_candidate, none_before_settled}
use Rattle.motion_search.proofs.Places.{not_rounded, whole_not_rounded}
use Rattle.motion_search.proofs.whole.best_of_whole.Goals as goal

pub returns-then-is_settled-clause-best : goal.returns-then-is_settled-clause-best
returns-then-is_settled-clause-best c = λ r.
    let block = c.args.block.now in
    let p = picture c.args.reference in
    let mb = c.args.mb in
    let radius = c.args.area.radius in
    let zero = c.zero-zero.result in
    let whole : IsWholeCandidate block p mb radius 0 zero = subst (IsWholeCandidate block p mb radius 0)
    (sym c.zero-zero.ensures.candidate) (zero_is_candidate block p mb 0 radius c.requires.mb) in
    is_best_whole block p mb r radius zero c.requires.mb (whole_not_rounded block p mb radius r zero whole)
    (λ v of_whole reaches. subst (λ (d : Candidate). before d zero
    ≡ false) (sym (not_rounded block p mb r v of_whole.even))
    (none_before_settled block p mb 0 zero v whole.candidate (c.is_settled.ensures.0 c.if-is_settled.true)))
