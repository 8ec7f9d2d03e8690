-- The vector that is found first only spares work: the best one is the first of the whole square.
use Rattle.std.proofs.Common.{◌≡◌, ◌∙◌, ap, sym, subst, arith, ℕ, ◌+◌, ◌*◌, ◌/◌, ◌≤◌, List, ℤ, ◌↔◌, ◌<◌, false}
use Rattle.h263_types.specs.declared.format.Format.{Format}
use Rattle.h263_types.specs.Sizes.{columns_of, height_of, mbs_of}
use Rattle.h263_types.specs.Vectors.{InReach, IsWithin}
use Rattle.h263_planes.specs.Lent.{picture}
use Rattle.h263_planes.specs.Picture.{Picture}
use Rattle.motion_search.specs.declared.candidate.Candidate.{Candidate}
use Rattle.motion_search.specs.Order.{before}
use Rattle.motion_search.specs.Cost.{candidate_of}
use Rattle.motion_search.specs.Vectors.{whole_at, zero_vector}
use Rattle.motion_search.specs.Best.{IsWholeCandidate}
use Rattle.motion_search.proofs.Squares.{at_is_whole, whole_from_places}
use Rattle.motion_search.proofs.Held.{height_small, top_inside}
use Rattle.motion_search.proofs.Bests.{is_best_whole, step_is_whole, step_kept, step_of, zero_is_candidate}
use Rattle.motion_search.proofs.Orders.{not_itself}
use Rattle.motion_search.proofs.Places.{not_rounded, whole_not_rounded}
use Rattle.motion_search.proofs.whole.best_in.Goals as goal

pub invariant_of-window-clause-reaches : goal.invariant_of-window-clause-reaches
invariant_of-window-clause-reaches g c =
    subst (λ (f : Format). (x y : ℤ) → InReach f c.args.mb x y ↔ IsWithin c.reach-reach.result x y)
    c.format-format.ensures.format c.reach-reach.ensures

zero_first : (block : List ℕ) (p : Picture) (mb : ℕ) (zero : Candidate) → zero ≡ candidate_of block p mb 0 zero_vector
    → before (candidate_of block p mb 0 zero_vector) zero ≡ false
zero_first block p mb zero e = subst (λ (d : Candidate). before (candidate_of block p mb 0 zero_vector) d
    ≡ false) (sym e) (not_itself (candidate_of block p mb 0 zero_vector))

pub better_at-first-requires-clause-zero : goal.better_at-first-requires-clause-zero
better_at-first-requires-clause-zero g c = zero_first c.args.block.now (picture c.args.reference) c.args.mb c.args.zero
    c.requires.zero

-- the picture's height, and the row's place in it
inside : (f g : Format) (mb n height : ℕ) → mb < mbs_of f → g ≡ f → n ≡ columns_of g → height ≡ height_of g
    → (16 * (mb / n) + 16 ≤ height) × (height < 60000) × (height ≡ height_of f)
inside f g mb n height h same columns e =
    let e' : height ≡ height_of f = e ∙ ap height_of same in
    let n' : n ≡ columns_of f = columns ∙ ap columns_of same in (
      subst (λ (k : ℕ). 16 * (mb / k) + 16 ≤ height) (sym n') (omega (arith, e', top_inside f mb h)),
      omega (arith, e', height_small f),
      e',
    )

pub end_of_rows-end-requires-clause-top : goal.end_of_rows-end-requires-clause-top
end_of_rows-end-requires-clause-top g c =
    (inside (picture c.args.reference).format c.format-format.result c.args.mb c.columns-2.result c.height.result
    c.requires.mb c.format-format.ensures.format c.columns-2.ensures c.height.ensures).0

pub end_of_rows-end-requires-clause-height : goal.end_of_rows-end-requires-clause-height
end_of_rows-end-requires-clause-height g c =
    (inside (picture c.args.reference).format c.format-format.result c.args.mb c.columns-2.result c.height.result
    c.requires.mb c.format-format.ensures.format c.columns-2.ensures c.height.ensures).1

pub hold-requires-clause-order : goal.hold-requires-clause-order
hold-requires-clause-order g c =
    let top = 16 * (c.args.mb / c.columns-2.result) in
    let is = inside (picture c.args.reference).format c.format-format.result c.args.mb c.columns-2.result
    c.height.result c.requires.mb c.format-format.ensures.format c.columns-2.ensures c.height.ensures in
    omega (
      arith,
      c.first_of_rows-from.ensures.first top (omega arith),
      c.end_of_rows-end.ensures.end top (omega arith) is.0,
    )

pub hold-requires-clause-room : goal.hold-requires-clause-room
hold-requires-clause-room g c = omega (
  arith,
  c.first_of_rows-from.ensures.near,
  c.end_of_rows-end.ensures.near,
  c.requires.radius,
)

pub hold-requires-clause-inside : goal.hold-requires-clause-inside
hold-requires-clause-inside g c =
    let is = inside (picture c.args.reference).format c.format-format.result c.args.mb c.columns-2.result
    c.height.result c.requires.mb c.format-format.ensures.format c.columns-2.ensures c.height.ensures in
    omega (arith, c.end_of_rows-end.ensures.inside, is.2)

pub best_of_strips-requires-clause-held : goal.best_of_strips-requires-clause-held
best_of_strips-requires-clause-held g c = λ y low high within.
    let is = inside (picture c.args.reference).format c.format-format.result c.args.mb c.columns-2.result
    c.height.result c.requires.mb c.format-format.ensures.format c.columns-2.ensures c.height.ensures in (
      omega (arith, c.first_of_rows-from.ensures.first y low, c.hold.ensures.first),
      omega (arith, c.end_of_rows-end.ensures.end y high (omega (arith, within, is.2)), c.hold.ensures.end),
    )

pub best_of_strips-requires-clause-so_far : goal.best_of_strips-requires-clause-so_far
best_of_strips-requires-clause-so_far g c =
    let block = c.args.block.now in
    let p = picture c.args.reference in
    let mb = c.args.mb in
    let radius = c.args.area.radius in
    let v = whole_at radius c.nearest-across.result c.nearest-down.result in
    let e : c.better_at-first.result ≡ step_of block p mb 0 v c.args.zero = c.better_at-first.ensures.first in
    let is_zero = subst (IsWholeCandidate block p mb radius 0) (sym c.requires.zero)
    (zero_is_candidate block p mb 0 radius c.requires.mb) in
    record {
      candidate = subst (IsWholeCandidate block p mb radius 0) (sym e)
          (step_is_whole block p mb 0 radius v c.args.zero
          (at_is_whole radius c.nearest-across.result c.nearest-down.result
          (omega (arith, c.nearest-across.ensures)) (omega (arith, c.nearest-down.ensures))) is_zero);
      zero = subst (λ (d : Candidate). before (candidate_of block p mb 0 zero_vector) d ≡ false) (sym e)
          (step_kept block p mb 0 (candidate_of block p mb 0 zero_vector) v c.args.zero
          (zero_first block p mb c.args.zero c.requires.zero));
      cost = c.better_at-first.ensures.cost;
    }

pub returns-clause-best : goal.returns-clause-best
returns-clause-best g c = λ r.
    let block = c.args.block.now in
    let p = picture c.args.reference in
    let mb = c.args.mb in
    let radius = c.args.area.radius in
    let first = c.best_of_strips.result in
    is_best_whole block p mb r radius first c.requires.mb
    (whole_not_rounded block p mb radius r first c.best_of_strips.ensures.so_far.candidate)
    (λ v whole reaches. subst (λ (d : Candidate). before d first ≡ false) (sym (not_rounded block p mb r v whole.even))
    (whole_from_places (λ w. InReach p.format mb w.x w.y → before (candidate_of block p mb 0 w) first
    ≡ false) radius v whole
    (λ i j hi hj reached. c.best_of_strips.ensures.none j i hj hi reached) reaches))
