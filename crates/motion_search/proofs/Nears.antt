-- The neighbours of a candidate, one after the other.
use Rattle.std.proofs.Common.{◌≡◌, ◌∙◌, sym, subst, ap, arith, below_more, ℕ, ◌+◌, ◌/◌, ◌<◌, ◌≤◌, List, false}
use Rattle.std.proofs.lemmas.Int.{ints}
use Rattle.h263_types.specs.declared.vector.Reach.{Reach}
use Rattle.h263_types.specs.declared.vector.Vector.{Vector}
use Rattle.h263_types.specs.Vectors.{InReach, IsWithin}
use Rattle.h263_planes.specs.Picture.{Picture}
use Rattle.motion_search.specs.declared.candidate.Candidate.{Candidate}
use Rattle.motion_search.specs.Order.{before, earlier_of}
use Rattle.motion_search.specs.Cost.{candidate_of, difference_of, IsCost}
use Rattle.motion_search.specs.Vectors.{vector_around, IsHalfAround}
use Rattle.motion_search.specs.Best.{best_near, IsCandidate}
use Rattle.motion_search.proofs.Blocks.{costing}
use Rattle.motion_search.proofs.Squares.{near_others, around_is_near}
use Rattle.motion_search.proofs.Bests.{step_of, step_has, step_kept, step_none, taken, is_candidate, candidate_is, itself, is_best_near}
use Rattle.motion_search.proofs.Orders.{not_itself}

-- the neighbour in place n of the eight
abbrev pub eighth : Vector → ℕ → Vector
eighth v n = vector_around v (n + n / 4)

-- the first of a candidate and its first n neighbours, of those in reach
pub record IsFirst (block : List ℕ) (p : Picture) (mb r : ℕ) (best : Candidate) (n : ℕ) (first : Candidate) : Type
    0 where
  pub candidate : IsCandidate block p mb r first
  pub near : IsHalfAround best.vector first.vector
  pub kept : before best first ≡ false
  pub none : (m : ℕ) → m < n → InReach p.format mb (eighth best.vector m).x (eighth best.vector m).y
      → before (candidate_of block p mb r (eighth best.vector m)) first ≡ false
  pub cost : IsCost first.cost

module _ (block : List ℕ) (p : Picture) (mb r : ℕ) (best : Candidate) where
  pub none_yet : IsCandidate block p mb r best → IsCost best.cost → IsFirst block p mb r best 0 best
  none_yet is cost =
      record {
        candidate = is;
        near = itself block p mb r best.vector;
        kept = not_itself best;
        none = λ m h reaches. absurd (omega (arith, h));
        cost = cost;
      }

  -- one neighbour more
  pub one_more : (n : ℕ) (now next : Candidate) → n < 8 → next ≡ step_of block p mb r (eighth best.vector n) now
      → IsCost next.cost →
      IsFirst block p mb r best n now → IsFirst block p mb r best (n + 1) next
  one_more n now next hn e cost h =
      let v = eighth best.vector n in
      record {
        candidate = subst (IsCandidate block p mb r) (sym e)
            (step_has block p mb r (IsCandidate block p mb r) v now h.candidate (is_candidate block p mb r v));
        near = subst (λ (d : Candidate). IsHalfAround best.vector d.vector) (sym e)
            (step_has block p mb r (λ (d : Candidate). IsHalfAround best.vector d.vector) v now h.near
            (λ _. around_is_near best.vector (n + n / 4) (omega (arith, hn))));
        kept = subst (λ (b : Candidate). before best b ≡ false) (sym e) (step_kept block p mb r best v now h.kept);
        none = below_more (λ m. InReach p.format mb (eighth best.vector m).x (eighth best.vector m).y
            → before (candidate_of block p mb r (eighth best.vector m)) next ≡ false) n
            (λ m hm reaches. let d = candidate_of block p mb r (eighth best.vector m) in
            subst (λ (b : Candidate). before d b ≡ false) (sym e)
            (step_kept block p mb r d v now (h.none m hm reaches)))
            (λ reaches. let d = candidate_of block p mb r v in
            subst (λ (b : Candidate). before d b ≡ false) (sym e) (step_none block p mb r v now reaches));
        cost = cost;
      }

  -- after all eight it is the first of the neighbours
  pub all_eight : (n : ℕ) (first : Candidate) → 8 ≤ n → IsCandidate block p mb r best
      → IsFirst block p mb r best n first → first ≡ best_near block p mb r best
  all_eight n first hn is h =
      is_best_near block p mb r best first is h.candidate h.near
      (λ v near. near_others (λ w. InReach p.format mb w.x w.y → before (candidate_of block p mb r w) first
      ≡ false) best.vector v near
      (λ _. subst (λ (d : Candidate). before d first ≡ false) (sym (candidate_is block p mb r best is)) h.kept)
      (λ m hm. h.none m (omega (arith, hn, hm))))

  -- the first of those so far and a neighbour in reach, by its differences
  pub by_differences : (n s : ℕ) (v : Vector) (now other next : Candidate) → next ≡ earlier_of now other
      → other ≡ costing v s → v ≡ eighth best.vector n →
      s ≡ difference_of block p mb r (eighth best.vector n)
      → InReach p.format mb (eighth best.vector n).x (eighth best.vector n).y
      → next ≡ step_of block p mb r (eighth best.vector n) now
  by_differences n s v now other next e costs ev es reaches =
      e ∙ ap (earlier_of now) (costs ∙ ap (λ (w : Vector). costing w s) ev ∙ ap (costing (eighth best.vector n)) es)
      ∙ taken block p mb r (eighth best.vector n) now reaches

-- where the first and the last of the nine are within, all of them are
pub nine_within : (reach : Reach) (v up_left down_right : Vector) (k : ℕ) → k < 9 → up_left ≡ vector_around v 0
    → down_right ≡ vector_around v 8 →
    IsWithin reach up_left.x up_left.y → IsWithin reach down_right.x down_right.y
    → IsWithin reach (vector_around v k).x (vector_around v k).y
nine_within reach v up_left down_right k hk eu ed hu hd =
    let u = subst (λ (w : Vector). IsWithin reach w.x w.y) eu hu in
    let d = subst (λ (w : Vector). IsWithin reach w.x w.y) ed hd in (
      (omega (arith, ints, hk, u, d), omega (arith, ints, hk, u, d)),
      (omega (arith, ints, hk, u, d), omega (arith, ints, hk, u, d)),
    )
