-- Both steps of the search, by what is true of their answers.
use Rattle.std.proofs.Common.{◌≡◌, refl, sym, ap, subst, ◌∙◌, arith, ℕ, ◌<◌, List, Bool, true, false, cond, ℤ, pos, ◌-ℤ◌, ◌<ℤ◌, ◌≤ℤ◌, ◌⊎◌, inl, inr}
use Rattle.std.proofs.lemmas.Int.{ints}
use Rattle.std.specs.List.{All, filter}
use Rattle.std.proofs.lemmas.List.Elements.{All-map}
use Rattle.h263_types.specs.declared.vector.Vector.{Vector}
use Rattle.h263_types.specs.Sizes.{mbs_of}
use Rattle.h263_types.specs.Vectors.{InReach}
use Rattle.h263_planes.specs.Picture.{Picture}
use Rattle.motion_search.specs.declared.candidate.Candidate.{Candidate}
use Rattle.motion_search.specs.Order.{before, least, earlier_of}
use Rattle.motion_search.specs.Cost.{difference_of, lead_of, cost_of, candidate_of}
use Rattle.motion_search.specs.Vectors.{in_reach, zero_vector, whole_vectors, neighbours, IsWholeSample, IsHalfAround}
use Rattle.motion_search.specs.Best.{candidates_of, best_whole, best_near, IsCandidate, IsWholeCandidate}
use Rattle.motion_search.proofs.Orders.{first_has, other_not_before, still_not_before, least_has, first_not_before, none_before, is_least, not_itself, dearer_not_before}
use Rattle.motion_search.proofs.Leads.{zero_or_behind}
use Rattle.motion_search.proofs.Squares.{passed, from_passed, from_map, all_whole, whole_one, all_near, near_one, reach_is, zero_reaches, zero_is_whole}

module _ (block : List ℕ) (reference : Picture) (mb rounding : ℕ) where
  same_candidate : (v : Vector) (k : ℤ) → k ≡ cost_of block reference mb rounding v
      → let c : Candidate = record { vector = v; cost = k } in candidate_of block reference mb rounding v ≡ c
  same_candidate v k e = cc

  -- a candidate is what its vector says
  pub candidate_is : (c : Candidate) → IsCandidate block reference mb rounding c
      → candidate_of block reference mb rounding c.vector ≡ c
  candidate_is c h = same_candidate c.vector c.cost h.cost

  pub is_candidate : (v : Vector) → InReach reference.format mb v.x v.y
      → IsCandidate block reference mb rounding (candidate_of block reference mb rounding v)
  is_candidate v h = record { reach = h; cost = refl }

  -- a fact of the vectors in reach is one of the candidates, and the other way round
  to_candidates : (P : Candidate → Type 0) (vs : List Vector) → All (λ v. in_reach reference.format mb v ≡ true
      → P (candidate_of block reference mb rounding v)) vs →
      All P (candidates_of block reference mb rounding vs)
  to_candidates P vs h =
      All-map P (candidate_of block reference mb rounding) (filter (in_reach reference.format mb) vs)
      (passed (in_reach reference.format mb) (λ v. P (candidate_of block reference mb rounding v)) vs h)

  from_candidates : (P : Candidate → Type 0) (vs : List Vector) → All P (candidates_of block reference mb rounding vs) →
      All (λ v. in_reach reference.format mb v ≡ true → P (candidate_of block reference mb rounding v)) vs
  from_candidates P vs h =
      from_passed (in_reach reference.format mb) (λ v. P (candidate_of block reference mb rounding v)) vs
      (from_map P (candidate_of block reference mb rounding) (filter (in_reach reference.format mb) vs) h)

  -- ---- whole samples

  -- the zero vector is one of those of whole samples
  pub zero_is_candidate : (radius : ℕ) → mb < mbs_of reference.format
      → IsWholeCandidate block reference mb radius rounding (candidate_of block reference mb rounding zero_vector)
  zero_is_candidate radius h = record {
    whole = zero_is_whole radius;
    candidate = is_candidate zero_vector (zero_reaches reference.format mb h);
  }

  -- so is the best one of them
  pub whole_is_candidate : (radius : ℕ) → mb < mbs_of reference.format
      → IsWholeCandidate block reference mb radius rounding (best_whole block reference mb radius rounding)
  unfolding best_whole
  whole_is_candidate radius h =
      let is = IsWholeCandidate block reference mb radius rounding in
      least_has is (candidate_of block reference mb rounding zero_vector) (candidates_of block reference mb rounding
      (whole_vectors radius))
      (zero_is_candidate radius h)
      (to_candidates is (whole_vectors radius)
      (all_whole (λ v. in_reach reference.format mb v ≡ true → is (candidate_of block reference mb rounding v)) radius
      (λ v whole reaches. record {
        whole = whole;
        candidate = is_candidate v ((reach_is reference.format mb v).0 reaches);
      })))

  pub none_before_whole : (radius : ℕ) (v : Vector) → IsWholeSample radius v → InReach reference.format mb v.x v.y →
      before (candidate_of block reference mb rounding v) (best_whole block reference mb radius rounding) ≡ false
  unfolding best_whole
  none_before_whole radius v whole reaches =
      let first = candidate_of block reference mb rounding zero_vector in
      let cs = candidates_of block reference mb rounding (whole_vectors radius) in
      whole_one (λ w. in_reach reference.format mb w ≡ true
      → before (candidate_of block reference mb rounding w) (least first cs) ≡ false) radius v whole
      (from_candidates (λ c. before c (least first cs) ≡ false) (whole_vectors radius) (none_before first cs))
      ((reach_is reference.format mb v).1 reaches)

  -- one of the candidates before which none comes is the best
  pub is_best_whole : (radius : ℕ) (c : Candidate) → mb < mbs_of reference.format
      → IsWholeCandidate block reference mb radius rounding c →
      ((v : Vector) → IsWholeSample radius v → InReach reference.format mb v.x v.y
      → before (candidate_of block reference mb rounding v) c ≡ false) →
      c ≡ best_whole block reference mb radius rounding
  unfolding best_whole
  is_best_whole radius c h is none =
      let first = candidate_of block reference mb rounding zero_vector in
      let cs = candidates_of block reference mb rounding (whole_vectors radius) in
      is_least first c cs
      (none zero_vector (zero_is_whole radius) (zero_reaches reference.format mb h))
      (to_candidates (λ d. before d c ≡ false) (whole_vectors radius)
      (all_whole (λ v. in_reach reference.format mb v ≡ true → before (candidate_of block reference mb rounding v) c
      ≡ false) radius
      (λ v whole reaches. none v whole ((reach_is reference.format mb v).0 reaches))))
      (subst (λ (d : Candidate). before d (least first cs) ≡ false) (candidate_is c is.candidate)
      (none_before_whole radius c.vector is.whole is.candidate.reach))

  -- ---- half samples

  pub itself : (v : Vector) → IsHalfAround v v
  itself v = record { x = omega (arith, ints); y = omega (arith, ints) }

  -- the best of a candidate and its neighbours is a candidate
  pub near_is_candidate : (best : Candidate) → IsCandidate block reference mb rounding best →
      IsCandidate block reference mb rounding (best_near block reference mb rounding best)
      × IsHalfAround best.vector (best_near block reference mb rounding best).vector
  unfolding best_near
  near_is_candidate best h =
      let is = λ (c : Candidate). IsCandidate block reference mb rounding c × IsHalfAround best.vector c.vector in
      least_has is best (candidates_of block reference mb rounding (neighbours best.vector)) (h, itself best.vector)
      (to_candidates is (neighbours best.vector)
      (all_near (λ v. in_reach reference.format mb v ≡ true
      → is (candidate_of block reference mb rounding v)) best.vector
      (λ v near reaches. (is_candidate v ((reach_is reference.format mb v).0 reaches), near))))

  pub none_before_near : (best : Candidate) (v : Vector) → IsCandidate block reference mb rounding best
      → IsHalfAround best.vector v → InReach reference.format mb v.x v.y →
      before (candidate_of block reference mb rounding v) (best_near block reference mb rounding best) ≡ false
  unfolding best_near
  none_before_near best v is near reaches =
      let cs = candidates_of block reference mb rounding (neighbours best.vector) in
      near_one (λ w. in_reach reference.format mb w ≡ true
      → before (candidate_of block reference mb rounding w) (least best cs) ≡ false) best.vector v near
      (λ _. subst (λ (d : Candidate). before d (least best cs) ≡ false) (sym (candidate_is best is))
      (first_not_before best cs))
      (from_candidates (λ c. before c (least best cs) ≡ false) (neighbours best.vector) (none_before best cs))
      ((reach_is reference.format mb v).1 reaches)

  pub is_best_near : (best c : Candidate) → IsCandidate block reference mb rounding best
      → IsCandidate block reference mb rounding c → IsHalfAround best.vector c.vector →
      ((v : Vector) → IsHalfAround best.vector v → InReach reference.format mb v.x v.y
      → before (candidate_of block reference mb rounding v) c ≡ false) →
      c ≡ best_near block reference mb rounding best
  unfolding best_near
  is_best_near best c of_best of_c near none =
      let cs = candidates_of block reference mb rounding (neighbours best.vector) in
      is_least best c cs
      (subst (λ (d : Candidate). before d c ≡ false) (candidate_is best of_best)
      (none best.vector (itself best.vector) of_best.reach))
      (to_candidates (λ d. before d c ≡ false) (neighbours best.vector)
      (all_near (λ v. in_reach reference.format mb v ≡ true → before (candidate_of block reference mb rounding v) c
      ≡ false) best.vector
      (λ v by reaches. none v by ((reach_is reference.format mb v).0 reaches))))
      (subst (λ (d : Candidate). before d (least best cs) ≡ false) (candidate_is c of_c)
      (none_before_near best c.vector of_best near of_c.reach))

  -- ---- a cost below 0

  -- the cost of a vector that has nothing ahead
  behind_costs : (v : Vector) → lead_of v ≡ 0 → pos 0 ≤ℤ cost_of block reference mb rounding v
  behind_costs v e = subst (λ (k : ℕ). pos 0 ≤ℤ (pos (difference_of block reference mb rounding v) -ℤ pos k)) (sym e)
      (omega (arith, ints))

  -- only the zero vector can cost so little, and no other one comes before it
  pub none_before_settled : (c : Candidate) (v : Vector) → IsCandidate block reference mb rounding c → c.cost <ℤ pos 0
      → before (candidate_of block reference mb rounding v) c ≡ false
  none_before_settled c v is low = by (zero_or_behind v) (zero_or_behind c.vector)
    where
      by : (v ≡ zero_vector) ⊎ (lead_of v ≡ 0) → (c.vector ≡ zero_vector) ⊎ (lead_of c.vector ≡ 0)
          → before (candidate_of block reference mb rounding v) c ≡ false
      by (inr e) w = dearer_not_before (candidate_of block reference mb rounding v) c (omega (
        arith,
        ints,
        low,
        behind_costs v e,
      ))
      by (inl e) (inr k) = absurd (omega (arith, ints, low, is.cost, behind_costs c.vector k))
      by (inl e) (inl k) = subst (λ (d : Candidate). before d c
          ≡ false) (sym (ap (candidate_of block reference mb rounding) (e ∙ sym k) ∙ candidate_is c is)) (not_itself c)

  pub settled_is_best_near : (best : Candidate) → IsCandidate block reference mb rounding best → best.cost <ℤ pos 0
      → best ≡ best_near block reference mb rounding best
  settled_is_best_near best is low = is_best_near best best is is (itself best.vector)
      (λ v near reaches. none_before_settled best v is low)

  -- ---- one vector more

  -- the first of the best one and a vector, where that is in reach
  abbrev pub step_of : Vector → Candidate → Candidate
  step_of v now = cond (in_reach reference.format mb v) (earlier_of now (candidate_of block reference mb rounding v))
      now

  pub step_has : (P : Candidate → Type 0) (v : Vector) (now : Candidate) → P now → (InReach reference.format mb v.x v.y
      → P (candidate_of block reference mb rounding v)) → P (step_of v now)
  step_has P v now old new = by (in_reach reference.format mb v) (reach_is reference.format mb v).0
    where
      by : (b : Bool) → (b ≡ true → InReach reference.format mb v.x v.y)
          → P (cond b (earlier_of now (candidate_of block reference mb rounding v)) now)
      by true h = first_has P now (candidate_of block reference mb rounding v) old (new (h refl))
      by false h = old

  -- what doesn't come before the best so far doesn't come before the next
  pub step_kept : (d : Candidate) (v : Vector) (now : Candidate) → before d now ≡ false → before d (step_of v now)
      ≡ false
  step_kept d v now h = by (in_reach reference.format mb v)
    where
      by : (b : Bool) → before d (cond b (earlier_of now (candidate_of block reference mb rounding v)) now) ≡ false
      by true = still_not_before d now (candidate_of block reference mb rounding v) h
      by false = h

  -- a vector that was looked at does not come before the first one
  pub step_none : (v : Vector) (now : Candidate) → InReach reference.format mb v.x v.y
      → before (candidate_of block reference mb rounding v) (step_of v now) ≡ false
  step_none v now h =
      subst (λ (b : Bool). before (candidate_of block reference mb rounding v)
      (cond b (earlier_of now (candidate_of block reference mb rounding v)) now) ≡ false)
      (sym ((reach_is reference.format mb v).1 h)) (other_not_before now (candidate_of block reference mb rounding v))

  -- the first of two is what a step keeps
  pub taken : (v : Vector) (now : Candidate) → InReach reference.format mb v.x v.y
      → earlier_of now (candidate_of block reference mb rounding v) ≡ step_of v now
  taken v now h = sym (ap (λ (b : Bool). cond b (earlier_of now (candidate_of block reference mb rounding v)) now)
      ((reach_is reference.format mb v).1 h))

  pub whole_step : (u v : Vector) (now next : Candidate) → InReach reference.format mb v.x v.y → u ≡ v
      → next ≡ earlier_of now (candidate_of block reference mb rounding u) → next ≡ step_of v now
  whole_step u v now next h same e = e
      ∙ ap (λ (w : Vector). earlier_of now (candidate_of block reference mb rounding w)) same ∙ taken v now h

  pub passed_over : (v : Vector) (now : Candidate) → (InReach reference.format mb v.x v.y → ⊥) → now ≡ step_of v now
  passed_over v now h = by (in_reach reference.format mb v) (reach_is reference.format mb v).0
    where
      by : (b : Bool) → (b ≡ true → InReach reference.format mb v.x v.y)
          → now ≡ cond b (earlier_of now (candidate_of block reference mb rounding v)) now
      by true k = absurd (h (k refl))
      by false k = refl

  pub step_is_whole : (radius : ℕ) (v : Vector) (now : Candidate) → IsWholeSample radius v
      → IsWholeCandidate block reference mb radius rounding now
      → IsWholeCandidate block reference mb radius rounding (step_of v now)
  step_is_whole radius v now whole h =
      step_has (IsWholeCandidate block reference mb radius rounding) v now h (λ reaches. record {
        whole = whole;
        candidate = is_candidate v reaches;
      })
