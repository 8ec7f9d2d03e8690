-- The order of candidates is total, and `least` is the least by it.
use Rattle.std.proofs.Common.{◌≡◌, refl, sym, ap, ◌∙◌, true≢false, List, [], ◌∷◌, Bool, true, false, cond, ℤ, ◌<ℤ◌}
use Rattle.std.specs.Cmp.{IsTotalOrder, int_cmp_is}
use Rattle.std.proofs.lemmas.Cmp.{int_cmp_total, nat_cmp_total, on_total, then_total, upto, tied_itself}
use Rattle.std.specs.List.{All}
use Rattle.std.proofs.lemmas.List.Elements.{All-nil, All-cons, All-head, All-tail, All-weaker}
use Rattle.std.proofs.lemmas.Bool.Decides.{Decides-int_eq}
use Rattle.std.specs.declared.cmp.Ordering.{Ordering}
use Rattle.std.specs.declared.cmp.Ordering.TheVariants.{Less, Equal, Greater}
use Rattle.std.specs.Ordering.{is_lt, is_gt, is_eq, int_cmp, nat_cmp, ordering_then, ordering_reverse}
use Rattle.motion_search.specs.declared.candidate.Candidate.{Candidate}
use Rattle.motion_search.specs.Order.{length_of, compared, before, earlier_of, least}

pub total : IsTotalOrder compared
total = then_total (on_total (λ (c : Candidate). c.cost) int_cmp_total)
    (then_total (on_total (λ (c : Candidate). length_of c.vector) nat_cmp_total)
    (then_total (on_total (λ (c : Candidate). c.vector.y) int_cmp_total)
    (on_total (λ (c : Candidate). c.vector.x) int_cmp_total)))

turned : (r : Ordering) → is_lt (ordering_reverse r) ≡ is_gt r
turned Less = refl
turned Equal = refl
turned Greater = refl

turn : (r : Ordering) → is_lt r ≡ true → is_gt r ≡ false
turn Less h = refl
turn Equal h = refl
turn Greater h = absurd (true≢false (sym h))

pub before_is : (c d : Candidate) → before c d ≡ is_gt (compared d c)
before_is c d = ap is_lt (total.antisymm c d) ∙ turned (compared d c)

-- nothing comes before itself
pub not_itself : (c : Candidate) → before c c ≡ false
not_itself c = ap is_lt (tied_itself total c)

-- what doesn't come before b doesn't come before what b doesn't come before
pub not_before_first : (c b a : Candidate) → before c b ≡ false → before b a ≡ false → before c a ≡ false
not_before_first c b a h k = before_is c a ∙ upto total a b c (sym (before_is b a) ∙ k) (sym (before_is c b) ∙ h)

-- one that costs more doesn't come before
pub dearer_not_before : (c d : Candidate) → d.cost <ℤ c.cost → before c d ≡ false
dearer_not_before c d h =
    ap (λ (r : Ordering). is_lt (ordering_then r (ordering_then (nat_cmp (length_of c.vector) (length_of d.vector))
    (ordering_then (int_cmp c.vector.y d.vector.y) (int_cmp c.vector.x d.vector.x)))))
    (sym (int_cmp_is c.cost d.cost Greater h))

both_equal : (a b : Ordering) → ordering_then a b ≡ Equal → (a ≡ Equal) × (b ≡ Equal)
both_equal Less b h = absurd (true≢false (sym (ap is_eq h)))
both_equal Equal b h = (refl, h)
both_equal Greater b h = absurd (true≢false (sym (ap is_eq h)))

neither : (r : Ordering) → is_lt r ≡ false → is_gt r ≡ false → r ≡ Equal
neither Less h k = absurd (true≢false h)
neither Equal h k = refl
neither Greater h k = absurd (true≢false k)

same_int : (x y : ℤ) → int_cmp x y ≡ Equal → x ≡ y
same_int x y h = (Decides-int_eq x y).0 (ap is_eq h)

same_parts : (x x' y y' k k' : ℤ) → x ≡ x' → y ≡ y' → k ≡ k' →
    let c : Candidate = record { vector = record { x = x; y = y }; cost = k } in
    let d : Candidate = record { vector = record { x = x'; y = y' }; cost = k' } in c ≡ d
same_parts x x' y y' k k' hx hy hk = cc

pub same_candidates : (c d : Candidate) → before c d ≡ false → before d c ≡ false → c ≡ d
same_candidates c d h k =
    let level = neither (compared c d) h (sym (before_is d c) ∙ k) in
    let cost = both_equal (int_cmp c.cost d.cost) _ level in
    let length = both_equal (nat_cmp (length_of c.vector) (length_of d.vector)) _ cost.1 in
    let rows = both_equal (int_cmp c.vector.y d.vector.y) _ length.1 in
    same_parts c.vector.x d.vector.x c.vector.y d.vector.y c.cost d.cost (same_int _ _ rows.1) (same_int _ _ rows.0)
    (same_int _ _ cost.0)

-- ---- the first of two

pub best_not_before : (b c : Candidate) → before b (earlier_of b c) ≡ false
best_not_before b c = by (before c b) refl
  where
    by : (t : Bool) → before c b ≡ t → before b (cond t c b) ≡ false
    by true h = before_is b c ∙ turn (compared c b) h
    by false h = not_itself b

pub other_not_before : (b c : Candidate) → before c (earlier_of b c) ≡ false
other_not_before b c = by (before c b) refl
  where
    by : (t : Bool) → before c b ≡ t → before c (cond t c b) ≡ false
    by true h = not_itself c
    by false h = h

-- a fact of both is one of the first
pub first_has : (P : Candidate → Type 0) (b c : Candidate) → P b → P c → P (earlier_of b c)
first_has P b c hb hc = by (before c b)
  where
    by : (t : Bool) → P (cond t c b)
    by true = hc
    by false = hb

-- what doesn't come before the best so far doesn't come before the first of it and another
pub still_not_before : (d b c : Candidate) → before d b ≡ false → before d (earlier_of b c) ≡ false
still_not_before d b c h = not_before_first d b (earlier_of b c) h (best_not_before b c)

-- ---- the least of a list

-- the least of some has what they all have
pub least_has : (P : Candidate → Type 0) (first : Candidate) (cs : List Candidate) → P first → All P cs
    → P (least first cs)
unfolding least
least_has P first [] h k = h
least_has P first (c ∷ cs) h k = first_has P (least first cs) c (least_has P first cs h (All-tail P c cs k))
    (All-head P c cs k)

-- the first one does not come before the least
pub first_not_before : (first : Candidate) (cs : List Candidate) → before first (least first cs) ≡ false
unfolding least
first_not_before first [] = not_itself first
first_not_before first (c ∷ cs) = not_before_first first (least first cs) (earlier_of (least first cs) c)
    (first_not_before first cs) (best_not_before (least first cs) c)

-- none of the others does
pub none_before : (first : Candidate) (cs : List Candidate) → All (λ c. before c (least first cs) ≡ false) cs
unfolding least
none_before first [] = All-nil _
none_before first (c ∷ cs) =
    All-cons (λ d. before d (least first (c ∷ cs)) ≡ false) c cs (other_not_before (least first cs) c)
    (All-weaker (λ d. before d (least first cs) ≡ false) (λ d. before d (least first (c ∷ cs)) ≡ false)
    (λ d h. not_before_first d (least first cs) (earlier_of (least first cs) c) h (best_not_before (least first cs) c))
    cs
    (none_before first cs))

-- one of them before which none comes is the least
pub is_least : (first best : Candidate) (cs : List Candidate) → before first best ≡ false
    → All (λ c. before c best ≡ false) cs →
    before best (least first cs) ≡ false → best ≡ least first cs
is_least first best cs h k l = same_candidates best (least first cs) l (least_has (λ c. before c best
    ≡ false) first cs h k)
