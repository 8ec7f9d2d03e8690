-- The level, one picture after another, and against the suffixes of a list.
use Rattle.std.proofs.Common.{◌≡◌, ℕ, zero, suc, ◌+◌, ◌-◌, ◌*◌, ◌/◌, ◌<◌, ◌≤◌, max, List, [], ◌∷◌, ◌++◌, length, sum, take, get_or, arith, refl, sym, ap, subst, ◌∙◌, ⊎_elim}
use Rattle.std.proofs.lemmas.Bool.{cases_lt}
use Rattle.std.proofs.lemmas.Nat.{le-div, mul-le}
use Rattle.std.proofs.Math.Nat.{div-mul-le_self, div-zero}
use Rattle.std.proofs.lemmas.List.{length_push, take_more}
use Rattle.std.proofs.lemmas.List.Sums.{sum_by-cons, sum_by_push}
use Rattle.rate_control.specs.Level.{level_of, excess, NoneShrinks, bucket_quant}
use Rattle.rate_control.specs.Laws.{BoundsSuffixes, IsCalm, IsSuffixReached}

-- ---- one picture more

-- the excess of one more suffix, by its sum and its length
step : (s m x t b : ℕ) → max ((s + x) - (m + t)) ((b + x) - t) ≡ (max (s - m) b + x) - t
step s m x t b = omega arith

more : (n t : ℕ) → (n + 1) * t ≡ n * t + t
more n t = grind arith

excess_push : (t : ℕ) (sizes : List ℕ) (x : ℕ) → excess t (sizes ++ x ∷ []) ≡ (sum sizes + x) - (length sizes * t + t)
excess_push t sizes x =
    rw (sum_by_push (λ (n : ℕ). n) sizes x, length_push sizes x, more (length sizes) t)

pub level_push : (t : ℕ) (sizes : List ℕ) (x : ℕ) → level_of t (sizes ++ x ∷ []) ≡ (level_of t sizes + x) - t
unfolding level_of
level_push t [] x = omega arith
level_push t (y ∷ sizes) x =
    ap (λ (n : ℕ). max n (level_of t (sizes ++ x ∷ []))) (excess_push t (y ∷ sizes) x)
    ∙ ap (λ (n : ℕ). max ((sum (y ∷ sizes) + x) - (length (y ∷ sizes) * t + t)) n) (level_push t sizes x)
    ∙ step (sum (y ∷ sizes)) (length (y ∷ sizes) * t) x t (level_of t sizes)

pub level_none : (t : ℕ) → level_of t [] ≡ 0
unfolding level_of
level_none t = refl

pub level_more : (t : ℕ) (sizes : List ℕ) (i d : ℕ) → i < length sizes
    → level_of t (take (i + 1) sizes) ≡ (level_of t (take i sizes) + get_or sizes i d) - t
level_more t sizes i d h = ap (level_of t) (take_more sizes i d h) ∙ level_push t (take i sizes) (get_or sizes i d)

-- ---- the greatest of the suffixes

level_cons : (t y : ℕ) (sizes : List ℕ) → level_of t (y ∷ sizes) ≡ max (sum (y ∷ sizes) - length (y ∷ sizes) * t)
    (level_of t sizes)
unfolding level_of
level_cons t y sizes = refl

bound_whole : (t : ℕ) (sizes : List ℕ) → sum sizes ≤ level_of t sizes + length sizes * t
bound_whole t [] = omega arith
bound_whole t (y ∷ sizes) =
    let e = level_cons t y sizes in
    omega (arith, e)

bound : (t : ℕ) (front back : List ℕ) → sum back ≤ level_of t (front ++ back) + length back * t
bound t [] back = bound_whole t back
bound t (y ∷ front) back =
    let e = level_cons t y (front ++ back) in
    let h = bound t front back in
    omega (arith, e, h)

pub bounds : (t : ℕ) (sizes : List ℕ) → BoundsSuffixes t sizes
bounds t sizes front back e =
    subst (λ (l : List ℕ). sum back ≤ level_of t l + length back * t) e (bound t front back)

-- the whole list lies furthest above its target, or a suffix after its first picture does
at_front : (t y : ℕ) (sizes : List ℕ) → level_of t sizes < (sum (y ∷ sizes) - length (y ∷ sizes) * t)
    → IsSuffixReached t (y ∷ sizes)
at_front t y sizes h =
    let e = level_cons t y sizes in
    record { front = []; back = y ∷ sizes; whole = refl; same = omega (arith, e) }

further : (t y : ℕ) (sizes : List ℕ) → (sum (y ∷ sizes) - length (y ∷ sizes) * t) ≤ level_of t sizes
    → IsSuffixReached t sizes
    → IsSuffixReached t (y ∷ sizes)
further t y sizes h r =
    let e = level_cons t y sizes in
    let s = r.same in
    record {
      front = y ∷ r.front;
      back = r.back;
      whole = ap (λ (l : List ℕ). y ∷ l) r.whole;
      same = omega (arith, e, s);
    }

pub reached : (t : ℕ) (sizes : List ℕ) → IsSuffixReached t sizes
reached t [] =
    let z = level_none t in
    record { front = []; back = []; whole = refl; same = omega (arith, z) }
reached t (y ∷ sizes) =
    ⊎_elim (at_front t y sizes) (λ h. further t y sizes h (reached t sizes))
    (cases_lt (level_of t sizes) (sum (y ∷ sizes) - length (y ∷ sizes) * t))

pub calm_level : (t : ℕ) (sizes : List ℕ) → level_of t sizes ≡ 0 → IsCalm t sizes
calm_level t sizes z front back e =
    let h = bounds t sizes front back e in
    omega (arith, h)

pub level_calm : (t : ℕ) (sizes : List ℕ) → IsCalm t sizes → level_of t sizes ≡ 0
level_calm t sizes calm =
    let r = reached t sizes in
    let s = r.same in
    let h = calm r.front r.back r.whole in
    omega (arith, s, h)

-- ---- sizes that don't shrink

as_many : (xs ys : List ℕ) → NoneShrinks xs ys → length xs ≡ length ys
as_many [] [] h = refl
as_many [] (y ∷ ys) h = absurd h
as_many (x ∷ xs) [] h = absurd h
as_many (x ∷ xs) (y ∷ ys) h = ap (λ (n : ℕ). suc n) (as_many xs ys h.1)

no_less : (xs ys : List ℕ) → NoneShrinks xs ys → sum xs ≤ sum ys
no_less [] [] h = omega arith
no_less [] (y ∷ ys) h = absurd h
no_less (x ∷ xs) [] h = absurd h
no_less (x ∷ xs) (y ∷ ys) h =
    let i = no_less xs ys h.1 in
    let a = sum_by-cons (λ (n : ℕ). n) x xs in
    let b = sum_by-cons (λ (n : ℕ). n) y ys in
    let c = h.0 in
    omega (arith, i, a, b, c)

max_no_less : (a b c d : ℕ) → a ≤ c → b ≤ d → max a b ≤ max c d
max_no_less a b c d h k = omega arith

excess_no_less : (t : ℕ) (xs ys : List ℕ) → length xs ≡ length ys → sum xs ≤ sum ys → excess t xs ≤ excess t ys
excess_no_less t xs ys l s = subst (λ (n : ℕ). (sum xs - length xs * t) ≤ (sum ys - n * t)) l (omega arith)

pub level_no_less : (t : ℕ) (xs ys : List ℕ) → NoneShrinks xs ys → level_of t xs ≤ level_of t ys
level_no_less t [] [] h = omega arith
level_no_less t [] (y ∷ ys) h = absurd h
level_no_less t (x ∷ xs) [] h = absurd h
level_no_less t (x ∷ xs) (y ∷ ys) h =
    subst (λ (n : ℕ). level_of t (x ∷ xs) ≤ n) (sym (level_cons t y ys))
    (subst (λ (n : ℕ). n ≤ max (excess t (y ∷ ys)) (level_of t ys)) (sym (level_cons t x xs))
    (max_no_less (excess t (x ∷ xs)) (level_of t xs) (excess t (y ∷ ys)) (level_of t ys)
    (excess_no_less t (x ∷ xs) (y ∷ ys) (as_many (x ∷ xs) (y ∷ ys) h) (no_less (x ∷ xs) (y ∷ ys) h))
    (level_no_less t xs ys h.1)))

quotient : (a b t : ℕ) → a ≤ b → a / t ≤ b / t
quotient a b zero h = rw (div-zero a, div-zero b) (omega arith)
quotient a b (suc t) h =
    let below = div-mul-le_self a (suc t) in
    le-div (a / suc t) b (suc t) (omega arith) (omega (arith, below))

pub quant_no_less : (t first : ℕ) (xs ys : List ℕ) → NoneShrinks xs ys
    → bucket_quant t first xs ≤ bucket_quant t first ys
quant_no_less t first xs ys h =
    let l = level_no_less t xs ys h in
    let q = quotient (4 * level_of t xs) (4 * level_of t ys) t (omega (arith, l)) in
    omega (arith, q)

-- ---- a greater target

level_greater : (t more : ℕ) (sizes : List ℕ) → t ≤ more → level_of more sizes ≤ level_of t sizes
level_greater t more sizes h =
    let r = reached more sizes in
    let s = r.same in
    let b = bounds t sizes r.front r.back r.whole in
    let m = mul-le (length r.back) t (length r.back) more (omega arith) h in
    omega (arith, s, b, m)

quotient_greater : (a b t more : ℕ) → a ≤ b → 1 ≤ t → t ≤ more → a / more ≤ b / t
quotient_greater a b t more h some greater =
    let below = div-mul-le_self a more in
    let less = mul-le (a / more) t (a / more) more (omega arith) greater in
    le-div (a / more) b t (omega (arith, some)) (omega (arith, below, less, h))

pub quant_no_coarser : (t more first : ℕ) (sizes : List ℕ) → 1 ≤ t → t ≤ more
    → bucket_quant more first sizes ≤ bucket_quant t first sizes
quant_no_coarser t more first sizes some greater =
    let l = level_greater t more sizes greater in
    let q = quotient_greater (4 * level_of more sizes) (4 * level_of t sizes) t more (omega (arith, l)) some greater in
    omega (arith, q)
