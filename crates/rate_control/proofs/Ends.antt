-- The levels at the ends of pictures, one picture after another.
use Rattle.std.proofs.Common.{◌≡◌, ℕ, ◌+◌, ◌-◌, ◌≤◌, max, cond, ltb, List, [], ◌∷◌, ◌++◌, length, map, sum, get_or, Some, arith, refl, ap, ◌∙◌}
use Rattle.std.specs.Prelude.{count_by}
use Rattle.std.proofs.lemmas.List.{get_or_push, length_push, length-map, map_push}
use Rattle.std.proofs.lemmas.List.Sums.{count_by-le-length, sum_by-append, sum_by_push}
use Rattle.rate_control.specs.Level.{greatest_or_0, level_of}
use Rattle.rate_control.specs.Pictures.{greatest_level, levels, over_in, prefixes}
use Rattle.rate_control.specs.Metering.{going_on, last_of}
use Rattle.rate_control.proofs.Levels.{level_push, reached}

prefixes_push : (sizes : List ℕ) (x : ℕ) → prefixes (sizes ++ x ∷ []) ≡ prefixes sizes ++ (sizes ++ x ∷ []) ∷ []
prefixes_push [] x = refl
prefixes_push (y ∷ sizes) x =
    ap (λ (l : List (List ℕ)). (y ∷ []) ∷ map (λ (more : List ℕ). y ∷ more) l) (prefixes_push sizes x)
    ∙ ap (λ (l : List (List ℕ)). (y ∷ []) ∷ l)
    (map_push (λ (more : List ℕ). y ∷ more) (prefixes sizes) (sizes ++ x ∷ []))

levels_push : (t : ℕ) (sizes : List ℕ) (x : ℕ) → levels t (sizes ++ x ∷ []) ≡ levels t sizes
    ++ level_of t (sizes ++ x ∷ []) ∷ []
levels_push t sizes x =
    ap (λ (l : List (List ℕ)). map (level_of t) l) (prefixes_push sizes x)
    ∙ map_push (level_of t) (prefixes sizes) (sizes ++ x ∷ [])

max_regroup : (a b c : ℕ) → max a (max b c) ≡ max (max a b) c
max_regroup a b c = omega arith

greatest_push : (ns : List ℕ) (n : ℕ) → greatest_or_0 (ns ++ n ∷ []) ≡ max (greatest_or_0 ns) n
greatest_push [] n = omega arith
greatest_push (m ∷ ns) n =
    ap (λ (k : ℕ). max m k) (greatest_push ns n) ∙ max_regroup m (greatest_or_0 ns) n

pub greatest_level_none : (t : ℕ) → greatest_level t [] ≡ 0
unfolding greatest_level
greatest_level_none t = refl

pub greatest_level_push : (t : ℕ) (sizes : List ℕ) (x : ℕ)
    → greatest_level t (sizes ++ x ∷ []) ≡ max (greatest_level t sizes) (level_of t (sizes ++ x ∷ []))
unfolding greatest_level
greatest_level_push t sizes x =
    ap (λ (l : List ℕ). greatest_or_0 l) (levels_push t sizes x)
    ∙ greatest_push (levels t sizes) (level_of t (sizes ++ x ∷ []))

pub over_none : (t bucket : ℕ) → over_in t bucket [] ≡ 0
unfolding over_in
over_none t bucket = refl

pub over_push : (t bucket : ℕ) (sizes : List ℕ) (x : ℕ)
    → over_in t bucket (sizes ++ x ∷ []) ≡ over_in t bucket sizes + cond (ltb bucket (level_of t (sizes ++ x ∷ []))) 1 0
unfolding over_in
over_push t bucket sizes x =
    ap (λ (l : List ℕ). count_by (λ (level : ℕ). ltb bucket level) l) (levels_push t sizes x)
    ∙ sum_by_push (λ (level : ℕ). cond (ltb bucket level) 1 0) (levels t sizes) (level_of t (sizes ++ x ∷ []))

length_prefixes : (sizes : List ℕ) → length (prefixes sizes) ≡ length sizes
length_prefixes [] = refl
length_prefixes (y ∷ sizes) =
    let a = length-map (prefixes sizes) (λ (more : List ℕ). y ∷ more) in
    let b = length_prefixes sizes in
    omega (arith, a, b)

pub over_few : (t bucket : ℕ) (sizes : List ℕ) → over_in t bucket sizes ≤ length sizes
unfolding over_in
over_few t bucket sizes =
    let a = count_by-le-length (λ (level : ℕ). ltb bucket level) (levels t sizes) in
    let b = length-map (prefixes sizes) (level_of t) in
    let c = length_prefixes sizes in
    omega (arith, a, b, c)

-- the level is at most all bytes
pub level_short : (t : ℕ) (sizes : List ℕ) → level_of t sizes ≤ sum sizes
level_short t sizes =
    let r = reached t sizes in
    let s = r.same in
    let a = sum_by-append (λ (n : ℕ). n) r.front r.back in
    let w = ap (λ (l : List ℕ). sum l) r.whole in
    omega (arith, s, a, w)

-- ---- the last picture

pub last_push : (t : ℕ) (sizes : List ℕ) (x : ℕ)
    → last_of t (sizes ++ x ∷ []) ≡ (length sizes, x, level_of t sizes + x - t)
last_push t sizes x =
    let n : length (sizes ++ x ∷ []) - 1 ≡ length sizes = omega (arith, length_push sizes x) in
    ap (λ (k : ℕ). (k, get_or (sizes ++ x ∷ []) k 0, level_of t (sizes ++ x ∷ []))) n
    ∙ ap (λ (k : ℕ). (length sizes, k, level_of t (sizes ++ x ∷ []))) (get_or_push sizes x 0 (length sizes) refl)
    ∙ ap (λ (k : ℕ). (length sizes, x, k)) (level_push t sizes x)

pub going_push : (t : ℕ) (sizes : List ℕ) (x : ℕ) → going_on t (sizes ++ x ∷ []) ≡ Some (last_of t (sizes ++ x ∷ []))
going_push t [] x = refl
going_push t (y ∷ sizes) x = refl
