-- Lists, and tests of all numbers below a bound.
use Rattle.std.proofs.Common.{◌∙◌, ap, ◌≡◌, ℕ, zero, suc, ◌<◌, Bool, true, false, ◌||◌, refl, sym, inl, inr, ◌⊎◌, None, Some, List, [], ◌∷◌, ◌++◌, length, arith}
use Rattle.std.specs.Prelude.{map, slice_get}
use Rattle.std.specs.List.{list_any}
use Rattle.std.proofs.lemmas.Bool.{or_left, or_right}
use Rattle.call_model.specs.Numbers.{all_below}

pub not_none : {A : Type 0} (x : A) → Some x ≡ None → ⊥
not_none x e = cc

pub slice_get_left : {X : Type 0} (xs ys : List X) (n : ℕ) (x : X) → slice_get xs n ≡ Some x → slice_get (xs ++ ys) n
    ≡ Some x
slice_get_left [] ys n x e = cc
slice_get_left (y ∷ xs) ys zero x e = e
slice_get_left (y ∷ xs) ys (suc n) x e = slice_get_left xs ys n x e

pub slice_get_last : {X : Type 0} (xs : List X) (x : X) → slice_get (xs ++ x ∷ []) (length xs) ≡ Some x
slice_get_last [] x = refl
slice_get_last (y ∷ xs) x = slice_get_last xs x

-- an element of the longer list is the new one or an old one
pub slice_get_push : {X : Type 0} (xs : List X) (y : X) (n : ℕ) (x : X) → slice_get (xs ++ y ∷ []) n ≡ Some x
    → (slice_get xs n ≡ Some x) ⊎ ((n ≡ length xs) × (x ≡ y))
slice_get_push [] y zero x e = inr (refl, cc)
slice_get_push [] y (suc n) x e = inl e
slice_get_push (z ∷ xs) y zero x e = inl e
slice_get_push (z ∷ xs) y (suc n) x e =
    elim (slice_get_push xs y n x e) [ inl h ↦ inl h | inr h ↦ inr (omega (arith, h.0), h.1) ]

or_assoc : (a b c : Bool) → ((a || b) || c) ≡ (a || (b || c))
or_assoc true b c = refl
or_assoc false b c = refl

pub any_append : {X : Type 0} (f : X → Bool) (xs ys : List X) → list_any f (xs ++ ys) ≡ (list_any f xs || list_any f ys)
any_append f [] ys = refl
any_append f (x ∷ xs) ys =
    ap (λ (b : Bool). f x || b) (any_append f xs ys) ∙ sym (or_assoc (f x) (list_any f xs) (list_any f ys))

pub all_below_same : (n : ℕ) (f g : ℕ → Bool) → ((k : ℕ) → k < n → f k ≡ g k) → all_below n f ≡ all_below n g
all_below_same zero f g each = refl
all_below_same (suc n) f g each =
    let here : f n ≡ g n = each n (omega arith) in
    let rest : all_below n f ≡ all_below n g = all_below_same n f g (λ k lt. each k (omega arith)) in
    cc

-- where an element passes, some do
pub any_at : {X : Type 0} (f : X → Bool) (xs : List X) (n : ℕ) (x : X) → slice_get xs n ≡ Some x → f x ≡ true
    → list_any f xs ≡ true
any_at f [] n x at is = cc
any_at f (y ∷ xs) zero x at is =
    let same : y ≡ x = cc in
    or_left _ _ (ap f same ∙ is)
any_at f (y ∷ xs) (suc n) x at is = or_right _ _ (any_at f xs n x at is)

pub length_map : {A B : Type 0} (f : A → B) (xs : List A) → length (map f xs) ≡ length xs
length_map f [] = refl
length_map f (x ∷ xs) = let r = length_map f xs in omega arith
