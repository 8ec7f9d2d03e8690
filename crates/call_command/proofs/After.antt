-- Lists of frames with one more, and later ones.
use Rattle.std.proofs.Common.{◌≡◌, ◌+◌, ◌<◌, List, [], ◌∷◌, ◌++◌, length, Some, refl, ap, arith}
use Rattle.std.specs.Prelude.{slice_get}

pub at_end : {X : Type 0} (xs later : List X) (x : X) → slice_get (xs ++ x ∷ later) (length xs) ≡ Some x
at_end [] later x = refl
at_end (y ∷ xs) later x = at_end xs later x

pub below_end : {X : Type 0} (xs later : List X) (x : X) → length xs < length (xs ++ x ∷ later)
below_end [] later x = omega arith
below_end (y ∷ xs) later x = omega (arith, below_end xs later x)

pub push_then : {X : Type 0} (xs later : List X) (x : X) → (xs ++ x ∷ []) ++ later ≡ xs ++ x ∷ later
push_then [] later x = refl
push_then (y ∷ xs) later x = ap (λ l. y ∷ l) (push_then xs later x)

pub longer : {X : Type 0} (xs : List X) (x : X) → length (xs ++ x ∷ []) ≡ length xs + 1
longer [] x = refl
longer (y ∷ xs) x = omega (arith, longer xs x)
