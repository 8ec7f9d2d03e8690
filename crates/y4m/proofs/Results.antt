-- What a result is that a `?` hands out.
use Rattle.std.proofs.Common.{◌≡◌, Result, Ok, Err, OnErr, IsErrAnd, MatchResult, sym, ap, subst}

-- what is known to be an error is that error
pub err_is : {A E : Type 0} (r : Result A E) (e : E) → IsErrAnd r (λ x. x ≡ e) → r ≡ Err e
err_is (Ok x) e is = absurd is
err_is {E = E} (Err x) e is = ap (λ (x : E). Err x) is

pub err_gives : {A E : Type 0} (r : Result A E) (e : E) (P : A → Type 0) (Q : E → Type 0) → IsErrAnd r (λ x. x ≡ e)
    → Q e → MatchResult r P Q
err_gives {A = A} {E = E} r e P Q is q = subst (λ (r : Result A E). MatchResult r P Q) (sym (err_is r e is)) q

-- what holds anyway holds after an error
pub after_any : {T E P : Type 0} (r : Result T E) → P → OnErr r P
after_any (Ok x) p = tt
after_any (Err e) p = p
