-- What a result is that a `?` hands out.
use Rattle.std.proofs.Common.{◌≡◌, Result, Ok, Err, OnErr, IsErrAnd, ap}

pub err_is : {A E : Type 0} (r : Result A E) (e : E) → IsErrAnd r (λ x. x ≡ e) → r ≡ Err e
err_is (Ok x) e is = absurd is
err_is {E = E} (Err x) e is = ap (λ (x : E). Err x) is

-- what holds anyway holds after an error
pub after_any : {T E P : Type 0} (r : Result T E) → P → OnErr r P
after_any (Ok x) p = tt
after_any (Err e) p = p
