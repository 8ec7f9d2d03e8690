-- What a datagram says where packets of one stream alone are looked at.
use Rattle.std.proofs.Common.{◌≡◌, ℕ, Bool, cond, Result, Ok, Err, ap, sym, ◌∙◌}
use Rattle.std.proofs.lemmas.Bool.{eq-eqb, ne_eqb}
use Rattle.session_intake.specs.declared.seen.Seen.{Seen}
use Rattle.session_intake.specs.declared.seen.Cause.{Cause}
use Rattle.session_intake.specs.declared.seen.Cause.TheVariants as causes
use Rattle.call_session.specs.Sessions.{only_of}

pub its_own : (source : ℕ) (seen : Seen) (r : Result Seen Cause) → seen.source ≡ source → Ok seen ≡ r
    → Ok seen ≡ only_of source r
its_own source seen r e f =
    sym (ap (λ (b : Bool). cond b (Ok seen) (Err causes.OtherStream)) (eq-eqb seen.source source e))
    ∙ ap (only_of source) f

pub of_another : (source : ℕ) (seen : Seen) (r : Result Seen Cause) → (seen.source ≡ source → ⊥) → Ok seen ≡ r
    → Err causes.OtherStream ≡ only_of source r
of_another source seen r n f =
    sym (ap (λ (b : Bool). cond b (Ok seen) (Err causes.OtherStream)) (ne_eqb seen.source source n))
    ∙ ap (only_of source) f
