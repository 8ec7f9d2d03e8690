-- What bytes hold no whole turn.
use Rattle.std.proofs.Common.{◌≡◌, ℕ, ◌≤◌, Bool, true, false, Option, None, Some, Result, Ok, IsErr, refl, ap, ◌∙◌, subst}
use Rattle.std.specs.Prelude.{◌&&◌, nat_le}
use Rattle.std.proofs.lemmas.Bool.{leb-true}
use Rattle.h263_outside.specs.declared.desk.Role.{Role}
use Rattle.h263_outside.specs.declared.desk.Role.TheVariants.{Video, Events, Video2}
use Rattle.desk_program.specs.Run.{Turn}
use Rattle.desk_program.specs.Ends.{holds}

and_false : (b : Bool) → (b && false) ≡ false
and_false true = refl
and_false false = refl

pub not_held : (size k : ℕ) → (size ≤ k → ⊥) → nat_le size k ≡ false
not_held size k few = at_test (nat_le size k) refl
  where
    at_test : (t : Bool) → nat_le size k ≡ t → t ≡ false
    at_test true is = absurd (few (leb-true size k is))
    at_test false is = refl

-- bytes that lack one of the turn's in the log, or in the video, do not hold it
pub no_entry_held : (t : Turn) (k : Role → ℕ) → (t.taken Events ≤ k Events → ⊥) → holds t k ≡ false
no_entry_held t k few =
    ap (λ (b : Bool). t.whole && nat_le (t.taken Video) (k Video) && b && nat_le (t.taken Video2) (k Video2))
    (not_held (t.taken Events) (k Events) few)
    ∙ ap (λ (b : Bool). b && nat_le (t.taken Video2) (k Video2))
    (and_false (t.whole && nat_le (t.taken Video) (k Video)))

-- bytes that do not hold the frame do not hold the turn
pub no_frame_held : (t : Turn) (k : Role → ℕ) → (t.taken Video ≤ k Video → ⊥) → holds t k ≡ false
no_frame_held t k few =
    ap (λ (b : Bool). t.whole && b && nat_le (t.taken Events) (k Events) && nat_le (t.taken Video2) (k Video2))
    (not_held (t.taken Video) (k Video) few)
    ∙ ap (λ (b : Bool). b && nat_le (t.taken Events) (k Events) && nat_le (t.taken Video2) (k Video2))
    (and_false t.whole)

-- a value is no error
pub not_an_err : {T E : Type 0} (r : Result T E) (x : T) → r ≡ Ok x → IsErr r → ⊥
not_an_err {T} {E} r x is lost = ok_is_none x (subst IsErr is lost)
  where
    ok_is_none : (x : T) → IsErr {T = T} {E = E} (Ok x) → ⊥
    ok_is_none x lost = absurd (cc lost)

pub not_none : {A : Type 0} (o : Option A) (x : A) → o ≡ Some x → o ≡ None → ⊥
not_none o x is none = absurd (cc (is, none))
