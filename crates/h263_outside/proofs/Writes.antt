-- One text written after the other.
use Rattle.std.proofs.Common.{◌≡◌, ℕ, List, ◌++◌, Option, refl, sym, ap, ◌∙◌, append_assoc}
use Rattle.h263_outside.specs.Desk.{appended, GainsFront}
use Rattle.h263_outside.specs.declared.desk.Role.{Role}
use Rattle.h263_outside.proofs.Gains.{gained_more}

-- a prefix of the first text is a prefix of both
pub front_first : (role : Role) (a b : List ℕ) (old new : Role → Option (List ℕ)) → GainsFront role a old new
    → GainsFront role (a ++ b) old new
front_first role a b old new f = record {
  front = f.front;
  rest = f.rest ++ b;
  whole = sym (append_assoc f.front f.rest b) ∙ ap (λ (l : List ℕ). l ++ b) f.whole;
  gained = f.gained;
}

-- and so is a prefix of the second after the first
pub front_second : (role : Role) (a b : List ℕ) (old middle new : Role → Option (List ℕ)) → middle ≡ appended old role a
    → GainsFront role b middle new → GainsFront role (a ++ b) old new
front_second role a b old middle new first f = record {
  front = a ++ f.front;
  rest = f.rest;
  whole = append_assoc a f.front f.rest ∙ ap (λ (l : List ℕ). a ++ l) f.whole;
  gained = gained_more old role a f.front (a ++ f.front) middle new first f.gained refl;
}
