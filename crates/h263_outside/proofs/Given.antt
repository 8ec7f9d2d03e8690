-- A role of a desk in memory is attached by its name, or written on.
use Rattle.std.proofs.Common.{◌≡◌, ◌≢◌, ℕ, ◌<◌, ◌≤◌, ◌==◌, zero, suc, ◌↔◌, [], ◌++◌, Bool, true, false, List, take, Option, Result, Ok, Err, IfOk, IsErr, OnErr, subst, if◌then◌else◌, refl, sym, ap, ◌∙◌, arith}
use Rattle.std.proofs.lemmas.Bool.Decides.{nat_tests}
use Rattle.std.specs.Option.{option_map}
use Rattle.h263_outside.proofs.Gains.{gained-nil, same_roles}
use Rattle.h263_outside.specs.Desk.{Faults, NoneFalls, appended, is_role, role_number, with_role}
use Rattle.h263_outside.specs.declared.desk.Failed.{Failed}
use Rattle.h263_outside.specs.declared.desk.Role.{Role}
use Rattle.h263_outside.specs.declared.desk.Role.TheVariants.{Video, Events, Pictures, Wire, Report, Video2, Pictures2}

-- the value that a role was given
pub at_role : {A : Type 0} (f : Role → A) (role : Role) (x : A) → with_role f role x role ≡ x
at_role f Video x = refl
at_role f Events x = refl
at_role f Pictures x = refl
at_role f Wire x = refl
at_role f Report x = refl
at_role f Video2 x = refl
at_role f Pictures2 x = refl

-- no bytes more
appended_none : (written : Role → Option (List ℕ)) (role r : Role) → appended written role [] r ≡ written r
appended_none written role r = by (is_role role r) (written r)
  where
    by : (t : Bool) (o : Option (List ℕ)) → (if t then option_map (λ old. old ++ []) o else o) ≡ o
    by true o = gained-nil o
    by false o = refl

of_number : ℕ → Role
of_number zero = Video
of_number (suc zero) = Events
of_number (suc (suc zero)) = Pictures
of_number (suc (suc (suc zero))) = Wire
of_number (suc (suc (suc (suc zero)))) = Report
of_number (suc (suc (suc (suc (suc zero))))) = Video2
of_number (suc (suc (suc (suc (suc (suc n)))))) = Pictures2

numbered : (role : Role) → of_number (role_number role) ≡ role
unfolding of_number
numbered Video = refl
numbered Events = refl
numbered Pictures = refl
numbered Wire = refl
numbered Report = refl
numbered Video2 = refl
numbered Pictures2 = refl

same_number : (m n : ℕ) → (m == n) ≡ true → m ≡ n
same_number m n same = grind (arith, nat_tests)

-- each other role keeps its own
pub at_other : {A : Type 0} (f : Role → A) (role : Role) (x : A) (r : Role) → r ≢ role → with_role f role x r ≡ f r
at_other f role x r other = by (is_role role r) refl
  where
    by : (t : Bool) → is_role role r ≡ t → (if t then x else f r) ≡ f r
    by true is = absurd (other (sym (numbered r)
        ∙ ap of_number (sym (same_number (role_number role) (role_number r) is)) ∙ numbered role))
    by false is = refl

-- where no count changed, none fell
pub none_falls : (old new : Faults) → new ≡ old → NoneFalls old new
none_falls old new same = record {
  attach = by (ap (λ (f : Faults). f.attach) same);
  read = by (ap (λ (f : Faults). f.read) same);
  write = by (ap (λ (f : Faults). f.write) same);
}
  where
    by : {m n : ℕ} → n ≡ m → m ≤ n
    by e = omega (arith, e)

-- and where none changed, none fell since before
pub no_fewer : (old middle new : Faults) → middle ≡ old → NoneFalls middle new → NoneFalls old new
no_fewer old middle new same fell = subst (λ (f : Faults). NoneFalls f new) same fell

-- a write that took no byte has written nothing
pub nothing_written : (written : Role → Option (List ℕ)) (role : Role) (bytes : List ℕ) (count : ℕ)
    (now : Role → Option (List ℕ)) (r : Result ℕ Failed) → IsErr r ↔ (count ≡ 0)
    → now ≡ appended written role (take count bytes) → OnErr r (now ≡ written)
nothing_written written role bytes count now (Ok k) none e = tt
nothing_written written role bytes count now (Err fault) none e =
    e ∙ ap (λ (n : ℕ). appended written role (take n bytes)) (none.0 refl)
    ∙ same_roles _ _ (λ r. appended_none written role r)

-- what was written is told by the answer
pub written_by : (written : Role → Option (List ℕ)) (role : Role) (bytes : List ℕ) (count : ℕ)
    (now : Role → Option (List ℕ)) (r : Result ℕ Failed) → IfOk r (λ k. (k ≡ count) × (0 < k))
    → now ≡ appended written role (take count bytes) → IfOk r (λ k. now ≡ appended written role (take k bytes))
written_by written role bytes count now (Ok k) told e =
    e ∙ ap (λ (n : ℕ). appended written role (take n bytes)) (sym told.0)
written_by written role bytes count now (Err fault) told e = tt
