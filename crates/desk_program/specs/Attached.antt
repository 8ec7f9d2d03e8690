-- Which roles are attached, and by which names.
use Rattle.std.specs.Prelude.{ℕ, ◌≡◌, ◌&&◌, not, Bool, true, List, [], ◌∷◌, ◌++◌, map, IfSome}
use Rattle.std.specs.List.{AllByRecursion, list_any}
use Rattle.std.specs.Borrow.{Bor}
use Rattle.h263_outside.specs.Desk.{Outside, is_role, with_role}
use Rattle.h263_outside.specs.declared.desk.Role.{Role}
use Rattle.call_report.specs.declared.status.Status.{Status}
use Rattle.call_report.specs.Status.{Phase, phase}
use Rattle.call_report.specs.Status.Phase.{finished, refused, unread, unwritten, starved, unasked, unopened}

-- an order of roles, with the names' texts
abbrev pub names : List (Role × Bor (List ℕ)) → List (Role × List ℕ)
names order = map (λ p. (p.0, p.1.now)) order

-- none of these roles is attached, and each stands once
abbrev pub are_free : (Role → Bool) → List (Role × List ℕ) → Bool
are_free attached [] = true
are_free attached (p ∷ order) = not (attached p.0) && are_free (with_role attached p.0 true) order

-- these roles are attached, each by its name where names are told, and no others
pub record AreAttached (order : List (Role × List ℕ)) (new : Outside) : Type 0 where
  pub roles : (r : Role) → new.attached r ≡ list_any (λ p. is_role p.0 r) order
  pub names : AllByRecursion (λ p. IfSome (new.name p.0) (λ told. told ≡ p.1)) order

-- some first ones of an order are attached
pub record SomeAttached (order : List (Role × List ℕ)) (new : Outside) : Type 0 where
  pub first : List (Role × List ℕ)
  pub rest : List (Role × List ℕ)
  pub whole : first ++ rest ≡ order
  pub attached : AreAttached first new

-- those before this role are attached
pub record StopsAtRole (order : List (Role × List ℕ)) (role : Role) (new : Outside) : Type 0 where
  pub first : List (Role × List ℕ)
  pub name : List ℕ
  pub rest : List (Role × List ℕ)
  pub whole : first ++ (role, name) ∷ rest ≡ order
  pub attached : AreAttached first new

-- what is attached in the end: the first ones of the order
abbrev pub AttachedIn : Phase → List (Role × List ℕ) → Outside → Type 0
AttachedIn finished order new = AreAttached order new
AttachedIn refused order new = AreAttached order new
AttachedIn unread order new = AreAttached order new
AttachedIn unasked order new = AreAttached order new
AttachedIn (unopened role) order new = StopsAtRole order role new
AttachedIn starved order new = SomeAttached order new
AttachedIn unwritten order new = SomeAttached order new

abbrev pub AttachedAt : List (Role × List ℕ) → Status → Outside → Type 0
AttachedAt order status new = AttachedIn (phase status) order new
