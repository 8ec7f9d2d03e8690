-- A receiver of which a line speaks is there.
use Rattle.std.proofs.Common.{◌≡◌, ℕ, ◌<◌, ◌≤◌, Bool, true, false, List, Option, Some, None, Result, Ok, Err, refl, subst, arith}
use Rattle.std.specs.Prelude.{IfOk, MatchResult, codes, drop, nat_le, take, if◌then◌else◌}
use Rattle.std.specs.Str.{bytes_eq}
use Rattle.std.proofs.lemmas.Bool.{leb-true}
use Rattle.loss_trace.specs.declared.event.Event.{Event as Line}
use Rattle.loss_trace.specs.declared.event.Event.TheVariants as says
use Rattle.loss_trace.specs.Reading.{event_in}
use Rattle.group_command.specs.declared.line.GroupLine.{GroupLine}
use Rattle.group_command.specs.declared.line.GroupLine.TheVariants.{Quiet, ForAll}
use Rattle.group_command.specs.Lines.{group_line, of_one}
use Rattle.group_command.specs.Turning.{IsThere}

some_is : {X : Type 0} {x y : X} → Some x ≡ Some y → x ≡ y
some_is is = cc is

module _ (count : ℕ) (said : GroupLine) where
  at_place : (k : ℕ) (o : Option Line) → k < count → of_one k o ≡ Some said → IsThere count said
  at_place k None there is = absurd (cc is)
  at_place k (Some says.Nothing) there is = absurd (cc is)
  at_place k (Some says.Send) there is = absurd (cc is)
  at_place k (Some (says.Packet n j)) there is = subst (IsThere count) (some_is is) there
  at_place k (Some (says.All n)) there is = subst (IsThere count) (some_is is) there
  at_place k (Some (says.Back m)) there is = subst (IsThere count) (some_is is) there
  at_place k (Some says.Play) there is = subst (IsThere count) (some_is is) there

  if_there : (t : Bool) (k : ℕ) (o : Option Line) → (t ≡ true → k < count) → (if t then of_one k o else None)
      ≡ Some said → IsThere count said
  if_there true k o there is = at_place k o (there refl) is
  if_there false k o there is = absurd (cc is)

  by_tests : (a b c d e : Bool) (o : Option Line) → 1 ≤ count
      → (if a then Some Quiet else if b then Some ForAll else if c then of_one 0 o
      else if d then (if nat_le 2 count then of_one 1 o else None) else if e then (if nat_le 3 count then of_one 2 o
      else None) else None) ≡ Some said
      → IsThere count said
  by_tests true b c d e o some is = subst (IsThere count) (some_is is) tt
  by_tests false true c d e o some is = subst (IsThere count) (some_is is) tt
  by_tests false false true d e o some is = at_place 0 o (omega (arith, some)) is
  by_tests false false false true e o some is = if_there (nat_le 2 count) 1 o
      (λ two. omega (arith, leb-true 2 count two)) is
  by_tests false false false false true o some is = if_there (nat_le 3 count) 2 o
      (λ three. omega (arith, leb-true 3 count three)) is
  by_tests false false false false false o some is = absurd (cc is)

  pub line_there : (line : List ℕ) → 1 ≤ count → group_line count line ≡ Some said → IsThere count said
  line_there line some is = by_tests (bytes_eq line (codes "")) (bytes_eq line (codes "S"))
      (bytes_eq (take 2 line) (codes "1 ")) (bytes_eq (take 2 line) (codes "2 ")) (bytes_eq (take 2 line) (codes "3 "))
      (event_in (drop 2 line)) some is

pub said_there : {E : Type 0} (N : E → Type 0) (count : ℕ) (line : List ℕ) (r : Result GroupLine E) → 1 ≤ count
    → MatchResult r (λ said. group_line count line ≡ Some said) N → IfOk r (IsThere count)
said_there N count line (Ok said) some is = line_there count said line some is
said_there N count line (Err e) some is = tt
