-- What is attached after one role more.
use Rattle.std.proofs.Common.{◌≡◌, ◌≢◌, ℕ, ◌+◌, ◌<◌, Bool, true, false, List, [], ◌∷◌, ◌++◌, length, take, drop, get_or, Option, inl, inr, Result, Ok, Err, IsErrAnd, IfSome, refl, sym, ap, ◌∙◌, subst, append_assoc, append-nil, add-one}
use Rattle.std.specs.Prelude.{◌&&◌, ◌||◌, not, if◌then◌else◌, ◌⊎◌}
use Rattle.std.specs.Borrow.{Bor}
use Rattle.std.specs.List.{list_any, AllByRecursion}
use Rattle.std.proofs.Math.Seq.{take-suc, drop-cons}
use Rattle.std.proofs.lemmas.List.Folds.{list_any-append}
use Rattle.std.proofs.lemmas.List.{take-append-drop, map-append}
use Rattle.h263_outside.specs.Desk.{Outside, NoneAttached, is_role, with_role}
use Rattle.h263_outside.specs.declared.desk.Role.{Role}
use Rattle.h263_outside.specs.declared.desk.Role.TheVariants.{Video, Events, Pictures, Wire, Report, Video2, Pictures2}
use Rattle.call_report.specs.declared.status.Status.{Status}
use Rattle.call_report.specs.declared.status.Status.TheVariants.{OutOfMemory, OpenFault}
use Rattle.call_report.specs.Status.{Phase}
use Rattle.call_report.specs.Status.Phase.{finished, refused, unread, unwritten, starved, unasked, unopened}
use Rattle.desk_program.specs.Attached.{names, are_free, AreAttached, SomeAttached, AttachedAt, AttachedIn}
use Rattle.desk_program.specs.Ends.{start_status, ComesLater}

same_role : (r : Role) → is_role r r ≡ true
same_role Video = refl
same_role Events = refl
same_role Pictures = refl
same_role Wire = refl
same_role Report = refl
same_role Video2 = refl
same_role Pictures2 = refl

-- whether an order has a role
abbrev has : List (Role × List ℕ) → Role → Bool
has order r = list_any (λ (p : Role × List ℕ). is_role p.0 r) order

one_or : (a b : Bool) → (a || (b || false)) ≡ (if b then true else a)
one_or true true = refl
one_or true false = refl
one_or false true = refl
one_or false false = refl

has-append : (order : List (Role × List ℕ)) (role : Role) (name : List ℕ) (r : Role)
    → has (order ++ (role, name) ∷ []) r ≡ (if is_role role r then true else has order r)
has-append order role name r = list_any-append (λ (p : Role × List ℕ). is_role p.0 r) order ((role, name) ∷ [])
    ∙ one_or (has order r) (is_role role r)

abbrev Named : (Role → Option (List ℕ)) → List (Role × List ℕ) → Type 0
Named told order = AllByRecursion (λ (p : Role × List ℕ). IfSome (told p.0) (λ t. t ≡ p.1)) order

or_later : (a b : Bool) → b ≡ true → (a || b) ≡ true
or_later true b is = refl
or_later false b is = is

or_first : (a b : Bool) → a ≡ true → (a || b) ≡ true
or_first true b is = refl
or_first false b is = absurd cc

-- names stay told where each role of the order keeps its own
named_still : (order : List (Role × List ℕ)) (old new : Role → Option (List ℕ))
    → ((r : Role) → has order r ≡ true → new r ≡ old r) → Named old order → Named new order
named_still [] old new same h = tt
named_still (q ∷ order) old new same h = (
  subst (λ (o : Option (List ℕ)). IfSome o (λ t. t ≡ q.1))
      (sym (same q.0 (or_first (is_role q.0 q.0) (has order q.0) (same_role q.0)))) h.0,
  named_still order old new (λ r in_order. same r (or_later (is_role q.0 r) (has order r) in_order)) h.1,
)

named_more : (order : List (Role × List ℕ)) (role : Role) (name : List ℕ) (told : Role → Option (List ℕ))
    → Named told order → IfSome (told role) (λ t. t ≡ name) → Named told (order ++ (role, name) ∷ [])
named_more [] role name told h more = (more, tt)
named_more (q ∷ order) role name told h more = (h.0, named_more order role name told h.1 more)

other_role : (r role : Role) (attached : Role → Bool) → attached r ≡ true → attached role ≡ false → r ≢ role
other_role r role attached there free same = absurd (cc (ap attached same))

-- one role more
pub one_more : (order : List (Role × List ℕ)) (role : Role) (name : List ℕ) (old new : Outside) → AreAttached order old
    → old.attached role ≡ false → new.attached ≡ with_role old.attached role true
    → IfSome (new.name role) (λ told. told ≡ name) → ((r : Role) → r ≢ role → new.name r ≡ old.name r)
    → AreAttached (order ++ (role, name) ∷ []) new
one_more order role name old new a free now told others = record {
  roles = λ r.
      ap (λ (f : Role → Bool). f r) now
      ∙ ap (λ (b : Bool). if is_role role r then true else b) (a.roles r)
      ∙ sym (has-append order role name r);
  names =
      named_more order role name new.name
      (named_still order old.name new.name (λ r there. others r (other_role r role old.attached (a.roles r
      ∙ there) free)) a.names) told;
}

-- the next role of an order
abbrev pub Pair : Type 0
Pair = Role × Bor (List ℕ)

abbrev pub named : Pair → Role × List ℕ
named p = (p.0, p.1.now)

pub names_rest : (order : List Pair) (i : ℕ) (d : Pair) → i < length order
    → names (drop i order) ≡ named (get_or order i d) ∷ names (drop (i + 1) order)
names_rest order i d below = let e : drop i order ≡ get_or order i d ∷ drop (i + 1) order =
    rw add-one (drop-cons order i d below) in ap names e

pub names_more : (order : List Pair) (i : ℕ) (d : Pair) → i < length order → names (take (i + 1) order)
    ≡ names (take i order) ++ named (get_or order i d) ∷ []
names_more order i d below =
    let e : take (i + 1) order ≡ take i order ++ get_or order i d ∷ [] = rw add-one (take-suc order i d below) in
    ap names e ∙ map-append named (take i order) (get_or order i d ∷ [])

pub names_whole : (order : List Pair) (i : ℕ) → names (take i order) ++ names (drop i order) ≡ names order
names_whole order i = sym (map-append named (take i order) (drop i order)) ∙ ap names (take-append-drop i order)

-- where the next roles are free, so is the first of them, and the others after it
and_first : (a b : Bool) → (not a && b) ≡ true → a ≡ false
and_first true b is = absurd cc
and_first false b is = refl

and_rest : (a b : Bool) → (not a && b) ≡ true → b ≡ true
and_rest true b is = absurd cc
and_rest false b is = is

module _ (attached : Role → Bool) (order : List Pair) (i : ℕ) (d : Pair) (below : i < length order)
    (free : are_free attached (names (drop i order)) ≡ true) where
  now_free : are_free attached (named (get_or order i d) ∷ names (drop (i + 1) order)) ≡ true
  now_free = ap (λ (l : List (Role × List ℕ)). are_free attached l) (sym (names_rest order i d below)) ∙ free

  pub first_free : attached (get_or order i d).0 ≡ false
  first_free = and_first (attached (get_or order i d).0) _ now_free

  pub rest_free : (new : Role → Bool) → new ≡ with_role attached (get_or order i d).0 true
      → are_free new (names (drop (i + 1) order)) ≡ true
  rest_free new is = ap (λ (f : Role → Bool). are_free f (names (drop (i + 1) order))) is
      ∙ and_rest (attached (get_or order i d).0) _ now_free

-- one role more of an order after others
pub next_attached : (first : List (Role × List ℕ)) (order : List Pair) (i : ℕ) (d : Pair) (old new : Outside)
    → i < length order → AreAttached (first ++ names (take i order)) old → old.attached (get_or order i d).0 ≡ false
    → new.attached ≡ with_role old.attached (get_or order i d).0 true
    → IfSome (new.name (get_or order i d).0) (λ told. told ≡ (get_or order i d).1.now)
    → ((r : Role) → r ≢ (get_or order i d).0 → new.name r ≡ old.name r)
    → AreAttached (first ++ names (take (i + 1) order)) new
next_attached first order i d old new below a free now told others =
    let e : first ++ names (take (i + 1) order) ≡ (first ++ names (take i order)) ++ named (get_or order i d) ∷ [] =
    ap (λ (l : List (Role × List ℕ)). first ++ l) (names_more order i d below)
    ∙ sym (append_assoc first (names (take i order)) (named (get_or order i d) ∷ [])) in
    subst (λ (l : List (Role × List ℕ)). AreAttached l new) (sym e) (one_more (first ++ names (take i order))
    (get_or order i d).0 (get_or order i d).1.now old new a free now told others)

-- a call that changes neither which roles are attached nor their names
pub still_attached : (order : List (Role × List ℕ)) (old new : Outside) → new.attached ≡ old.attached
    → new.name ≡ old.name → AreAttached order old → AreAttached order new
still_attached order old new roles names a = record {
  roles = λ r. ap (λ (f : Role → Bool). f r) roles ∙ a.roles r;
  names = subst (λ (name : Role → Option (List ℕ)). Named name order) (sym names) a.names;
}

-- where the next role of an order is not attached
pub not_attached : (r : Result (Unit {0}) Status) (s : Status) (first : List (Role × List ℕ)) (order : List Pair)
    (i : ℕ) (d : Pair) (old new : Outside) → i < length order → AreAttached (first ++ names (take i order)) old
    → new.attached ≡ old.attached → new.name ≡ old.name → IsErrAnd r (λ x. x ≡ s) → (s ≡ OpenFault (get_or order i d).0)
    ⊎ (s ≡ OutOfMemory) → AttachedAt (first ++ names order) (start_status r) new
not_attached (Ok x) s first order i d old new below a roles same gave kind = absurd gave
not_attached (Err x) s first order i d old new below a roles same gave kind =
    subst (λ (s : Status). AttachedAt (first ++ names order) s new) (sym gave) (by_kind s kind)
  where
    before : AreAttached (first ++ names (take i order)) new
    before = still_attached _ old new roles same a

    after_these : (first ++ names (take i order)) ++ names (drop i order) ≡ first ++ names order
    after_these = append_assoc first (names (take i order)) (names (drop i order))
        ∙ ap (λ (l : List (Role × List ℕ)). first ++ l) (names_whole order i)

    by_kind : (s : Status) → (s ≡ OpenFault (get_or order i d).0) ⊎ (s ≡ OutOfMemory)
        → AttachedAt (first ++ names order) s new
    by_kind s (inl is) = subst (λ (s : Status). AttachedAt (first ++ names order) s new) (sym is) (record {
      first = first ++ names (take i order);
      name = (get_or order i d).1.now;
      rest = names (drop (i + 1) order);
      whole = ap (λ (l : List (Role × List ℕ)). (first ++ names (take i order)) ++ l) (sym (names_rest order i d below))
          ∙ after_these;
      attached = before;
    })
    by_kind s (inr is) = subst (λ (s : Status). AttachedAt (first ++ names order) s new) (sym is)
        (record {
          first = first ++ names (take i order);
          rest = names (drop i order);
          whole = after_these;
          attached = before;
        })

true_if : (b a : Bool) → a ≡ true → (if b then true else a) ≡ true
true_if true a is = refl
true_if false a is = is

pub stays_attached : (r role : Role) (old new : Role → Bool) → new ≡ with_role old role true → old r ≡ true
    → new r ≡ true
stays_attached r role old new is there = ap (λ (f : Role → Bool). f r) is ∙ true_if (is_role role r) (old r) there

-- all of an order are some of it
all_attached : (order : List (Role × List ℕ)) (new : Outside) → AreAttached order new → SomeAttached order new
all_attached order new a = record { first = order; rest = []; whole = append-nil order; attached = a }

-- what is attached at a later status
pub attached_later : (phase : Phase) (order : List (Role × List ℕ)) (new : Outside) → ComesLater phase
    → AreAttached order new → AttachedIn phase order new
attached_later finished order new later a = a
attached_later refused order new later a = a
attached_later unread order new later a = a
attached_later unwritten order new later a = all_attached order new a
attached_later starved order new later a = all_attached order new a
attached_later unasked order new later a = absurd later
attached_later (unopened role) order new later a = absurd later

-- whatever the status, some first ones are attached
pub some_attached : (phase : Phase) (order : List (Role × List ℕ)) (new : Outside) → AttachedIn phase order new
    → SomeAttached order new
some_attached finished order new a = all_attached order new a
some_attached refused order new a = all_attached order new a
some_attached unread order new a = all_attached order new a
some_attached unwritten order new a = a
some_attached starved order new a = a
some_attached unasked order new a = all_attached order new a
some_attached (unopened role) order new a = record {
  first = a.first;
  rest = (role, a.name) ∷ a.rest;
  whole = a.whole;
  attached = a.attached;
}

-- the same at a desk with the same roles and names
still_some : (order : List (Role × List ℕ)) (old new : Outside) → new.attached ≡ old.attached → new.name ≡ old.name
    → SomeAttached order old → SomeAttached order new
still_some order old new roles names a = record {
  first = a.first;
  rest = a.rest;
  whole = a.whole;
  attached = still_attached a.first old new roles names a.attached;
}

pub attached_still : (phase : Phase) (order : List (Role × List ℕ)) (old new : Outside) → new.attached ≡ old.attached
    → new.name ≡ old.name → AttachedIn phase order old → AttachedIn phase order new
attached_still finished order old new roles names a = still_attached order old new roles names a
attached_still refused order old new roles names a = still_attached order old new roles names a
attached_still unread order old new roles names a = still_attached order old new roles names a
attached_still unwritten order old new roles names a = still_some order old new roles names a
attached_still starved order old new roles names a = still_some order old new roles names a
attached_still unasked order old new roles names a = still_attached order old new roles names a
attached_still (unopened role) order old new roles names a = record {
  first = a.first;
  name = a.name;
  rest = a.rest;
  whole = a.whole;
  attached = still_attached a.first old new roles names a.attached;
}

-- at a desk with nothing attached
pub none_attached : (new : Outside) → NoneAttached new.attached → AreAttached [] new
none_attached new none = record { roles = λ r. ap (λ (f : Role → Bool). f r) none; names = tt }
