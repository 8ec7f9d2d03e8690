-- What is given, and the rows that `clap` makes of it.
use Rattle.std.proofs.Common.{◌≡◌, Bool, true, false, not, ◌&&◌, ◌||◌, List, [], ◌∷◌, ◌++◌, map, Option, Some, None, refl, ap, sym, append_assoc}
use Rattle.std.proofs.lemmas.List.Folds.{list_any-append}
use Rattle.std.specs.List.{list_any}
use Rattle.std.specs.Str.{bytes_eq}
use Rattle.clap.specs.Walk.{Row, first_of, has_row, with_values, without}
use Rattle.clap.specs.declared.builder.value_parser.Reading.TheVariants.{AsWritten}
use Rattle.clap.specs.declared.parser.matches.ValueSource.TheVariants.{CommandLine}
use Rattle.clap.specs.Takes.{is_given}
use Rattle.h263_types.specs.Texts.{Text}
use Rattle.command_words.specs.Simple.{Given, gives, value, is_once, with_given, whole_or_none}

-- the row of a value that was given
abbrev pub row_for : Given → Row
row_for g = record { id = g.0; values = g.1 ∷ []; count = None; source = Some CommandLine; reading = AsWritten }

-- the rows of `clap` for what was given
abbrev pub rows_for : List Given → List Row
rows_for = map row_for

pub has_given : (name : Text) (given : List Given) → has_row name (rows_for given) ≡ gives name given
has_given name [] = refl
has_given name (g ∷ given) = rw (has_given name given) refl

pub first_given : (name : Text) (given : List Given) → first_of name (rows_for given) ≡ value given name
first_given name [] = refl
first_given name (g ∷ given) = go (bytes_eq g.0 name) refl (first_given name given)
  where
    go : (t : Bool) → bytes_eq g.0 name ≡ t → first_of name (rows_for given) ≡ value given name
        → first_of name (rows_for (g ∷ given)) ≡ value (g ∷ given) name
    go true e rest = rw e refl
    go false e rest = rw e rest

-- a value of a new name gives a row after the others
stays : (name : Text) (given : List Given) → gives name given ≡ false → without name (rows_for given) ≡ rows_for given
stays name [] h = refl
stays name (g ∷ given) h = go (bytes_eq g.0 name) refl h (stays name given)
  where
    go : (t : Bool) → bytes_eq g.0 name ≡ t → gives name (g ∷ given) ≡ false
        → (gives name given ≡ false → without name (rows_for given) ≡ rows_for given)
        → without name (rows_for (g ∷ given)) ≡ rows_for (g ∷ given)
    go true e k rest =
        let bad : true ≡ false = rw e at k in
        cc
    go false e k rest = rw e (ap (λ (rows : List Row). row_for g ∷ rows) (rest (rw e at k)))

added : (name v : Text) (given : List Given) → gives name given ≡ false
    → with_values name AsWritten CommandLine (v ∷ []) (rows_for given) ≡ rows_for (given ++ (name, v) ∷ [])
added name v [] h = refl
added name v (g ∷ given) h = go (bytes_eq g.0 name) refl h (added name v given)
  where
    go : (t : Bool) → bytes_eq g.0 name ≡ t → gives name (g ∷ given) ≡ false
        → (gives name given ≡ false → with_values name AsWritten CommandLine (v ∷ []) (rows_for given)
        ≡ rows_for (given ++ (name, v) ∷ []))
        → with_values name AsWritten CommandLine (v ∷ []) (rows_for (g ∷ given))
        ≡ rows_for (g ∷ (given ++ (name, v) ∷ []))
    go true e k rest =
        let bad : true ≡ false = rw e at k in
        cc
    go false e k rest = rw e (ap (λ (rows : List Row). row_for g ∷ rows) (rest (rw e at k)))

pub row_added : (name v : Text) (given : List Given) → gives name given ≡ false
    → with_values name AsWritten CommandLine (v ∷ []) (without name (rows_for given))
    ≡ rows_for (given ++ (name, v) ∷ [])
row_added name v given h = rw (stays name given h) (added name v given h)

-- ---- no name twice

not_and : (b : Bool) → (not b && false) ≡ false
not_and true = refl
not_and false = refl

not_or_true : (b c : Bool) → (not (b || true) && c) ≡ false
not_or_true true c = refl
not_or_true false c = refl

-- the name of x stands after it
abbrev again : Given → List Given → Bool
again x xs = list_any (λ (o : Given). bytes_eq x.0 o.0) xs

-- what is after a list in which a name stands twice doesn't mend it
pub front_twice : (xs ys : List Given) → is_once xs ≡ false → is_once (xs ++ ys) ≡ false
unfolding is_once
front_twice [] ys h = cc
front_twice (x ∷ xs) ys h = go (again x xs) refl h (front_twice xs ys)
  where
    go : (t : Bool) → again x xs ≡ t → is_once (x ∷ xs) ≡ false → (is_once xs ≡ false → is_once (xs ++ ys) ≡ false)
        → is_once (x ∷ (xs ++ ys)) ≡ false
    go true e k rest = rw (list_any-append (λ (o : Given). bytes_eq x.0 o.0) xs ys, e) refl
    go false e k rest = rw (rest (rw e at k)) (not_and (again x (xs ++ ys)))

-- one more name is new, or stands twice
pub last_new : (xs : List Given) (g : Given) → is_once xs ≡ true → gives g.0 xs ≡ false → is_once (xs ++ g ∷ []) ≡ true
unfolding is_once
last_new [] g h k = refl
last_new (x ∷ xs) g h k = go (again x xs) refl h (bytes_eq x.0 g.0) refl k (last_new xs g)
  where
    go : (t : Bool) → again x xs ≡ t → is_once (x ∷ xs) ≡ true → (b : Bool) → bytes_eq x.0 g.0 ≡ b
        → gives g.0 (x ∷ xs) ≡ false
        → (is_once xs ≡ true → gives g.0 xs ≡ false → is_once (xs ++ g ∷ []) ≡ true) → is_once (x ∷ (xs ++ g ∷ []))
        ≡ true
    go true e once b d new rest =
        let bad : false ≡ true = rw e at once in
        cc
    go false e once true d new rest =
        let bad : true ≡ false = rw d at new in
        cc
    go false e once false d new rest =
        rw (list_any-append (λ (o : Given). bytes_eq x.0 o.0) xs (g ∷ []), e, d) (rest (rw e at once) (rw d at new))

pub last_again : (xs : List Given) (g : Given) → gives g.0 xs ≡ true → is_once (xs ++ g ∷ []) ≡ false
unfolding is_once
last_again [] g k = cc
last_again (x ∷ xs) g k = go (bytes_eq x.0 g.0) refl k (last_again xs g)
  where
    go : (b : Bool) → bytes_eq x.0 g.0 ≡ b → gives g.0 (x ∷ xs) ≡ true
        → (gives g.0 xs ≡ true → is_once (xs ++ g ∷ []) ≡ false) → is_once (x ∷ (xs ++ g ∷ [])) ≡ false
    go true d twice rest = rw (
      list_any-append (λ (o : Given). bytes_eq x.0 o.0) xs (g ∷ []),
      d,
    ) (not_or_true (again x xs) (is_once (xs ++ g ∷ [])))
    go false d twice rest = rw (rest (rw d at twice)) (not_and (again x (xs ++ g ∷ [])))

-- a row of the words says that its name is given
pub is_there : (name : Text) (given : List Given) → is_given name (rows_for given) ≡ gives name given
is_there name [] = refl
is_there name (g ∷ given) = go (bytes_eq g.0 name) refl (is_there name given)
  where
    go : (t : Bool) → bytes_eq g.0 name ≡ t → is_given name (rows_for given) ≡ gives name given
        → is_given name (rows_for (g ∷ given)) ≡ gives name (g ∷ given)
    go true e rest = rw e refl
    go false e rest = rw e rest

-- ---- how the values of the rest follow those before

-- with these values before, the whole, where each positional word is there and no name stands twice
abbrev pub accepts : List Text → List Given → Option (List Given) → Option (List Given)
accepts places before None = None
accepts places before (Some given) = whole_or_none places (Some (before ++ given))

pub accepts_more : (places : List Text) (before : List Given) (name v : Text) (rest : Option (List Given))
    → accepts places before (with_given name v rest) ≡ accepts places (before ++ (name, v) ∷ []) rest
accepts_more places before name v None = refl
accepts_more places before name v (Some given) =
    ap (λ (all : List Given). whole_or_none places (Some all)) (sym (append_assoc before ((name, v) ∷ []) given))

pub accepts_twice : (places : List Text) (before : List Given) (rest : Option (List Given)) → is_once before ≡ false
    → accepts places before rest ≡ None
accepts_twice places before None h = refl
accepts_twice places before (Some given) h = rw (front_twice before given h) refl

pub accepts_start : (places : List Text) (rest : Option (List Given)) → accepts places [] rest
    ≡ whole_or_none places rest
accepts_start places None = refl
accepts_start places (Some given) = refl
