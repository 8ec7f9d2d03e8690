-- The rules of a simple command once it is built, and what is found among them.
use Rattle.std.proofs.Common.{◌≡◌, ◌∙◌, ◌+◌, ◌<◌, ◌≤◌, ℕ, suc, Bool, true, false, not, ◌&&◌, ◌||◌, min, List, [], ◌∷◌, ◌++◌, map, length, Option, Some, None, is_some, refl, ap, sym, arith, append_assoc, eqb}
use Rattle.std.specs.Prelude.{◌==◌, if◌then◌else◌}
use Rattle.std.specs.List.{list_all, list_any}
use Rattle.std.specs.Option.{option_map_or}
use Rattle.std.specs.Str.{bytes_eq}
use Rattle.std.proofs.lemmas.Slice.Eq.{bytes_eq-Decides}
use Rattle.std.proofs.lemmas.Bool.{ne_eqb}
use Rattle.std.proofs.lemmas.Bool.Decides.{Decides-eqb}
use Rattle.clap.specs.Lexer.{usize_max}
use Rattle.clap.specs.Walk.{Rule, arg_by_id, arg_by_index, arg_by_long, arg_by_short}
use Rattle.clap.specs.Simple.{filled_from, new_rule}
use Rattle.clap.specs.declared.builder.action.ArgAction.TheVariants.{Set}
use Rattle.clap.specs.declared.builder.value_parser.ValueParser.TheVariants as vp
use Rattle.std.specs.List.{fold}
use Rattle.clap.specs.Faults.{default_fault, defaults_fault}
use Rattle.clap.specs.Takes.{is_given}
use Rattle.clap.specs.Walk.{Row, has_row, is_empty, with_default}
use Rattle.h263_types.specs.Texts.{Text}
use Rattle.command_words.specs.Simple.{Given, Options, gives, is_name_among}
use Rattle.command_words.proofs.Givens.{is_there, rows_for}
use Rattle.command_words.specs.Clap.{place_rule, option_rule, switch_rule}

-- an argument with one value
abbrev pub valued : Bool → Option Text → Option ℕ → Text → Rule
valued required long index name = record (new_rule name) {
  required = required;
  long = long;
  index = index;
  action = Some Set;
  range = Some (record { start_inclusive = 1; end_inclusive = 1 });
  parser = Some vp.String;
}

-- the rule of a positional word
abbrev pub place_at : ℕ → Text → Rule
place_at i name = valued true None (Some i) name

-- the rule of an option
abbrev pub option_at : Text → Rule
option_at name = valued false (Some name) None name

-- the rule of a switch
abbrev pub switch_at : Text → Rule
switch_at name = record (option_at name) {
  range = Some (record { start_inclusive = 0; end_inclusive = 0 });
  missing = [] ∷ [];
}

abbrev pub places_from : ℕ → List Text → List Rule
places_from i [] = []
places_from i (name ∷ names) = place_at i name ∷ places_from (suc i) names

-- the rules of a built command that have a value, and all of them
abbrev pub valued_rules : List Text → List Text → List Rule
valued_rules places names = places_from 1 places ++ map option_at names

abbrev pub rules_of : List Text → Options → List Rule
rules_of places options = valued_rules places options.valued ++ map switch_at options.switches

filled_switches : (i : ℕ) (switches : List Text) → filled_from i (map switch_rule switches) ≡ map switch_at switches
filled_switches i [] = refl
filled_switches i (s ∷ switches) = ap (λ (rs : List Rule). switch_at s ∷ rs) (filled_switches i switches)

filled_options : (i : ℕ) (names switches : List Text)
    → filled_from i (map option_rule names ++ map switch_rule switches) ≡ map option_at names ++ map switch_at switches
filled_options i [] switches = filled_switches i switches
filled_options i (o ∷ names) switches = ap (λ (rs : List Rule). option_at o ∷ rs) (filled_options i names switches)

filled_places : (i : ℕ) (places names switches : List Text) → i + length places < 1000
    → filled_from i ((map place_rule places ++ map option_rule names) ++ map switch_rule switches)
    ≡ (places_from i places ++ map option_at names) ++ map switch_at switches
filled_places i [] names switches h = filled_options i names switches
filled_places i (p ∷ places) names switches h =
    let next : min (i + 1) usize_max ≡ suc i = omega arith in
    let small : suc i + length places < 1000 = omega arith in
    rw next (ap (λ (rs : List Rule). place_at i p ∷ rs) (filled_places (suc i) places names switches small))

pub filled_rules : (places : List Text) (options : Options) → length places ≤ 16
    → filled_from 1 ((map place_rule places ++ map option_rule options.valued) ++ map switch_rule options.switches)
    ≡ rules_of places options
filled_rules places options h = filled_places 1 places options.valued options.switches (omega arith)

-- ---- what is found

-- an argument of this name has one value
abbrev pub Known : List Rule → Text → Type 0
Known c name = (required : Bool) × (long : Option Text) × (index : Option ℕ)
    × (arg_by_id c name ≡ Some (valued required long index name))

abbrev pub IsValued : Rule → Type 0
IsValued a = (required : Bool) × (long : Option Text) × (index : Option ℕ) × (a ≡ valued required long index a.id)

abbrev pub AllValued : List Rule → Type 0
AllValued [] = Unit {0}
AllValued (a ∷ c) = IsValued a × AllValued c

options_valued : (options : List Text) → AllValued (map option_at options)
options_valued [] = tt
options_valued (o ∷ options) = ((false, Some o, None, refl), options_valued options)

all_valued : (i : ℕ) (places options : List Text) → AllValued (places_from i places ++ map option_at options)
all_valued i [] options = options_valued options
all_valued i (p ∷ places) options = ((true, None, Some i, refl), all_valued (suc i) places options)

-- what has an id is such an argument
known_by_id : (c : List Rule) (name : Text) → AllValued c → is_some (arg_by_id c name) ≡ true → Known c name
known_by_id [] name all h = cc
known_by_id (a ∷ c) name all h = go (bytes_eq a.id name) refl h (λ k. known_by_id c name all.1 k)
  where
    go : (t : Bool) → bytes_eq a.id name ≡ t → is_some (arg_by_id (a ∷ c) name) ≡ true
        → (is_some (arg_by_id c name) ≡ true → Known c name) → Known (a ∷ c) name
    go true e k rest =
        let same : a.id ≡ name = (bytes_eq-Decides a.id name).0 e in
        let is : a ≡ valued all.0.0 all.0.1 all.0.2 name = all.0.3
        ∙ ap (λ (n : Text). valued all.0.0 all.0.1 all.0.2 n) same in
        (all.0.0, all.0.1, all.0.2, rw e (ap (λ (x : Rule). Some x) is))
    go false e k rest =
        let found = rest (rw e at k) in
        (found.0, found.1, found.2, rw e found.3)

pub same_bytes : (name : Text) → bytes_eq name name ≡ true
same_bytes name = (bytes_eq-Decides name name).1 refl

option_there : (options : List Text) (name : Text) → is_name_among options name ≡ true
    → is_some (arg_by_id (map option_at options) name) ≡ true
option_there [] name h = cc
option_there (o ∷ options) name h = go (bytes_eq o name) refl h (option_there options name)
  where
    go : (t : Bool) → bytes_eq o name ≡ t → is_name_among (o ∷ options) name ≡ true
        → (is_name_among options name ≡ true → is_some (arg_by_id (map option_at options) name) ≡ true)
        → is_some (arg_by_id (map option_at (o ∷ options)) name) ≡ true
    go true e k rest = rw e refl
    go false e k rest = rw e (rest (rw e at k))

after_front : (front rest : List Rule) (name : Text) → is_some (arg_by_id rest name) ≡ true
    → is_some (arg_by_id (front ++ rest) name) ≡ true
after_front [] rest name h = h
after_front (a ∷ front) rest name h = go (bytes_eq a.id name) refl (after_front front rest name h)
  where
    go : (t : Bool) → bytes_eq a.id name ≡ t → is_some (arg_by_id (front ++ rest) name) ≡ true
        → is_some (arg_by_id (a ∷ (front ++ rest)) name) ≡ true
    go true e k = rw e refl
    go false e k = rw e k

-- the positional words from place i on, by their places
abbrev pub Left : List Rule → ℕ → List Text → Type 0
Left c i [] = arg_by_index c i ≡ None
Left c i (name ∷ names) = (arg_by_index c i ≡ Some (place_at i name)) × Known c name × (i < 1000) × Left c (suc i) names

options_no_index : (options : List Text) (i : ℕ) → arg_by_index (map option_at options) i ≡ None
options_no_index [] i = refl
options_no_index (o ∷ options) i = options_no_index options i

-- no argument of `front` stands at place i or after it
abbrev Passes : List Rule → ℕ → Type 0
Passes front i = (j : ℕ) → i ≤ j → (rest : List Rule) → arg_by_index (front ++ rest) j ≡ arg_by_index rest j

passes_more : (front : List Rule) (i : ℕ) (name : Text) → Passes front i
    → Passes (front ++ place_at i name ∷ []) (suc i)
passes_more front i name h j le rest =
    let other : eqb i j ≡ false = ne_eqb i j (λ e. omega arith) in
    rw append_assoc (h j (omega arith) (place_at i name ∷ rest) ∙ rw other refl)

left_of : (front : List Rule) (i : ℕ) (names options : List Text) (c : List Rule) → AllValued c → Passes front i
    → i + length names < 1000
    → c ≡ front ++ (places_from i names ++ map option_at options) → Left c i names
left_of front i [] options c all h small is = rw is (h i (omega arith) (map option_at options)
    ∙ options_no_index options i)
left_of front i (name ∷ names) options c all h small is =
    let rest = places_from (suc i) names ++ map option_at options in
    let here : arg_by_index (place_at i name ∷ rest) i ≡ Some (place_at i name) = rw ((Decides-eqb i i).1 refl) refl in
    let there : is_some (arg_by_id (front ++ (place_at i name ∷ rest)) name) ≡ true =
    after_front front (place_at i name ∷ rest) name (rw (same_bytes name) refl) in
    let small2 : suc i + length names < 1000 = omega arith in (
      rw is (h i (omega arith) (place_at i name ∷ rest) ∙ here),
      known_by_id c name all (rw is there),
      omega arith,
      left_of (front ++ place_at i name ∷ []) (suc i) names options c all (passes_more front i name h) small2
          (is ∙ sym (append_assoc front (place_at i name ∷ []) rest)),
    )

-- what has a long name: an option, else a switch, or nothing
abbrev pub named_in : Options → Text → Option Rule
named_in options name =
    if is_name_among options.valued name then Some (option_at name)
    else if is_name_among options.switches name then Some (switch_at name)
    else None

switches_by_long : (switches : List Text) (name : Text) → arg_by_long (map switch_at switches) name
    ≡ (if is_name_among switches name then Some (switch_at name) else None)
switches_by_long [] name = refl
switches_by_long (s ∷ switches) name = go (bytes_eq s name) refl (switches_by_long switches name)
  where
    go : (t : Bool) → bytes_eq s name ≡ t → arg_by_long (map switch_at switches) name
        ≡ (if is_name_among switches name then Some (switch_at name) else None)
        → arg_by_long (map switch_at (s ∷ switches)) name
        ≡ (if is_name_among (s ∷ switches) name then Some (switch_at name) else None)
    go true e rest = rw e (ap (λ (n : Text). Some (switch_at n)) ((bytes_eq-Decides s name).0 e))
    go false e rest = rw e rest

options_by_long : (names switches : List Text) (name : Text)
    → arg_by_long (map option_at names ++ map switch_at switches) name
    ≡ named_in (record { valued = names; switches = switches }) name
options_by_long [] switches name = switches_by_long switches name
options_by_long (o ∷ names) switches name = go (bytes_eq o name) refl (options_by_long names switches name)
  where
    go : (t : Bool) → bytes_eq o name ≡ t → arg_by_long (map option_at names ++ map switch_at switches) name
        ≡ named_in (record { valued = names; switches = switches }) name
        → arg_by_long (map option_at (o ∷ names) ++ map switch_at switches) name
        ≡ named_in (record { valued = o ∷ names; switches = switches }) name
    go true e rest = rw e (ap (λ (n : Text). Some (option_at n)) ((bytes_eq-Decides o name).0 e))
    go false e rest = rw e rest

all_by_long : (i : ℕ) (places names switches : List Text) (name : Text)
    → arg_by_long ((places_from i places ++ map option_at names) ++ map switch_at switches) name
    ≡ named_in (record { valued = names; switches = switches }) name
all_by_long i [] names switches name = options_by_long names switches name
all_by_long i (p ∷ places) names switches name = all_by_long (suc i) places names switches name

switches_by_short : (switches : List Text) (x : ℕ) → arg_by_short (map switch_at switches) x ≡ None
switches_by_short [] x = refl
switches_by_short (s ∷ switches) x = switches_by_short switches x

options_by_short : (names switches : List Text) (x : ℕ) → arg_by_short (map option_at names ++ map switch_at switches) x
    ≡ None
options_by_short [] switches x = switches_by_short switches x
options_by_short (o ∷ names) switches x = options_by_short names switches x

all_by_short : (i : ℕ) (places names switches : List Text) (x : ℕ)
    → arg_by_short ((places_from i places ++ map option_at names) ++ map switch_at switches) x ≡ None
all_by_short i [] names switches x = options_by_short names switches x
all_by_short i (p ∷ places) names switches x = all_by_short (suc i) places names switches x

-- ---- what is asked at the end

abbrev pub is_missing : List Given → Rule → Bool
is_missing given a = a.required && not (is_given a.id (rows_for given))

switches_missing : (switches : List Text) (given : List Given) → list_any (is_missing given) (map switch_at switches)
    ≡ false
switches_missing [] given = refl
switches_missing (s ∷ switches) given = switches_missing switches given

options_missing : (names switches : List Text) (given : List Given)
    → list_any (is_missing given) (map option_at names ++ map switch_at switches) ≡ false
options_missing [] switches given = switches_missing switches given
options_missing (o ∷ names) switches given = options_missing names switches given

missing : (i : ℕ) (places names switches : List Text) (given : List Given)
    → list_any (is_missing given) ((places_from i places ++ map option_at names) ++ map switch_at switches)
    ≡ not (list_all (λ name. gives name given) places)
missing i [] names switches given = options_missing names switches given
missing i (p ∷ places) names switches given =
    rw (is_there p given, missing (suc i) places names switches given)
    (join (gives p given) (list_all (λ name. gives name given) places))
  where
    join : (a b : Bool) → (not a || not b) ≡ not (a && b)
    join true true = refl
    join true false = refl
    join false true = refl
    join false false = refl

-- no argument has a default
abbrev pub HaveNoDefault : List Rule → Type 0
HaveNoDefault [] = Unit {0}
HaveNoDefault (a ∷ c) = (a.defaults ≡ []) × HaveNoDefault c

default_none : (a : Rule) (rows : List Row) → a.defaults ≡ [] → (default_fault rows a ≡ [])
    × (with_default rows a ≡ rows)
default_none a rows none = go (has_row a.id rows) refl
  where
    no_values : is_empty a.defaults ≡ true
    no_values = ap (λ (l : List Text). is_empty l) none

    go : (t : Bool) → has_row a.id rows ≡ t → (default_fault rows a ≡ []) × (with_default rows a ≡ rows)
    go true e = (rw e refl, rw e refl)
    go false e = (rw (e, no_values) refl, rw (e, none) refl)

pub no_defaults : (c : List Rule) (rows : List Row) → HaveNoDefault c → (defaults_fault rows c ≡ [])
    × (fold with_default rows c ≡ rows)
unfolding defaults_fault
no_defaults [] rows all = (refl, refl)
no_defaults (a ∷ c) rows all =
    let one = default_none a rows all.0 in
    let rest = no_defaults c rows all.1 in
    (rw (one.0, one.1) rest.0, rw one.1 rest.1)

switches_plain : (switches : List Text) → HaveNoDefault (map switch_at switches)
switches_plain [] = tt
switches_plain (s ∷ switches) = (refl, switches_plain switches)

options_plain : (names switches : List Text) → HaveNoDefault (map option_at names ++ map switch_at switches)
options_plain [] switches = switches_plain switches
options_plain (o ∷ names) switches = (refl, options_plain names switches)

all_plain : (i : ℕ) (places names switches : List Text) → HaveNoDefault ((places_from i places ++ map option_at names)
    ++ map switch_at switches)
all_plain i [] names switches = options_plain names switches
all_plain i (p ∷ places) names switches = (refl, all_plain (suc i) places names switches)

-- ---- what is found before the switches is found

first_by_id : (front rest : List Rule) (name : Text) (a : Rule) → arg_by_id front name ≡ Some a
    → arg_by_id (front ++ rest) name ≡ Some a
first_by_id [] rest name a h = absurd (cc h)
first_by_id (b ∷ front) rest name a h = go (bytes_eq b.id name) refl h (first_by_id front rest name a)
  where
    go : (t : Bool) → bytes_eq b.id name ≡ t → arg_by_id (b ∷ front) name ≡ Some a
        → (arg_by_id front name ≡ Some a → arg_by_id (front ++ rest) name ≡ Some a)
        → arg_by_id (b ∷ (front ++ rest)) name ≡ Some a
    go true e k more = rw e (rw e at k)
    go false e k more = rw e (more (rw e at k))

known_first : (front rest : List Rule) (name : Text) → Known front name → Known (front ++ rest) name
known_first front rest name k = (k.0, k.1, k.2, first_by_id front rest name (valued k.0 k.1 k.2 name) k.3)

switches_no_index : (switches : List Text) (i : ℕ) → arg_by_index (map switch_at switches) i ≡ None
switches_no_index [] i = refl
switches_no_index (s ∷ switches) i = switches_no_index switches i

first_by_index : (front rest : List Rule) (i : ℕ) (o : Option Rule) → arg_by_index rest i ≡ None
    → arg_by_index front i ≡ o → arg_by_index (front ++ rest) i ≡ o
first_by_index [] rest i o none h = none ∙ h
first_by_index (b ∷ front) rest i o none h = go (option_map_or (λ k. k == i) b.index false) refl h
    (first_by_index front rest i o none)
  where
    go : (t : Bool) → option_map_or (λ k. k == i) b.index false ≡ t → arg_by_index (b ∷ front) i ≡ o
        → (arg_by_index front i ≡ o → arg_by_index (front ++ rest) i ≡ o)
        → arg_by_index (b ∷ (front ++ rest)) i ≡ o
    go true e k more = rw e (rw e at k)
    go false e k more = rw e (more (rw e at k))

left_first : (front : List Rule) (switches : List Text) (i : ℕ) (names : List Text) → Left front i names
    → Left (front ++ map switch_at switches) i names
left_first front switches i [] l = first_by_index front (map switch_at switches) i None (switches_no_index switches i) l
left_first front switches i (name ∷ names) l = (
  first_by_index front (map switch_at switches) i (Some (place_at i name)) (switches_no_index switches i) l.0,
  known_first front (map switch_at switches) name l.1,
  l.2,
  left_first front switches (suc i) names l.3,
)

-- what the walk reads of the rules
pub record Setting (places : List Text) (options : Options) (c : List Rule) : Type 0 where
  pub by_long : (name : Text) → arg_by_long c name ≡ named_in options name
  pub by_short : (x : ℕ) → arg_by_short c x ≡ None
  pub known : (name : Text) → is_name_among options.valued name ≡ true → Known c name
  pub plain : HaveNoDefault c
  pub missing : (given : List Given) → list_any (is_missing given) c ≡ not (list_all (λ name. gives name given) places)

pub setting_of : (places : List Text) (options : Options) → Setting places options (rules_of places options)
setting_of places options = record {
  by_long = all_by_long 1 places options.valued options.switches;
  by_short = all_by_short 1 places options.valued options.switches;
  known = λ name h. known_first (valued_rules places options.valued) (map switch_at options.switches) name
      (known_by_id (valued_rules places options.valued) name (all_valued 1 places options.valued)
      (after_front (places_from 1 places) (map option_at options.valued) name (option_there options.valued name h)));
  plain = all_plain 1 places options.valued options.switches;
  missing = missing 1 places options.valued options.switches;
}

pub all_left : (places : List Text) (options : Options) → length places ≤ 16 → Left (rules_of places options) 1 places
all_left places options h =
    left_first (valued_rules places options.valued) options.switches 1 places
    (left_of [] 1 places options.valued (valued_rules places options.valued) (all_valued 1 places options.valued)
    (λ j le rest. refl) (omega arith) refl)
