-- What a parse of a simple command comes to.
use Rattle.std.proofs.Common.{◌≡◌, ◌∙◌, inl, inr, ◌≤◌, ℕ, suc, Bool, true, false, ◌&&◌, List, [], ◌∷◌, ◌++◌, map, drop, length, Option, Some, None, Result, Ok, Err, refl, ap, sym, subst}
use Rattle.std.specs.List.{list_all, list_any}
use Rattle.clap.specs.Words.{App, Rule, HasKind, HasMatchesOf, IsAmong, fault_of, found_of, is_simple, is_simple_and_free, kind_of, matches_of, new_app, rows_of}
use Rattle.clap.specs.Kinds.{Kinds}
use Rattle.clap.specs.Simple.{built}
use Rattle.std.specs.Prelude.{IsErr, IsErrAnd, MatchResult, is_some, count_by}
use Rattle.clap.specs.Faults.{is_free_app}
use Rattle.clap.specs.Walk.{is_early_multiple}
use Rattle.clap.specs.Walk.{Row, nothing_held, first_of}
use Rattle.clap.specs.declared.error.kind.ErrorKind.{ErrorKind}
use Rattle.clap.proofs.FaultLemmas.{leaf_fault}
use Rattle.clap.proofs.WalkLemmas.{first_value-rows}
use Rattle.clap.specs.declared.error.Error.{Error}
use Rattle.clap.specs.declared.parser.matches.ArgMatches.{ArgMatches}
use Rattle.command_words.specs.declared.simple.WordStop.{WordStop}
use Rattle.command_words.specs.declared.simple.WordStop.TheVariants.{OutOfMemory, Usage}
use Rattle.h263_types.specs.Texts.{Text}
use Rattle.command_words.specs.Simple.{Given, Options, taken}
use Rattle.command_words.specs.Clap.{Finds, option_rule, place_rule, stop_by, switch_rule, with_rules}
use Rattle.command_words.proofs.Givens.{first_given}
use Rattle.command_words.proofs.Rules.{all_left, filled_rules, option_at, place_at, places_from, rules_of, setting_of, switch_at}
use Rattle.command_words.proofs.Walking.{Says, all_words, ending, in_one, ready, total, walk_at}

-- a simple command before it is built
abbrev pub start : Text → App
start name = let a : App = new_app name in record a { top = record a.top { disable_help_flag = true } }

abbrev pub simple_app : Text → List Text → Options → App
simple_app name places options =
    with_rules (with_rules (with_rules (start name) (map place_rule places)) (map option_rule options.valued))
    (map switch_rule options.switches)

-- ---- it is one of which `clap` says all

rules_pass : (p : Rule → Bool) → ((n : Text) → p (place_rule n) ≡ true) → ((n : Text) → p (option_rule n) ≡ true)
    → ((n : Text) → p (switch_rule n) ≡ true) → (places names switches : List Text)
    → list_all p ((map place_rule places ++ map option_rule names) ++ map switch_rule switches) ≡ true
rules_pass p h k l [] [] [] = refl
rules_pass p h k l [] [] (s ∷ switches) = rw (l s) (rules_pass p h k l [] [] switches)
rules_pass p h k l [] (o ∷ names) switches = rw (k o) (rules_pass p h k l [] names switches)
rules_pass p h k l (n ∷ places) names switches = rw (h n) (rules_pass p h k l places names switches)

built_pass : (p : Rule → Bool) → ((i : ℕ) (n : Text) → p (place_at i n) ≡ true) → ((n : Text) → p (option_at n) ≡ true)
    → ((n : Text) → p (switch_at n) ≡ true) → (i : ℕ) (places names switches : List Text)
    → list_all p ((places_from i places ++ map option_at names) ++ map switch_at switches) ≡ true
built_pass p h k l i [] [] [] = refl
built_pass p h k l i [] [] (s ∷ switches) = rw (l s) (built_pass p h k l i [] [] switches)
built_pass p h k l i [] (o ∷ names) switches = rw (k o) (built_pass p h k l i [] names switches)
built_pass p h k l i (n ∷ places) names switches = rw (h i n) (built_pass p h k l (suc i) places names switches)

none_built : (p : Rule → Bool) → ((i : ℕ) (n : Text) → p (place_at i n) ≡ false)
    → ((n : Text) → p (option_at n) ≡ false) → ((n : Text) → p (switch_at n) ≡ false)
    → (i : ℕ) (places names switches : List Text)
    → list_any p ((places_from i places ++ map option_at names) ++ map switch_at switches) ≡ false
none_built p h k l i [] [] [] = refl
none_built p h k l i [] [] (s ∷ switches) = rw (l s) (none_built p h k l i [] [] switches)
none_built p h k l i [] (o ∷ names) switches = rw (k o) (none_built p h k l i [] names switches)
none_built p h k l i (n ∷ places) names switches = rw (h i n) (none_built p h k l (suc i) places names switches)

pub is_known : (name : Text) (places : List Text) (options : Options) → length places ≤ 16
    → is_simple_and_free (simple_app name places options) ≡ true
is_known name places options small =
    rw (
      rules_pass (λ r. r.is_simple) (λ n. refl) (λ n. refl) (λ n. refl) places options.valued options.switches,
      filled_rules places options small,
      built_pass (λ r. r.is_simple) (λ i n. refl) (λ n. refl) (λ n. refl) 1 places options.valued options.switches,
      none_built (is_early_multiple (count_by (λ r. is_some r.index) (rules_of places options))) (λ i n. refl)
          (λ n. refl) (λ n. refl) 1 places options.valued options.switches,
      built_pass (λ r. r.is_free) (λ i n. refl) (λ n. refl) (λ n. refl) 1 places options.valued options.switches,
    ) refl

simple_too : (a : App) → is_simple_and_free a ≡ true → is_simple a ≡ true
simple_too a h = left (is_simple a) (is_free_app (built a)) h
  where
    left : (x y : Bool) → (x && y) ≡ true → x ≡ true
    left true y e = refl
    left false y e = e

-- ---- its faults and its rows

faults_are : (name : Text) (places : List Text) (options : Options) (words : List Text) → length places ≤ 16
    → fault_of (simple_app name places options) words
    ≡ total name (rules_of places options) (walk_at [] (ready None) 1 false) (drop 1 words)
faults_are name places options words small =
    leaf_fault (built (simple_app name places options)) nothing_held (drop 1 words) refl
    ∙ rw (filled_rules places options small) (in_one name (rules_of places options) (walk_at [] (ready None) 1 false)
    (drop 1 words))

rows_are : (name : Text) (places : List Text) (options : Options) (words : List Text) → length places ≤ 16
    → matches_of (simple_app name places options) words
    ≡ ending (rules_of places options) (walk_at [] (ready None) 1 false) (drop 1 words)
rows_are name places options words small = rw (filled_rules places options small) refl

pub says : (name : Text) (places : List Text) (options : Options) (words : List Text) → length places ≤ 16
    → Says (fault_of (simple_app name places options) words) (matches_of (simple_app name places options) words)
    (taken places options (drop 1 words))
says name places options words small =
    rw (faults_are name places options words small, rows_are name places options words small)
    (all_words name places options (rules_of places options) (setting_of places options) (all_left places options small)
    (drop 1 words))

-- ---- what the caller learns

found : (m : ArgMatches) (o : Option (List Given)) (kinds : Kinds) (rows : List Row) → Says kinds rows o → kinds ≡ []
    → rows_of (found_of m) ≡ rows → Finds m o
found m None kinds rows says none same = absurd (says none)
found m (Some given) kinds rows says none same =
    λ name. first_value-rows (found_of m) name ∙ ap (first_of name) (same ∙ says.1) ∙ first_given name given

pub finds : (name : Text) (places : List Text) (options : Options) (words : List Text) (a : App) (m : ArgMatches)
    → length places ≤ 16 → a ≡ simple_app name places options
    → (is_simple_and_free a ≡ true → fault_of a words ≡ []) → HasMatchesOf a words m
    → Finds m (taken places options (drop 1 words))
finds name places options words a m small is kinds matches =
    let known : is_simple_and_free a ≡ true = rw is (is_known name places options small) in
    let same : Says (fault_of a words) (matches_of a words) (taken places options (drop 1 words)) =
    subst (λ (x : App). Says (fault_of x words) (matches_of x words) (taken places options (drop 1 words))) (sym is)
    (says name places options words small) in
    found m (taken places options (drop 1 words)) (fault_of a words) (matches_of a words) same (kinds known)
    (matches (simple_too a known)).0

not_among : (k : ErrorKind) (kinds : Kinds) → IsAmong k kinds → kinds ≡ [] → ⊥
not_among k [] h e = h
not_among k (x ∷ xs) h e = cc

none_taken : (o : Option (List Given)) (kinds : Kinds) (rows : List Row) (k : ErrorKind) → Says kinds rows o
    → IsAmong k kinds → o ≡ None
none_taken None kinds rows k says among = refl
none_taken (Some given) kinds rows k says among = absurd (not_among k kinds among says.0)

pub refuses_words : (name : Text) (places : List Text) (options : Options) (words : List Text) (a : App) (e : Error)
    → length places ≤ 16 → a ≡ simple_app name places options
    → (is_simple_and_free a ≡ true → HasKind (fault_of a words) e) → stop_by (kind_of e) ≡ Usage
    → taken places options (drop 1 words) ≡ None
refuses_words name places options words a e small is kinds stop =
    let known : is_simple_and_free a ≡ true = rw is (is_known name places options small) in
    let same : Says (fault_of a words) (matches_of a words) (taken places options (drop 1 words)) =
    subst (λ (x : App). Says (fault_of x words) (matches_of x words) (taken places options (drop 1 words))) (sym is)
    (says name places options words small) in
    elim (kinds known) [
      | inl memory ↦
          let bad : OutOfMemory ≡ Usage = rw memory at stop in
          cc
      | inr among ↦ none_taken (taken places options (drop 1 words)) (fault_of a words) (matches_of a words)
          (kind_of e) same among
    ]

-- the command before its arguments
pub started : (a new : App) (name : Text) → new ≡ new_app name
    → a ≡ (let b : App = record new { top = record new.top { disable_help_flag = true } } in b) → a ≡ start name
started a new name is same = same
    ∙ ap (λ (x : App). let b : App = record x { top = record x.top { disable_help_flag = true } } in b) is

-- a stop by `clap`'s error
pub stopped_by : (T : Type 0) (r : Result T WordStop) (e : Error) (P : T → Type 0) (Q : Type 0)
    → IsErr r × IsErrAnd r (λ stop. stop ≡ stop_by (kind_of e))
    → (stop_by (kind_of e) ≡ Usage → Q) → MatchResult r P (λ stop. stop ≡ Usage → Q)
stopped_by T (Ok v) e P Q h f = absurd h.1
stopped_by T (Err stop) e P Q h f = λ u. f (sym h.1 ∙ u)
