-- `clap`'s walk over the words gives what a simple command takes.
use Rattle.std.proofs.Common.{◌≡◌, ◌∙◌, ◌+◌, ◌<◌, ℕ, suc, Bool, true, false, not, ◌||◌, min, List, [], ◌∷◌, ◌++◌, length, Option, Some, None, refl, ap, sym, subst, arith}
use Rattle.std.proofs.lemmas.List.{append-nil}
use Rattle.std.specs.Prelude.{if◌then◌else◌, slice_get}
use Rattle.std.specs.List.{fold, list_all, list_any}
use Rattle.std.specs.Option.{option_map_or}
use Rattle.std.specs.Str.{bytes_eq, chars}
use Rattle.clap.specs.Lexer.{usize_max, long_of, short_of}
use Rattle.clap.specs.Walk.{plain as bare_outcome}
use Rattle.clap.specs.Walk.{Held, Row, Rule, Waiting, Walk, idle, option, arg_by_index, arg_by_long, arg_by_short, finished, settled, used, walked, with_default, positional_held, pushed, plain_word, short_or_plain, to_positional, value, reacted}
use Rattle.clap.specs.Simple.{Shape, new_shape}
use Rattle.clap.specs.Kinds.{Kinds, or_else}
use Rattle.clap.specs.Faults.{bundle_fault, check_fault, defaults_fault, flags_fault, positional_fault, react_fault, repeat_fault, settle_fault, step_fault, turn_fault, walk_fault}
use Rattle.clap.specs.declared.error.kind.ErrorKind.{ErrorKind}
use Rattle.clap.specs.declared.error.kind.ErrorKind.TheVariants.{ArgumentConflict, InvalidValue, MissingRequiredArgument, TooManyValues, UnknownArgument}
use Rattle.clap.proofs.WalkLemmas.{bundle_ends}
use Rattle.clap.proofs.FaultLemmas.{fault_ends}
use Rattle.h263_types.specs.Texts.{Text}
use Rattle.command_words.specs.Simple.{Given, Options, Kind, dashes, long, short, plain, word_kind, rest_after_word, gives, is_name_among, is_once, named, all_placed, taken, with_given}
use Rattle.command_words.proofs.Givens.{rows_for, has_given, row_added, last_new, last_again, accepts, accepts_more, accepts_start, accepts_twice}
use Rattle.command_words.proofs.Rules.{HaveNoDefault, Known, Left, Setting, place_at, option_at, switch_at, no_defaults, is_missing, same_bytes}

-- the command once it is built
abbrev pub shape : Text → List Rule → Shape
shape name c = record (new_shape name) {
  rules = c;
  disable_help_flag = true;
  disable_help_subcommand = true;
  is_built = true;
}

-- what is found fault with once the words are over
abbrev pub after : Text → List Rule → Held → Kinds
after name c h = or_else (settle_fault c false h) (or_else (defaults_fault (settled c h).rows c)
    (check_fault (shape name c) (finished c h) false))

-- what is found fault with from a place of the walk on
unfoldable pub total : Text → List Rule → Walk → List Text → Kinds
total name c w [] = after name c w.held
total name c w (x ∷ xs) = or_else (turn_fault (shape name c) [] w x) (total name c (walked c [] w x) xs)

-- the rows at the end
abbrev pub ending : List Rule → Walk → List Text → List Row
ending c w words = finished c (fold (walked c []) w words).held

or_else_assoc : (a b d : Kinds) → or_else (or_else a b) d ≡ or_else a (or_else b d)
or_else_assoc [] b d = refl
or_else_assoc (k ∷ ks) b d = refl

pub in_one : (name : Text) (c : List Rule) (w : Walk) (words : List Text)
    → or_else (walk_fault (shape name c) [] w words) (after name c (fold (walked c []) w words).held)
    ≡ total name c w words
unfolding total walk_fault
in_one name c w [] = refl
in_one name c w (x ∷ xs) =
    or_else_assoc (turn_fault (shape name c) [] w x) (walk_fault (shape name c) [] (walked c [] w x) xs)
    (after name c (fold (walked c []) (walked c [] w x) xs).held)
    ∙ ap (or_else (turn_fault (shape name c) [] w x)) (in_one name c (walked c [] w x) xs)

-- ---- where the walk stands

abbrev pub held : List Given → Option (Text × List Text) → Held
held done pending = record { rows = rows_for done; pending = pending; skip = 0 }

-- the last value may not be settled yet, or an option waits for its value
pub data Standing : Type 0 where
  ready : (last : Option Given) → Standing
  waits : (name : Text) → Standing

abbrev pub pending_in : Option Given → Option (Text × List Text)
pending_in None = None
pending_in (Some g) = Some (g.0, g.1 ∷ [])

abbrev pub walk_at : List Given → Standing → ℕ → Bool → Walk
walk_at done (ready last) i trailing = record {
  held = held done (pending_in last);
  waiting = idle;
  position = i;
  is_trailing = trailing;
  stopped = None;
}
walk_at done (waits name) i trailing = record {
  held = held done (Some (name, []));
  waiting = option name;
  position = i;
  is_trailing = trailing;
  stopped = None;
}

abbrev pub all_in : List Given → Option Given → List Given
all_in done None = done
all_in done (Some g) = done ++ g ∷ []

abbrev pub KnownIn : List Rule → Standing → Type 0
KnownIn c (ready None) = Unit {0}
KnownIn c (ready (Some g)) = Known c g.0
KnownIn c (waits name) = Known c name

-- faults and rows say what is given
abbrev pub Says : Kinds → List Row → Option (List Given) → Type 0
Says kinds rows None = kinds ≡ [] → ⊥
Says kinds rows (Some given) = (kinds ≡ []) × (rows ≡ rows_for given)

-- a word with no fault
goes : (name : Text) (c : List Rule) (w next : Walk) (x : Text) (xs : List Text) (o : Option (List Given))
    → turn_fault (shape name c) [] w x ≡ [] → walked c [] w x ≡ next
    → Says (total name c next xs) (ending c next xs) o → Says (total name c w (x ∷ xs)) (ending c w (x ∷ xs)) o
unfolding total
goes name c w next x xs o free to says =
    subst (λ (k : Kinds). Says k (ending c w (x ∷ xs)) o)
    (sym (ap (λ (k : Kinds). or_else k (total name c (walked c [] w x) xs)) free))
    (subst (λ (v : Walk). Says (total name c v xs) (ending c v xs) o) (sym to) says)

-- a word with a fault
refuses : (name : Text) (c : List Rule) (w : Walk) (x : Text) (xs : List Text) (o : Option (List Given)) (k : ErrorKind)
    (ks : Kinds) → turn_fault (shape name c) [] w x ≡ k ∷ ks → o ≡ None
    → Says (total name c w (x ∷ xs)) (ending c w (x ∷ xs)) o
unfolding total
refuses name c w x xs o k ks fault none =
    subst (λ (p : Option (List Given)). Says (total name c w (x ∷ xs)) (ending c w (x ∷ xs)) p) (sym none)
    (λ e. let bad : k ∷ ks ≡ [] = sym (ap (λ (f : Kinds). or_else f (total name c (walked c [] w x) xs)) fault) ∙ e in
    cc)

-- ---- settling

-- what is pending is settled, or its name stands twice
pub data Settling (c : List Rule) (done : List Given) (last : Option Given) : Type 0 where
  twice : (fault : settle_fault c false (held done (pending_in last)) ≡ ArgumentConflict ∷ [])
      → is_once (all_in done last) ≡ false → Settling c done last
  free : (none : settle_fault c false (held done (pending_in last)) ≡ []) → settled c (held done (pending_in last))
      ≡ held (all_in done last) None → is_once (all_in done last) ≡ true → Settling c done last

settle_last : (c : List Rule) (done : List Given) (g : Given) (k : Known c g.0) (t : Bool) → gives g.0 done ≡ t
    → is_once done ≡ true → Settling c done (Some g)
settle_last c done g k true e once = twice (rw (k.3, has_given g.0 done, e) refl) (last_again done g e)
settle_last c done g k false e once = free (rw (k.3, has_given g.0 done, e) refl)
    (rw (k.3, row_added g.0 g.1 done e) refl) (last_new done g once e)

settles : (c : List Rule) (done : List Given) (last : Option Given) → is_once done ≡ true → KnownIn c (ready last)
    → Settling c done last
settles c done None once k = free refl refl once
settles c done (Some g) once k = settle_last c done g k (gives g.0 done) refl once

-- an option that still waits for its value
waiting_fault : (c : List Rule) (done : List Given) (name : Text) → Known c name
    → settle_fault c false (held done (Some (name, []))) ≡ InvalidValue ∷ []
waiting_fault c done name k = rw k.3 refl

-- ---- a positional word

place_fault : (c : List Rule) (i : ℕ) (name : Text) (done : List Given) (pending : Option (Text × List Text))
    → positional_fault c false (place_at i name) (held done pending) ≡ settle_fault c false (held done pending)
place_fault c i name done None = refl
place_fault c i name done (Some p) = go (bytes_eq p.0 name) refl
  where
    go : (t : Bool) → bytes_eq p.0 name ≡ t → positional_fault c false (place_at i name) (held done (Some p))
        ≡ settle_fault c false (held done (Some p))
    go true e = rw e refl
    go false e = rw e refl

place_held : (c : List Rule) (i : ℕ) (name x : Text) (done : List Given) (pending : Option (Text × List Text))
    → positional_held c (place_at i name) x (held done pending) ≡ pushed name x (settled c (held done pending))
place_held c i name x done None = refl
place_held c i name x done (Some p) = go (bytes_eq p.0 name) refl
  where
    go : (t : Bool) → bytes_eq p.0 name ≡ t → positional_held c (place_at i name) x (held done (Some p))
        ≡ pushed name x (settled c (held done (Some p)))
    go true e = rw e refl
    go false e = rw e refl

-- ---- what a word looks like

abbrev two_hyphens : Text
two_hyphens = 45 ∷ 45 ∷ []

-- no character stands after a hyphen
data IsBare (x : Text) : Type 0 where
  no_hyphen : short_of x ≡ None → IsBare x
  nothing_after : (flags : Text) → short_of x ≡ Some flags → slice_get (chars flags) 0 ≡ None → IsBare x

data Looks (x : Text) : Type 0 where
  as_dashes : bytes_eq x two_hyphens ≡ true → word_kind x ≡ dashes → Looks x
  as_long : (n : Text) (v : Option Text) → bytes_eq x two_hyphens ≡ false → long_of x ≡ Some (n, v)
      → word_kind x ≡ long n v → Looks x
  as_short : (flags : Text) (first : ℕ) → bytes_eq x two_hyphens ≡ false → long_of x ≡ None → short_of x ≡ Some flags
      → slice_get (chars flags) 0 ≡ Some first → word_kind x ≡ short → Looks x
  as_plain : bytes_eq x two_hyphens ≡ false → long_of x ≡ None → IsBare x → word_kind x ≡ plain → Looks x

looks_short : (x : Text) → bytes_eq x two_hyphens ≡ false → long_of x ≡ None → (s : Option Text) → short_of x ≡ s
    → Looks x
looks_short x d l None e = as_plain d l (no_hyphen e) (rw (d, l, e) refl)
looks_short x d l (Some flags) e = go (slice_get (chars flags) 0) refl
  where
    go : (f : Option ℕ) → slice_get (chars flags) 0 ≡ f → Looks x
    go None k = as_plain d l (nothing_after flags e k) (rw (d, l, e, k) refl)
    go (Some first) k = as_short flags first d l e k (rw (d, l, e, k) refl)

looks_after : (x : Text) → bytes_eq x two_hyphens ≡ false → (l : Option (Text × Option Text)) → long_of x ≡ l → Looks x
looks_after x d None e = looks_short x d e (short_of x) refl
looks_after x d (Some p) e = as_long p.0 p.1 d e (rw (d, e) refl)

looks : (x : Text) → Looks x
looks x = go (bytes_eq x two_hyphens) refl
  where
    go : (t : Bool) → bytes_eq x two_hyphens ≡ t → Looks x
    go true e = as_dashes e (rw e refl)
    go false e = looks_after x e (long_of x) refl

-- a word with no flag in it
bare_fault : (c : List Rule) (x : Text) (done : List Given) (pending : Option (Text × List Text)) → IsBare x
    → option_map_or (λ flags. bundle_fault c false flags (held done pending)) (short_of x) [] ≡ []
bare_fault c x done pending (no_hyphen e) = rw e refl
bare_fault c x done pending (nothing_after flags e k) =
    rw e (sym (fault_ends c false (length flags) flags 0 (held done pending) (sym k)))

bare_met : (c : List Rule) (waiting : Waiting) (x : Text) (done : List Given) (pending : Option (Text × List Text))
    → IsBare x
    → short_or_plain c waiting x (short_of x) (held done pending) ≡ plain_word c waiting x (held done pending)
bare_met c waiting x done pending (no_hyphen e) = rw e refl
bare_met c waiting x done pending (nothing_after flags e k) =
    rw (e, ← bundle_ends c (length flags) flags 0 bare_outcome (held done pending) (sym k)) refl

-- a word of a flag that no command here has
short_fault_is : (c : List Rule) (flags : Text) (first : ℕ) (done : List Given) (pending : Option (Text × List Text))
    → slice_get (chars flags) 0 ≡ Some first → arg_by_short c first ≡ None
    → bundle_fault c false flags (held done pending) ≡ UnknownArgument ∷ []
unfolding flags_fault chars
short_fault_is c [] first done pending k none = cc
short_fault_is c (f ∷ flags) first done pending k none = rw (k, none) refl

-- ---- what holds from each place of the walk on

-- from a place after `--`
abbrev TrailClaim : Text → List Text → List Rule → List Text → Type 0
TrailClaim name places c xs = (done : List Given) (last : Option Given) (i : ℕ) (left : List Text) → is_once done ≡ true
    → KnownIn c (ready last) → Left c i left
    → Says (total name c (walk_at done (ready last) i true) xs) (ending c (walk_at done (ready last) i true) xs)
    (accepts places (all_in done last) (all_placed left xs))

abbrev before : List Given → Standing → List Given
before done (ready last) = all_in done last
before done (waits name) = done

abbrev waiting_in : Standing → Option Text
waiting_in (ready last) = None
waiting_in (waits name) = Some name

abbrev Claim : Text → List Text → Options → List Rule → List Text → Type 0
Claim name places options c xs = (done : List Given) (s : Standing) (i : ℕ) (left : List Text) → is_once done ≡ true
    → KnownIn c s → Left c i left
    → Says (total name c (walk_at done s i false) xs) (ending c (walk_at done s i false) xs)
    (accepts places (before done s) (named options left (waiting_in s) xs))

says_all : (kinds : Kinds) (rows : List Row) (o : Option (List Given)) (given : List Given) → kinds ≡ []
    → rows ≡ rows_for given → o ≡ Some given → Says kinds rows o
says_all kinds rows o given none same is = subst (λ (p : Option (List Given)). Says kinds rows p) (sym is) (none, same)

says_none : (kinds : Kinds) (rows : List Row) (o : Option (List Given)) (k : ErrorKind) (ks : Kinds) → kinds ≡ k ∷ ks
    → o ≡ None → Says kinds rows o
says_none kinds rows o k ks fault is = subst (λ (p : Option (List Given)). Says kinds rows p) (sym is)
    (λ e. let bad : k ∷ ks ≡ [] = sym fault ∙ e in cc)

-- ---- the end of the words

after_is : (name : Text) (c : List Rule) (kinds : Kinds) (rows : List Row) (given : List Given) → kinds ≡ []
    → rows ≡ rows_for given → HaveNoDefault c
    → (or_else kinds (or_else (defaults_fault rows c) (check_fault (shape name c) (fold with_default rows c) false))
    ≡ check_fault (shape name c) (rows_for given) false)
    × (fold with_default rows c ≡ rows_for given)
after_is name c kinds rows given none same all =
    let d = no_defaults c (rows_for given) all in
    (rw (none, same, d.0, d.1) refl, rw same d.1)

end_of : (name : Text) (places : List Text) (c : List Rule) (given : List Given) → is_once given ≡ true
    → list_any (is_missing given) c ≡ not (list_all (λ n. gives n given) places)
    → (t : Bool) → list_all (λ n. gives n given) places ≡ t → (kinds : Kinds) (rows : List Row)
    → kinds ≡ check_fault (shape name c) (rows_for given) false → rows ≡ rows_for given
    → Says kinds rows (accepts places given (Some []))
end_of name places c given once missing true all kinds rows is same =
    let no : list_any (is_missing given) c ≡ false = missing ∙ ap not all in
    says_all kinds rows (accepts places given (Some [])) given (is
    ∙ rw no refl) same (rw (append-nil given, once, all) refl)
end_of name places c given once missing false all kinds rows is same =
    let yes : list_any (is_missing given) c ≡ true = missing ∙ ap not all in
    says_none kinds rows (accepts places given (Some [])) MissingRequiredArgument [] (is
    ∙ rw yes refl) (rw (append-nil given, once, all) refl)

at_end : (name : Text) (places : List Text) (options : Options) (c : List Rule) → Setting places options c
    → (done : List Given) (last : Option Given) → is_once done ≡ true → KnownIn c (ready last)
    → Says (after name c (held done (pending_in last))) (finished c (held done (pending_in last)))
    (accepts places (all_in done last) (Some []))
at_end name places options c s done last once known = go (settles c done last once known)
  where
    go : Settling c done last
        → Says (after name c (held done (pending_in last))) (finished c (held done (pending_in last)))
        (accepts places (all_in done last) (Some []))
    go (twice fault again) = says_none _ _ _ ArgumentConflict [] (rw fault refl)
        (accepts_twice places (all_in done last) (Some []) again)
    go (free none to all_once) =
        let a = after_is name c (settle_fault c false (held done (pending_in last)))
        (settled c (held done (pending_in last))).rows (all_in done last) none (ap (λ (h : Held). h.rows) to)
        s.plain in
        end_of name places c (all_in done last) all_once (s.missing (all_in done last))
        (list_all (λ n. gives n (all_in done last)) places) refl _ _ a.0 a.1

-- ---- positional words

cap : (i : ℕ) → i < 1000 → min (i + 1) usize_max ≡ suc i
cap i small = omega arith

abbrev between : Held → ℕ → Bool → Walk
between h i trailing = record { held = h; waiting = idle; position = i; is_trailing = trailing; stopped = None }

to_place : (c : List Rule) (i : ℕ) (n x : Text) (done : List Given) (last : Option Given) (trailing : Bool)
    → Settling c done last → arg_by_index c i ≡ Some (place_at i n) → i < 1000
    → settled c (held done (pending_in last)) ≡ held (all_in done last) None
    → to_positional c (arg_by_index c i) x (walk_at done (ready last) i trailing) (held done (pending_in last))
    ≡ walk_at (all_in done last) (ready (Some (n, x))) (suc i) (trailing || false)
to_place c i n x done last trailing st at small to =
    ap (λ (a : Option Rule). to_positional c a x (walk_at done (ready last) i trailing) (held done (pending_in last)))
    at
    ∙ ap (λ (h : Held). between h (min (i + 1) usize_max) (trailing || false))
    (place_held c i n x done (pending_in last) ∙ ap (pushed n x) to)
    ∙ ap (λ (j : ℕ). between (held (all_in done last) (Some (n, x ∷ []))) j (trailing || false)) (cap i small)

place_turn : (name : Text) (c : List Rule) (i : ℕ) (n : Text) (done : List Given) (pending : Option (Text × List Text))
    → arg_by_index c i ≡ Some (place_at i n)
    → step_fault (shape name c) i (held done pending) value ≡ settle_fault c false (held done pending)
place_turn name c i n done pending at = rw at (place_fault c i n done pending)

trails : (name : Text) (places : List Text) (options : Options) (c : List Rule) → Setting places options c
    → (xs : List Text) → TrailClaim name places c xs
unfolding total all_placed walked
trails name places options c s [] done last i left once known l = at_end name places options c s done last once known
trails name places options c s (x ∷ xs) done last i left once known l = go left l (settles c done last once known)
    (trails name places options c s xs)
  where
    go : (left : List Text) → Left c i left → Settling c done last → TrailClaim name places c xs
        → Says (total name c (walk_at done (ready last) i true) (x ∷ xs)) (ending c (walk_at done (ready last) i true)
        (x ∷ xs)) (accepts places (all_in done last) (all_placed left (x ∷ xs)))
    go [] l st rest = refuses name c (walk_at done (ready last) i true) x xs None UnknownArgument [] (rw l refl) refl
    go (n ∷ ns) l (twice fault again) rest =
        refuses name c (walk_at done (ready last) i true) x xs _ ArgumentConflict []
        (place_turn name c i n done (pending_in last) l.0
        ∙ fault) (accepts_twice places (all_in done last) (all_placed (n ∷ ns) (x ∷ xs)) again)
    go (n ∷ ns) l (free none to all_once) rest =
        goes name c (walk_at done (ready last) i true) (walk_at (all_in done last) (ready (Some (n, x))) (suc i) true) x
        xs _ (place_turn name c i n done (pending_in last) l.0 ∙ none)
        (to_place c i n x done last true (free none to all_once) l.0 l.2 to)
        (subst (λ (o : Option (List Given)). Says
        (total name c (walk_at (all_in done last) (ready (Some (n, x))) (suc i) true) xs)
        (ending c (walk_at (all_in done last) (ready (Some (n, x))) (suc i) true) xs) o)
        (sym (accepts_more places (all_in done last) n x (all_placed ns xs)))
        (rest (all_in done last) (Some (n, x)) (suc i) ns all_once l.1 l.3))

-- an option that waits never gets its value after `--`
still_waits : (name : Text) (c : List Rule) (n : Text) (done : List Given) (i : ℕ) (left xs : List Text) → Known c n
    → Left c i left
    → Says (total name c (walk_at done (waits n) i true) xs) (ending c (walk_at done (waits n) i true) xs) None
unfolding total
still_waits name c n done i left [] k l = says_none (after name c (held done (Some (n, []))))
    (ending c (walk_at done (waits n) i true) []) None InvalidValue [] (rw (waiting_fault c done n k) refl) refl
still_waits name c n done i [] (x ∷ xs) k l = refuses name c (walk_at done (waits n) i true) x xs None UnknownArgument
    [] (rw l refl) refl
still_waits name c n done i (m ∷ ms) (x ∷ xs) k l =
    refuses name c (walk_at done (waits n) i true) x xs None InvalidValue []
    (place_turn name c i m done (Some (n, [])) l.0 ∙ waiting_fault c done n k) refl

-- ---- a word after none that waits

-- the reading of one word
one_word : (options : Options) (left : List Text) (next : Option Text) (x : Text) (xs : List Text) (k : Kind)
    → word_kind x ≡ k
    → named options left next (x ∷ xs)
    ≡ rest_after_word options left next k x xs (λ others waits. named options others waits xs)
unfolding named
one_word options left None x xs k e = ap (λ (kind : Kind). rest_after_word options left None kind x xs
    (λ others waits. named options others waits xs)) e
one_word options left (Some n) x xs k e = ap (λ (kind : Kind). rest_after_word options left (Some n) kind x xs
    (λ others waits. named options others waits xs)) e

-- an option of the command, a switch, or none
option_of : (name : Text) (places : List Text) (options : Options) (c : List Rule) → Setting places options c
    → (n : Text) → is_name_among options.valued n ≡ true → arg_by_long c n ≡ Some (option_at n)
option_of name places options c s n e = s.by_long n ∙ rw e refl

other_of : (name : Text) (places : List Text) (options : Options) (c : List Rule) → Setting places options c
    → (n : Text) (t : Bool) → is_name_among options.valued n ≡ false → is_name_among options.switches n ≡ t
    → arg_by_long c n ≡ (if t then Some (switch_at n) else None)
other_of name places options c s n t e f = s.by_long n ∙ rw (e, f) refl

dashes_idle : (name : Text) (c : List Rule) (done : List Given) (last : Option Given) (i : ℕ) (x : Text)
    → bytes_eq x two_hyphens ≡ true
    → (turn_fault (shape name c) [] (walk_at done (ready last) i false) x ≡ [])
    × (walked c [] (walk_at done (ready last) i false) x ≡ walk_at done (ready last) i true)
unfolding walked
dashes_idle name c done last i x d = (rw d refl, rw d refl)

plain_idle_turn : (name : Text) (c : List Rule) (done : List Given) (last : Option Given) (i : ℕ) (x : Text)
    → bytes_eq x two_hyphens ≡ false → long_of x ≡ None → IsBare x
    → turn_fault (shape name c) [] (walk_at done (ready last) i false) x
    ≡ step_fault (shape name c) i (held done (pending_in last)) value
plain_idle_turn name c done last i x d l bare = rw (
  d,
  l,
  bare_met c idle x done (pending_in last) bare,
  bare_fault c x done (pending_in last) bare,
) refl

plain_idle_walk : (c : List Rule) (done : List Given) (last : Option Given) (i : ℕ) (x : Text) → bytes_eq x two_hyphens
    ≡ false → long_of x ≡ None → IsBare x
    → walked c [] (walk_at done (ready last) i false) x
    ≡ to_positional c (arg_by_index c i) x (walk_at done (ready last) i false) (held done (pending_in last))
unfolding walked
plain_idle_walk c done last i x d l bare = rw (d, l, bare_met c idle x done (pending_in last) bare) refl

long_turn_value : (name : Text) (c : List Rule) (done : List Given) (last : Option Given) (i : ℕ) (x n v : Text)
    → bytes_eq x two_hyphens ≡ false → long_of x ≡ Some (n, Some v)
    → arg_by_long c n ≡ Some (option_at n) → turn_fault (shape name c) [] (walk_at done (ready last) i false) x
    ≡ or_else (react_fault c false (option_at n) (v ∷ []) (held done (pending_in last))) []
long_turn_value name c done last i x n v d l at = rw (d, l, at) refl

long_walk_value : (c : List Rule) (done : List Given) (last : Option Given) (i : ℕ) (x n v : Text)
    → bytes_eq x two_hyphens ≡ false → long_of x ≡ Some (n, Some v)
    → arg_by_long c n ≡ Some (option_at n) → walked c [] (walk_at done (ready last) i false) x
    ≡ between (reacted c (option_at n) (v ∷ []) (held done (pending_in last))) i false
unfolding walked
long_walk_value c done last i x n v d l at = rw (d, l, at) refl

long_turn_none : (name : Text) (c : List Rule) (done : List Given) (last : Option Given) (i : ℕ) (x n : Text)
    → bytes_eq x two_hyphens ≡ false → long_of x ≡ Some (n, None)
    → arg_by_long c n ≡ Some (option_at n) → turn_fault (shape name c) [] (walk_at done (ready last) i false) x
    ≡ or_else (settle_fault c false (held done (pending_in last))) []
long_turn_none name c done last i x n d l at = rw (d, l, at) refl

-- a switch is used as an option is with the empty value
long_turn_switch : (name : Text) (c : List Rule) (done : List Given) (last : Option Given) (i : ℕ) (x n : Text)
    → bytes_eq x two_hyphens ≡ false → long_of x ≡ Some (n, None)
    → arg_by_long c n ≡ Some (switch_at n) → turn_fault (shape name c) [] (walk_at done (ready last) i false) x
    ≡ or_else (react_fault c false (option_at n) ([] ∷ []) (held done (pending_in last))) []
long_turn_switch name c done last i x n d l at = rw (d, l, at) refl

long_walk_switch : (c : List Rule) (done : List Given) (last : Option Given) (i : ℕ) (x n : Text)
    → bytes_eq x two_hyphens ≡ false → long_of x ≡ Some (n, None)
    → arg_by_long c n ≡ Some (switch_at n) → walked c [] (walk_at done (ready last) i false) x
    ≡ between (reacted c (option_at n) ([] ∷ []) (held done (pending_in last))) i false
unfolding walked
long_walk_switch c done last i x n d l at = rw (d, l, at) refl

-- a switch takes no value
switch_turn : (name : Text) (c : List Rule) (done : List Given) (s : Standing) (i : ℕ) (x n v : Text)
    → bytes_eq x two_hyphens ≡ false → long_of x ≡ Some (n, Some v)
    → arg_by_long c n ≡ Some (switch_at n) → turn_fault (shape name c) [] (walk_at done s i false) x
    ≡ TooManyValues ∷ []
switch_turn name c done (ready last) i x n v d l at = rw (d, l, at) refl
switch_turn name c done (waits m) i x n v d l at = rw (d, l, at) refl

abbrev waiting_with : Held → Text → ℕ → Walk
waiting_with h n i = record {
  held = record h { pending = Some (n, []) };
  waiting = option n;
  position = i;
  is_trailing = false;
  stopped = None;
}

long_walk_none : (c : List Rule) (done : List Given) (last : Option Given) (i : ℕ) (x n : Text) → bytes_eq x two_hyphens
    ≡ false → long_of x ≡ Some (n, None)
    → arg_by_long c n ≡ Some (option_at n) → walked c [] (walk_at done (ready last) i false) x
    ≡ waiting_with (settled c (held done (pending_in last))) n i
unfolding walked
long_walk_none c done last i x n d l at = rw (d, l, at) refl

unknown_turn : (name : Text) (c : List Rule) (done : List Given) (s : Standing) (i : ℕ) (x n : Text) (v : Option Text)
    → bytes_eq x two_hyphens ≡ false → long_of x ≡ Some (n, v)
    → arg_by_long c n ≡ None → turn_fault (shape name c) [] (walk_at done s i false) x ≡ UnknownArgument ∷ []
unknown_turn name c done (ready last) i x n v d l at = rw (d, l, at) refl
unknown_turn name c done (waits m) i x n v d l at = rw (d, l, at) refl

short_turn : (name : Text) (c : List Rule) (done : List Given) (s : Standing) (i : ℕ) (x flags : Text) (first : ℕ)
    → bytes_eq x two_hyphens ≡ false → long_of x ≡ None
    → short_of x ≡ Some flags → slice_get (chars flags) 0 ≡ Some first → arg_by_short c first ≡ None
    → turn_fault (shape name c) [] (walk_at done s i false) x ≡ UnknownArgument ∷ []
short_turn name c done (ready last) i x flags first d l e k none = rw (
  d,
  l,
  e,
  short_fault_is c flags first done (pending_in last) k none,
) refl
short_turn name c done (waits m) i x flags first d l e k none = rw (
  d,
  l,
  e,
  short_fault_is c flags first done (Some (m, [])) k none,
) refl

-- an option's value: its name is new, or stands twice
react_is : (c : List Rule) (done : List Given) (last : Option Given) (n v : Text) (t : Bool)
    → gives n (all_in done last) ≡ t
    → settle_fault c false (held done (pending_in last)) ≡ [] → settled c (held done (pending_in last))
    ≡ held (all_in done last) None
    → or_else (react_fault c false (option_at n) (v ∷ []) (held done (pending_in last))) []
    ≡ (if t then ArgumentConflict ∷ [] else [])
react_is c done last n v t e none to =
    ap (λ (k : Kinds). or_else (or_else k (or_else (repeat_fault false n (settled c (held done (pending_in last))).rows)
    [])) []) none
    ∙ ap (λ (h : Held). or_else (or_else (repeat_fault false n h.rows) []) []) to
    ∙ go t e
  where
    go : (t : Bool) → gives n (all_in done last) ≡ t
        → or_else (or_else (repeat_fault false n (rows_for (all_in done last))) []) []
        ≡ (if t then ArgumentConflict ∷ [] else [])
    go true e = rw (has_given n (all_in done last), e) refl
    go false e = rw (has_given n (all_in done last), e) refl

reacted_is : (c : List Rule) (done : List Given) (last : Option Given) (n v : Text) → gives n (all_in done last) ≡ false
    → settled c (held done (pending_in last)) ≡ held (all_in done last) None
    → reacted c (option_at n) (v ∷ []) (held done (pending_in last)) ≡ held (all_in done last ++ (n, v) ∷ []) None
reacted_is c done last n v e to =
    ap (λ (h : Held). let after : Held = record (held done (pending_in last)) {
      rows =
          used (option_at n) (v ∷ []) h.rows;
      pending = None;
    } in after) to
    ∙ ap (λ (rows : List Row). let after : Held = record { rows = rows; pending = None; skip = 0 } in
    after) (row_added n v (all_in done last) e)

-- what is said of a word and those after it, and the reading of them
abbrev SaysAt : Text → List Text → List Rule → Walk → List Text → List Given → Option (List Given) → Type 0
SaysAt name places c w words before reading = Says (total name c w words) (ending c w words)
    (accepts places before reading)

-- a word with a fault, where the reading refuses it, or a name stands twice before it
refused_at : (name : Text) (places : List Text) (options : Options) (c : List Rule) (w : Walk) (x : Text)
    (xs : List Text) (given : List Given) (left : List Text) (next : Option Text) (kind : Kind) (k : ErrorKind)
    (ks : Kinds)
    → word_kind x ≡ kind → turn_fault (shape name c) [] w x ≡ k ∷ ks
    → accepts places given (rest_after_word options left next kind x xs (λ others waits. named options others waits xs))
    ≡ None
    → SaysAt name places c w (x ∷ xs) given (named options left next (x ∷ xs))
refused_at name places options c w x xs given left next kind k ks seen fault none =
    refuses name c w x xs _ k ks fault (ap (accepts places given) (one_word options left next x xs kind seen) ∙ none)

-- a word without a fault
goes_at : (name : Text) (places : List Text) (options : Options) (c : List Rule) (w w2 : Walk) (x : Text)
    (xs : List Text) (given more : List Given) (left : List Text) (next : Option Text) (kind : Kind)
    (reading : Option (List Given))
    → word_kind x ≡ kind → turn_fault (shape name c) [] w x ≡ [] → walked c [] w x ≡ w2
    → accepts places given (rest_after_word options left next kind x xs (λ others waits. named options others waits xs))
    ≡ accepts places more reading
    → SaysAt name places c w2 xs more reading → SaysAt name places c w (x ∷ xs) given (named options left next (x ∷ xs))
goes_at name places options c w w2 x xs given more left next kind reading seen clean to same says =
    goes name c w w2 x xs _ clean to
    (subst (λ (o : Option (List Given)). Says (total name c w2 xs) (ending c w2 xs) o)
    (sym (ap (accepts places given) (one_word options left next x xs kind seen) ∙ same)) says)

-- an option with its value, or a switch with the empty one
idle_value : (name : Text) (places : List Text) (options : Options) (c : List Rule) → (x : Text) (xs : List Text)
    → Claim name places options c xs
    → (done : List Given) (last : Option Given) (i : ℕ) (left : List Text) → Left c i left → Settling c done last
    → (n v : Text) (o : Option Text) → word_kind x ≡ long n o
    → turn_fault (shape name c) [] (walk_at done (ready last) i false) x
    ≡ or_else (react_fault c false (option_at n) (v ∷ []) (held done (pending_in last))) []
    → walked c [] (walk_at done (ready last) i false) x
    ≡ between (reacted c (option_at n) (v ∷ []) (held done (pending_in last))) i false
    → rest_after_word options left None (long n o) x xs (λ others waits. named options others waits xs)
    ≡ with_given n v (named options left None xs)
    → SaysAt name places c (walk_at done (ready last) i false) (x ∷ xs) (all_in done last)
    (named options left None (x ∷ xs))
idle_value name places options c x xs rest done last i left l (twice fault again) n v o seen turns goes_to gives_it =
    refused_at name places options c (walk_at done (ready last) i false) x xs (all_in done last) left None
    (long n o) ArgumentConflict [] seen
    (turns ∙ ap (λ (k : Kinds). or_else (or_else k
    (or_else (repeat_fault false n (settled c (held done (pending_in last))).rows) [])) []) fault)
    (accepts_twice places (all_in done last) _ again)
idle_value name places options c x xs rest done last i left l (free none to once) n v o seen turns goes_to gives_it =
    go (gives n (all_in done last)) refl
  where
    turn : (t : Bool) → gives n (all_in done last) ≡ t
        → turn_fault (shape name c) [] (walk_at done (ready last) i false) x ≡ (if t then ArgumentConflict ∷ [] else [])
    turn t g = turns ∙ react_is c done last n v t g none to

    reading : accepts places (all_in done last) (rest_after_word options left None (long n o) x xs
        (λ others waits. named options others waits xs))
        ≡ accepts places (all_in done last ++ (n, v) ∷ []) (named options left None xs)
    reading = ap (accepts places (all_in done last)) gives_it
        ∙ accepts_more places (all_in done last) n v (named options left None xs)

    go : (t : Bool) → gives n (all_in done last) ≡ t
        → SaysAt name places c (walk_at done (ready last) i false) (x ∷ xs) (all_in done last)
        (named options left None (x ∷ xs))
    go true g = refused_at name places options c (walk_at done (ready last) i false) x xs (all_in done last) left None
        (long n o) ArgumentConflict [] seen (turn true g)
        (reading ∙ accepts_twice places (all_in done last ++ (n, v) ∷ []) (named options left None xs)
        (last_again (all_in done last) (n, v) g))
    go false g = goes_at name places options c (walk_at done (ready last) i false) (walk_at (all_in done last
        ++ (n, v) ∷ []) (ready None) i false) x xs
        (all_in done last) (all_in done last ++ (n, v) ∷ []) left None (long n o) (named options left None xs) seen
        (turn false g)
        (goes_to ∙ ap (λ (h : Held). between h i false) (reacted_is c done last n v g to))
        reading
        (rest (all_in done last ++ (n, v) ∷ []) (ready None) i left (last_new (all_in done last) (n, v) once g) tt l)

-- a switch, or nothing known
idle_other : (name : Text) (places : List Text) (options : Options) (c : List Rule) → Setting places options c
    → (x : Text) (xs : List Text) → Claim name places options c xs
    → (done : List Given) (last : Option Given) (i : ℕ) (left : List Text) → Left c i left → Settling c done last
    → (n : Text) (v : Option Text) → bytes_eq x two_hyphens ≡ false → long_of x ≡ Some (n, v) → word_kind x ≡ long n v
    → is_name_among options.valued n ≡ false → (t : Bool) → is_name_among options.switches n ≡ t
    → SaysAt name places c (walk_at done (ready last) i false) (x ∷ xs) (all_in done last)
    (named options left None (x ∷ xs))
idle_other name places options c s x xs rest done last i left l st n v d e seen none false among =
    refused_at name places options c (walk_at done (ready last) i false) x xs (all_in done last) left None
    (long n v) UnknownArgument [] seen
    (unknown_turn name c done (ready last) i x n v d e (other_of name places options c s n false none among))
    (rw (none, among) refl)
idle_other name places options c s x xs rest done last i left l st n None d e seen none true among =
    let at = other_of name places options c s n true none among in
    idle_value name places options c x xs rest done last i left l st n [] None seen
    (long_turn_switch name c done last i x n d e at) (long_walk_switch c done last i x n d e at) (rw (none, among) refl)
idle_other name places options c s x xs rest done last i left l st n (Some v) d e seen none true among =
    refused_at name places options c (walk_at done (ready last) i false) x xs (all_in done last) left None
    (long n (Some v)) TooManyValues [] seen
    (switch_turn name c done (ready last) i x n v d e (other_of name places options c s n true none among))
    (rw (none, among) refl)

idle_long : (name : Text) (places : List Text) (options : Options) (c : List Rule) → Setting places options c
    → (x : Text) (xs : List Text) → Claim name places options c xs
    → (done : List Given) (last : Option Given) (i : ℕ) (left : List Text) → Left c i left → Settling c done last
    → (n : Text) (v : Option Text) → bytes_eq x two_hyphens ≡ false → long_of x ≡ Some (n, v) → word_kind x ≡ long n v
    → (t : Bool) → is_name_among options.valued n ≡ t
    → SaysAt name places c (walk_at done (ready last) i false) (x ∷ xs) (all_in done last)
    (named options left None (x ∷ xs))
idle_long name places options c s x xs rest done last i left l st n v d e seen false among =
    idle_other name places options c s x xs rest done last i left l st n v d e seen among
    (is_name_among options.switches n)
    refl
idle_long name places options c s x xs rest done last i left l (twice fault again) n None d e seen true among =
    refused_at name places options c (walk_at done (ready last) i false) x xs (all_in done last) left None
    (long n None) ArgumentConflict [] seen
    (long_turn_none name c done last i x n d e (option_of name places options c s n among)
    ∙ ap (λ (k : Kinds). or_else k []) fault) (accepts_twice places (all_in done last) _ again)
idle_long name places options c s x xs rest done last i left l (free none to once) n None d e seen true among =
    goes_at name places options c (walk_at done (ready last) i false) (walk_at (all_in done last) (waits n) i false) x
    xs (all_in done last) (all_in done last) left None (long n None) (named options left (Some n) xs) seen
    (long_turn_none name c done last i x n d e (option_of name places options c s n among)
    ∙ ap (λ (k : Kinds). or_else k []) none)
    (long_walk_none c done last i x n d e (option_of name places options c s n among)
    ∙ ap (λ (h : Held). waiting_with h n i) to)
    (rw among refl)
    (rest (all_in done last) (waits n) i left once (s.known n among) l)
idle_long name places options c s x xs rest done last i left l st n (Some v) d e seen true among =
    let at = option_of name places options c s n among in
    idle_value name places options c x xs rest done last i left l st n v (Some v) seen
    (long_turn_value name c done last i x n v d e at) (long_walk_value c done last i x n v d e at) (rw among refl)

idle_plain : (name : Text) (places : List Text) (options : Options) (c : List Rule) → Setting places options c
    → (x : Text) (xs : List Text) → Claim name places options c xs
    → (done : List Given) (last : Option Given) (i : ℕ) (left : List Text) → Left c i left → Settling c done last
    → bytes_eq x two_hyphens ≡ false → long_of x ≡ None → IsBare x → word_kind x ≡ plain
    → SaysAt name places c (walk_at done (ready last) i false) (x ∷ xs) (all_in done last)
    (named options left None (x ∷ xs))
idle_plain name places options c s x xs rest done last i [] l st d e bare seen =
    refused_at name places options c (walk_at done (ready last) i false) x xs (all_in done last) [] None plain
    UnknownArgument [] seen
    (plain_idle_turn name c done last i x d e bare ∙ rw l refl) refl
idle_plain name places options c s x xs rest done last i (n ∷ ns) l (twice fault again) d e bare seen =
    refused_at name places options c (walk_at done (ready last) i false) x xs (all_in done last)
    (n ∷ ns) None plain ArgumentConflict [] seen
    (plain_idle_turn name c done last i x d e bare ∙ place_turn name c i n done (pending_in last) l.0
    ∙ fault) (accepts_twice places (all_in done last) _ again)
idle_plain name places options c s x xs rest done last i (n ∷ ns) l (free none to once) d e bare seen =
    goes_at name places options c (walk_at done (ready last) i false) (walk_at (all_in done last) (ready (Some (n, x)))
    (suc i) false) x xs (all_in done last) (all_in done last ++ (n, x) ∷ []) (n ∷ ns) None plain
    (named options ns None xs) seen
    (plain_idle_turn name c done last i x d e bare ∙ place_turn name c i n done (pending_in last) l.0 ∙ none)
    (plain_idle_walk c done last i x d e bare ∙ to_place c i n x done last false (free none to once) l.0 l.2 to)
    (accepts_more places (all_in done last) n x (named options ns None xs))
    (rest (all_in done last) (ready (Some (n, x))) (suc i) ns once l.1 l.3)

idle_word : (name : Text) (places : List Text) (options : Options) (c : List Rule) → Setting places options c
    → (x : Text) (xs : List Text) → Claim name places options c xs
    → (done : List Given) (last : Option Given) (i : ℕ) (left : List Text) → is_once done ≡ true
    → KnownIn c (ready last) → Left c i left → Looks x
    → SaysAt name places c (walk_at done (ready last) i false) (x ∷ xs) (all_in done last)
    (named options left None (x ∷ xs))
idle_word name places options c s x xs rest done last i left once known l (as_dashes d seen) =
    let step = dashes_idle name c done last i x d in
    goes_at name places options c (walk_at done (ready last) i false) (walk_at done (ready last) i true) x xs
    (all_in done last) (all_in done last) left None dashes (all_placed left xs) seen step.0 step.1 refl
    (trails name places options c s xs done last i left once known l)
idle_word name places options c s x xs rest done last i left once known l (as_long n v d e seen) =
    idle_long name places options c s x xs rest done last i left l (settles c done last once known) n v d e seen
    (is_name_among options.valued n) refl
idle_word name places options c s x xs rest done last i left once known l (as_short flags first d e f k seen) =
    refused_at name places options c (walk_at done (ready last) i false) x xs (all_in done last) left None short
    UnknownArgument [] seen
    (short_turn name c done (ready last) i x flags first d e f k (s.by_short first)) refl
idle_word name places options c s x xs rest done last i left once known l (as_plain d e bare seen) =
    idle_plain name places options c s x xs rest done last i left l (settles c done last once known) d e bare seen

-- ---- a word after an option that waits for its value

dashes_waiting : (name : Text) (c : List Rule) (done : List Given) (n : Text) (i : ℕ) (x : Text)
    → bytes_eq x two_hyphens ≡ true
    → (turn_fault (shape name c) [] (walk_at done (waits n) i false) x ≡ [])
    × (walked c [] (walk_at done (waits n) i false) x ≡ walk_at done (waits n) i true)
unfolding walked
dashes_waiting name c done n i x d = (rw d refl, rw d refl)

long_waiting : (name : Text) (c : List Rule) (done : List Given) (n : Text) (i : ℕ) (x m : Text) (v : Option Text)
    → Known c n → bytes_eq x two_hyphens ≡ false → long_of x ≡ Some (m, v)
    → arg_by_long c m ≡ Some (option_at m) → turn_fault (shape name c) [] (walk_at done (waits n) i false) x
    ≡ InvalidValue ∷ []
long_waiting name c done n i x m None k d l at = rw (d, l, at, waiting_fault c done n k) refl
long_waiting name c done n i x m (Some v) k d l at = rw (d, l, at, waiting_fault c done n k) refl

switch_waiting : (name : Text) (c : List Rule) (done : List Given) (n : Text) (i : ℕ) (x m : Text) → Known c n
    → bytes_eq x two_hyphens ≡ false → long_of x ≡ Some (m, None)
    → arg_by_long c m ≡ Some (switch_at m) → turn_fault (shape name c) [] (walk_at done (waits n) i false) x
    ≡ InvalidValue ∷ []
switch_waiting name c done n i x m k d l at = rw (d, l, at, waiting_fault c done n k) refl

plain_waiting : (name : Text) (c : List Rule) (done : List Given) (n : Text) (i : ℕ) (x : Text) → Known c n
    → bytes_eq x two_hyphens ≡ false → long_of x ≡ None → IsBare x
    → (turn_fault (shape name c) [] (walk_at done (waits n) i false) x ≡ [])
    × (walked c [] (walk_at done (waits n) i false) x ≡ walk_at done (ready (Some (n, x))) i false)
unfolding walked
plain_waiting name c done n i x k d l bare = (
  rw (d, l, bare_met c (option n) x done (Some (n, [])) bare, bare_fault c x done (Some (n, [])) bare) refl,
  rw (d, l, bare_met c (option n) x done (Some (n, [])) bare, k.3, same_bytes n) refl,
)

waiting_word : (name : Text) (places : List Text) (options : Options) (c : List Rule) → Setting places options c
    → (x : Text) (xs : List Text) → Claim name places options c xs
    → (done : List Given) (n : Text) (i : ℕ) (left : List Text) → is_once done ≡ true → Known c n → Left c i left
    → Looks x
    → SaysAt name places c (walk_at done (waits n) i false) (x ∷ xs) done (named options left (Some n) (x ∷ xs))
waiting_word name places options c s x xs rest done n i left once known l (as_dashes d seen) =
    let step = dashes_waiting name c done n i x d in
    goes_at name places options c (walk_at done (waits n) i false) (walk_at done (waits n) i true) x xs done done left
    (Some n) dashes None seen step.0 step.1 refl
    (still_waits name c n done i left xs known l)
waiting_word name places options c s x xs rest done n i left once known l (as_long m v d e seen) =
    go (is_name_among options.valued m) refl
  where
    stops : (k : ErrorKind) → turn_fault (shape name c) [] (walk_at done (waits n) i false) x ≡ k ∷ []
        → SaysAt name places c (walk_at done (waits n) i false) (x ∷ xs) done (named options left (Some n) (x ∷ xs))
    stops k fault = refused_at name places options c (walk_at done (waits n) i false) x xs done left (Some n)
        (long m v) k [] seen fault refl

    at_switch : (o : Option Text) → long_of x ≡ Some (m, o) → arg_by_long c m ≡ Some (switch_at m)
        → SaysAt name places c (walk_at done (waits n) i false) (x ∷ xs) done (named options left (Some n) (x ∷ xs))
    at_switch None f at = stops InvalidValue (switch_waiting name c done n i x m known d f at)
    at_switch (Some w) f at = stops TooManyValues (switch_turn name c done (waits n) i x m w d f at)

    other : (t : Bool) → is_name_among options.valued m ≡ false → is_name_among options.switches m ≡ t
        → SaysAt name places c (walk_at done (waits n) i false) (x ∷ xs) done (named options left (Some n) (x ∷ xs))
    other false none among = stops UnknownArgument (unknown_turn name c done (waits n) i x m v d e
        (other_of name places options c s m false none among))
    other true none among = at_switch v e (other_of name places options c s m true none among)

    go : (t : Bool) → is_name_among options.valued m ≡ t
        → SaysAt name places c (walk_at done (waits n) i false) (x ∷ xs) done (named options left (Some n) (x ∷ xs))
    go true among = stops InvalidValue (long_waiting name c done n i x m v known d e
        (option_of name places options c s m among))
    go false among = other (is_name_among options.switches m) among refl
waiting_word name places options c s x xs rest done n i left once known l (as_short flags first d e f k seen) =
    refused_at name places options c (walk_at done (waits n) i false) x xs done left (Some n) short UnknownArgument []
    seen
    (short_turn name c done (waits n) i x flags first d e f k (s.by_short first)) refl
waiting_word name places options c s x xs rest done n i left once known l (as_plain d e bare seen) =
    let step = plain_waiting name c done n i x known d e bare in
    goes_at name places options c (walk_at done (waits n) i false) (walk_at done (ready (Some (n, x))) i false) x xs
    done (done ++ (n, x) ∷ []) left (Some n) plain (named options left None xs) seen step.0 step.1
    (accepts_more places done n x (named options left None xs))
    (rest done (ready (Some (n, x))) i left once known l)

-- ---- all words

walks : (name : Text) (places : List Text) (options : Options) (c : List Rule) → Setting places options c
    → (xs : List Text) → Claim name places options c xs
unfolding total named
walks name places options c s [] done (ready last) i left once known l =
    at_end name places options c s done last once known
walks name places options c s [] done (waits n) i left once known l =
    says_none (after name c (held done (Some (n, [])))) (ending c (walk_at done (waits n) i false) []) None InvalidValue
    [] (rw (waiting_fault c done n known) refl) refl
walks name places options c s (x ∷ xs) done (ready last) i left once known l =
    idle_word name places options c s x xs (walks name places options c s xs) done last i left once known l (looks x)
walks name places options c s (x ∷ xs) done (waits n) i left once known l =
    waiting_word name places options c s x xs (walks name places options c s xs) done n i left once known l (looks x)

-- the walk over all words says what is taken
pub all_words : (name : Text) (places : List Text) (options : Options) (c : List Rule) → Setting places options c
    → Left c 1 places → (words : List Text)
    → Says (total name c (walk_at [] (ready None) 1 false) words) (ending c (walk_at [] (ready None) 1 false) words)
    (taken places options words)
unfolding is_once
all_words name places options c s l words =
    subst (λ (o : Option (List Given)). Says (total name c (walk_at [] (ready None) 1 false) words)
    (ending c (walk_at [] (ready None) 1 false) words) o)
    (accepts_start places (named options places None words))
    (walks name places options c s words [] (ready None) 1 places refl tt l)
