-- The roles of a command, found among all roles by their words.
use Rattle.std.proofs.Common.{◌≡◌, ℕ, ◌+◌, ◌<◌, ◌++◌, true, false, List, [], ◌∷◌, length, take, drop, set, get_or, Option, Some, None, refl, sym, ap, ◌∙◌}
use Rattle.std.proofs.lemmas.List.{append_assoc, at_drop_more, map-append}
use Rattle.std.proofs.lemmas.Grind.{take-set_at}
use Rattle.std.specs.Borrow.{Bor}
use Rattle.std.specs.Prelude.{Bool, codes, map, nat_le, option_and_then, if◌then◌else◌}
use Rattle.std.specs.List.{AllByRecursion}
use Rattle.h263_outside.specs.declared.desk.Role.{Role}
use Rattle.h263_outside.specs.declared.desk.Role.TheVariants.{Video, Video2, Events, Pictures, Pictures2, Wire}
use Rattle.h263_types.specs.Texts.{Text}
use Rattle.command_words.specs.declared.command.Command.{Command}
use Rattle.command_words.specs.declared.command.Command.TheVariants.{Call, Send, Recv, Demo, Rate, Audit, Duplex, Group}
use Rattle.command_words.specs.Asked.{Asked, HasNames, IsGiven, Lookup, Roles, asking, name_in, roles, word_for}
use Rattle.desk_program.specs.Attached.{names}
use Rattle.h263rps_run.specs.Output.{roles_of, the_word}

-- a role with its word, if it has one
abbrev pub with_word : Role → Option Text → List (Role × Text)
with_word r None = []
with_word r (Some text) = (r, text) ∷ []

-- those of these roles that have a word
abbrev pub named : Asked → List Role → List (Role × Text)
named a [] = []
named a (r ∷ rest) = with_word r (word_for a r) ++ named a rest

-- in which order they are attached
abbrev pub order : List Role
order = Video ∷ Video2 ∷ Events ∷ Pictures ∷ Pictures2 ∷ Wire ∷ []

there : (r : Role) (word : Option Text) → IsGiven word → with_word r word ≡ (r, the_word word) ∷ []
there r None given = absurd given
there r (Some text) given = refl

-- a group's roles, by whether there is a second receiver, and a third one
abbrev pub group_by : Bool → Bool → Roles
group_by two three =
    (Video, codes "in") ∷ (Events, codes "trace") ∷ (Pictures, codes "out")
    ∷ (if two then (Pictures2, codes "out2") ∷ [] else [])
    ++ (if three then (Wire, codes "out3") ∷ [] else [])

module _ (given : Lookup) where
  abbrev word_in : Roles → Role → Option Text
  word_in of r = option_and_then given (name_in of r)

  -- those of these roles that have a word, in the order, and all with their words
  abbrev in_order : Roles → List (Role × Text)
  in_order of =
      with_word Video (word_in of Video) ++ (with_word Video2 (word_in of Video2)
      ++ (with_word Events (word_in of Events)
      ++ (with_word Pictures (word_in of Pictures) ++ (with_word Pictures2 (word_in of Pictures2)
      ++ (with_word Wire (word_in of Wire) ++ [])))))

  abbrev with_words : Roles → List (Role × Text)
  with_words of = map (λ r. (r.0, the_word (given r.1))) of

  group_named : (two three : Bool) → AllByRecursion (λ (r : Role × Text). IsGiven (given r.1)) (group_by two three)
      → in_order (group_by two three) ≡ with_words (group_by two three)
  group_named false false names =
      λ i. there Video (given (codes "in")) names.0 i ++ (there Events (given (codes "trace")) names.1.0 i
      ++ (there Pictures (given (codes "out")) names.1.1.0 i ++ []))
  group_named true false names =
      λ i. there Video (given (codes "in")) names.0 i ++ (there Events (given (codes "trace")) names.1.0 i
      ++ (there Pictures (given (codes "out")) names.1.1.0 i
      ++ (there Pictures2 (given (codes "out2")) names.1.1.1.0 i ++ [])))
  group_named false true names =
      λ i. there Video (given (codes "in")) names.0 i ++ (there Events (given (codes "trace")) names.1.0 i
      ++ (there Pictures (given (codes "out")) names.1.1.0 i ++ (there Wire (given (codes "out3")) names.1.1.1.0 i
      ++ [])))
  group_named true true names =
      λ i. there Video (given (codes "in")) names.0 i ++ (there Events (given (codes "trace")) names.1.0 i
      ++ (there Pictures (given (codes "out")) names.1.1.0 i
      ++ (there Pictures2 (given (codes "out2")) names.1.1.1.0 i
      ++ (there Wire (given (codes "out3")) names.1.1.1.1.0 i ++ []))))

-- a command's roles have a word each, and no other role has one
roles_named : (c : Command) (given : Lookup) → AllByRecursion (λ (r : Role × Text). IsGiven (given r.1)) (roles c)
    → named (asking given c) order ≡ roles_of c (asking given c)
roles_named (Call params false) given names =
    λ i. there Video (given (codes "in")) names.0 i ++ (there Pictures (given (codes "out")) names.1.0 i ++ [])
roles_named (Call params true) given names =
    λ i. there Video (given (codes "in")) names.0 i ++ (there Events (given (codes "trace")) names.1.0 i
    ++ (there Pictures (given (codes "out")) names.1.1.0 i ++ []))
roles_named (Send params target fit) given names =
    λ i. there Video (given (codes "in")) names.0 i ++ (there Events (given (codes "log")) names.1.0 i
    ++ (there Wire (given (codes "wire")) names.1.1.0 i ++ []))
roles_named (Recv params join) given names =
    λ i. there Events (given (codes "log")) names.0 i ++ (there Pictures (given (codes "out")) names.1.0 i
    ++ (there Wire (given (codes "wire")) names.1.1.0 i ++ []))
roles_named (Demo params seed frames) given names = refl
roles_named (Rate target bucket) given names = λ i. there Events (given (codes "log")) names.0 i ++ []
roles_named (Audit params) given names = λ i. there Events (given (codes "log")) names.0 i ++ []
roles_named (Duplex params) given names =
    λ i. there Video (given (codes "in1")) names.0 i ++ (there Video2 (given (codes "in2")) names.1.0 i
    ++ (there Events (given (codes "trace")) names.1.1.0 i ++ (there Pictures (given (codes "out1")) names.1.1.1.0 i
    ++ (there Pictures2 (given (codes "out2")) names.1.1.1.1.0 i ++ []))))
roles_named (Group params n) given names = group_named given (nat_le 2 n) (nat_le 3 n) names

-- ---- one after the other

next : (a : Asked) (at : ℕ) → at < 6 → (word : Option Text) → word_for a (get_or order at Video) ≡ word
    → named a (drop at order) ≡ with_word (get_or order at Video) word ++ named a (drop (at + 1) order)
next a at more word is =
    at_drop_more (named a) order at Video more
    ∙ ap (λ (o : Option Text). with_word (get_or order at Video) o ++ named a (drop (at + 1) order)) is

-- one that has a word is put after those before it
pub put : (a : Asked) (places : List (Role × Bor Text)) (count at : ℕ) (word : Bor Text) (all : List (Role × Text))
    → at < 6 → count < length places
    → word_for a (get_or order at Video) ≡ Some word.now → names (take count places) ++ named a (drop at order) ≡ all
    → names (take (count + 1) (set places count (get_or order at Video, word))) ++ named a (drop (at + 1) order) ≡ all
put a places count at word all more room is so_far =
    let role = get_or order at Video in
    let rest = named a (drop (at + 1) order) in
    ap (λ (l : List (Role × Bor Text)). names l ++ rest) (take-set_at places count (count + 1) (role, word) refl room)
    ∙ ap (λ (l : List (Role × Text)). l ++ rest) (map-append (λ (p : Role × Bor Text). (p.0, p.1.now))
    (take count places) ((role, word) ∷ []))
    ∙ append_assoc (names (take count places)) ((role, word.now) ∷ []) rest
    ∙ ap (λ (l : List (Role × Text)). names (take count places) ++ l) (sym (next a at more (Some word.now) is))
    ∙ so_far

-- one that has none is passed over
pub passed : (a : Asked) (done all : List (Role × Text)) (at : ℕ) → at < 6 → word_for a (get_or order at Video) ≡ None
    → done ++ named a (drop at order) ≡ all → done ++ named a (drop (at + 1) order) ≡ all
passed a done all at more none so_far = ap (λ (l : List (Role × Text)). done ++ l) (sym (next a at more None none))
    ∙ so_far

pub all_named : (a : Asked) → HasNames a → named a order ≡ roles_of a.command a
all_named a names = roles_named a.command a.given names
