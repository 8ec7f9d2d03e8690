-- What the words of a simple command say: a command with positional words, each required and in
-- this order, with options that each take one value, and with switches that take none. An option
-- and a switch stand at most once.
use Rattle.std.specs.Prelude.{ℕ, Bool, true, not, ◌&&◌, List, [], ◌∷◌, Option, Some, None, is_some, option_map, option_and_then, find, if◌then◌else◌, slice_get}
use Rattle.std.specs.List.{list_all, list_any}
use Rattle.std.specs.Str.{bytes_eq, chars}
use Rattle.clap.specs.Lexer.{long_of, short_of}
use Rattle.h263_types.specs.Texts.{Text}

-- the name of a positional word or of an option, and the value that the words give it
abbrev pub Given : Type 0
Given = Text × Text

-- the names of the options that take a value, and of the switches
pub record Options : Type 0 where
  pub valued : List Text
  pub switches : List Text

-- what a word looks like
pub data Kind : Type 0 where
  -- `--`, after which each word is positional
  dashes : Kind
  -- `--name`, whose value is the next word, or `--name=value`
  long : (name : Text) (value : Option Text) → Kind
  -- `-` and a character that isn't `-`
  short : Kind
  -- anything else: the empty text and `-` too
  plain : Kind

-- a hyphen, a character that is none, and perhaps more
abbrev pub is_short : Text → Bool
is_short word = is_some (option_and_then (λ flags. slice_get (chars flags) 0) (short_of word))

abbrev pub kind_after : Option (Text × Option Text) → Text → Kind
kind_after (Some p) word = long p.0 p.1
kind_after None word = if is_short word then short else plain

abbrev pub word_kind : Text → Kind
word_kind word = if bytes_eq word (45 ∷ 45 ∷ []) then dashes else kind_after (long_of word) word

abbrev pub is_name_among : List Text → Text → Bool
is_name_among names name = list_any (λ n. bytes_eq n name) names

abbrev pub with_given : Text → Text → Option (List Given) → Option (List Given)
with_given name value = option_map (λ rest. (name, value) ∷ rest)

-- how the reading goes on: with the positional words that are still to come, and the option that
-- waits for its value
abbrev pub Rest : Type 0
Rest = List Text → Option Text → Option (List Given)

-- the word is the next positional one
abbrev pub at_place : List Text → Text → Rest → Option (List Given)
at_place [] word rest = None
at_place (name ∷ places) word rest = with_given name word (rest places None)

abbrev pub at_option : List Text → Text → Option Text → Rest → Option (List Given)
at_option places name (Some value) rest = with_given name value (rest places None)
at_option places name None rest = rest places (Some name)

-- a switch gives the empty value
abbrev pub at_switch : List Text → Text → Option Text → Rest → Option (List Given)
at_switch places name (Some value) rest = None
at_switch places name None rest = with_given name [] (rest places None)

-- each word is positional
unfoldable pub all_placed : List Text → List Text → Option (List Given)
all_placed places [] = Some []
all_placed places (word ∷ words) = at_place places word (λ others waits. all_placed others words)

abbrev pub rest_after_word : Options → (places : List Text)
    → Option Text → Kind → Text → List Text → Rest → Option (List Given)
rest_after_word options places (Some name) plain word words rest =
    with_given name word (rest places None)
rest_after_word options places (Some name) _ word words rest = None
rest_after_word options places None plain word words rest = at_place places word rest
rest_after_word options places None dashes word words rest = all_placed places words
rest_after_word options places None (long name value) word words rest =
    if is_name_among options.valued name then at_option places name value rest
    else if is_name_among options.switches name then at_switch places name value rest
    else None
rest_after_word options places None short word words rest = None

-- the values that the words give, in their order, where the positional words still to come have the
-- names `places`
unfoldable pub named : Options → (places : List Text)
    → Option Text → List Text → Option (List Given)
named options places (Some name) [] = None
named options places None [] = Some []
named options places waits (word ∷ words) =
    rest_after_word options places waits (word_kind word) word words
    (λ others next. named options others next words)

-- these values have one of this name
abbrev pub gives : Text → List Given → Bool
gives name given = list_any (λ g. bytes_eq g.0 name) given

-- the value of this name
abbrev pub value : List Given → Text → Option Text
value given name = option_map (λ g. g.1) (find (λ g. bytes_eq g.0 name) given)

-- no name stands twice
unfoldable pub is_once : List Given → Bool
is_once [] = true
is_once (g ∷ given) = not (list_any (λ other. bytes_eq g.0 other.0) given) && is_once given

-- each positional word is there, and no option stands twice
abbrev pub are_words_whole : List Text → List Given → Bool
are_words_whole places given = is_once given && list_all (λ name. gives name given) places

abbrev pub whole_or_none : List Text → Option (List Given) → Option (List Given)
whole_or_none places None = None
whole_or_none places (Some given) = if are_words_whole places given then Some given else None

-- what the words give, where a simple command with these positional words and options takes them
abbrev pub taken : (places : List Text) → Options → (words : List Text) → Option (List Given)
taken places options words = whole_or_none places (named options places None words)
