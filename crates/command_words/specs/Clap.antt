-- A simple command as `clap` has it.
use Rattle.std.specs.Prelude.{◌≡◌, true, List, [], ◌∷◌, ◌++◌, map, Option, Some, None}
use Rattle.std.specs.Borrow.{Bor}
use Rattle.clap.specs.Words.{App, Rule, new_rule, first_value, found_of}
use Rattle.clap.specs.declared.builder.action.ArgAction.TheVariants.{Set}
use Rattle.clap.specs.declared.parser.matches.ArgMatches.{ArgMatches}
use Rattle.clap.specs.declared.error.kind.ErrorKind.{ErrorKind}
use Rattle.clap.specs.declared.error.kind.ErrorKind.TheVariants.{OutOfMemory as NoMemory}
use Rattle.command_words.specs.declared.simple.WordStop.{WordStop}
use Rattle.command_words.specs.declared.simple.WordStop.TheVariants.{OutOfMemory, Usage}
use Rattle.h263_types.specs.Texts.{Text}
use Rattle.command_words.specs.Simple.{Given, value}

-- the texts behind references
abbrev pub texts : List (Bor Text) → List Text
texts = map (λ s. s.now)

-- why there are no values, by `clap`'s kind of error
abbrev pub stop_by : ErrorKind → WordStop
stop_by NoMemory = OutOfMemory
stop_by _ = Usage

-- a positional word, which has to be there
abbrev pub place_rule : Text → Rule
place_rule name = record (new_rule name) { required = true }

-- an option with one value
abbrev pub option_rule : Text → Rule
option_rule name = record (new_rule name) { long = Some name }

-- a switch: an option whose use has no value, and stands for the empty one
abbrev pub switch_rule : Text → Rule
switch_rule name = record (new_rule name) {
  long = Some name;
  action = Some Set;
  range = Some (record { start_inclusive = 0; end_inclusive = 0 });
  missing = [] ∷ [];
}

abbrev pub with_rules : App → List Rule → App
with_rules a rules = record a { top = record a.top { rules = a.top.rules ++ rules } }

-- the matches have just the values that were given
abbrev pub Finds : ArgMatches → Option (List Given) → Type 0
Finds m None = ⊥
Finds m (Some given) = (name : Text) → first_value (found_of m) name ≡ value given name
