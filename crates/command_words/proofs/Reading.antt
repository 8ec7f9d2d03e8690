-- What words ask for, from what a simple command takes.
use Rattle.std.proofs.Common.{◌≡◌, ◌∙◌, List, Option, Some, None, refl, ap, sym}
use Rattle.std.specs.Prelude.{option_and_then, option_map}
use mathlib.Core.Path.{fun_ext}
use Rattle.clap.specs.Words.{first_value, found_of}
use Rattle.clap.specs.declared.parser.matches.ArgMatches.{ArgMatches}
use Rattle.command_words.specs.declared.command.Command.{Command}
use Rattle.h263_types.specs.Texts.{Text}
use Rattle.command_words.specs.Simple.{Given, taken, value}
use Rattle.command_words.specs.Clap.{Finds}
use Rattle.command_words.specs.Asked.{Asked, Lookup, Row, asked, asked_by, asking}

-- what these values ask for
abbrev asking_of : Row → Lookup → Option Asked
asking_of row given = option_map (asking given) (row.asks given)

-- what the matches of the words after the first ask for
asks : (row : Row) (words : List Text) (m : ArgMatches) → Finds m (taken row.places row.options words)
    → asked_by row words ≡ asking_of row (first_value (found_of m))
asks row words m finds = go (taken row.places row.options words) refl finds
  where
    go : (o : Option (List Given)) → taken row.places row.options words ≡ o → Finds m o
        → asked_by row words ≡ asking_of row (first_value (found_of m))
    go None e f = absurd f
    go (Some given) e f = ap (option_and_then (λ (g : List Given). asking_of row (value g))) e
        ∙ ap (asking_of row) (sym (fun_ext f))

-- the command that was read, or none
pub answered : (row : Row) (whole words : List Text) (m : ArgMatches) (o : Option Command)
    → asked whole ≡ asked_by row words
    → Finds m (taken row.places row.options words) → o ≡ row.asks (first_value (found_of m))
    → asked whole ≡ option_map (asking (first_value (found_of m))) o
answered row whole words m o is finds same =
    is ∙ (asks row words m finds ∙ ap (option_map (asking (first_value (found_of m)))) (sym same))
