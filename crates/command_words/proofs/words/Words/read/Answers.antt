use Rattle.std.proofs.Common.{◌∙◌, Some, ap, drop}
use Rattle.std.specs.Prelude.{option_map}
use Rattle.clap.specs.Words.{first_value, found_of}
use Rattle.command_words.specs.Asked.{asking}
use Rattle.command_words.specs.Clap.{texts}
use Rattle.command_words.specs.View.{form_row}
use Rattle.command_words.proofs.Reading.{answered}
use Rattle.command_words.proofs.words.Words.read.Goals as goal

pub returns-in_default-command_of-clause-answer : goal.returns-in_default-command_of-clause-answer
returns-in_default-command_of-clause-answer c = λ u.
    answered (form_row c.in-Some.form) (texts c.args.words.now) (drop 1 (texts c.args.words.now)) c.in_ok-given.given
    c.command_of.result
    c.in-Some.ensures c.in_ok-given.ensures c.command_of.ensures.value
    ∙ ap (option_map (asking (first_value (found_of c.in_ok-given.given)))) c.in_default-command_of.is

pub returns-clause-answer : goal.returns-clause-answer
returns-clause-answer c =
    answered (form_row c.in-Some.form) (texts c.args.words.now) (drop 1 (texts c.args.words.now)) c.in_ok-given.given
    (Some c.in-Some-command_of.command)
    c.in-Some.ensures c.in_ok-given.ensures c.in-Some-command_of.ensures.value
