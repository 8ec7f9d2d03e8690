use Rattle.std.proofs.Common.{◌≡◌, map, drop}
use Rattle.clap.specs.Words.{app_of}
use Rattle.command_words.specs.Clap.{texts, with_rules, option_rule}
use Rattle.command_words.proofs.simple.with_options.Given as goal

-- with the rest the command has what it is to have
abbrev pub invariant-loop-option : goal.invariant-loop-option
invariant-loop-option l = with_rules (app_of l.command) (map option_rule (texts (drop l.option-index l.options)))
    ≡ with_rules (app_of l.initial.command) (map option_rule (texts l.options))
