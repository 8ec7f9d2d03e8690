use Rattle.std.proofs.Common.{◌≡◌, map, drop}
use Rattle.clap.specs.Words.{app_of}
use Rattle.command_words.specs.Clap.{texts, with_rules, switch_rule}
use Rattle.command_words.proofs.simple.with_switches.Given as goal

-- with the rest the command has what it is to have
abbrev pub invariant-loop-switch : goal.invariant-loop-switch
invariant-loop-switch l = with_rules (app_of l.command) (map switch_rule (texts (drop l.switch-index l.switches)))
    ≡ with_rules (app_of l.initial.command) (map switch_rule (texts l.switches))
