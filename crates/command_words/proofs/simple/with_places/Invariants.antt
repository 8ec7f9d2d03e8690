use Rattle.std.proofs.Common.{◌≡◌, map, drop}
use Rattle.clap.specs.Words.{app_of}
use Rattle.command_words.specs.Clap.{texts, with_rules, place_rule}
use Rattle.command_words.proofs.simple.with_places.Given as goal

-- with the rest the command has what it is to have
abbrev pub invariant-loop-place : goal.invariant-loop-place
invariant-loop-place l = with_rules (app_of l.command) (map place_rule (texts (drop l.place-index l.places)))
    ≡ with_rules (app_of l.initial.command) (map place_rule (texts l.places))
