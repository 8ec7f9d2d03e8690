use Rattle.std.proofs.Common.{◌≡◌, ◌∙◌, ◌≤◌, ap, map, length}
use Rattle.std.proofs.lemmas.List.{length-map}
use Rattle.clap.specs.Words.{app_of}
use Rattle.clap.specs.Simple.{app_of_fields}
use Rattle.command_words.specs.Clap.{option_rule, place_rule, switch_rule, texts, with_rules}
use Rattle.command_words.specs.View.{form_row}
use Rattle.command_words.proofs.Parsing.{finds, refuses_words, simple_app, start, started, stopped_by}
use Rattle.command_words.proofs.simple.parse.Goals as goal

pub returns : goal.returns
returns c =
    let row = form_row c.args.form in
    let new : app_of c.disable_help_flag-command.result
    ≡ start _ = started _ _ _ c.new.ensures.app (ap app_of_fields c.disable_help_flag-command.ensures) in
    let whole : app_of c.in_ok-command-3.command ≡ simple_app _ row.places row.options =
    c.in_ok-command-3.ensures
    ∙ (λ i. with_rules (c.in_ok-command-2.ensures i) (map switch_rule (c.switches.ensures i)))
    ∙ (λ i. with_rules (with_rules (c.in_ok-command.ensures i) (map option_rule (c.options.ensures i)))
    (map switch_rule row.options.switches))
    ∙ (λ i. with_rules (with_rules (with_rules (new i) (map place_rule (c.places.ensures.value i)))
    (map option_rule row.options.valued)) (map switch_rule row.options.switches)) in
    let small : length row.places ≤ 16 = rw (← c.places.ensures.value, length-map) c.places.ensures.few in
    finds _ row.places row.options (texts c.args.words.now) _ _ small whole c.in_ok-try_get_matches_from.ensures.kinds
    c.in_ok-try_get_matches_from.ensures.matches

pub returns-in_err-try_get_matches_from : goal.returns-in_err-try_get_matches_from
returns-in_err-try_get_matches_from c =
    let row = form_row c.args.form in
    let new : app_of c.disable_help_flag-command.result
    ≡ start _ = started _ _ _ c.new.ensures.app (ap app_of_fields c.disable_help_flag-command.ensures) in
    let whole : app_of c.in_ok-command-3.command ≡ simple_app _ row.places row.options =
    c.in_ok-command-3.ensures
    ∙ (λ i. with_rules (c.in_ok-command-2.ensures i) (map switch_rule (c.switches.ensures i)))
    ∙ (λ i. with_rules (with_rules (c.in_ok-command.ensures i) (map option_rule (c.options.ensures i)))
    (map switch_rule row.options.switches))
    ∙ (λ i. with_rules (with_rules (with_rules (new i) (map place_rule (c.places.ensures.value i)))
    (map option_rule row.options.valued)) (map switch_rule row.options.switches)) in
    let small : length row.places ≤ 16 = rw (← c.places.ensures.value, length-map) c.places.ensures.few in
    stopped_by _ _ c.in_err-try_get_matches_from.field-0.0 _ _ c.from_residual-in_err-try_get_matches_from.ensures
    (refuses_words _ row.places row.options (texts c.args.words.now) _ c.in_err-try_get_matches_from.field-0.0 small
    whole c.in_err-try_get_matches_from.ensures.kinds)
