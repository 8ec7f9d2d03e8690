use Rattle.std.proofs.Common.{◌≡◌, ◌∙◌, ◌+◌, ap, rules, drop, map}
use Rattle.clap.specs.Words.{App, rule_of}
use Rattle.command_words.specs.Clap.{option_rule, texts, with_rules}
use Rattle.command_words.proofs.Building.{step_rules}
use Rattle.command_words.proofs.simple.with_options.Goals as goal

pub loop-option-preserved : goal.loop-option-preserved
loop-option-preserved c =
    let rule : rule_of c.long.result ≡ option_rule c.new.result.id.now = search rules in
    ap (λ (a : App). with_rules a (map option_rule (texts (drop (c.loop-option.option-index + 1) c.args.options.now))))
    (c.in_ok-command.ensures.shape (search rules))
    ∙ step_rules option_rule _ _ c.args.options.now c.loop-option.option-index _ c.new.result.id c.loop-option-test.true
    c.new.ensures.id rule ∙ c.loop-option.invariant
