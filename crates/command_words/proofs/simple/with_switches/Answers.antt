use Rattle.std.proofs.Common.{◌≡◌, ◌∙◌, ◌+◌, Option, Some, None, IsSomeAnd, ap, rules, drop, map}
use Rattle.clap.specs.Words.{App, rule_of}
use Rattle.clap.specs.declared.builder.range.ValueRange.{ValueRange}
use Rattle.command_words.specs.Clap.{switch_rule, texts, with_rules}
use Rattle.command_words.proofs.Building.{step_rules}
use Rattle.command_words.proofs.simple.with_switches.Goals as goal

some_is : (o : Option ValueRange) (range : ValueRange) → IsSomeAnd o (λ r. r ≡ range) → o ≡ Some range
some_is None range is = absurd is
some_is (Some r) range is = ap (λ (x : ValueRange). Some x) is

pub loop-switch-preserved : goal.loop-switch-preserved
loop-switch-preserved c =
    let none : ValueRange = record { start_inclusive = 0; end_inclusive = 0 } in
    let range = some_is c.num_args-arg.result.num_vals none c.num_args-arg.ensures.1 in
    let rule : rule_of c.default_missing_value.result ≡ switch_rule c.new.result.id.now = search (rules, range) in
    ap (λ (a : App). with_rules a (map switch_rule (texts (drop (c.loop-switch.switch-index + 1) c.args.switches.now))))
    (c.in_ok-command.ensures.shape (search rules))
    ∙ step_rules switch_rule _ _ c.args.switches.now c.loop-switch.switch-index
    _ c.new.result.id c.loop-switch-test.true c.new.ensures.id rule ∙ c.loop-switch.invariant
