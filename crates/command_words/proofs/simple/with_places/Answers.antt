use Rattle.std.proofs.Common.{◌≡◌, ◌∙◌, ◌+◌, ap, rules, drop, map}
use Rattle.clap.specs.Words.{App, rule_of}
use Rattle.command_words.specs.Clap.{place_rule, texts, with_rules}
use Rattle.command_words.proofs.Building.{step_rules}
use Rattle.command_words.proofs.simple.with_places.Goals as goal

pub loop-place-preserved : goal.loop-place-preserved
loop-place-preserved c =
    let rule : rule_of c.required.result ≡ place_rule c.new.result.id.now = search rules in
    ap (λ (a : App). with_rules a (map place_rule (texts (drop (c.loop-place.place-index + 1) c.args.places.now))))
    (c.in_ok-command.ensures.shape (search rules))
    ∙ step_rules place_rule _ _ c.args.places.now c.loop-place.place-index _ c.new.result.id c.loop-place-test.true
    c.new.ensures.id rule ∙ c.loop-place.invariant
