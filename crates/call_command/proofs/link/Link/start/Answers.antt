use Rattle.std.proofs.Common.{ℕ, rules, subst}
use Rattle.one_way.specs.Way.{IsNewNetwork}
use Rattle.call_command.proofs.link.Link.start.Goals as goal

pub returns : goal.returns
returns c = record {
  lines = c.new.ensures.lines;
  ended = c.new.ensures.ended;
  frame = search rules;
  network_is = subst (λ (n : ℕ). IsNewNetwork c.args.terms.now.params n c.in_ok-start.field-0) c.kept.ensures
      c.in_ok-start.ensures;
}
