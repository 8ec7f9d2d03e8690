use Rattle.std.proofs.Common.{[], refl, ap}
use Rattle.one_way.specs.declared.tally.Tally.{Tally}
use Rattle.group_call.proofs.viewer.Viewer.start.Goals as goal

pub returns-clause-holds : goal.returns-clause-holds
returns-clause-holds c = record {
  params = c.in_ok-receiver.ensures.params;
  receives = c.in_ok-receiver.ensures.stands;
  messages = record { pairs = []; holds = c.in_ok-messages.ensures; same = refl };
  marks = record {
    exact = ap (λ (t : Tally). t.exact) c.new.ensures;
    patched = ap (λ (t : Tally). t.patched) c.new.ensures;
    held = ap (λ (t : Tally). t.held) c.new.ensures;
  };
}
