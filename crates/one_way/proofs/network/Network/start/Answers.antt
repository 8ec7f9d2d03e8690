use Rattle.std.proofs.Common.{[], refl}
use Rattle.one_way.proofs.network.Network.start.Goals as goal

pub returns : goal.returns
returns c = record {
  way_is = c.in_ok-start.ensures;
  said = c.in_ok-start-2.ensures.said;
  messages_are = record { pairs = []; holds = c.in_ok-start-2.ensures; same = refl };
}
