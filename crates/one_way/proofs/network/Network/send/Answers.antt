use Rattle.one_way.proofs.network.Network.send.Goals as goal

pub returns-clause-holds : goal.returns-clause-holds
returns-clause-holds c = λ p receiver before frames past h at near.
    record {
      way_holds = c.send.ensures.holds p receiver before frames past h.way_holds at near;
      messages_are = h.messages_are;
    }
