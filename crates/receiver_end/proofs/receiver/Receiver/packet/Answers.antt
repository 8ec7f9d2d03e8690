use Rattle.receiver_end.proofs.receiver.Receiver.packet.Goals as goal

-- an arrival's answer is the packet's
pub returns : goal.returns
returns c =
    let says = c.arrival.ensures in
    record {
      params = says.params;
      played = says.played;
      same = says.same;
      answer = says.answer;
      stands = says.stands;
    }
