use Rattle.call_rings.proofs.Rooms.{Lengths, cut_room}
use Rattle.call_rings.proofs.laws.room_of_a_picture.Goals as goal

pub returns-clause-bytes : goal.returns-clause-bytes
returns-clause-bytes c = λ number sequence h limit mbs packets is whole are.
    let lengths : Lengths = record {
      headers = c.longest_text.ensures;
      slices = c.longest_text-3.ensures;
      mbs = c.longest_text-2.ensures;
      packets = c.packet_is_text.ensures.bytes;
    } in
    (cut_room lengths number sequence h limit 0 mbs are.runs packets is whole are.cut are.each).bytes

pub returns-clause-count : goal.returns-clause-count
returns-clause-count c = λ number sequence h limit mbs packets is whole are.
    let lengths : Lengths = record {
      headers = c.longest_text.ensures;
      slices = c.longest_text-3.ensures;
      mbs = c.longest_text-2.ensures;
      packets = c.packet_is_text.ensures.bytes;
    } in
    (cut_room lengths number sequence h limit 0 mbs are.runs packets is whole are.cut are.each).count
