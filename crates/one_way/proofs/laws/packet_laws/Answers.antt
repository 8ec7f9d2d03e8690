use Rattle.std.proofs.Common.{arith}
use Rattle.one_way.proofs.Packing.{Below, captured_room, packets_room}
use Rattle.one_way.proofs.laws.packet_laws.Goals as goal

pub returns : goal.returns
returns c = λ p in_range.
    let below : Below p = record {
      limit = in_range.limit_low;
      ranged = c.header_in_range.ensures p;
      chosen_count = λ frame reference h. c.one_for_each_place.ensures.count frame reference h p;
      chosen_each = λ frame reference h k few. c.one_for_each_place.ensures.each frame reference h p k few;
      chosen_whole = λ frame reference h k. c.chosen_is_in_range.ensures.whole frame reference h p k;
      same_cut = c.written_packets.ensures.cut p;
      are_packets = λ number sequence h mbs header whole. c.by_functions.ensures.whole number sequence h p.limit mbs
          header in_range.limit_low whole;
      bytes = λ number sequence h mbs packets header whole are. c.room_of_a_picture.ensures.bytes number sequence h
          p.limit mbs packets header whole are;
      count = λ number sequence h mbs packets header whole are. c.room_of_a_picture.ensures.count number sequence h
          p.limit mbs packets header whole are;
    } in
    record {
      room = λ pace entries n paced.
          let room = packets_room p below pace entries n paced in
          (room.bytes, room.count);
      captured = λ quant frame coded reference n sequence ranged.
          let room = captured_room p below quant frame coded reference n sequence
          (record { low = omega (arith, ranged.0); high = omega (arith, ranged.1) }) in
          (room.bytes, room.count);
    }
