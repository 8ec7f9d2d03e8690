use Rattle.std.proofs.Common.{◌≡◌, ◌+◌, [], ◌∷◌, ◌++◌, take}
use Rattle.call_rings.specs.Keeping.{HasSizes, HoldsPackets, PacketsOfPictures, begun_of, most_of, ring_period, ring_room}
use Rattle.one_way.proofs.way.keep_packets.Given as goal

-- the packets below `place` are kept
abbrev pub invariant-packets : goal.invariant-packets
invariant-packets l = record {
  kept : (pictures : PacketsOfPictures) → HoldsPackets l.fn.packets pictures
      → HoldsPackets l.packets (pictures ++ take l.place (l.sender.packets) ∷ []);
  sizes : HasSizes l.packets (ring_period l.fn.packets) (ring_room l.fn.packets) (most_of l.fn.packets);
  begun : begun_of l.packets ≡ begun_of l.fn.packets + 1;
}
