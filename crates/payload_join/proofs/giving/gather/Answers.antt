-- The coded bytes of the packets before the place stand in the room, one after the other.
use Rattle.std.proofs.Common.{ℕ, ◌+◌, ◌++◌, List, Option, length, refl, sym, ap, ◌∙◌, arith}
use Rattle.payload_join.specs.Packet.{Packet, bytes_between}
use Rattle.payload_join.specs.Outgoing.{coded_one, coded_from}
use Rattle.payload_join.specs.Places.{PacketPlaces, place_at}
use Rattle.payload_join.proofs.Slots.{put_length}
use Rattle.payload_join.proofs.Between.{between_grown}
use Rattle.payload_join.proofs.Following.{coded_more, more_len, coded_within}
use Rattle.payload_join.proofs.giving.gather.Goals as goal

pub packets-init : goal.packets-init
unfolding coded_from
packets-init c = record {
  top = refl;
  packets = refl;
  size = ap (length {A = ℕ}) (sym c.room-size.ensures.value) ∙ c.room-size.ensures.size;
  end = refl;
  coded = refl;
}

pub copy_coded-at-requires : goal.copy_coded-at-requires
copy_coded-at-requires c =
    let held = place_at c.args.ring.now.packets in
    let end = c.packets.invariant.end in let short = c.requires.short in let less = c.packets-test.true in
    let same = ap (λ (l : List (Option Packet)). length {A = ℕ} (coded_one (place_at l (c.args.number + c.packets.k))))
    c.packets.invariant.packets in
    let more = more_len held c.args.number c.packets.k in
    let within = coded_within held c.args.number (c.packets.k + 1) c.args.count (omega arith) in
    omega arith

pub packets-preserved : goal.packets-preserved
packets-preserved c =
    let held = place_at c.args.ring.now.packets in
    let room = c.packets.ring.room in let at = c.packets.at in
    let packet = coded_one (place_at c.packets.ring.packets (c.args.number + c.packets.k)) in
    let is = c.copy_coded-at.ensures.room in
    let end = c.packets.invariant.end in let size = c.packets.invariant.size in let short = c.requires.short in
    let less = c.packets-test.true in
    let same = ap (λ (l : List (Option Packet)). coded_one (place_at l (c.args.number + c.packets.k)))
    c.packets.invariant.packets in
    let long = ap (length {A = ℕ}) same in
    let more = more_len held c.args.number c.packets.k in
    let within = coded_within held c.args.number (c.packets.k + 1) c.args.count (omega arith) in
    let to = c.copy_coded-at.ensures.end in
    record {
      top = ap (λ (t : PacketPlaces). t.top) is ∙ c.packets.invariant.top;
      packets = ap (λ (t : PacketPlaces). t.packets) is ∙ c.packets.invariant.packets;
      size = ap (λ (t : PacketPlaces). length t.room) is ∙ put_length room at packet (omega arith) ∙ size;
      end = omega arith;
      coded = (λ i. bytes_between (is i).room 77 (to i))
          ∙ between_grown room packet 77 at (omega arith) (omega arith)
          ∙ (λ i. c.packets.invariant.coded i ++ same i)
          ∙ sym (coded_more held c.args.number c.packets.k);
    }
