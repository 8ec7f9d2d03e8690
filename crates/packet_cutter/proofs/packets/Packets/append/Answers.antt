use Rattle.std.proofs.Common.{◌≡◌, ℕ, ◌+◌, ◌-◌, ◌≤◌, List, length, take, drop, get_or, set, subst, sym, ap, ◌∙◌, arith}
use borrow.Rule.Slice.PartMut.{post_of, put_mid, same_len_mid}
use Rattle.std.proofs.lemmas.List.{with_items_is}
use Rattle.packet_cutter.specs.Packets.{BeginsWith}
use Rattle.packet_cutter.specs.Taken.{first_packets, unmarked}
use Rattle.packet_cutter.proofs.Marked.{length-unmarked}
use Rattle.packet_cutter.proofs.Places.{window_length, appended}
use Rattle.packet_cutter.proofs.packets.Packets.append.Goals as goal

pub returns-clause-packet : goal.returns-clause-packet
returns-clause-packet c =
    let p = c.args.self.now in
    let at = get_or p.places p.count 0 in
    let d = c.deref_mut.result.now in
    let part = c.write_packet-part in
    let end : at + p.limit ≤ length p.bytes.items.items = omega (arith, p.placed.end, c.requires.room) in
    let room : length (take (at + p.limit - at) (drop at d))
    ≡ p.limit = window_length d at p.limit (omega (arith, end, ap length c.deref_mut.ensures.value)) in
    let begins : BeginsWith c.args.number c.args.sequence c.args.header.now p.limit c.args.first
    (unmarked c.args.mbs.now) part.result.count part.result.size part.new.bytes =
    subst (λ (n : ℕ). BeginsWith c.args.number c.args.sequence c.args.header.now n c.args.first
    (unmarked c.args.mbs.now) part.result.count part.result.size part.new.bytes) room part.ensures.packet in
    let size = part.result.size in
    let places = set p.places (p.count + 1) (at + size) in
    let written = put_mid at (at + p.limit - at) d part.new.bytes in
    let long : length written ≡ p.bytes.items.len = same_len_mid at (at + p.limit - at) d part.new.bytes part.auto.bytes
    ∙ ap length c.deref_mut.ensures.value ∙ sym p.bytes.items.ok.0 in
    let kept = appended p.bytes.items.items d part.new.bytes (post_of at (at + p.limit - at) d) p.places p.limit p.count
    size c.deref_mut.ensures.value p.placed c.requires.few (omega (arith, end)) (omega (
      arith,
      part.ensures.within,
      part.auto.bytes,
      room,
    )) in
    record {
      packet = take size part.new.bytes;
      packets = ap (λ (l : List ℕ). first_packets l places (p.count + 1)) (with_items_is p.bytes.items written long)
          ∙ kept;
      few = begins.few;
      longest = begins.longest;
      packet_is = begins.packet;
    }

pub returns-clause-within : goal.returns-clause-within
returns-clause-within c = omega (arith, c.write_packet-part.ensures.packet.few, length-unmarked c.args.mbs.now)
