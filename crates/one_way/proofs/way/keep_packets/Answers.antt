-- The packets before the place stand in the ring as the picture's.
use Rattle.std.proofs.Common.{◌≡◌, ℕ, ◌+◌, ◌<◌, ◌≤◌, List, [], ◌∷◌, ◌++◌, length, take, sym, ap, subst, ◌∙◌, arith}
use Rattle.std.proofs.lemmas.List.{length-take-le, take_all, take_more}
use Rattle.call_rings.specs.Keeping.{HoldsPackets, most_of, ring_room}
use Rattle.call_rings.specs.Parts.{total_size}
use Rattle.one_way.proofs.way.keep_packets.Goals as goal

pub push-requires : goal.push-requires
push-requires c =
    let packets = c.args.sender.now.packets in
    let pictures = c.requires.keeping.pictures in
    let ring = c.packets.packets in
    let i = c.packets.place in
    let below : i < length packets = omega (arith, c.packets-test.true, c.packets.auto.place-end, c.requires.count) in
    let long : length (take i packets) ≡ i = length-take-le i packets (omega (arith, below)) in
    let few : length (take i packets) < most_of ring = omega (
      arith,
      long,
      below,
      c.requires.room.count,
      c.packets.invariant.sizes.most_is,
    ) in
    let size : length c.packet.result.now ≡ length _ = ap (λ (l : List ℕ). length l) c.packet.ensures.value in
    let small : total_size (take i packets) + length c.packet.result.now ≤ ring_room ring =
    omega (
      arith,
      size,
      c.one_after_the_other.ensures packets i below,
      c.requires.room.bytes,
      c.packets.invariant.sizes.room_is,
    )
    in
    c.has_room.ensures ring pictures (take i packets) (length c.packet.result.now)
    (c.packets.invariant.kept pictures c.requires.keeping.keeps) few small

pub packets-preserved : goal.packets-preserved
packets-preserved c =
    let packets = c.args.sender.now.packets in
    let i = c.packets.place in
    let below : i < length packets = omega (arith, c.packets-test.true, c.packets.auto.place-end, c.requires.count) in
    let one_more : take (i + 1) packets ≡ take i packets ++ c.packet.result.now ∷ [] =
    take_more packets i [] below ∙ ap (λ (l : List ℕ). take i packets ++ l ∷ []) (sym c.packet.ensures.value)
    in
    let sizes = c.push.ensures.sizes in
    let before = c.packets.invariant.sizes in
    record {
      kept = λ pictures keeps.
          subst (λ (l : List (List ℕ)). HoldsPackets c.push.new.self (pictures ++ l ∷ [])) (sym one_more)
          (c.push.ensures.pushes pictures (take i packets) (c.packets.invariant.kept pictures keeps));
      sizes = record {
        period_is = sizes.period_is ∙ before.period_is;
        room_is = sizes.room_is ∙ before.room_is;
        most_is = sizes.most_is ∙ before.most_is;
      };
      begun = c.push.ensures.begun ∙ c.packets.invariant.begun;
    }

pub returns-clause-kept : goal.returns-clause-kept
returns-clause-kept c = λ pictures keeps.
    let packets = c.args.sender.now.packets in
    let all : length packets ≤ c.packets.place = omega (
      arith,
      c.packets-test.false,
      c.packets.auto.place-end,
      c.requires.count,
    ) in
    subst (λ (l : List (List ℕ)). HoldsPackets c.packets.packets (pictures ++ l ∷ []))
    (take_all c.packets.place packets all) (c.packets.invariant.kept pictures keeps)
