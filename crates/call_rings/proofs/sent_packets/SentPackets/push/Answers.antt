use Rattle.std.proofs.Common.{◌≡◌, ◌+◌, ◌-◌, length, take, refl, sym, ◌∙◌, arith}
use Rattle.std.proofs.lemmas.List.{length-take-le}
use Rattle.call_rings.proofs.Ring.{refilled, pushed_holds}
use Rattle.call_rings.proofs.sent_packets.SentPackets.push.Goals as goal

pub returns-in-Some-clause-pushes : goal.returns-in-Some-clause-pushes
returns-in-Some-clause-pushes c before packets kept =
    let r = c.args.self.now in
    let k = length (r.pictures.items) - 1 in
    let one_less : length (take k (r.pictures.items)) + 1 ≡ r.pictures.capacity = omega (
      arith,
      length-take-le k (r.pictures.items) (omega arith),
      r.full,
      r.some,
    ) in
    pushed_holds r _ c.in-Some.newest c.push.new.self before packets c.args.packet.now kept
    (sym c.pop_back.ensures.value ∙ c.in-Some.is) (c.push.ensures.pushes packets)
    (refilled (take k (r.pictures.items)) (r.pictures.capacity) c.pop_back.new.self c.push_back.new.self c.push.new.self
    (omega (arith, one_less)) c.pop_back.ensures.items c.push_back.ensures.items) refl
