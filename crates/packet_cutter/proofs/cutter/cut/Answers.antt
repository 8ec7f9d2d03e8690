use Rattle.std.proofs.Common.{◌≡◌, ℕ, ◌+◌, ◌%◌, ◌-◌, List, length, take, drop, subst, sym, ap, ◌∙◌, arith}
use Rattle.std.proofs.lemmas.List.{take_all, length-drop, drop-map}
use Rattle.h263_types.specs.declared.blocks.Mb.{Mb}
use Rattle.packet_cutter.specs.Cut.{IsLongest}
use Rattle.packet_cutter.specs.Kept.{most_bytes, kept_packets, AppendsPacket}
use Rattle.packet_cutter.specs.Taken.{unmarked}
use Rattle.packet_cutter.proofs.Marked.{length-unmarked}
use Rattle.packet_cutter.proofs.Turns.{IsUnderWay, IsNext, turned}
use Rattle.packet_cutter.proofs.cutter.cut.Goals as goal

pub packets-preserved : goal.packets-preserved
packets-preserved c =
    let old = c.packets.packets in
    let u = c.packets.invariant in
    let a = c.append-first.ensures in
    let h = c.args.header.now in
    let limit = most_bytes c.clear.new.self in
    let next = (c.args.sequence + c.count.result) % 65536 in
    let same : next % 65536 ≡ (c.args.sequence + length (kept_packets old)) % 65536 = omega (
      arith,
      c.count.ensures.packets,
    ) in
    let marked = c.args.mbs.now in
    let mbs = unmarked marked in
    let all = length-unmarked marked in
    let left : unmarked (take (length marked - c.packets.first) (drop c.packets.first marked))
    ≡ drop c.packets.first mbs =
    ap unmarked (take_all (length marked - c.packets.first) (drop c.packets.first marked)
    (omega (arith, length-drop c.packets.first marked))) ∙ sym (drop-map (λ m. m.mb) c.packets.first marked) in
    let app : AppendsPacket old c.append-first.new.self c.args.number next h c.packets.first
    (drop c.packets.first mbs) c.append-first.result =
    subst (λ (l : List Mb). AppendsPacket old c.append-first.new.self c.args.number next h c.packets.first l
    c.append-first.result) left a.packet in
    let longest : IsLongest h limit c.packets.first (take c.append-first.result (drop c.packets.first mbs))
    (drop c.append-first.result (drop c.packets.first mbs)) =
    subst (λ (k : ℕ). IsLongest h k c.packets.first (take c.append-first.result (drop c.packets.first mbs))
    (drop c.append-first.result (drop c.packets.first mbs))) u.limit app.longest in
    let n : IsNext c.args.number next h limit mbs c.packets.first c.append-first.result app.packet =
    record { few = app.few; longest = longest; packet_is = app.packet_is } in
    let goes = turned c.args.number c.args.sequence next h limit mbs c.packets.first c.append-first.result
    (kept_packets old) app.packet u.under_way (omega (arith, c.packets-test.true, all)) same n in
    record {
      under_way = subst (IsUnderWay c.args.number c.args.sequence h limit mbs
          (c.packets.first + c.append-first.result)) (sym app.packets) goes;
      within = omega (arith, app.few, length-drop c.packets.first mbs, all, c.packets-test.true);
      few = omega (arith, a.count, a.some, u.few);
      limit = a.limit ∙ u.limit;
      room = a.room ∙ u.room;
    }
