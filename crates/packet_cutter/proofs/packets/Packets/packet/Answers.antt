use Rattle.std.proofs.Common.{ℕ, ◌+◌, ◌<◌, List, length, get_or, sym, ap, ◌∙◌, arith}
use Rattle.std.specs.Prelude.{slice_range}
use Rattle.packet_cutter.proofs.Places.{length-packets, packet_is}
use Rattle.packet_cutter.proofs.packets.Packets.packet.Goals as goal

pub bounds-self-i : goal.bounds-self-i
bounds-self-i c = let p = c.args.self.now in
    omega (arith, c.requires, length-packets p.bytes.items.items p.places p.count, p.few)

pub bounds-self-i-2 : goal.bounds-self-i-2
bounds-self-i-2 c = let p = c.args.self.now in
    omega (arith, c.requires, length-packets p.bytes.items.items p.places p.count, p.few)

pub part-requires-clause-order : goal.part-requires-clause-order
part-requires-clause-order c =
    let p = c.args.self.now in
    let lt : c.args.i < p.count = omega (arith, c.requires, length-packets p.bytes.items.items p.places p.count) in
    p.placed.order c.args.i lt

pub part-requires-clause-within : goal.part-requires-clause-within
part-requires-clause-within c =
    let p = c.args.self.now in
    let lt : c.args.i < p.count = omega (arith, c.requires, length-packets p.bytes.items.items p.places p.count) in
    omega (arith, p.placed.within c.args.i lt, p.placed.end, p.room, ap length c.deref.ensures.value)

pub returns : goal.returns
returns c =
    let p = c.args.self.now in
    let lt : c.args.i < p.count = omega (arith, c.requires, length-packets p.bytes.items.items p.places p.count) in
    c.part.ensures ∙ ap (λ (l : List ℕ). slice_range l (get_or p.places c.args.i 0) (get_or p.places (c.args.i + 1) 0))
    c.deref.ensures.value ∙ sym (packet_is p.bytes.items.items p.places p.count c.args.i lt)
