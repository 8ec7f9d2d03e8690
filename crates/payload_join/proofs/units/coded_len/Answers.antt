use Rattle.std.proofs.Common.{refl, arith}
use Rattle.payload_join.specs.Outgoing.{coded_from}
use Rattle.payload_join.specs.Places.{place_at}
use Rattle.payload_join.proofs.Following.{more_len}
use Rattle.payload_join.proofs.units.coded_len.Goals as goal

pub packets-init : goal.packets-init
unfolding coded_from
packets-init c = (refl, omega arith)

pub packets-preserved : goal.packets-preserved
packets-preserved c =
    let e = more_len (place_at c.args.ring.now.packets) c.args.number c.packets.k in
    let a = c.packets.invariant.0 in let b = c.packets.invariant.1 in
    let l = c.coded_len-len.ensures.len in let f = c.coded_len-len.ensures.few in
    (omega arith, omega arith)
