use Rattle.std.proofs.Common.{◌++◌, ◌∷◌, [], take, arith}
use Rattle.std.proofs.lemmas.List.{length_push}
use Rattle.test_layers.proofs.rate_control_rows.pictures.Goals as goal

pub packets-init : goal.packets-init
packets-init c = ([], c.new-meter.ensures.stands, omega arith)

pub packet-requires : goal.packet-requires
packet-requires c =
    let i = c.packets.invariant in
    let n = i.2 in
    record { packets = i.0; stands = i.1; few = omega (arith, n) }

pub packets-preserved : goal.packets-preserved
packets-preserved c =
    let i = c.packets.invariant in
    let n = i.2 in
    let bytes = take c.min.result c.packet_at-bytes.result in
    let one = length_push i.0 bytes in
    (i.0 ++ bytes ∷ [], c.packet.ensures.stands i.0 i.1, omega (arith, n, one))

pub close-requires : goal.close-requires
close-requires c =
    let i = c.packets.invariant in
    let n = i.2 in
    record { packets = i.0; stands = i.1; few = omega (arith, n) }
