use Rattle.std.proofs.Common.{◌∙◌, rules}
use Rattle.packet_collector.specs.Packet.{packet_at}
use Rattle.packet_collector.proofs.Exact.{fills_packet, packet_fills, fault_is, extra_format}
use Rattle.packet_collector.proofs.reading.read_packet.Goals as goal

pub read_after-requires-clause-format : goal.read_after-requires-clause-format
read_after-requires-clause-format c =
    let text = c.in_ok-payload.ensures.found in
    extra_format c.args.format text.opening.plen text.opening.pebit c.in_ok-payload.payload.extra text.middle text.extra

pub returns-in_err-rtp-clause-exact : goal.returns-in_err-rtp-clause-exact
unfolding packet_at
returns-in_err-rtp-clause-exact c = search rules

pub returns-in_err-rtp-clause-range : goal.returns-in_err-rtp-clause-range
returns-in_err-rtp-clause-range c = search rules

pub returns-in_err-rtp-clause-only : goal.returns-in_err-rtp-clause-only
returns-in_err-rtp-clause-only c = packet_fills c.part_laws.ensures c.from_residual.result c.args.out.now c.args.format
    c.args.bytes.now (returns-in_err-rtp-clause-range c) c.requires.picture (returns-in_err-rtp-clause-exact c)

pub returns-in_err-rtp-clause-fault : goal.returns-in_err-rtp-clause-fault
returns-in_err-rtp-clause-fault c = fault_is c.from_residual.result c.args.out.now _ (returns-in_err-rtp-clause-exact c)

pub returns-in_err-payload-clause-exact : goal.returns-in_err-payload-clause-exact
unfolding packet_at
returns-in_err-payload-clause-exact c = search rules

pub returns-in_err-payload-clause-range : goal.returns-in_err-payload-clause-range
returns-in_err-payload-clause-range c = search rules

pub returns-in_err-payload-clause-only : goal.returns-in_err-payload-clause-only
returns-in_err-payload-clause-only c = packet_fills c.part_laws.ensures c.from_residual-in_err-payload.result
    c.args.out.now c.args.format c.args.bytes.now (returns-in_err-payload-clause-range c) c.requires.picture
    (returns-in_err-payload-clause-exact c)

pub returns-in_err-payload-clause-fault : goal.returns-in_err-payload-clause-fault
returns-in_err-payload-clause-fault c = fault_is c.from_residual-in_err-payload.result c.args.out.now _
    (returns-in_err-payload-clause-exact c)

pub returns-clause-exact : goal.returns-clause-exact
unfolding packet_at
returns-clause-exact c = search rules

pub returns-clause-found : goal.returns-clause-found
returns-clause-found c = fills_packet c.part_laws.ensures c.read_after.result c.read_after.new.out c.args.format
    c.args.bytes.now (returns-clause-exact c)

pub returns-clause-only : goal.returns-clause-only
returns-clause-only c = packet_fills c.part_laws.ensures c.read_after.result c.read_after.new.out c.args.format
    c.args.bytes.now c.read_after.ensures.range (c.read_after.ensures.size
    ∙ c.requires.picture) (returns-clause-exact c)

pub returns-clause-fault : goal.returns-clause-fault
returns-clause-fault c = fault_is c.read_after.result c.read_after.new.out _ (returns-clause-exact c)
