use Rattle.std.proofs.Common.{arith}
use Rattle.audit_command.proofs.audit.AuditingLogCommand.packet.Goals as goal

pub packet-requires : goal.packet-requires
packet-requires g c =
    let few = c.requires.few in
    let less = c.requires.is.pictures in
    omega (arith, few, less)
