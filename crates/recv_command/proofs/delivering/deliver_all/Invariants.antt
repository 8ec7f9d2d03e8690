use Rattle.std.proofs.Common.{◌≡◌, ◌+◌, true, length}
use Rattle.h263_outside.specs.declared.desk.Role.TheVariants.{Wire}
use Rattle.recv_command.specs.Join.{HasWritten, IsDelivering, delivers}
use Rattle.recv_command.specs.JoinTally.{with_joined}
use Rattle.recv_command.specs.Recv.{RecvStands, RecvState}
use Rattle.recv_command.specs.Tally.{total_counted}
use Rattle.recv_command.proofs.delivering.deliver_all.Given as goal

-- with what is left all is heard and counted
abbrev pub invariant-loop-packet : goal.invariant-loop-packet
invariant-loop-packet g l =
    let outside = g.D.Desk.outside in
    record {
      total : total_counted l.receiving.tally + length l.joiner.left
          ≡ total_counted l.fn.receiving.tally + length l.fn.joiner.left;
      joined : l.took.joined + length l.joiner.left ≡ l.fn.took.joined + length l.fn.joiner.left;
      took : with_joined (length l.joiner.left) l.took ≡ with_joined (length l.fn.joiner.left) l.fn.took;
      top : l.joiner.top ≡ l.fn.joiner.top;
      packets : l.joiner.packets ≡ l.fn.joiner.packets;
      wire : (outside l.desk).attached Wire ≡ true;
      has_written : HasWritten l.outcome (outside l.fn.desk) (outside l.desk);
      delivering : (s : RecvState) → RecvStands l.fn.receiving s
          → IsDelivering l.receiving l.joiner.left l.outcome (delivers s l.fn.joiner.left) (outside l.fn.desk).written
          (outside l.desk).written;
    }

abbrev pub decreases-loop-packet : goal.decreases-loop-packet
decreases-loop-packet g l = length l.joiner.left
