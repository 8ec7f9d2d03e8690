use Rattle.std.proofs.Common.{take}
use Rattle.h263_outside.specs.Desk.{OnlyWrites}
use Rattle.h263_outside.specs.declared.desk.Role.TheVariants.{Wire}
use Rattle.desk_program.specs.Ends.{Gains}
use Rattle.desk_program.specs.Texts.{on}
use Rattle.send_command.specs.Send.{packets_text}
use Rattle.send_command.proofs.capture.put_packets.Given as goal

-- the packets before `i` were written
abbrev pub invariant-loop-i : goal.invariant-loop-i
invariant-loop-i g l =
    let outside = g.D.Desk.outside in
    record {
      written : Gains (on Wire (packets_text (take l.i l.sender.packets))) (outside l.fn.desk).written
          (outside l.desk).written;
      rest : OnlyWrites (outside l.fn.desk) (outside l.desk);
    }
