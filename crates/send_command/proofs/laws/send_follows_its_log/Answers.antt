use Rattle.std.proofs.Common.{Result, ap, length}
use Rattle.h263_outside.specs.declared.desk.Role.TheVariants.{Video}
use Rattle.h263_types.specs.declared.format.Format.{Format}
use Rattle.y4m.specs.declared.fault.Y4mFault.{Y4mFault}
use Rattle.y4m.specs.Head.{head_size}
use Rattle.event_logs.specs.declared.entry.Side.TheVariants as sides
use Rattle.desk_program.specs.Run.{left_after, follow, machine_run}
use Rattle.send_command.specs.Send.{send_head_step, send_step}
use Rattle.send_command.proofs.Followed.{sends}
use Rattle.send_command.proofs.laws.send_follows_its_log.Goals as goal

pub returns-clause-log : goal.returns-clause-log
returns-clause-log c = λ setup inputs f head.
    sends (λ log e is. let read = c.exact_entries.ensures.read sides.Send e log is in
    (read.0.letter, length read.0.bytes, read.1.says)) setup f c.frame_by_frame.ensures inputs head

pub returns-clause-no_head : goal.returns-clause-no_head
returns-clause-no_head c = λ setup inputs fault is.
    ap
    (λ (r : Result Format Y4mFault). follow (send_head_step setup (head_size (inputs Video)) r)
    (λ next taken. machine_run send_step 16777216 next (left_after inputs taken)))
    is
