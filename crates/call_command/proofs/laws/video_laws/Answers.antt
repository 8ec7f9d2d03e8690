use Rattle.call_command.proofs.laws.video_laws.Goals as goal

pub returns : goal.returns
returns c = record { head = c.cut_after.ensures.head; frame = c.cut_after.ensures.frame }
