-- A group before its first picture has no packets.
use Rattle.std.proofs.Common.{◌≡◌, [], sym, ◌∙◌}
use Rattle.h263_types.specs.declared.pace.Pace.{Ghosts}
use Rattle.call_model.specs.Sending.{packets_at}
use Rattle.group_sender.specs.declared.group.Group.{Group}
use Rattle.group_sender.specs.Holding.{HoldsGroup}
use Rattle.group_sender.specs.Running.{no_group}

pub no_packets_of_group : {P : Type 0} {ghosts : Ghosts P} (g : Group P ghosts) → HoldsGroup g no_group
    → g.sender.packets ≡ []
unfolding packets_at
no_packets_of_group g held = sym held.sender.seen.packets ∙ held.sender.holds.keeps.packets
