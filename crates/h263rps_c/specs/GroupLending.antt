-- What a group's handle is after the group in it was lent.
use Rattle.std.specs.Prelude.{Some}
use Rattle.std.specs.Borrow.{Lends, MutBor, Fml}
use Rattle.h263rps_c.specs.declared.group_slots.GroupHandle.{GroupHandle}
use Rattle.h263rps_c.specs.contracts.kept_group.KeptGroup.{the_row as group_row}
use Rattle.h263rps_c.specs.contracts.group_slots.GroupHandle.{the_row}

-- the handle with this group in it
abbrev pub with_group : GroupHandle → group_row.Denot → GroupHandle
with_group h group = record { at = h.at; alloc = h.alloc; inside = Some group }

-- r lends the group
abbrev pub LendsGroup : MutBor GroupHandle → MutBor (group_row.Denot) → Fml
LendsGroup h r = Lends the_row group_row h r (with_group h.now)
