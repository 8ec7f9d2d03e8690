-- What a call leaves as it was.
use Rattle.std.specs.Prelude.{◌≡◌}
use Rattle.h263rps_c.specs.declared.handles.Slot.{Slot}

-- the slot has the same end, as it was, and has counted the same
abbrev pub Stays : Slot → Slot → Type 0
Stays old new = (new.handle.inside ≡ old.handle.inside) × (new.counted ≡ old.counted)
