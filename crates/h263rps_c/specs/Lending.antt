-- What a handle is after the end in it was lent.
use Rattle.std.specs.Prelude.{Some}
use Rattle.std.specs.Borrow.{Lends, MutBor, Fml}
use Rattle.h263rps_c.specs.declared.ends.End.{End}
use Rattle.h263rps_c.specs.declared.handles.Handle.{Handle}
use Rattle.h263rps_c.specs.contracts.ends.End.{the_row as end_row}
use Rattle.h263rps_c.specs.contracts.handles.Handle.{the_row}

-- the handle with this end in it
abbrev pub handle_with_end : Handle → End → Handle
handle_with_end h end = record { at = h.at; alloc = h.alloc; inside = Some end }

-- r lends the end
abbrev pub LendsEnd : MutBor Handle → MutBor End → Fml
LendsEnd h r = Lends the_row end_row h r (handle_with_end h.now)
