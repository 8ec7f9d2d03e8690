-- What a session's handle is after the session in it was lent.
use Rattle.std.specs.Prelude.{Some}
use Rattle.std.specs.Borrow.{Lends, MutBor, Fml}
use Rattle.h263rps_c.specs.declared.session_slots.SessionHandle.{SessionHandle}
use Rattle.h263rps_c.specs.contracts.kept_session.KeptSession.{the_row as session_row}
use Rattle.h263rps_c.specs.contracts.session_slots.SessionHandle.{the_row}

-- the handle with this session in it
abbrev pub with_session : SessionHandle → session_row.Denot → SessionHandle
with_session h session = record { at = h.at; alloc = h.alloc; inside = Some session }

-- r lends the session
abbrev pub LendsSession : MutBor SessionHandle → MutBor (session_row.Denot) → Fml
LendsSession h r = Lends the_row session_row h r (with_session h.now)
