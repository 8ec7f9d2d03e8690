-- What a session's slot is once what was lent of its session is back.
use Rattle.std.specs.Prelude.{◌≡◌, ⊤}
use mathlib.Core.Option.{none}
use Rattle.std.specs.Borrow.{follows_so, MutBor, Fml}
use Rattle.h263rps_c.specs.declared.session_slots.SessionSlot.{SessionSlot}
use Rattle.h263rps_c.specs.contracts.session_slots.SessionSlot.{the_row}

-- it is as it was
abbrev pub KeepsSession : MutBor SessionSlot → Fml
KeepsSession s =
    follows_so the_row the_row s.ghost_name none (λ _ _. ⊤) (λ v. v.handle.inside ≡ s.now.handle.inside)
