-- What a slot is once what was lent of its end is back.
use Rattle.std.specs.Prelude.{⊤}
use mathlib.Core.Option.{none}
use Rattle.std.specs.Borrow.{follows_so, MutBor, Fml}
use Rattle.h263rps_c.specs.declared.handles.Slot.{Slot}
use Rattle.h263rps_c.specs.contracts.handles.Slot.{the_row}
use Rattle.h263rps_c.specs.Stays.{Stays}

-- it is as it was
abbrev pub KeepsEnd : MutBor Slot → Fml
KeepsEnd s = follows_so the_row the_row s.ghost_name none (λ _ _. ⊤) (λ v. Stays s.now v)
