-- What a joiner is after a packet that it gave was let go.
use Rattle.std.specs.Prelude.{◌≡◌, ⊤}
use mathlib.Core.Option.{none}
use Rattle.std.specs.Borrow.{follows_so, MutBor, Fml}
use Rattle.payload_join.specs.Joining.{Joining, after_next}
use Rattle.payload_join.specs.contracts.joiner.Joiner.{the_row}

-- it holds the same packets, and what is left is less by the first
abbrev pub EndsPast : MutBor Joining → Fml
EndsPast j = follows_so the_row the_row j.ghost_name none (λ _ _. ⊤) (λ v. v ≡ after_next j.now)
