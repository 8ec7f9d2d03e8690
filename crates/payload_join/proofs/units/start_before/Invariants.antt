use Rattle.std.proofs.Common.{◌≡◌, ℕ, ◌-◌, ◌<◌, true}
use Rattle.payload_join.specs.Unit.{follows_one}
use Rattle.payload_join.specs.Places.{place_at}
use Rattle.payload_join.proofs.units.start_before.Given as goal

abbrev pub invariant-back : goal.invariant-back
invariant-back l = (j : ℕ) → j < l.back → follows_one (place_at l.ring.packets (l.number - 1 - j)) ≡ true
