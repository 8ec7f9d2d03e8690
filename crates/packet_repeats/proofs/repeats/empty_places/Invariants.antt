use Rattle.std.proofs.Common.{◌≡◌, [], length, All}
use Rattle.std.specs.Vec.{vec_capacity}
use Rattle.packet_repeats.specs.Sent.{HasPlaceFor}
use Rattle.packet_repeats.proofs.repeats.empty_places.Given as goal

abbrev pub invariant-places : goal.invariant-places
invariant-places l =
    (vec_capacity l.places ≡ l.fn.count) × (length l.places.items ≡ l.counter)
    × All (HasPlaceFor l.fn.longest) l.places.items × All (λ place. place.items ≡ []) l.places.items
