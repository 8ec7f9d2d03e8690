-- Events one after the other.
use Rattle.std.specs.Prelude.{ℕ, zero, suc, List, [], ◌∷◌, ◌++◌}
use Rattle.call_model.specs.IdealCall.{Event, Send, Deliver, Play}

-- the slices of picture n at the places below this one are delivered in their order; the newest
-- event is the first
abbrev pub delivered : ℕ → ℕ → List Event
delivered n zero = []
delivered n (suc j) = Deliver n j ∷ delivered n j

-- after these events picture n is sent, this many slices of it are delivered, and the next picture
-- is played
abbrev pub passed_on : ℕ → ℕ → List Event → List Event
passed_on n count past = Play ∷ (delivered n count ++ Send ∷ past)
