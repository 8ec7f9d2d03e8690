-- What holds of plays in time.
use Rattle.std.specs.Prelude.{◌≡◌, ℕ, ◌+◌, ◌≤◌, List, ◌∷◌, ◌++◌}
use Rattle.std.specs.List.{AllByRecursion}
use Rattle.playout_times.specs.declared.arrival.Arrival.{Arrival}
use Rattle.playout_times.specs.Ways.{transit}
use Rattle.playout_times.specs.Kept.{IsTimed}
use Rattle.playout_times.specs.Laws.{Hides}
use Rattle.timed_receiver.specs.Timed.{Entry, Shown, Timely, arrivals_of, next_number_after}

-- Whatever came before: once three pictures came on ways of this length or longer, no picture is
-- played before a packet of it comes whose way is longer by the wait at most. No packet of it, or of
-- a later one, may say that it was captured earlier.
abbrev pub PlaysWait : Type 0
PlaysWait =
    (wait first shortest now : ℕ) (packet : Arrival) (past : List Entry) (later before : List Arrival)
    → Timely wait first (Shown now ∷ past)
    → next_number_after first past ≡ packet.picture
    → arrivals_of past ≡ later ++ before
    → Hides later before
    → AllByRecursion IsTimed later
    → AllByRecursion (λ a. shortest ≤ transit a) later
    → AllByRecursion (λ a. packet.picture ≤ a.picture → packet.captured ≤ a.captured) (later ++ before)
    → IsTimed packet → transit packet ≤ shortest + wait
    → packet.at ≤ now
