-- What holds of the times, whatever came.
use Rattle.std.specs.Prelude.{◌≡◌, ℕ, ◌+◌, ◌<◌, ◌≤◌, List, [], ◌∷◌, ◌++◌, length, IfSome}
use Rattle.std.specs.List.{AllByRecursion}
use Rattle.playout_times.specs.declared.arrival.Arrival.{Arrival}
use Rattle.playout_times.specs.Ways.{counted, least_way, quarter_of, runs, transit}
use Rattle.playout_times.specs.Due.{due_of}
use Rattle.playout_times.specs.Kept.{IsTimed}

-- no packet that counts was on its way for less
abbrev pub LeastIsLeast : Type 0
LeastIsLeast = (past : List Arrival) → AllByRecursion (λ a. least_way past ≤ transit a) (counted past)

-- when the newest of them came
abbrev pub newest_at : List Arrival → ℕ
newest_at [] = 0
newest_at (a ∷ past) = a.at

-- Nothing of what came before counts any more: three runs came since, none of which had begun
-- before, and what came before did so three quarters of a second ago, or longer.
pub record Hides (later before : List Arrival) : Type 0 where
  pub three : 3 ≤ length (runs later)
  pub apart : runs (later ++ before) ≡ runs later ++ runs before
  pub old : AllByRecursion (λ b. quarter_of b.at + 2 < quarter_of (newest_at later)) before

-- Whatever came before: once three pictures came on ways between these two, the least way is
-- between them.
abbrev pub Recovers : Type 0
Recovers =
    (shortest longest : ℕ) (later before : List Arrival) → Hides later before
    → AllByRecursion IsTimed later
    → AllByRecursion (λ a. (shortest ≤ transit a) × (transit a ≤ longest)) later
    → (shortest ≤ least_way (later ++ before)) × (least_way (later ++ before) ≤ longest)

-- Whatever came before: once three pictures came on ways of this length or longer, a packet whose
-- way is longer by the wait at most comes before its picture is due, or just then. No packet of its
-- picture, or of a later one, may say that it was captured earlier.
abbrev pub InTime : Type 0
InTime =
    (wait shortest : ℕ) (packet : Arrival) (later before : List Arrival) → Hides later before
    → AllByRecursion IsTimed later
    → AllByRecursion (λ a. shortest ≤ transit a) later
    → AllByRecursion (λ a. packet.picture ≤ a.picture → packet.captured ≤ a.captured) (later ++ before)
    → IsTimed packet → transit packet ≤ shortest + wait
    → IfSome (due_of wait packet.picture (later ++ before)) (λ time. packet.at ≤ time)
