-- No picture is played before its packets come.
use Rattle.std.proofs.Common.{◌≡◌, ℕ, ◌+◌, ◌≤◌, true, List, ◌∷◌, ◌++◌, Option, Some, None, ap, sym, arith, ◌∙◌}
use Rattle.std.specs.Prelude.{IfSome}
use Rattle.std.specs.List.{AllByRecursion}
use Rattle.std.proofs.lemmas.Bool.{false≢true, leb-true}
use Rattle.playout_times.specs.declared.arrival.Arrival.{Arrival}
use Rattle.playout_times.specs.Ways.{transit}
use Rattle.playout_times.specs.Due.{due_of, is_due_by}
use Rattle.playout_times.specs.Kept.{IsTimed}
use Rattle.playout_times.specs.Laws.{Hides, InTime}
use Rattle.timed_receiver.specs.Timed.{Entry, Shown, Timely, arrivals_of, next_number_after}

by_then : (o : Option ℕ) (at now : ℕ) → is_due_by now o ≡ true → IfSome o (λ time. at ≤ time) → at ≤ now
by_then None at now e h = absurd (false≢true e)
by_then (Some time) at now e h =
    let i = leb-true time now e in
    omega arith

pub plays_wait : InTime
    → (wait first shortest now : ℕ) (packet : Arrival) (past : List Entry) (later before : List Arrival)
    → Timely wait first (Shown now ∷ past)
    → next_number_after first past ≡ packet.picture
    → arrivals_of past ≡ later ++ before
    → Hides later before
    → AllByRecursion IsTimed later
    → AllByRecursion (λ a. shortest ≤ transit a) later
    → AllByRecursion (λ a. packet.picture ≤ a.picture → packet.captured ≤ a.captured) (later ++ before)
    → IsTimed packet → transit packet ≤ shortest + wait
    → packet.at ≤ now
plays_wait law wait first shortest now packet past later before timely next all h t s said timed short =
    by_then (due_of wait packet.picture (later ++ before)) packet.at now
    (sym (ap (λ (n : ℕ). is_due_by now (due_of wait n (arrivals_of past))) next
    ∙ ap (λ (l : List Arrival). is_due_by now (due_of wait packet.picture l)) all) ∙ timely.0)
    (law wait shortest packet later before h t s said timed short)
