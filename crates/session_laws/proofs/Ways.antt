-- The ways of a run's packets.
use Rattle.std.proofs.Common.{◌≡◌, ℕ, ◌+◌, ◌-◌, ◌≤◌, Bool, true, false, cond, ltb, List, ◌∷◌, ◌++◌, Option, Some, None, refl, ap, sym, arith, subst, ◌∙◌}
use Rattle.std.specs.Prelude.{IfSome}
use Rattle.std.specs.List.{AllByRecursion}
use Rattle.std.proofs.lemmas.Bool.{le-ltb}
use Rattle.stream_numbers.specs.declared.packet.Packet.{Packet}
use Rattle.stream_numbers.specs.declared.packet.Place.{Place}
use Rattle.stream_numbers.specs.Streams.{place_of}
use Rattle.playout_times.specs.declared.arrival.Arrival.{Arrival}
use Rattle.playout_times.specs.Due.{captured_from, due_of, has_come}
use Rattle.playout_times.specs.Kept.{IsTimed}
use Rattle.playout_times.specs.Laws.{Hides, Recovers}
use Rattle.playout_times.specs.Ways.{least_way, transit}
use Rattle.timed_receiver.specs.Timed as timed
use Rattle.stream_run.specs.Entries.{heard_of, with_place}
use Rattle.session_runs.specs.Histories.{Config, History, history_after_packet, next_number_in, timed_in}

counted_if : (b : Bool) (bytes : List ℕ) (a : Arrival) (past : List timed.Entry) → b ≡ false
    → timed.arrivals_of (cond b past (timed.Came bytes a ∷ past)) ≡ a ∷ timed.arrivals_of past
counted_if true bytes a past e = absurd cc
counted_if false bytes a past e = refl

pub each_counts : (c : Config) (h : History) (packet : Packet) (bytes : List ℕ) (now : ℕ) (place : Place)
    → place_of c.rate (heard_of h.past) packet now ≡ Some place
    → place.number ≤ next_number_in c h + c.lead
    → timed.arrivals_of (timed_in c (history_after_packet c packet bytes now h))
    ≡ record { picture = place.number; captured = place.captured; at = now } ∷ timed.arrivals_of (timed_in c h)
each_counts c h packet bytes now place e i =
    ap (λ (o : Option Place). timed.arrivals_of (with_place h.first c.lead o bytes now (timed_in c h))) e
    ∙ counted_if (ltb (next_number_in c h + c.lead) place.number) bytes
    (record { picture = place.number; captured = place.captured; at = now }) (timed_in c h)
    (le-ltb (next_number_in c h + c.lead) place.number i)

between : (b : Bool) (captured transit shortest longest wait : ℕ) → shortest ≤ transit → transit ≤ longest
    → IfSome (cond b (Some (captured + transit + wait - 4611686018427387904)) None)
    (λ time. (captured + shortest + wait - 4611686018427387904 ≤ time)
    × (time ≤ captured + longest + wait - 4611686018427387904))
between true captured transit shortest longest wait i j = (omega arith, omega arith)
between false captured transit shortest longest wait i j = tt

pub due_between : Recovers → (wait picture shortest longest : ℕ) (arrivals later before : List Arrival)
    → arrivals ≡ later ++ before → Hides later before
    → AllByRecursion IsTimed later
    → AllByRecursion (λ a. (shortest ≤ transit a) × (transit a ≤ longest)) later
    → IfSome (due_of wait picture arrivals)
    (λ time. (captured_from picture arrivals + shortest + wait - 4611686018427387904 ≤ time)
    × (time ≤ captured_from picture arrivals + longest + wait - 4611686018427387904))
due_between law wait picture shortest longest arrivals later before e h t w =
    let k = law shortest longest later before h t w in
    between (has_come picture arrivals) (captured_from picture arrivals) (least_way arrivals) shortest longest wait
    (subst (λ (l : List Arrival). shortest ≤ least_way l) (sym e) k.0)
    (subst (λ (l : List Arrival). least_way l ≤ longest) (sym e) k.1)
