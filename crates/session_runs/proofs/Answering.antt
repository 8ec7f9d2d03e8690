-- The answer of a run is the one that its history gives.
use Rattle.std.proofs.Common.{◌≡◌, ℕ, ◌+◌, true, false, Bool, List, Option, Some, None, refl}
use Rattle.std.specs.Prelude.{nat_lt, if◌then◌else◌}
use Rattle.h263_bits.specs.declared.fault.Fault.{Fault}
use Rattle.h263_types.specs.declared.params.Params.{Params}
use Rattle.h263_types.specs.declared.clock.Clock.{Clock}
use Rattle.call_model.specs.Receiving as runs
use Rattle.receiver_end.specs.Answers as receiver_end
use Rattle.receiver_end.specs.State.{answer_after}
use Rattle.receiver_end.specs.declared.answers.Heard.{Heard}
use Rattle.receiver_end.specs.declared.answers.Heard.TheVariants as heards
use Rattle.stream_numbers.specs.declared.packet.Place.{Place}
use Rattle.timed_receiver.specs.Timed as timed
use Rattle.stream_run.specs.declared.run.Arrived.{Arrived}
use Rattle.stream_run.specs.declared.run.Arrived.TheVariants as arriveds
use Rattle.stream_run.specs.Kept.{IsArrived}
use Rattle.session_runs.specs.Histories.{Ahead, IsHeard, answer_at}
use Rattle.session_runs.specs.Kept.{IsAnswerOf}

tests : (clock : Clock) (n : ℕ) (heard : runs.Heard Fault) (answer : Arrived) (ahead late : Bool)
    → (ahead ≡ true → answer ≡ arriveds.Ahead n)
    → (late ≡ true → answer ≡ arriveds.Heard heards.Late)
    → (ahead ≡ false → late ≡ false
    → (h : Heard) × (answer ≡ arriveds.Heard h) × receiver_end.IsHeard clock h heard)
    → IsAnswerOf clock answer (if ahead then Ahead n else if late then IsHeard runs.Late else IsHeard heard)
tests clock n heard answer true late a l o = a refl
tests clock n heard answer false true a l o = (heards.Late, l refl, refl)
tests clock n heard answer false false a l o = o refl refl

pub answered : (p : Params) (first lead : ℕ) (past : List timed.Entry) (place : Option Place) (bytes : List ℕ)
    (answer : Arrived)
    → IsArrived p first lead past place bytes answer
    → IsAnswerOf p.clock answer (answer_at p first lead past place bytes)
answered p first lead past None bytes answer x = x
answered p first lead past (Some place) bytes answer x =
    tests p.clock place.number (answer_after p (timed.entries_of first past) bytes) answer
    (nat_lt (timed.next_number_after first past + lead) place.number)
    (nat_lt place.number (timed.next_number_after first past)) x.0 x.1 x.2
