-- What the run of a stream keeps, and what it stands for.
use Rattle.std.specs.Prelude.{◌≡◌, ℕ, ◌+◌, ◌<◌, ◌≤◌, List, true, false, nat_lt, Option, Some, None}
use Rattle.receiver_end.specs.Answers.{IsHeard}
use Rattle.receiver_end.specs.State.{answer_after}
use Rattle.receiver_end.specs.declared.answers.Heard.{Heard}
use Rattle.receiver_end.specs.declared.answers.Heard.TheVariants as heards
use Rattle.h263_types.specs.declared.params.Params.{Params}
use Rattle.stream_numbers.specs.Kept.{NumbersStand}
use Rattle.stream_numbers.specs.declared.packet.Place.{Place}
use Rattle.timed_receiver.specs.Kept.{TimedStands}
use Rattle.timed_receiver.specs.Timed as timed
use Rattle.stream_run.specs.declared.run.StreamRun.{StreamRun}
use Rattle.stream_run.specs.declared.run.Arrived.{Arrived}
use Rattle.stream_run.specs.declared.run.Arrived.TheVariants as arriveds
use Rattle.stream_run.specs.Entries.{StreamEntry, heard_of, timed_of}

-- its parts fit one another
pub record IsStreamRun (r : StreamRun) : Type 0 where
  pub lead : r.timed.receiver.params.lead ≡ r.lead
  pub few : r.lead ≤ 62
  pub together : r.timed.receiver.played ≡ r.timed.times.next
  pub wait : r.timed.times.wait < 4611686018427387904

-- this came of its stream, from the first picture's number on
pub record RunStands (r : StreamRun) (first : ℕ) (past : List StreamEntry) : Type 0 where
  pub numbers : NumbersStand r.numbers (heard_of past)
  pub timed : TimedStands r.timed first (timed_of r.numbers.rate first r.lead past)

-- The answer to a packet with this place: none has no place; ahead is one that is more than the lead
-- after the next picture; late is one of a picture that was played; the rest is as the receiver's
-- run answers.
abbrev pub IsArrived : Params → ℕ → ℕ → List timed.Entry → Option Place → List ℕ → Arrived → Type 0
IsArrived p first lead past None bytes answer = answer ≡ arriveds.NoPlace
IsArrived p first lead past (Some place) bytes answer =
    (nat_lt (timed.next_number_after first past + lead) place.number ≡ true → answer ≡ arriveds.Ahead place.number)
    × (nat_lt place.number (timed.next_number_after first past) ≡ true → answer ≡ arriveds.Heard heards.Late)
    × (nat_lt (timed.next_number_after first past + lead) place.number ≡ false
    → nat_lt place.number (timed.next_number_after first past) ≡ false
    → (h : Heard) × (answer ≡ arriveds.Heard h)
    × IsHeard p.clock h (answer_after p (timed.entries_of first past) bytes))
