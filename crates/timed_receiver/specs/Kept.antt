-- What a timed receiver keeps, and what it stands for.
use Rattle.std.specs.Prelude.{◌≡◌, ℕ, ◌+◌, ◌≤◌, List}
use Rattle.receiver_end.specs.State as receiver_end
use Rattle.playout_times.specs.declared.arrival.Arrival.{Arrival}
use Rattle.playout_times.specs.Kept as playout_times
use Rattle.timed_receiver.specs.declared.timed.TimedReceiver.{TimedReceiver}
use Rattle.timed_receiver.specs.Timed.{Entry, arrivals_of, entries_of, next_number_after}

-- this was done to it, from the first picture's number on
pub record TimedStands (t : TimedReceiver) (first : ℕ) (past : List Entry) : Type 0 where
  pub receiver : receiver_end.Stands t.receiver (entries_of first past)
  pub times : playout_times.TimesStand t.times (arrivals_of past)
  pub next : t.times.next ≡ next_number_after first past
  pub played : t.receiver.played ≡ next_number_after first past

-- A packet may be heard: its times are in order, and its picture is no more than the lead after the
-- next one, so that the receiver calls none early.
pub record MayBeHeard (t : TimedReceiver) (a : Arrival) : Type 0 where
  pub may_come : playout_times.MayCome t.times a
  pub near : a.picture ≤ t.times.next + t.receiver.params.lead
