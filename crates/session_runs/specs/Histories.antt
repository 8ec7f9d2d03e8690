-- What came of one stream, and what that gives. Times are nanoseconds.
use Rattle.std.specs.Prelude.{ℕ, ◌-◌, ◌+◌, ◌*◌, ◌/◌, ◌==◌, max, nat_le, nat_lt, Bool, true, false, List, [], ◌∷◌, Option, Some, None, if◌then◌else◌}
use Rattle.h263_bits.specs.declared.fault.Fault.{Fault}
use Rattle.h263_types.specs.declared.params.Params.{Params}
use Rattle.call_model.specs.Receiving.{Completed, Heard, Late, ReceiverEntry}
use Rattle.stream_numbers.specs.declared.packet.Packet.{Packet}
use Rattle.stream_numbers.specs.declared.packet.Place.{Place}
use Rattle.stream_numbers.specs.declared.rate.Rate.{Rate}
use Rattle.stream_numbers.specs.Streams.{place_of}
use Rattle.playout_times.specs.Due.{due_of, is_due_by}
use Rattle.receiver_end.specs.State.{answer_after}
use Rattle.timed_receiver.specs.Timed as timed
use Rattle.packet_gaps.specs.declared.gaps.Nack.{Nack}
use Rattle.packet_gaps.specs.declared.moment.Moment.{Moment}
use Rattle.packet_gaps.specs.Kept as packets
use Rattle.stream_run.specs.Entries.{Came, StreamEntry, Shown, heard_of, timed_of}
use Rattle.session_runs.specs.declared.unheard.Unheard.{Unheard}
use Rattle.session_runs.specs.Unheard.{after_heard, fresh, is_lost}

-- what all runs of a session have
pub record Config : Type 0 where
  pub params : Params
  pub rate : Rate
  pub lead : ℕ
  pub wait : ℕ

-- What came of a stream since its run began, from the first picture's number on; the pictures before
-- this one are due at once, since a packet came that is more than the lead after them; what of it
-- could not be heard; and what its missing packets are told by: the packets that came, what was
-- played, and what was asked for.
pub record History : Type 0 where
  pub first : ℕ
  pub past : List StreamEntry
  pub until : ℕ
  pub unheard : Unheard
  pub gaps : List packets.GapEvent

-- Nothing came of it but a packet, then, with this temporal reference: two pictures are open before
-- that one, for packets out of order at the start.
abbrev pub history_begun : ℕ → ℕ → History
history_begun reference now =
    record { first = reference - 2; past = []; until = 0; unheard = fresh now; gaps = [] }

abbrev pub timed_in : Config → History → List timed.Entry
timed_in c h = timed_of c.rate h.first c.lead h.past

-- what its receiver was given
abbrev pub history_entries : Config → History → List ReceiverEntry
history_entries c h = timed.entries_of h.first (timed_in c h)

-- the number of its next picture
abbrev pub next_number_in : Config → History → ℕ
next_number_in c h = timed.next_number_after h.first (timed_in c h)

-- ---- packets

-- the answer to a packet: its picture has no place, or is ahead, or it is heard
pub data Answer : Type 0 where
  NoPlace : Answer
  Ahead : (number : ℕ) → Answer
  IsHeard : (heard : Heard Fault) → Answer

-- a packet of this place: of a picture more than the lead after the next one, of one that was played,
-- or of an open one
abbrev pub answer_at : Params → ℕ → ℕ → List timed.Entry → Option Place → List ℕ → Answer
answer_at p first lead past None bytes = NoPlace
answer_at p first lead past (Some place) bytes =
    if nat_lt (timed.next_number_after first past + lead) place.number then Ahead place.number
    else if nat_lt place.number (timed.next_number_after first past) then IsHeard Late
    else IsHeard (answer_after p (timed.entries_of first past) bytes)

abbrev pub answer_in : Config → Packet → List ℕ → ℕ → History → Answer
answer_in c packet bytes now h =
    answer_at c.params h.first c.lead (timed_in c h) (place_of c.rate (heard_of h.past) packet now) bytes

-- with it its picture is complete
abbrev pub answer_completes : Answer → Bool
answer_completes (IsHeard (Completed message)) = true
answer_completes _ = false

-- its picture was not played, and has a place
abbrev pub is_heard : Answer → Bool
is_heard NoPlace = false
is_heard (Ahead number) = true
is_heard (IsHeard Late) = false
is_heard (IsHeard _) = true

-- the pictures that are due at once: so many that a packet that is ahead can be heard
abbrev pub until_after : Answer → ℕ → ℕ → ℕ
until_after (Ahead number) lead until = max until (number - lead)
until_after NoPlace lead until = until
until_after (IsHeard heard) lead until = until

-- A packet with this place, this sequence number and this answer counts as come where it is heard,
-- also where it is late.
abbrev pub gaps_after : Answer → Option Place → ℕ → List packets.GapEvent → List packets.GapEvent
gaps_after NoPlace place sequence past = past
gaps_after (Ahead number) place sequence past = past
gaps_after (IsHeard heard) None sequence past = past
gaps_after (IsHeard heard) (Some place) sequence past = packets.Came sequence place.number ∷ past

-- A run begins anew where its packets would never be heard again, and where all 2^20 pictures that
-- there can be were played.
abbrev pub must_begin : Config → ℕ → History → Bool
must_begin c now h = if nat_le 1048576 (next_number_in c h) then true else is_lost now h.unheard

abbrev pub ready : Config → ℕ → ℕ → History → History
ready c reference now h = if must_begin c now h then history_begun reference now else h

abbrev pub after_answer : Config → Answer → Packet → List ℕ → ℕ → History → History
after_answer c answer packet bytes now h =
    record {
      first = h.first;
      past = Came packet bytes now ∷ h.past;
      until = until_after answer c.lead h.until;
      unheard = after_heard (is_heard answer) now h.unheard;
      gaps = gaps_after answer (place_of c.rate (heard_of h.past) packet now) packet.sequence h.gaps;
    }

-- after a packet of it
abbrev pub history_after_packet : Config → Packet → List ℕ → ℕ → History → History
history_after_packet c packet bytes now h = after_answer c (answer_in c packet bytes now h) packet bytes now h

-- ---- plays

-- when its next picture is due, as far as that is known
abbrev pub due_in : Config → History → Option ℕ
due_in c h =
    if nat_le 1048576 (next_number_in c h) then None
    else if nat_lt (next_number_in c h) h.until then Some 0
    else due_of c.wait (next_number_in c h) (timed.arrivals_of (timed_in c h))

-- after a play of its next picture
abbrev pub history_after_play : Config → ℕ → History → History
history_after_play c now h =
    record {
      first = h.first;
      past = Shown now ∷ h.past;
      until = h.until;
      unheard = h.unheard;
      gaps = packets.Played (next_number_in c h + 1) ∷ h.gaps;
    }

-- it is due by now
abbrev pub is_due_in : Config → ℕ → History → Bool
is_due_in c now h = is_due_by now (due_in c h)

-- after a play of its next picture, if that is due
abbrev pub after_play_if : Config → Bool → ℕ → History → History
after_play_if c false now h = h
after_play_if c true now h = history_after_play c now h

-- ---- asking again

-- how long after a picture the next one is due
abbrev pub picture_period : Rate → ℕ
picture_period r = r.second * 1000000000 / r.rate

-- The moment at which its packets may be asked for again, where the answer takes so long. There is
-- none where it isn't known when its next picture is due, or where that is due at once.
abbrev pub moment_at : Config → ℕ → ℕ → ℕ → Option ℕ → Option Moment
moment_at c round_trip now next None = None
moment_at c round_trip now next (Some due) =
    if due == 0
    then None
    else Some (record {
      time = now;
      round_trip = round_trip;
      next = next;
      due = due;
      period = picture_period c.rate;
    })

abbrev pub moment_in : Config → ℕ → ℕ → History → Option Moment
moment_in c round_trip now h = moment_at c round_trip now (next_number_in c h) (due_in c h)

-- the next packets of it that are asked for at this moment, if there is one
abbrev pub nack_at : Option Moment → History → Option Nack
nack_at None h = None
nack_at (Some m) h = packets.asks m h.gaps

-- and what is left then
abbrev pub after_nack : Option Moment → History → History
after_nack None h = h
after_nack (Some m) h =
    record {
      first = h.first;
      past = h.past;
      until = h.until;
      unheard = h.unheard;
      gaps = packets.Asked m ∷ h.gaps;
    }
