-- What a session does at most, whatever comes. Lists have the newest first.
use Rattle.std.specs.Prelude.{◌≡◌, ℕ, ◌+◌, ◌-◌, ◌*◌, ◌/◌, ◌<◌, ◌≤◌, ◌==◌, ◌⊎◌, true, List, [], ◌∷◌, ◌++◌, length, count_by, Option, Some, None}
use Rattle.std.specs.List.{AllByRecursion}
use Rattle.stream_choice.specs.declared.streams.Run.{Run}
use Rattle.stream_numbers.specs.declared.newest.Newest.{Newest}
use Rattle.stream_numbers.specs.Placing.{IsRate}
use Rattle.stream_numbers.specs.Streams.{HeardPacket, newest_after}
use Rattle.playout_times.specs.declared.arrival.Arrival.{Arrival}
use Rattle.playout_times.specs.Due.{due_of, is_due_by}
use Rattle.playout_times.specs.Kept.{IsTimed}
use Rattle.playout_times.specs.Laws.{Hides}
use Rattle.playout_times.specs.Ways.{transit}
use Rattle.timed_receiver.specs.Timed.{arrivals_of}
use Rattle.stream_run.specs.Entries.{heard_of}
use Rattle.session_runs.specs.Histories.{Config, History, next_number_in, timed_in}
use Rattle.session_runs.specs.Lines.{line_of}
use Rattle.call_session.specs.Sessions.{Anew, Asked, Datagram, DatagramOf, Dropped, Ended, SessionEntry, Outcome, SessionState, Taken, Turn, at, outcome_of, outcome_of_one, played_run, session_run, session_time}

-- ---- packets

abbrev pub taken_if : Outcome → ℕ → List ℕ
taken_if (Dropped cause) now = []
taken_if (Taken run source answer) now = now ∷ []

abbrev pub taken_with : Config → SessionEntry → SessionState → List ℕ
taken_with c (Datagram bytes now) st = taken_if (outcome_of c bytes now st) (session_time st.now now)
taken_with c (DatagramOf source bytes now) st =
    taken_if (outcome_of_one c source bytes now st) (session_time st.now now)
taken_with c (Turn now) st = []
taken_with c (Asked round_trip now) st = []
taken_with c (Ended source now) st = []
taken_with c (Anew now) st = []

-- when packets were taken by a run
abbrev pub times_taken : Config → List SessionEntry → List ℕ
times_taken c [] = []
times_taken c (e ∷ past) = taken_with c e (session_run c past) ++ times_taken c past

-- Runs are given 36,000 packets at most in a second of the clock: 12,000 of the stream that is followed,
-- as many of the former one, and as many of all others.
abbrev pub FewAreTaken : Type 0
FewAreTaken =
    (c : Config) (past : List SessionEntry) (second : ℕ)
    → count_by (λ time. (time / 1000000000) == second) (times_taken c past) ≤ 36000

-- ---- plays

-- a play: what had come of the stream of its run, and when it was
pub record Played : Type 0 where
  pub line : History
  pub now : ℕ

abbrev pub played_at : Option Run → SessionState → List Played
played_at None st = []
played_at (Some run) st = record { line = line_of run st.follows.lines; now = st.now } ∷ []

abbrev pub played_with : Config → SessionEntry → SessionState → List Played
played_with c (Turn now) st = played_at (played_run c (at now st)) (at now st)
played_with c (Datagram bytes now) st = []
played_with c (DatagramOf source bytes now) st = []
played_with c (Asked round_trip now) st = []
played_with c (Ended source now) st = []
played_with c (Anew now) st = []

abbrev pub session_plays : Config → List SessionEntry → List Played
session_plays c [] = []
session_plays c (e ∷ past) = played_with c e (session_run c past) ++ session_plays c past

abbrev pub turns : List SessionEntry → ℕ
turns [] = 0
turns (Turn now ∷ past) = turns past + 1
turns (Datagram bytes now ∷ past) = turns past
turns (DatagramOf source bytes now ∷ past) = turns past
turns (Asked round_trip now ∷ past) = turns past
turns (Ended source now ∷ past) = turns past
turns (Anew now ∷ past) = turns past

abbrev pub number_of_newest : Option Newest → ℕ
number_of_newest None = 0
number_of_newest (Some x) = x.number

-- the greatest number of a picture of which a packet came
abbrev pub newest_number : Config → History → ℕ
newest_number c h = number_of_newest (newest_after c.rate (heard_of h.past))

-- when its next picture is due: at its capture, the least way and the wait, where that is known
abbrev pub time_due : Config → History → Option ℕ
time_due c h = due_of c.wait (next_number_in c h) (arrivals_of (timed_in c h))

-- A packet of its picture came, or of a later one. Its picture was due by then, or a packet came of
-- one that is more than the lead after it.
pub record IsDue (c : Config) (p : Played) : Type 0 where
  pub few : next_number_in c p.line < 1048576
  pub came : next_number_in c p.line ≤ newest_number c p.line
  pub due : (is_due_by p.now (time_due c p.line) ≡ true) ⊎ (next_number_in c p.line + c.lead < newest_number c p.line)

-- Each play is of a picture that is due, and there is one at most for each turn.
abbrev pub PlaysAreDue : Type 0
PlaysAreDue =
    (c : Config) (past : List SessionEntry)
    → AllByRecursion (IsDue c) (session_plays c past) × (length (session_plays c past) ≤ turns past)

-- ---- waiting

-- Whatever came before: once three pictures came on ways of this length or longer, it is made after
-- each packet of its picture whose way is longer by the wait at most. No packet of its picture, or of a
-- later one, may say that it was captured earlier; and none came of one that is more than the lead
-- after it.
abbrev pub HasWaited : Config → Played → Type 0
HasWaited c p =
    (shortest : ℕ) (packet : Arrival) (later before : List Arrival)
    → arrivals_of (timed_in c p.line) ≡ later ++ before
    → Hides later before
    → AllByRecursion IsTimed later
    → AllByRecursion (λ a. shortest ≤ transit a) later
    → AllByRecursion (λ a. packet.picture ≤ a.picture → packet.captured ≤ a.captured) (later ++ before)
    → packet.picture ≡ next_number_in c p.line
    → newest_number c p.line ≤ next_number_in c p.line + c.lead
    → IsTimed packet → transit packet ≤ shortest + c.wait
    → packet.at ≤ p.now

abbrev pub RunsWait : Type 0
RunsWait = (c : Config) (past : List SessionEntry) → AllByRecursion (HasWaited c) (session_plays c past)

-- ---- numbers

-- In no time do the numbers of a run go on by more pictures than are captured in that time, a tenth
-- more, and two seconds.
abbrev pub NeverAhead : Type 0
NeverAhead =
    (c : Config) (past : List SessionEntry) (run : Run) (later before : List HeardPacket) (x y : Newest) → IsRate c.rate
    → let heard = heard_of (line_of run (session_run c past).follows.lines).past in
    heard ≡ later ++ before → newest_after c.rate before ≡ Some x → newest_after c.rate heard ≡ Some y
    → ((y.number - x.number) * (c.rate.second * 10000000000) ≤ c.rate.rate * (20000000000 + 11 * (y.at - x.at)))
    × (y.at ≤ (session_run c past).now)
