-- There is nothing from which a session doesn't recover. Lists have the newest first.
use Rattle.std.specs.Prelude.{◌≡◌, ℕ, ◌+◌, ◌-◌, ◌<◌, ◌≤◌, Bool, true, false, List, [], ◌∷◌, ◌++◌, length, IfSome, Some}
use Rattle.std.specs.List.{AllByRecursion}
use Rattle.receiver_end.specs.State.{answer_after, plays_alone}
use Rattle.stream_choice.specs.declared.streams.Run.{Run}
use Rattle.stream_choice.specs.Choice.{is_of}
use Rattle.stream_numbers.specs.declared.packet.Packet.{Packet}
use Rattle.stream_numbers.specs.declared.packet.Place.{Place}
use Rattle.stream_numbers.specs.Streams.{place_of}
use Rattle.playout_times.specs.declared.arrival.Arrival.{Arrival}
use Rattle.playout_times.specs.Due.{captured_from, due_of}
use Rattle.playout_times.specs.Kept.{IsTimed}
use Rattle.playout_times.specs.Laws.{Hides}
use Rattle.playout_times.specs.Ways.{transit}
use Rattle.timed_receiver.specs.Timed.{arrivals_of}
use Rattle.stream_run.specs.Entries.{heard_of}
use Rattle.session_intake.specs.declared.seen.Cause.TheVariants as causes
use Rattle.session_intake.specs.Datagrams.{seen_in}
use Rattle.session_runs.specs.Histories.{Config, History, IsHeard, history_after_packet, answer_in, history_begun, answer_completes, is_heard, must_begin, next_number_in, ready, timed_in}
use Rattle.session_runs.specs.Lines.{line_of}
use Rattle.call_session.specs.Sessions.{Anew, Asked, Datagram, DatagramOf, Dropped, Ended, SessionEntry, Outcome, Taken, Turn, outcome_of, outcome_of_one, seen_of_one, session_run}
use Rattle.session_laws.specs.Undisturbed.{InOrder, is_from, is_from_other, newest_time}

-- ---- taken again

abbrev pub is_taken : Outcome → Bool
is_taken (Dropped cause) = false
is_taken (Taken run source answer) = true

-- no packet of these was taken by a run
abbrev pub NoneTaken : Config → List SessionEntry → List SessionEntry → Type 0
NoneTaken c before [] = Unit {0}
NoneTaken c before (Datagram bytes now ∷ es) =
    (is_taken (outcome_of c bytes now (session_run c (es ++ before))) ≡ false) × NoneTaken c before es
NoneTaken c before (DatagramOf only bytes now ∷ es) =
    (is_taken (outcome_of_one c only bytes now (session_run c (es ++ before))) ≡ false) × NoneTaken c before es
NoneTaken c before (Turn now ∷ es) = NoneTaken c before es
NoneTaken c before (Asked round_trip now ∷ es) = NoneTaken c before es
NoneTaken c before (Ended source now ∷ es) = NoneTaken c before es
NoneTaken c before (Anew now ∷ es) = NoneTaken c before es

-- Whatever came before: once no packet was taken for a second and a half, the next packet of any stream
-- isn't dropped for another's sake.
abbrev pub NeverShutOut : Type 0
NeverShutOut =
    (c : Config) (source : ℕ) (before es : List SessionEntry) (bytes : List ℕ) (now : ℕ)
    → InOrder (Datagram bytes now ∷ (es ++ before))
    → NoneTaken c before es
    → newest_time before + 1500000000 ≤ now
    → is_from source (seen_in c.params bytes) ≡ true
    → outcome_of c bytes now (session_run c (es ++ before)) ≡ Dropped causes.OtherStream → ⊥

-- ---- followed again

-- no packet of these is of another stream
abbrev pub IsAlone : Config → ℕ → List SessionEntry → Type 0
IsAlone c source [] = Unit {0}
IsAlone c source (Datagram bytes now ∷ es) =
    (is_from_other source (seen_in c.params bytes) ≡ false) × IsAlone c source es
IsAlone c source (DatagramOf only bytes now ∷ es) =
    (is_from_other source (seen_of_one c only bytes) ≡ false) × IsAlone c source es
IsAlone c source (Turn now ∷ es) = IsAlone c source es
IsAlone c source (Asked round_trip now ∷ es) = IsAlone c source es
IsAlone c source (Ended other now ∷ es) = IsAlone c source es
IsAlone c source (Anew now ∷ es) = IsAlone c source es

-- with this packet a picture of its run is complete
abbrev pub completes_picture : Outcome → Bool
completes_picture (Dropped cause) = false
completes_picture (Taken run source answer) = answer_completes answer

-- Whatever came before: once packets of one stream alone came for half a second, the stream is followed
-- from its next complete picture on.
abbrev pub FollowedAgain : Type 0
FollowedAgain =
    (c : Config) (source : ℕ) (before es : List SessionEntry) (bytes : List ℕ) (now : ℕ)
    → InOrder (Datagram bytes now ∷ (es ++ before))
    → IsAlone c source es
    → newest_time before + 500000000 ≤ now
    → is_from source (seen_in c.params bytes) ≡ true
    → completes_picture (outcome_of c bytes now (session_run c (es ++ before))) ≡ true
    → is_of (session_run c (Datagram bytes now ∷ (es ++ before))).follows.streams.followed source ≡ true

-- ---- heard again

-- packets that a run takes in a row: what each says, its bytes, and when it came
abbrev pub PacketsInRow : Type 0
PacketsInRow = List (Packet × List ℕ × ℕ)

-- each begins the run anew where that is needed
abbrev pub after_row : Config → History → PacketsInRow → History
after_row c h [] = h
after_row c h (p ∷ ps) = history_after_packet c p.0 p.1 p.2 (ready c p.0.reference p.2 (after_row c h ps))

-- none of them is heard
abbrev pub NoneIsHeard : Config → History → PacketsInRow → Type 0
NoneIsHeard c h [] = Unit {0}
NoneIsHeard c h (p ∷ ps) =
    (is_heard (answer_in c p.0 p.1 p.2 (ready c p.0.reference p.2 (after_row c h ps))) ≡ false) × NoneIsHeard c h ps

-- and none begins the run anew
abbrev pub NoneBegins : Config → History → PacketsInRow → Type 0
NoneBegins c h [] = Unit {0}
NoneBegins c h (p ∷ ps) = (must_begin c p.2 (after_row c h ps) ≡ false) × NoneBegins c h ps

-- when the first of them came, or this time where there is none
abbrev pub first_time : ℕ → PacketsInRow → ℕ
first_time now [] = now
first_time now (p ∷ ps) = first_time p.2 ps

-- Whatever came before, of thirty-one packets in a row of a run, over a second or longer, one is heard,
-- or one begins the run anew. One that does is answered by a receiver that has played nothing but the
-- pictures up to the third before it.
abbrev pub HeardAgain : Type 0
HeardAgain =
    ((c : Config) (past : List SessionEntry) (run : Run) (p : Packet × List ℕ × ℕ) (ps : PacketsInRow)
    → let h = line_of run (session_run c past).follows.lines in
    (session_run c past).now ≤ first_time p.2 ps
    → NoneIsHeard c h (p ∷ ps) → NoneBegins c h (p ∷ ps) → 30 ≤ length ps
    → p.2 < first_time p.2 ps + 1000000000)
    × ((c : Config) (packet : Packet) (bytes : List ℕ) (now : ℕ) → 2 ≤ c.lead
    → answer_in c packet bytes now (history_begun packet.reference now)
    ≡ IsHeard (answer_after c.params (plays_alone (packet.reference - 2)) bytes))

-- ---- in time again

-- A packet that has a place, and isn't more than the lead after the next picture, counts on the ways of
-- its run, also where it is late.
abbrev pub EachCounts : Type 0
EachCounts =
    (c : Config) (h : History) (packet : Packet) (bytes : List ℕ) (now : ℕ) (place : Place)
    → place_of c.rate (heard_of h.past) packet now ≡ Some place
    → place.number ≤ next_number_in c h + c.lead
    → arrivals_of (timed_in c (history_after_packet c packet bytes now h))
    ≡ record { picture = place.number; captured = place.captured; at = now } ∷ arrivals_of (timed_in c h)

-- Whatever came before: once three pictures of a run came on ways between these two, its next picture is
-- due between its capture, these ways and the wait.
abbrev pub DueAgain : Type 0
DueAgain =
    (c : Config) (past : List SessionEntry) (run : Run) (shortest longest : ℕ) (later before : List Arrival)
    → let h = line_of run (session_run c past).follows.lines in
    let arrivals = arrivals_of (timed_in c h) in
    let captured = captured_from (next_number_in c h) arrivals in
    arrivals ≡ later ++ before → Hides later before
    → AllByRecursion IsTimed later
    → AllByRecursion (λ a. (shortest ≤ transit a) × (transit a ≤ longest)) later
    → IfSome (due_of c.wait (next_number_in c h) arrivals)
    (λ time. (captured + shortest + c.wait - 4611686018427387904 ≤ time)
    × (time ≤ captured + longest + c.wait - 4611686018427387904))
