-- What holds of streams and budgets, whatever comes.
use Rattle.std.specs.Prelude.{◌≡◌, ℕ, ◌+◌, ◌-◌, ◌/◌, ◌<◌, ◌≤◌, ◌==◌, Bool, true, false, List, [], ◌∷◌, filter, count_by, Some, None, MatchOption}
use Rattle.stream_choice.specs.declared.stream.Stream.{Stream}
use Rattle.stream_choice.specs.declared.streams.Streams.{Streams}
use Rattle.stream_choice.specs.declared.streams.Run.{Run}
use Rattle.stream_choice.specs.declared.streams.Run.TheVariants as runs
use Rattle.stream_choice.specs.declared.streams.Taker.TheVariants as takers
use Rattle.stream_choice.specs.Choice.{after_complete, after_end, streams_after_packet, stream_counted, is_live_one, is_of, taker_of}
use Rattle.stream_choice.specs.Granting.{granted}

-- ---- budgets

-- of no second of the clock more are granted
abbrev pub NeverMore : Type 0
NeverMore = (most second : ℕ) (past : List ℕ)
    → count_by (λ time. (time / 1000000000) == second) (granted most past) ≤ most

-- ---- streams

-- a packet of this stream came, or a picture of a run was complete
pub data ChoiceEvent : Type 0 where
  Came : (source now : ℕ) → ChoiceEvent
  Complete : (run : Run) (now : ℕ) → ChoiceEvent

abbrev pub streams_after : Streams → ChoiceEvent → Streams
streams_after st (Came source now) = streams_after_packet st source now
streams_after st (Complete run now) = after_complete st run now

-- the oldest first
abbrev pub streams_after_all : Streams → List ChoiceEvent → Streams
streams_after_all st [] = st
streams_after_all st (e ∷ es) = streams_after_all (streams_after st e) es

-- it is of the stream that is followed, which has this SSRC
abbrev pub is_own_event : ℕ → ChoiceEvent → Bool
is_own_event source (Came other now) = other == source
is_own_event source (Complete runs.Followed now) = true
is_own_event source (Complete runs.Former now) = false
is_own_event source (Complete runs.Tried now) = false

-- Whatever comes, less than half a second ago a picture of this stream was complete; and the former
-- stream, with so many pictures, has never more than it.
abbrev pub StreamStaysLive : ℕ → Stream → List ChoiceEvent → Type 0
StreamStaysLive n f [] = Unit {0}
StreamStaysLive n f (Came source now ∷ es) = (now - f.last < 500000000) × StreamStaysLive n f es
StreamStaysLive n f (Complete runs.Followed now ∷ es) =
    (now - f.last < 500000000) × StreamStaysLive n (stream_counted now f) es
StreamStaysLive n f (Complete runs.Former now ∷ es) =
    (now - f.last < 500000000) × (n + 1 ≤ f.pictures) × StreamStaysLive (n + 1) f es
StreamStaysLive n f (Complete runs.Tried now ∷ es) = (now - f.last < 500000000) × StreamStaysLive n f es

-- this stream alone
abbrev pub alone : Stream → Streams
alone f = record { followed = Some f; former = None; tried = None }

-- What comes of others changes nothing of a stream that completes pictures: it is where its own
-- packets and pictures alone would have it, and its next packet is taken by its own run.
abbrev pub StreamUndisturbed : Type 0
StreamUndisturbed =
    (st : Streams) (f : Stream) (n : ℕ) (es : List ChoiceEvent) → st.followed ≡ Some f
    → MatchOption st.former (Unit {0}) (λ g. g.pictures ≤ n) → StreamStaysLive n f es
    → ((streams_after_all st es).followed ≡ (streams_after_all (alone f) (filter (is_own_event f.source) es)).followed)
    × ((now : ℕ) → taker_of (streams_after_all st es) f.source now ≡ takers.Followed)

-- Where the stream that is followed has ended, it isn't live, half a second after the clock began or
-- later; an end of another stream changes nothing.
abbrev pub EndsLife : Type 0
EndsLife =
    (st : Streams) (source now : ℕ)
    → (is_of st.followed source ≡ true → (time : ℕ) → 500000000 ≤ now → now ≤ time
    → is_live_one (after_end st source now).followed time ≡ false)
    × (is_of st.followed source ≡ false → after_end st source now ≡ st)

-- No stream is shut out: where none that is followed is live, a packet is taken, a second and a half
-- after the last trial began at the latest.
abbrev pub StreamsNeverShutOut : Type 0
StreamsNeverShutOut =
    (st : Streams) (source now : ℕ) → is_live_one st.followed now ≡ false
    → MatchOption st.tried (Unit {0}) (λ t. t.began + 1500000000 ≤ now)
    → taker_of st source now ≡ takers.NoRun → ⊥
