-- Which stream is followed. Times are nanoseconds.
use Rattle.std.specs.Prelude.{ℕ, ◌+◌, ◌-◌, ◌==◌, min, nat_le, nat_lt, not, Bool, true, false, Option, Some, None, if◌then◌else◌}
use Rattle.std.specs.Option.{option_map}
use Rattle.stream_choice.specs.declared.stream.Stream.{Stream}
use Rattle.stream_choice.specs.declared.trial.Trial.{Trial}
use Rattle.stream_choice.specs.declared.streams.Streams.{Streams}
use Rattle.stream_choice.specs.declared.streams.Run.{Run}
use Rattle.stream_choice.specs.declared.streams.Run.TheVariants as runs
use Rattle.stream_choice.specs.declared.streams.Turn.{Turn}
use Rattle.stream_choice.specs.declared.streams.Turn.TheVariants as turns
use Rattle.stream_choice.specs.declared.streams.Taker.{Taker}
use Rattle.stream_choice.specs.declared.streams.Taker.TheVariants as takers

-- ---- streams

-- a picture of it was complete in the last half second
abbrev pub is_live : ℕ → Stream → Bool
is_live now s = nat_lt (now - s.last) 500000000

abbrev pub is_live_one : Option Stream → ℕ → Bool
is_live_one None now = false
is_live_one (Some s) now = is_live now s

abbrev pub is_of : Option Stream → ℕ → Bool
is_of None source = false
is_of (Some s) source = s.source == source

-- with one more picture, up to 2^32 - 1
abbrev pub stream_counted : ℕ → Stream → Stream
stream_counted now s = record { source = s.source; pictures = min (s.pictures + 1) 4294967295; last = now }

-- It has ended: its last picture counts as one of half a second ago, unless it is older.
abbrev pub ended_at : ℕ → Stream → Stream
ended_at now s =
    record { source = s.source; pictures = s.pictures; last = min s.last (now - 500000000) }

-- what is left of a stream where the one with this SSRC has ended
abbrev pub ended_if : Option Stream → ℕ → ℕ → Option Stream
ended_if None source now = None
ended_if (Some s) source now = if s.source == source then Some (ended_at now s) else Some s

-- ---- trials

-- A trial is over for so long: it has a second for its first complete picture, as long as its
-- packets are no further apart than half a second.
abbrev pub is_over : ℕ → ℕ → Trial → Bool
is_over long now t =
    if nat_le (1000000000 + long) (now - t.began) then true
    else nat_le (500000000 + long) (now - t.last)

abbrev pub is_tried : Option Trial → ℕ → ℕ → Bool
is_tried None source now = false
is_tried (Some t) source now = if t.source == source then not (is_over 0 now t) else false

-- No other trial is going on; one of the same stream has been over for half a second, so that
-- another has its turn.
abbrev pub may_begin : Option Trial → ℕ → ℕ → Bool
may_begin None source now = true
may_begin (Some t) source now =
    if t.source == source then is_over 500000000 now t else is_over 0 now t

abbrev pub touched : Option Trial → ℕ → Option Trial
touched None now = None
touched (Some t) now = Some (record { source = t.source; began = t.began; last = now })

-- ---- packets

-- Which run takes a packet of this stream: its own, if it has one. Else a trial begins where no
-- stream is followed that is live.
abbrev pub taker_of : Streams → ℕ → ℕ → Taker
taker_of st source now =
    if is_of st.followed source then takers.Followed
    else if is_of st.former source then takers.Former
    else if is_tried st.tried source now then takers.Tried
    else if is_live_one st.followed now then takers.NoRun
    else if may_begin st.tried source now then takers.Begins
    else takers.NoRun

abbrev pub tried_after : Taker → Option Trial → ℕ → ℕ → Option Trial
tried_after takers.Followed tried source now = tried
tried_after takers.Former tried source now = tried
tried_after takers.Tried tried source now = touched tried now
tried_after takers.Begins tried source now = Some (record { source = source; began = now; last = now })
tried_after takers.NoRun tried source now = tried

abbrev pub streams_after_packet : Streams → ℕ → ℕ → Streams
streams_after_packet st source now =
    record {
      followed = st.followed;
      former = st.former;
      tried = tried_after (taker_of st source now) st.tried source now;
    }

-- The stream with this SSRC has ended. Trials and the former stream stay: a trial that failed has the
-- same wait after it.
abbrev pub after_end : Streams → ℕ → ℕ → Streams
after_end st source now =
    record { followed = ended_if st.followed source now; former = st.former; tried = st.tried }

-- ---- complete pictures

-- A former stream is followed again where the one that is followed isn't live, or has had fewer
-- pictures.
abbrev pub overtakes : Option Stream → Stream → ℕ → Bool
overtakes None former now = true
overtakes (Some f) former now = if is_live now f then nat_lt f.pictures former.pictures else true

-- of the former stream and of the one that was followed the one with more pictures keeps its run
abbrev pub kept : Option Stream → Option Stream → Option Stream
kept former None = former
kept None (Some f) = Some f
kept (Some g) (Some f) = if nat_lt g.pictures f.pictures then Some f else Some g

-- what is left where a picture of the former stream is complete
abbrev pub with_former : Streams → Option Stream → ℕ → Streams
with_former st None now = st
with_former st (Some g) now =
    if overtakes st.followed (stream_counted now g) now
    then record { followed = Some (stream_counted now g); former = st.followed; tried = st.tried }
    else record { followed = st.followed; former = Some (stream_counted now g); tried = st.tried }

-- What is left where a picture of the stream that is tried is complete. It is followed, unless the
-- one that was followed is live again.
abbrev pub with_tried : Streams → Option Trial → ℕ → Streams
with_tried st None now = st
with_tried st (Some t) now =
    if is_live_one st.followed now
    then record { followed = st.followed; former = st.former; tried = None }
    else record {
      followed = Some (record { source = t.source; pictures = 1; last = now });
      former = kept st.former st.followed;
      tried = None;
    }

abbrev pub after_complete : Streams → Run → ℕ → Streams
after_complete st runs.Followed now =
    record { followed = option_map (stream_counted now) st.followed; former = st.former; tried = st.tried }
after_complete st runs.Former now = with_former st st.former now
after_complete st runs.Tried now = with_tried st st.tried now

-- ---- runs

-- the one that was followed keeps its run, and the former one doesn't
abbrev pub keeps_run : Option Stream → Option Stream → Bool
keeps_run former None = false
keeps_run None (Some f) = true
keeps_run (Some g) (Some f) = nat_lt g.pictures f.pictures

abbrev pub former_turn : Streams → Option Stream → ℕ → Turn
former_turn st None now = turns.Stays
former_turn st (Some g) now =
    if overtakes st.followed (stream_counted now g) now then turns.ToFormer else turns.Stays

abbrev pub tried_turn : Streams → Option Trial → ℕ → Turn
tried_turn st None now = turns.Stays
tried_turn st (Some t) now =
    if is_live_one st.followed now then turns.Stays
    else if keeps_run st.former st.followed then turns.ToTried
    else turns.ToTriedBeside

-- What becomes of the runs where a picture is complete: each goes with its stream.
abbrev pub turn_of : Streams → Run → ℕ → Turn
turn_of st runs.Followed now = turns.Stays
turn_of st runs.Former now = former_turn st st.former now
turn_of st runs.Tried now = tried_turn st st.tried now

-- the SSRC of the stream of a run, if it has one
abbrev pub run_source : Streams → Run → Option ℕ
run_source st runs.Followed = option_map (λ s. s.source) st.followed
run_source st runs.Former = option_map (λ s. s.source) st.former
run_source st runs.Tried = option_map (λ t. t.source) st.tried
