-- A session, by what came and what was played. Times are nanoseconds; lists have the newest first.
use Rattle.std.specs.Prelude.{ℕ, ◌==◌, max, min, Bool, true, false, List, [], ◌∷◌, Option, Some, None, Result, Ok, Err, if◌then◌else◌}
use Rattle.rtp_source.specs.Source.{renamed}
use Rattle.receiver_end.specs.Answers.{mark_from}
use Rattle.receiver_end.specs.State.{mark_after}
use Rattle.stream_choice.specs.declared.streams.Run.{Run}
use Rattle.stream_choice.specs.declared.streams.Taker.{Taker}
use Rattle.stream_choice.specs.declared.streams.Taker.TheVariants as takers
use Rattle.stream_choice.specs.Choice as choice
use Rattle.stream_choice.specs.Granting.{is_granted}
use Rattle.session_intake.specs.declared.counts.Counts.{Counts}
use Rattle.session_intake.specs.declared.seen.Seen.{Seen}
use Rattle.session_intake.specs.declared.seen.Cause.{Cause}
use Rattle.session_intake.specs.declared.seen.Cause.TheVariants as causes
use Rattle.session_intake.specs.Asked as budgets
use Rattle.session_intake.specs.Asked.{look_times_of, no_asked, with_asked}
use Rattle.session_intake.specs.Counts as counting
use Rattle.session_intake.specs.Datagrams.{seen_in}
use Rattle.session_runs.specs.Histories.{Answer, Config, history_entries}
use Rattle.session_runs.specs.Lines.{line_of, taker_run}
use Rattle.packet_gaps.specs.declared.gaps.Nack.{Nack}
use Rattle.session_runs.specs.Following.{Follows, after_asked, after_bye, after_play_of, after_taker, taker_answer, nack_of_followed, source_noted, run_due}
use Rattle.session_runs.specs.Followed.{begun_follows}

-- What a session is at: the time; the streams and what came of them; when packets were asked for;
-- when another stream came beside the one that is followed; and what is counted.
pub record SessionState : Type 0 where
  pub now : ℕ
  pub follows : Follows
  pub asked : budgets.LookTimes
  pub rivals : List ℕ
  pub counts : Counts

abbrev pub state_at_start : SessionState
state_at_start =
    record {
      now = 0;
      follows = begun_follows 0;
      asked = no_asked;
      rivals = [];
      counts = counting.nothing_counted;
    }

-- ---- the clock

-- The clock doesn't go back: a time before the last one counts as that. It stands at 2^62 - 1.
abbrev pub session_time : ℕ → ℕ → ℕ
session_time last now = max last (min now 4611686018427387903)

abbrev pub at : ℕ → SessionState → SessionState
at now st =
    record {
      now = session_time st.now now;
      follows = st.follows;
      asked = st.asked;
      rivals = st.rivals;
      counts = st.counts;
    }

-- ---- datagrams

-- what is said of a datagram: dropped, or taken by a run, with the SSRC of its stream and its answer
pub data Outcome : Type 0 where
  Dropped : (cause : Cause) → Outcome
  Taken : (run : Run) (source : ℕ) (answer : Answer) → Outcome

abbrev pub dropped : Cause → SessionState → SessionState
dropped cause st =
    record {
      now = st.now;
      follows = st.follows;
      asked = st.asked;
      rivals = st.rivals;
      counts = counting.after_drop cause st.counts;
    }

-- A packet comes beside a stream that is live: of a stream that was followed, or that has no run.
abbrev pub is_beside : Taker → Bool → Bool
is_beside takers.Former live = live
is_beside takers.NoRun live = live
is_beside takers.Followed live = false
is_beside takers.Tried live = false
is_beside takers.Begins live = false

abbrev pub is_rival : Taker → SessionState → Bool
is_rival taker st = is_beside taker (choice.is_live_one st.follows.streams.followed st.now)

-- that is told once a second
abbrev pub rivals_after : Bool → ℕ → List ℕ → List ℕ
rivals_after false now rivals = rivals
rivals_after true now rivals = now ∷ rivals

abbrev pub is_told : Bool → ℕ → List ℕ → Bool
is_told false now rivals = false
is_told true now rivals = is_granted 1 now rivals

abbrev pub rivals_noted : Taker → SessionState → SessionState
rivals_noted taker st =
    record {
      now = st.now;
      follows = st.follows;
      asked = st.asked;
      rivals = rivals_after (is_rival taker st) st.now st.rivals;
      counts = st.counts;
    }

abbrev pub counts_after : Option Run → Counts → Counts
counts_after None counts = counting.after_drop causes.OtherStream counts
counts_after (Some run) counts = counting.after_taken counts

-- a packet that is looked at
abbrev pub after_granted : Config → Seen → Taker → List ℕ → SessionState → SessionState
after_granted c seen taker own st =
    record {
      now = st.now;
      follows = after_taker c taker seen.packet own st.now (source_noted seen.source st.now st.follows);
      asked = st.asked;
      rivals = rivals_after (is_rival taker st) st.now st.rivals;
      counts = counts_after (taker_run taker) st.counts;
    }

abbrev pub after_grant : Config → Seen → Taker → List ℕ → Bool → SessionState → SessionState
after_grant c seen taker own true st = after_granted c seen taker own st
after_grant c seen taker own false st = dropped causes.TooFast st

-- Its budget has one more: of the stream that is followed, of the former one, or of all others.
abbrev pub is_looked_at : Taker → SessionState → Bool
is_looked_at taker st = is_granted 12000 st.now (look_times_of taker st.asked)

abbrev pub asked_for : Taker → SessionState → SessionState
asked_for taker st =
    record {
      now = st.now;
      follows = st.follows;
      asked = with_asked taker st.now st.asked;
      rivals = st.rivals;
      counts = st.counts;
    }

abbrev pub after_seen : Config → Seen → Taker → List ℕ → SessionState → SessionState
after_seen c seen taker own st =
    after_grant c seen taker own (is_looked_at taker st) (asked_for taker st)

abbrev pub taker_in : Seen → SessionState → Taker
taker_in seen st = choice.taker_of st.follows.streams seen.source st.now

abbrev pub after_reading : Config → Result Seen Cause → List ℕ → SessionState → SessionState
after_reading c (Err cause) own st = dropped cause st
after_reading c (Ok seen) own st = after_seen c seen (taker_in seen st) own st

-- Nothing is asked of a budget before a datagram is known to be a packet of the call's pictures.
abbrev pub after_datagram : Config → List ℕ → ℕ → SessionState → SessionState
after_datagram c bytes now st =
    after_reading c (seen_in c.params bytes) (renamed bytes) (at now st)

-- Where packets of one stream alone are looked at, a packet of another is dropped.
abbrev pub only_of : ℕ → Result Seen Cause → Result Seen Cause
only_of source (Err cause) = Err cause
only_of source (Ok seen) = if seen.source == source then Ok seen else Err causes.OtherStream

-- what a datagram says then
abbrev pub seen_of_one : Config → ℕ → List ℕ → Result Seen Cause
seen_of_one c source bytes = only_of source (seen_in c.params bytes)

abbrev pub after_datagram_of : Config → ℕ → List ℕ → ℕ → SessionState → SessionState
after_datagram_of c source bytes now st =
    after_reading c (seen_of_one c source bytes) (renamed bytes) (at now st)

-- ---- what is said of them

abbrev pub outcome_of_run : Config → Seen → Taker → Option Run → List ℕ → SessionState → Outcome
outcome_of_run c seen taker None own st = Dropped causes.OtherStream
outcome_of_run c seen taker (Some run) own st =
    Taken run seen.source
    (taker_answer c taker run seen.packet own st.now (source_noted seen.source st.now st.follows))

abbrev pub outcome_of_grant : Config → Seen → Taker → List ℕ → Bool → SessionState → Outcome
outcome_of_grant c seen taker own true st = outcome_of_run c seen taker (taker_run taker) own st
outcome_of_grant c seen taker own false st = Dropped causes.TooFast

abbrev pub outcome_of_seen : Config → Seen → Taker → List ℕ → SessionState → Outcome
outcome_of_seen c seen taker own st =
    outcome_of_grant c seen taker own (is_looked_at taker st) st

abbrev pub outcome_of_reading : Config → Result Seen Cause → List ℕ → SessionState → Outcome
outcome_of_reading c (Err cause) own st = Dropped cause
outcome_of_reading c (Ok seen) own st = outcome_of_seen c seen (taker_in seen st) own st

abbrev pub outcome_of : Config → List ℕ → ℕ → SessionState → Outcome
outcome_of c bytes now st =
    outcome_of_reading c (seen_in c.params bytes) (renamed bytes) (at now st)

abbrev pub outcome_of_one : Config → ℕ → List ℕ → ℕ → SessionState → Outcome
outcome_of_one c source bytes now st =
    outcome_of_reading c (seen_of_one c source bytes) (renamed bytes) (at now st)

-- whether it is told, with a packet, that another stream came beside a live one
abbrev pub told_of_grant : Taker → Bool → SessionState → Bool
told_of_grant taker true st = is_told (is_rival taker st) st.now st.rivals
told_of_grant taker false st = false

abbrev pub told_of_seen : Taker → SessionState → Bool
told_of_seen taker st = told_of_grant taker (is_looked_at taker st) st

abbrev pub told_of_reading : Result Seen Cause → SessionState → Bool
told_of_reading (Err cause) st = false
told_of_reading (Ok seen) st = told_of_seen (taker_in seen st) st

abbrev pub told_of_datagram : Config → List ℕ → ℕ → SessionState → Bool
told_of_datagram c bytes now st = told_of_reading (seen_in c.params bytes) (at now st)

abbrev pub told_of_one : Config → ℕ → List ℕ → ℕ → SessionState → Bool
told_of_one c source bytes now st = told_of_reading (seen_of_one c source bytes) (at now st)

-- ---- plays

abbrev pub counts_of_play : Config → Option Run → Follows → Counts → Counts
counts_of_play c None f counts = counts
counts_of_play c (Some run) f counts =
    counting.counts_after_play run (mark_from (mark_after c.params (history_entries c (line_of run f.lines)))) counts

abbrev pub after_played : Config → Option Run → SessionState → SessionState
after_played c run st =
    record {
      now = st.now;
      follows = after_play_of c run st.now st.follows;
      asked = st.asked;
      rivals = st.rivals;
      counts = counts_of_play c run st.follows st.counts;
    }

-- the run of which a picture is played, if one is due
abbrev pub played_run : Config → SessionState → Option Run
played_run c st = run_due c st.now st.follows

abbrev pub after_turn : Config → ℕ → SessionState → SessionState
after_turn c now st = after_played c (played_run c (at now st)) (at now st)

-- ---- asking again, ends, and calls that begin anew

abbrev pub with_follows : Follows → SessionState → SessionState
with_follows f st =
    record {
      now = st.now;
      follows = f;
      asked = st.asked;
      rivals = st.rivals;
      counts = st.counts;
    }

-- The next packets that are asked for are those of the stream that is followed.
abbrev pub missing_at : Config → ℕ → SessionState → Option Nack
missing_at c round_trip st = nack_of_followed c round_trip st.now st.follows

abbrev pub after_missing : Config → ℕ → SessionState → SessionState
after_missing c round_trip st = with_follows (after_asked c round_trip st.now st.follows) st

-- the stream with this SSRC has ended
abbrev pub after_ended : ℕ → SessionState → SessionState
after_ended source st = with_follows (after_bye source st.now st.follows) st

-- No stream has a run any more. Clock, budgets, what was told and what was counted stay.
abbrev pub after_anew : SessionState → SessionState
after_anew st = with_follows (begun_follows st.now) st

-- ---- the whole

-- A datagram came then, or one of a call in which packets of one stream alone are looked at; or the
-- next picture was to be played if it was due; or it was asked once which packets to ask for again,
-- where the answer takes so long; or the stream with this SSRC had ended; or the call began anew.
pub data SessionEntry : Type 0 where
  Datagram : (bytes : List ℕ) (now : ℕ) → SessionEntry
  DatagramOf : (source : ℕ) (bytes : List ℕ) (now : ℕ) → SessionEntry
  Turn : (now : ℕ) → SessionEntry
  Asked : (round_trip now : ℕ) → SessionEntry
  Ended : (source now : ℕ) → SessionEntry
  Anew : (now : ℕ) → SessionEntry

-- the session after these
abbrev pub session_run : Config → List SessionEntry → SessionState
session_run c [] = state_at_start
session_run c (Datagram bytes now ∷ past) = after_datagram c bytes now (session_run c past)
session_run c (DatagramOf source bytes now ∷ past) =
    after_datagram_of c source bytes now (session_run c past)
session_run c (Turn now ∷ past) = after_turn c now (session_run c past)
session_run c (Asked round_trip now ∷ past) =
    after_missing c round_trip (at now (session_run c past))
session_run c (Ended source now ∷ past) = after_ended source (at now (session_run c past))
session_run c (Anew now ∷ past) = after_anew (at now (session_run c past))
