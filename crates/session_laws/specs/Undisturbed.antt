-- What others send changes nothing of a stream that is followed. Lists have the newest first.
use Rattle.std.specs.Prelude.{◌≡◌, ℕ, ◌<◌, ◌≤◌, ◌==◌, nat_lt, not, Bool, true, false, List, [], ◌∷◌, ◌++◌, filter, Option, Some, None, Result, Ok, Err}
use Rattle.h263_planes.specs.Picture.{Picture}
use Rattle.call_model.specs.Coding.{Mark, Message}
use Rattle.call_model.specs.Receiving.{PlayNext}
use Rattle.receiver_end.specs.State.{mark_after, message_after, run_of}
use Rattle.stream_choice.specs.declared.stream.Stream.{Stream}
use Rattle.stream_choice.specs.declared.streams.Run.{Run}
use Rattle.stream_choice.specs.declared.streams.Run.TheVariants as runs
use Rattle.stream_choice.specs.Choice.{is_live_one, is_of}
use Rattle.session_intake.specs.declared.seen.Seen.{Seen}
use Rattle.session_intake.specs.declared.seen.Cause.{Cause}
use Rattle.session_intake.specs.Datagrams.{seen_in}
use Rattle.session_runs.specs.Histories.{Config, History, history_entries, next_number_in}
use Rattle.packet_gaps.specs.declared.gaps.Nack.{Nack}
use Rattle.call_session.specs.Sessions.{Anew, Asked, Datagram, DatagramOf, Ended, SessionEntry, Outcome, SessionState, Turn, at, missing_at, outcome_of, outcome_of_one, played_run, seen_of_one, session_run}

-- ---- the caller's clock

abbrev pub time_in : SessionEntry → ℕ
time_in (Datagram bytes now) = now
time_in (DatagramOf source bytes now) = now
time_in (Turn now) = now
time_in (Asked round_trip now) = now
time_in (Ended source now) = now
time_in (Anew now) = now

abbrev pub newest_time : List SessionEntry → ℕ
newest_time [] = 0
newest_time (e ∷ past) = time_in e

-- It doesn't go back, and stays below 2^62.
abbrev pub InOrder : List SessionEntry → Type 0
InOrder [] = Unit {0}
InOrder (e ∷ past) = (newest_time past ≤ time_in e) × (time_in e < 4611686018427387904) × InOrder past

-- ---- whose a datagram is

-- a packet of the call's pictures, of the stream with this SSRC
abbrev pub is_from : ℕ → Result Seen Cause → Bool
is_from source (Err cause) = false
is_from source (Ok seen) = seen.source == source

-- one of another stream
abbrev pub is_from_other : ℕ → Result Seen Cause → Bool
is_from_other source (Err cause) = false
is_from_other source (Ok seen) = not (seen.source == source)

-- of this stream, or the caller's own
abbrev pub is_own_entry : Config → ℕ → SessionEntry → Bool
is_own_entry c source (Datagram bytes now) = is_from source (seen_in c.params bytes)
is_own_entry c source (DatagramOf only bytes now) = is_from source (seen_of_one c only bytes)
is_own_entry c source (Turn now) = true
is_own_entry c source (Asked round_trip now) = true
is_own_entry c source (Ended other now) = other == source
is_own_entry c source (Anew now) = true

-- what is left without what others send: packets and ends of other streams, and what is no packet of
-- the call's pictures
abbrev pub own_of : Config → ℕ → List SessionEntry → List SessionEntry
own_of c source es = filter (is_own_entry c source) es

-- ---- what is said of the stream that is followed

-- a play of the next picture: its number, its mark, its message, and what it shows
pub record Play : Type 0 where
  pub number : ℕ
  pub mark : Mark
  pub message : Option Message
  pub picture : Picture

abbrev pub play_in : Config → History → Play
play_in c h =
    record {
      number = next_number_in c h;
      mark = mark_after c.params (history_entries c h);
      message = message_after c.params (history_entries c h);
      picture = (run_of c.params (PlayNext ∷ history_entries c h)).screen;
    }

-- of a packet of it, whether it is taken and what it is answered; or a play; or what is asked for
pub data Said : Type 0 where
  OfPacket : (outcome : Outcome) → Said
  OfPlay : (play : Play) → Said
  OfNack : (nack : Option Nack) → Said

abbrev pub said_of_packet : Bool → Outcome → List Said
said_of_packet true outcome = OfPacket outcome ∷ []
said_of_packet false outcome = []

abbrev pub said_of_play : Config → Option Run → SessionState → List Said
said_of_play c None st = []
said_of_play c (Some runs.Followed) st = OfPlay (play_in c st.follows.lines.followed) ∷ []
said_of_play c (Some runs.Former) st = []
said_of_play c (Some runs.Tried) st = []

abbrev pub said_with : Config → ℕ → SessionEntry → SessionState → List Said
said_with c source (Datagram bytes now) st =
    said_of_packet (is_from source (seen_in c.params bytes)) (outcome_of c bytes now st)
said_with c source (DatagramOf only bytes now) st =
    said_of_packet (is_from source (seen_of_one c only bytes)) (outcome_of_one c only bytes now st)
said_with c source (Turn now) st = said_of_play c (played_run c (at now st)) (at now st)
said_with c source (Asked round_trip now) st = OfNack (missing_at c round_trip (at now st)) ∷ []
said_with c source (Ended other now) st = []
said_with c source (Anew now) st = []

-- All that is said of packets of this stream, of plays of the stream that is followed, and of its
-- packets that are asked for, with these entries after those before.
abbrev pub said_of_stream : Config → ℕ → List SessionEntry → List SessionEntry → List Said
said_of_stream c source before [] = []
said_of_stream c source before (e ∷ es) =
    said_with c source e (session_run c (es ++ before)) ++ said_of_stream c source before es

-- what there is of the stream that is followed: itself, what came of it, its packets that were asked
-- for, and the marks that were counted
pub record Followed : Type 0 where
  pub stream : Option Stream
  pub line : History
  pub asked : List ℕ
  pub exact : ℕ
  pub patched : ℕ
  pub held : ℕ

abbrev pub followed_in : SessionState → Followed
followed_in st =
    record {
      stream = st.follows.streams.followed;
      line = st.follows.lines.followed;
      asked = st.asked.followed;
      exact = st.counts.exact;
      patched = st.counts.patched;
      held = st.counts.held;
    }

-- ---- the law

-- it is of the former stream
abbrev pub is_of_former : Option Stream → Result Seen Cause → Bool
is_of_former former (Err cause) = false
is_of_former former (Ok seen) = is_of former seen.source

-- the former stream has had fewer complete pictures than the one that is followed
abbrev pub is_behind : Option Stream → Option Stream → Bool
is_behind None followed = false
is_behind (Some g) None = false
is_behind (Some g) (Some f) = nat_lt g.pictures f.pictures

-- When it comes, a picture of the stream that is followed was complete less than half a second ago.
-- Where it is of the former stream, that has had fewer complete pictures.
pub record ComesBeside (seen : Result Seen Cause) (now : ℕ) (followed former : Option Stream) : Type 0 where
  pub live : is_live_one followed now ≡ true
  pub behind : is_of_former former seen ≡ true → is_behind former followed ≡ true

-- So it is whenever a packet of another stream comes: the followed stream as its own packets alone
-- have it. The call doesn't begin anew.
abbrev pub StaysLive : Config → ℕ → List SessionEntry → List SessionEntry → Type 0
StaysLive c source before [] = Unit {0}
StaysLive c source before (Turn now ∷ es) = StaysLive c source before es
StaysLive c source before (Asked round_trip now ∷ es) = StaysLive c source before es
StaysLive c source before (Ended other now ∷ es) = StaysLive c source before es
StaysLive c source before (Anew now ∷ es) = ⊥
StaysLive c source before (DatagramOf only bytes now ∷ es) =
    (is_from_other source (seen_of_one c only bytes) ≡ true
    → ComesBeside (seen_of_one c only bytes) now
    (session_run c (own_of c source es ++ before)).follows.streams.followed
    (session_run c (es ++ before)).follows.streams.former)
    × StaysLive c source before es
StaysLive c source before (Datagram bytes now ∷ es) =
    (is_from_other source (seen_in c.params bytes) ≡ true
    → ComesBeside (seen_in c.params bytes) now
    (session_run c (own_of c source es ++ before)).follows.streams.followed
    (session_run c (es ++ before)).follows.streams.former)
    × StaysLive c source before es

-- Whatever came before: if a stream is followed then, and a picture of it is complete every half
-- second, all is said of it as if nothing of others came; and it is where its own packets alone have
-- it.
abbrev pub Undisturbed : Type 0
Undisturbed =
    (c : Config) (source : ℕ) (before es : List SessionEntry)
    → is_of (session_run c before).follows.streams.followed source ≡ true
    → InOrder (es ++ before) → StaysLive c source before es
    → (said_of_stream c source before es ≡ said_of_stream c source before (own_of c source es))
    × (followed_in (session_run c (es ++ before)) ≡ followed_in (session_run c (own_of c source es ++ before)))
    × (is_of (session_run c (es ++ before)).follows.streams.followed source ≡ true)

-- ---- where there is no former stream

-- whenever a packet of another stream comes, a picture of the stream was complete less than half a
-- second ago, as its own packets alone have it; and the call doesn't begin anew
abbrev pub IsLive : Config → ℕ → List SessionEntry → List SessionEntry → Type 0
IsLive c source before [] = Unit {0}
IsLive c source before (Turn now ∷ es) = IsLive c source before es
IsLive c source before (Asked round_trip now ∷ es) = IsLive c source before es
IsLive c source before (Ended other now ∷ es) = IsLive c source before es
IsLive c source before (Anew now ∷ es) = ⊥
IsLive c source before (DatagramOf only bytes now ∷ es) =
    (is_from_other source (seen_of_one c only bytes) ≡ true
    → is_live_one (session_run c (own_of c source es ++ before)).follows.streams.followed now ≡ true)
    × IsLive c source before es
IsLive c source before (Datagram bytes now ∷ es) =
    (is_from_other source (seen_in c.params bytes) ≡ true
    → is_live_one (session_run c (own_of c source es ++ before)).follows.streams.followed now ≡ true)
    × IsLive c source before es

-- Then that is all that is asked of it.
abbrev pub UndisturbedFirst : Type 0
UndisturbedFirst =
    (c : Config) (source : ℕ) (before es : List SessionEntry)
    → is_of (session_run c before).follows.streams.followed source ≡ true
    → (session_run c before).follows.streams.former ≡ None
    → InOrder (es ++ before) → IsLive c source before es
    → (said_of_stream c source before es ≡ said_of_stream c source before (own_of c source es))
    × (followed_in (session_run c (es ++ before)) ≡ followed_in (session_run c (own_of c source es ++ before)))
    × (is_of (session_run c (es ++ before)).follows.streams.followed source ≡ true)
