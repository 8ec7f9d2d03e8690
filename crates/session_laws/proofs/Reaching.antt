-- What is so of all that came of the streams of a session, whatever came.
use Rattle.std.proofs.Common.{◌≡◌, ℕ, ◌+◌, ◌-◌, ◌<◌, ◌≤◌, max, Bool, true, false, cond, eqb, ltb, List, [], ◌∷◌, Option, Some, None, Result, Ok, Err, refl, arith, ⊎_elim}
use Rattle.std.specs.Option.{option_map}
use Rattle.std.specs.List.{AllByRecursion}
use Rattle.std.proofs.lemmas.Bool.{cases_lt}
use Rattle.rtp_source.specs.Source.{renamed}
use Rattle.call_model.specs.Receiving as receiving
use Rattle.h263_bits.specs.declared.fault.Fault.{Fault}
use Rattle.stream_choice.specs.declared.streams.Run.{Run}
use Rattle.stream_choice.specs.declared.streams.Run.TheVariants as runs
use Rattle.stream_choice.specs.declared.streams.Taker.{Taker}
use Rattle.stream_choice.specs.declared.streams.Taker.TheVariants as takers
use Rattle.stream_choice.specs.declared.streams.Turn.{Turn}
use Rattle.stream_choice.specs.declared.streams.Turn.TheVariants as turns
use Rattle.stream_choice.specs.Choice as choice
use Rattle.stream_numbers.specs.declared.newest.Newest.{Newest}
use Rattle.stream_numbers.specs.declared.packet.Packet.{Packet}
use Rattle.stream_numbers.specs.declared.stepping.Step.{Step}
use Rattle.stream_numbers.specs.Placing.{step_of}
use Rattle.stream_numbers.specs.Streams.{newest_kept, newest_after}
use Rattle.packet_gaps.specs.declared.moment.Moment.{Moment}
use Rattle.playout_times.specs.declared.arrival.Arrival.{Arrival}
use Rattle.receiver_end.specs.State.{answer_after}
use Rattle.timed_receiver.specs.Timed as timed
use Rattle.stream_run.specs.Entries.{heard_of, with_place}
use Rattle.session_intake.specs.Datagrams.{seen_in}
use Rattle.session_intake.specs.declared.seen.Seen.{Seen}
use Rattle.session_intake.specs.declared.seen.Cause.{Cause}
use Rattle.session_runs.specs.Histories.{Ahead, Config, History, IsHeard, after_nack, history_after_packet, history_after_play, answer_at, answer_in, history_begun, answer_completes, is_heard, must_begin, ready, timed_in, until_after}
use Rattle.session_runs.specs.Lines.{Lines, begun_lines, line_of, made_ready, taker_run, turned, lines_with}
use Rattle.session_runs.specs.declared.unheard.Unheard.{Unheard}
use Rattle.session_runs.specs.Unheard.{after_heard as unheard_after}
use Rattle.session_runs.specs.Following.{Follows, after_run, completed_if, moment_of}
use Rattle.call_session.specs.Sessions as session
use Rattle.session_laws.specs.Bounded.{newest_number, number_of_newest}
use Rattle.session_laws.proofs.Newest.{Back, StepsTo, back_later, steps}

-- ---- one line

-- Its packets came in order; each that was heard is of a picture no newer than the newest; and what is
-- due at once is more than the lead before that.
pub record Fine (c : Config) (now : ℕ) (h : History) : Type 0 where
  pub order : Back now (heard_of h.past)
  pub heard : AllByRecursion (λ a. a.picture ≤ newest_number c h) (timed.arrivals_of (timed_in c h))
  pub until : (n : ℕ) → n < h.until → n + c.lead < newest_number c h
  pub since : h.unheard.since ≤ now

begun_fine : (c : Config) (now then reference : ℕ) → then ≤ now → Fine c now (history_begun reference then)
begun_fine c now then reference i =
    record { order = tt; heard = tt; until = λ n j. omega arith; since = i }

fine_later : (c : Config) (then now : ℕ) (h : History) → then ≤ now → Fine c then h → Fine c now h
fine_later c then now h i x =
    record {
      order = back_later then now (heard_of h.past) i x.order;
      heard = x.heard;
      until = x.until;
      since = over h.unheard.since then now x.since i;
    }
  where
    over : (a b n : ℕ) → a ≤ b → b ≤ n → a ≤ n
    over a b n h i = omega arith

ready_if : (b : Bool) (c : Config) (now reference : ℕ) (h : History) → Fine c now h
    → Fine c now (cond b (history_begun reference now) h)
ready_if true c now reference h x = begun_fine c now now reference (omega arith)
ready_if false c now reference h x = x

ready_fine : (c : Config) (now reference : ℕ) (h : History) → Fine c now h → Fine c now (ready c reference now h)
ready_fine c now reference h x = ready_if (must_begin c now h) c now reference h x

-- ---- a packet of it

abbrev AreBelow : ℕ → List Arrival → Type 0
AreBelow n arrivals = AllByRecursion (λ a. a.picture ≤ n) arrivals

more : (n m : ℕ) (arrivals : List Arrival) → n ≤ m → AreBelow n arrivals → AreBelow m arrivals
more n m [] i x = tt
more n m (a ∷ arrivals) i x =
    let first = x.0 in
    (omega arith, more n m arrivals i x.1)

heard_if : (b : Bool) (n : ℕ) (bytes : List ℕ) (a : Arrival) (past : List timed.Entry) → a.picture ≤ n
    → AreBelow n (timed.arrivals_of past)
    → AreBelow n (timed.arrivals_of (cond b past (timed.Came bytes a ∷ past)))
heard_if true n bytes a past i x = x
heard_if false n bytes a past i x = (i, x)

heard_after : (before : Option Newest) (s : Option Step) (first lead : ℕ) (bytes : List ℕ) (now : ℕ)
    (past : List timed.Entry)
    → StepsTo before now s → AreBelow (number_of_newest before) (timed.arrivals_of past)
    → AreBelow (number_of_newest (newest_kept s before))
    (timed.arrivals_of (with_place first lead (option_map (λ x. x.place) s) bytes now past))
heard_after before None first lead bytes now past g x = x
heard_after before (Some s) first lead bytes now past g x =
    heard_if (ltb (timed.next_number_after first past + lead) s.place.number) s.newest.number bytes
    (record { picture = s.place.number; captured = s.place.captured; at = now }) past g.place
    (more (number_of_newest before) s.newest.number (timed.arrivals_of past) g.old x)

greater : (m until number lead before newest : ℕ) → (m < until → m + lead < before) → before ≤ newest → number ≤ newest
    → m < max until (number - lead) → m + lead < newest
greater m until number lead before newest f i j l =
    ⊎_elim
    (λ (h : m < until).
    let k = f h in
    omega (arith, k, i))
    (λ (h : until ≤ m). omega arith)
    (cases_lt m until)

until_if : (b d : Bool) (number : ℕ) (x y : receiving.Heard Fault) (m until lead before newest : ℕ)
    → (m < until → m + lead < before)
    → before ≤ newest → number ≤ newest
    → m < until_after (cond b (Ahead number) (cond d (IsHeard x) (IsHeard y))) lead until → m + lead < newest
until_if true d number x y m until lead before newest f i j l = greater m until number lead before newest f i j l
until_if false true number x y m until lead before newest f i j l =
    let k = f l in
    omega (arith, k, i)
until_if false false number x y m until lead before newest f i j l =
    let k = f l in
    omega (arith, k, i)

until_place : (c : Config) (before : Option Newest) (s : Option Step) (first : ℕ) (bytes : List ℕ) (now : ℕ)
    (past : List timed.Entry) (m until : ℕ)
    → StepsTo before now s → (m < until → m + c.lead < number_of_newest before)
    → m < until_after (answer_at c.params first c.lead past (option_map (λ x. x.place) s) bytes) c.lead until
    → m + c.lead < number_of_newest (newest_kept s before)
until_place c before None first bytes now past m until g f l = f l
until_place c before (Some s) first bytes now past m until g f l =
    until_if (ltb (timed.next_number_after first past + c.lead) s.place.number)
    (ltb s.place.number (timed.next_number_after first past))
    s.place.number receiving.Late (answer_after c.params (timed.entries_of first past) bytes) m until c.lead
    (number_of_newest before) s.newest.number f g.old g.place l

since_if : (b : Bool) (now since : ℕ) → since ≤ now → cond b now since ≤ now
since_if true now since i = omega arith
since_if false now since i = i

since_after : (b : Bool) (now : ℕ) (u : Unheard) → u.since ≤ now → (unheard_after b now u).since ≤ now
since_after true now u i = omega arith
since_after false now u i = since_if (eqb u.packets 0) now u.since i

packet_fine : (c : Config) (packet : Packet) (bytes : List ℕ) (now : ℕ) (h : History) → Fine c now h
    → Fine c now (history_after_packet c packet bytes now h)
packet_fine c packet bytes now h x =
    let before = newest_after c.rate (heard_of h.past) in
    let s = step_of c.rate before packet now in
    let g = steps c.rate before packet now in
    record {
      order = (omega arith, x.order);
      heard = heard_after before s h.first c.lead bytes now (timed_in c h) g x.heard;
      until = λ n i. until_place c before s h.first bytes now (timed_in c h) n h.until g (x.until n) i;
      since = since_after (is_heard (answer_in c packet bytes now h)) now h.unheard x.since;
    }

play_fine : (c : Config) (now : ℕ) (h : History) → Fine c now h → Fine c now (history_after_play c now h)
play_fine c now h x = record { order = x.order; heard = x.heard; until = x.until; since = x.since }

-- asking for its packets changes nothing of it
nack_fine : (o : Option Moment) (c : Config) (now : ℕ) (h : History) → Fine c now h → Fine c now (after_nack o h)
nack_fine None c now h x = x
nack_fine (Some m) c now h x = record { order = x.order; heard = x.heard; until = x.until; since = x.since }

-- ---- all three

pub record AreFine (c : Config) (now : ℕ) (l : Lines) : Type 0 where
  pub followed : Fine c now l.followed
  pub former : Fine c now l.former
  pub tried : Fine c now l.tried

lines_later : (c : Config) (then now : ℕ) (l : Lines) → then ≤ now → AreFine c then l → AreFine c now l
lines_later c then now l i x =
    record {
      followed = fine_later c then now l.followed i x.followed;
      former = fine_later c then now l.former i x.former;
      tried = fine_later c then now l.tried i x.tried;
    }

pub line_fine : (run : Run) (c : Config) (now : ℕ) (l : Lines) → AreFine c now l → Fine c now (line_of run l)
line_fine runs.Followed c now l x = x.followed
line_fine runs.Former c now l x = x.former
line_fine runs.Tried c now l x = x.tried

with_fine : (run : Run) (c : Config) (now : ℕ) (h : History) (l : Lines) → Fine c now h → AreFine c now l
    → AreFine c now (lines_with run h l)
with_fine runs.Followed c now h l i x = record { followed = i; former = x.former; tried = x.tried }
with_fine runs.Former c now h l i x = record { followed = x.followed; former = i; tried = x.tried }
with_fine runs.Tried c now h l i x = record { followed = x.followed; former = x.former; tried = i }

turned_fine : (t : Turn) (c : Config) (now : ℕ) (l : Lines) → AreFine c now l → AreFine c now (turned t l)
turned_fine turns.Stays c now l x = x
turned_fine turns.ToFormer c now l x = record { followed = x.former; former = x.followed; tried = x.tried }
turned_fine turns.ToTried c now l x = record { followed = x.tried; former = x.followed; tried = x.former }
turned_fine turns.ToTriedBeside c now l x = record { followed = x.tried; former = x.former; tried = x.followed }

made_fine : (t : Taker) (c : Config) (now reference : ℕ) (l : Lines) → AreFine c now l
    → AreFine c now (made_ready c t reference now l)
made_fine takers.Followed c now reference l x =
    record { followed = ready_fine c now reference l.followed x.followed; former = x.former; tried = x.tried }
made_fine takers.Former c now reference l x =
    record { followed = x.followed; former = ready_fine c now reference l.former x.former; tried = x.tried }
made_fine takers.Tried c now reference l x =
    record { followed = x.followed; former = x.former; tried = ready_fine c now reference l.tried x.tried }
made_fine takers.Begins c now reference l x =
    record { followed = x.followed; former = x.former; tried = begun_fine c now now reference (omega arith) }
made_fine takers.NoRun c now reference l x = x

completed_fine : (k : Bool) (c : Config) (run : Run) (now : ℕ) (f : Follows) → AreFine c now f.lines
    → AreFine c now (completed_if k run now f).lines
completed_fine false c run now f x = x
completed_fine true c run now f x = turned_fine (choice.turn_of f.streams run now) c now f.lines x

run_fine : (o : Option Run) (c : Config) (packet : Packet) (bytes : List ℕ) (now : ℕ) (f : Follows)
    → AreFine c now f.lines
    → AreFine c now (after_run c o packet bytes now f).lines
run_fine None c packet bytes now f x = x
run_fine (Some run) c packet bytes now f x =
    completed_fine (answer_completes (answer_in c packet bytes now (line_of run f.lines))) c run now (record {
      streams = f.streams;
      lines = lines_with run (history_after_packet c packet bytes now (line_of run f.lines)) f.lines;
    })
    (with_fine run c now (history_after_packet c packet bytes now (line_of run f.lines)) f.lines
    (packet_fine c packet bytes now (line_of run f.lines) (line_fine run c now f.lines x)) x)

granted_fine : (g : Bool) (c : Config) (seen : Seen) (t : Taker) (own : List ℕ) (st : session.SessionState)
    → AreFine c st.now st.follows.lines
    → AreFine c st.now (session.after_grant c seen t own g (session.asked_for t st)).follows.lines
granted_fine false c seen t own st x = x
granted_fine true c seen t own st x =
    run_fine (taker_run t) c seen.packet own st.now (record {
      streams = choice.streams_after_packet st.follows.streams seen.source st.now;
      lines = made_ready c t seen.packet.reference st.now st.follows.lines;
    })
    (made_fine t c st.now seen.packet.reference st.follows.lines x)

reading_fine : (r : Result Seen Cause) (c : Config) (own : List ℕ) (st : session.SessionState)
    → AreFine c st.now st.follows.lines
    → AreFine c st.now (session.after_reading c r own st).follows.lines
reading_fine (Err cause) c own st x = x
reading_fine (Ok seen) c own st x =
    granted_fine (session.is_looked_at (session.taker_in seen st) st) c seen (session.taker_in seen st) own st x

played_fine : (o : Option Run) (c : Config) (st : session.SessionState) → AreFine c st.now st.follows.lines
    → AreFine c st.now (session.after_played c o st).follows.lines
played_fine None c st x = x
played_fine (Some run) c st x =
    with_fine run c st.now (history_after_play c st.now (line_of run st.follows.lines)) st.follows.lines
    (play_fine c st.now (line_of run st.follows.lines) (line_fine run c st.now st.follows.lines x)) x

anew_fine : (c : Config) (now : ℕ) → AreFine c now (begun_lines now)
anew_fine c now =
    record {
      followed = begun_fine c now now 0 (omega arith);
      former = begun_fine c now now 0 (omega arith);
      tried = begun_fine c now now 0 (omega arith);
    }

missing_fine : (c : Config) (round_trip : ℕ) (st : session.SessionState) → AreFine c st.now st.follows.lines
    → AreFine c st.now (session.after_missing c round_trip st).follows.lines
missing_fine c round_trip st x =
    with_fine runs.Followed c st.now (after_nack (moment_of c round_trip st.now st.follows) st.follows.lines.followed)
    st.follows.lines
    (nack_fine (moment_of c round_trip st.now st.follows) c st.now st.follows.lines.followed x.followed) x

-- ---- whatever came

no_later : (last now : ℕ) → last ≤ session.session_time last now
no_later last now = omega arith

granted_now : (g : Bool) (c : Config) (seen : Seen) (t : Taker) (own : List ℕ) (st : session.SessionState)
    → (session.after_grant c seen t own g (session.asked_for t st)).now ≡ st.now
granted_now false c seen t own st = refl
granted_now true c seen t own st = refl

reading_now : (r : Result Seen Cause) (c : Config) (own : List ℕ) (st : session.SessionState)
    → (session.after_reading c r own st).now ≡ st.now
reading_now (Err cause) c own st = refl
reading_now (Ok seen) c own st =
    granted_now (session.is_looked_at (session.taker_in seen st) st) c seen (session.taker_in seen st) own st

pub at_fine : (c : Config) (now : ℕ) (st : session.SessionState) → AreFine c st.now st.follows.lines
    → AreFine c (session.session_time st.now now) st.follows.lines
at_fine c now st x = lines_later c st.now (session.session_time st.now now) st.follows.lines (no_later st.now now) x

datagram_fine : (r : Result Seen Cause) (c : Config) (own : List ℕ) (a : session.SessionState)
    → AreFine c a.now a.follows.lines
    → AreFine c (session.after_reading c r own a).now (session.after_reading c r own a).follows.lines
datagram_fine r c own a x =
    lines_later c a.now (session.after_reading c r own a).now (session.after_reading c r own a).follows.lines
    (same a.now (session.after_reading c r own a).now (reading_now r c own a)) (reading_fine r c own a x)
  where
    same : (a b : ℕ) → b ≡ a → a ≤ b
    same a b e = omega arith

pub lines_fine : (c : Config) (past : List session.SessionEntry)
    → AreFine c (session.session_run c past).now (session.session_run c past).follows.lines
lines_fine c [] =
    record {
      followed = begun_fine c 0 0 0 (omega arith);
      former = begun_fine c 0 0 0 (omega arith);
      tried = begun_fine c 0 0 0 (omega arith);
    }
lines_fine c (session.Datagram bytes now ∷ past) =
    let st = session.session_run c past in
    datagram_fine (seen_in c.params bytes) c (renamed bytes) (session.at now st) (at_fine c now st (lines_fine c past))
lines_fine c (session.DatagramOf only bytes now ∷ past) =
    let st = session.session_run c past in
    datagram_fine (session.seen_of_one c only bytes) c (renamed bytes) (session.at now st)
    (at_fine c now st (lines_fine c past))
lines_fine c (session.Turn now ∷ past) =
    let st = session.session_run c past in
    let a = session.at now st in
    played_fine (session.played_run c a) c a (at_fine c now st (lines_fine c past))
lines_fine c (session.Asked round_trip now ∷ past) =
    let st = session.session_run c past in
    missing_fine c round_trip (session.at now st) (at_fine c now st (lines_fine c past))
lines_fine c (session.Ended source now ∷ past) = at_fine c now (session.session_run c past) (lines_fine c past)
lines_fine c (session.Anew now ∷ past) = anew_fine c (session.session_time (session.session_run c past).now now)
