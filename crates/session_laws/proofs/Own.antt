-- What its own packets and the turns make of the stream that is followed.
use Rattle.std.proofs.Common.{◌≡◌, ℕ, Bool, true, false, cond, eqb, List, [], ◌∷◌, Option, Some, None, Result, Ok, Err, refl, ap, sym, ◌∙◌}
use Rattle.std.specs.Prelude.{is_some}
use Rattle.std.specs.Option.{option_map}
use Rattle.std.proofs.lemmas.Bool.{eq-eqb, eqb-true, true≢false}
use Rattle.h263_types.specs.declared.Mark.{Mark}
use Rattle.h263_types.specs.declared.Mark.TheVariants as marks
use Rattle.receiver_end.specs.Answers.{mark_from}
use Rattle.receiver_end.specs.State.{mark_after}
use Rattle.stream_choice.specs.declared.stream.Stream.{Stream}
use Rattle.stream_choice.specs.declared.streams.Run.TheVariants as runs
use Rattle.stream_choice.specs.declared.streams.Taker.{Taker}
use Rattle.stream_choice.specs.declared.streams.Taker.TheVariants as takers
use Rattle.stream_choice.specs.Choice as choice
use Rattle.stream_choice.specs.Granting.{is_granted}
use Rattle.packet_gaps.specs.declared.moment.Moment.{Moment}
use Rattle.session_intake.specs.Counts as counting
use Rattle.session_intake.specs.declared.seen.Seen.{Seen}
use Rattle.session_intake.specs.declared.seen.Cause.{Cause}
use Rattle.session_intake.specs.declared.seen.Cause.TheVariants as causes
use Rattle.session_runs.specs.Histories.{Config, History, after_nack, history_after_packet, history_after_play, answer_in, history_entries, answer_completes, is_due_in, moment_in, nack_at, ready}
use Rattle.session_runs.specs.Following.{Follows, completed_if, is_run_due}
use Rattle.call_session.specs.Sessions.{Dropped, Outcome, SessionState, Taken, after_ended, after_grant, after_missing, after_played, after_reading, after_seen, asked_for, is_looked_at, missing_at, outcome_of_grant, outcome_of_reading, outcome_of_seen, played_run, taker_in}
use Rattle.session_laws.specs.Undisturbed.{Followed, OfNack, OfPlay, Said, followed_in, is_from, play_in, said_of_play}
use Rattle.session_laws.proofs.Others.{same_parts}

-- ---- its packets

abbrev with_asked : ℕ → Followed → Followed
with_asked now v =
    record {
      stream = v.stream;
      line = v.line;
      asked = now ∷ v.asked;
      exact = v.exact;
      patched = v.patched;
      held = v.held;
    }

abbrev heard : Bool → ℕ → History → Followed → Followed
heard k now line v =
    record {
      stream = cond k (option_map (choice.stream_counted now) v.stream) v.stream;
      line = line;
      asked = v.asked;
      exact = v.exact;
      patched = v.patched;
      held = v.held;
    }

abbrev completes : Config → Seen → List ℕ → ℕ → History → Bool
completes c seen own now line =
    answer_completes (answer_in c seen.packet own now (ready c seen.packet.reference now line))

abbrev line_after : Config → Seen → List ℕ → ℕ → History → History
line_after c seen own now line = history_after_packet c seen.packet own now (ready c seen.packet.reference now line)

abbrev granted : Bool → Config → Seen → List ℕ → ℕ → Followed → Followed
granted false c seen own now v = v
granted true c seen own now v = heard (completes c seen own now v.line) now (line_after c seen own now v.line) v

-- by what there is of it alone
abbrev pub after : Result Seen Cause → Config → List ℕ → ℕ → Followed → Followed
after (Err cause) c own now v = v
after (Ok seen) c own now v = granted (is_granted 12000 now v.asked) c seen own now (with_asked now v)

completed : (k : Bool) (f : Follows) (now : ℕ)
    → ((completed_if k runs.Followed now f).streams.followed
    ≡ cond k (option_map (choice.stream_counted now) f.streams.followed) f.streams.followed)
    × ((completed_if k runs.Followed now f).lines.followed ≡ f.lines.followed)
completed false f now = (refl, refl)
completed true f now = (refl, refl)

by_grant : (g : Bool) (c : Config) (seen : Seen) (own : List ℕ) (st : SessionState)
    → followed_in (after_grant c seen takers.Followed own g (asked_for takers.Followed st))
    ≡ granted g c seen own st.now (with_asked st.now (followed_in st))
by_grant false c seen own st = refl
by_grant true c seen own st =
    let k = completed (completes c seen own st.now st.follows.lines.followed) (record {
      streams = choice.streams_after_packet st.follows.streams seen.source st.now;
      lines = record {
        followed = line_after c seen own st.now st.follows.lines.followed;
        former = st.follows.lines.former;
        tried = st.follows.lines.tried;
      };
    }) st.now in
    same_parts (followed_in (after_grant c seen takers.Followed own true (asked_for takers.Followed st)))
    (granted true c seen own st.now (with_asked st.now (followed_in st)))
    k.0 k.1 refl refl refl refl

-- its own run takes them
taken : (seen : Seen) (source : ℕ) (st : SessionState) → eqb seen.source source ≡ true
    → choice.is_of st.follows.streams.followed source ≡ true → taker_in seen st ≡ takers.Followed
taken seen source st e h =
    ap (λ (b : Bool). cond b takers.Followed
    (cond (choice.is_of st.follows.streams.former seen.source) takers.Former
    (cond (choice.is_tried st.follows.streams.tried seen.source st.now) takers.Tried
    (cond (choice.is_live_one st.follows.streams.followed st.now) takers.NoRun
    (cond (choice.may_begin st.follows.streams.tried seen.source st.now) takers.Begins takers.NoRun)))))
    (ap (λ (n : ℕ). choice.is_of st.follows.streams.followed n) (eqb-true seen.source source e) ∙ h)

pub by_own : (r : Result Seen Cause) (c : Config) (source : ℕ) (own : List ℕ) (st : SessionState)
    → is_from source r ≡ true
    → choice.is_of st.follows.streams.followed source ≡ true
    → followed_in (after_reading c r own st) ≡ after r c own st.now (followed_in st)
by_own (Err cause) c source own st e h = absurd cc
by_own (Ok seen) c source own st e h =
    ap (λ (t : Taker). followed_in (after_seen c seen t own st)) (taken seen source st e h)
    ∙ by_grant (is_looked_at takers.Followed st) c seen own st

-- its SSRC stays
counted_of : (k : Bool) (o : Option Stream) (now source : ℕ)
    → choice.is_of (cond k (option_map (choice.stream_counted now) o) o) source ≡ choice.is_of o source
counted_of false o now source = refl
counted_of true None now source = refl
counted_of true (Some f) now source = refl

granted_of : (g : Bool) (c : Config) (seen : Seen) (own : List ℕ) (now source : ℕ) (v : Followed)
    → choice.is_of (granted g c seen own now v).stream source ≡ choice.is_of v.stream source
granted_of false c seen own now source v = refl
granted_of true c seen own now source v = counted_of (completes c seen own now v.line) v.stream now source

pub of_after : (r : Result Seen Cause) (c : Config) (own : List ℕ) (now source : ℕ) (v : Followed)
    → choice.is_of (after r c own now v).stream source ≡ choice.is_of v.stream source
of_after (Err cause) c own now source v = refl
of_after (Ok seen) c own now source v =
    granted_of (is_granted 12000 now v.asked) c seen own now source (with_asked now v)

-- what is said of them
abbrev outcome_granted : Bool → Config → Seen → List ℕ → ℕ → Followed → Outcome
outcome_granted false c seen own now v = Dropped causes.TooFast
outcome_granted true c seen own now v =
    Taken runs.Followed seen.source (answer_in c seen.packet own now (ready c seen.packet.reference now v.line))

abbrev pub outcome : Result Seen Cause → Config → List ℕ → ℕ → Followed → Outcome
outcome (Err cause) c own now v = Dropped cause
outcome (Ok seen) c own now v = outcome_granted (is_granted 12000 now v.asked) c seen own now v

outcome_by : (g : Bool) (c : Config) (seen : Seen) (own : List ℕ) (st : SessionState)
    → outcome_of_grant c seen takers.Followed own g st ≡ outcome_granted g c seen own st.now (followed_in st)
outcome_by false c seen own st = refl
outcome_by true c seen own st = refl

pub outcome_own : (r : Result Seen Cause) (c : Config) (source : ℕ) (own : List ℕ) (st : SessionState)
    → is_from source r ≡ true
    → choice.is_of st.follows.streams.followed source ≡ true
    → outcome_of_reading c r own st ≡ outcome r c own st.now (followed_in st)
outcome_own (Err cause) c source own st e h = absurd cc
outcome_own (Ok seen) c source own st e h =
    ap (λ (t : Taker). outcome_of_seen c seen t own st) (taken seen source st e h)
    ∙ outcome_by (is_looked_at takers.Followed st) c seen own st

-- ---- turns

abbrev due : Config → ℕ → Followed → Bool
due c now v = cond (is_some (option_map (λ s. s.source) v.stream)) (is_due_in c now v.line) false

abbrev marked : Mark → Followed → Followed
marked marks.Exact v =
    record {
      stream = v.stream;
      line = v.line;
      asked = v.asked;
      exact = counting.one_more v.exact;
      patched = v.patched;
      held = v.held;
    }
marked marks.Patched v =
    record {
      stream = v.stream;
      line = v.line;
      asked = v.asked;
      exact = v.exact;
      patched = counting.one_more v.patched;
      held = v.held;
    }
marked marks.Held v =
    record {
      stream = v.stream;
      line = v.line;
      asked = v.asked;
      exact = v.exact;
      patched = v.patched;
      held = counting.one_more v.held;
    }

abbrev with_line : History → Followed → Followed
with_line line v =
    record { stream = v.stream; line = line; asked = v.asked; exact = v.exact; patched = v.patched; held = v.held }

abbrev shown : Bool → Config → ℕ → Followed → Followed
shown false c now v = v
shown true c now v =
    marked (mark_from (mark_after c.params (history_entries c v.line))) (with_line (history_after_play c now v.line) v)

-- by what there is of it alone
abbrev pub after_turn : Config → ℕ → Followed → Followed
after_turn c now v = shown (due c now v) c now v

counts_marked : (m : Mark) (line : History) (st : SessionState)
    → (let v : Followed = record {
      stream = st.follows.streams.followed;
      line = line;
      asked = st.asked.followed;
      exact = (counting.after_mark m st.counts).exact;
      patched = (counting.after_mark m st.counts).patched;
      held = (counting.after_mark m st.counts).held;
    } in v) ≡ marked m (with_line line (followed_in st))
counts_marked marks.Exact line st = refl
counts_marked marks.Patched line st = refl
counts_marked marks.Held line st = refl

rest_kept : (b2 b3 : Bool) (c : Config) (st : SessionState)
    → followed_in (after_played c (cond b2 (Some runs.Former) (cond b3 (Some runs.Tried) None)) st) ≡ followed_in st
rest_kept true b3 c st = refl
rest_kept false true c st = refl
rest_kept false false c st = refl

by_due : (b1 b2 b3 : Bool) (c : Config) (st : SessionState)
    → followed_in (after_played c
    (cond b1 (Some runs.Followed) (cond b2 (Some runs.Former) (cond b3 (Some runs.Tried) None))) st)
    ≡ shown b1 c st.now (followed_in st)
by_due true b2 b3 c st =
    counts_marked (mark_from (mark_after c.params (history_entries c st.follows.lines.followed)))
    (history_after_play c st.now st.follows.lines.followed) st
by_due false b2 b3 c st = rest_kept b2 b3 c st

pub by_turn : (c : Config) (st : SessionState)
    → followed_in (after_played c (played_run c st) st) ≡ after_turn c st.now (followed_in st)
by_turn c st =
    by_due (is_run_due c runs.Followed st.now st.follows) (is_run_due c runs.Former st.now st.follows)
    (is_run_due c runs.Tried st.now st.follows) c st

marked_of : (m : Mark) (v : Followed) → (marked m v).stream ≡ v.stream
marked_of marks.Exact v = refl
marked_of marks.Patched v = refl
marked_of marks.Held v = refl

shown_of : (d : Bool) (c : Config) (now : ℕ) (v : Followed) → (shown d c now v).stream ≡ v.stream
shown_of false c now v = refl
shown_of true c now v =
    marked_of (mark_from (mark_after c.params (history_entries c v.line)))
    (with_line (history_after_play c now v.line) v)

pub of_turn : (c : Config) (now : ℕ) (v : Followed) → (after_turn c now v).stream ≡ v.stream
of_turn c now v = shown_of (due c now v) c now v

-- what is said of it
abbrev pub said : Config → ℕ → Followed → List Said
said c now v = cond (due c now v) (OfPlay (play_in c v.line) ∷ []) []

said_by : (b1 b2 b3 : Bool) (c : Config) (st : SessionState)
    → said_of_play c (cond b1 (Some runs.Followed) (cond b2 (Some runs.Former) (cond b3 (Some runs.Tried) None))) st
    ≡ cond b1 (OfPlay (play_in c st.follows.lines.followed) ∷ []) []
said_by true b2 b3 c st = refl
said_by false true b3 c st = refl
said_by false false true c st = refl
said_by false false false c st = refl

pub said_at_turn : (c : Config) (st : SessionState) → said_of_play c (played_run c st) st
    ≡ said c st.now (followed_in st)
said_at_turn c st =
    said_by (is_run_due c runs.Followed st.now st.follows) (is_run_due c runs.Former st.now st.follows)
    (is_run_due c runs.Tried st.now st.follows) c st

-- ---- what is asked for of it

abbrev moment : Config → ℕ → ℕ → Followed → Option Moment
moment c round_trip now v =
    cond (is_some (option_map (λ s. s.source) v.stream)) (moment_in c round_trip now v.line) None

abbrev pub asked : Config → ℕ → ℕ → Followed → List Said
asked c round_trip now v = OfNack (nack_at (moment c round_trip now v) v.line) ∷ []

-- by what there is of it alone
abbrev pub after_asked : Config → ℕ → ℕ → Followed → Followed
after_asked c round_trip now v = with_line (after_nack (moment c round_trip now v) v.line) v

pub by_asked : (c : Config) (round_trip : ℕ) (st : SessionState)
    → followed_in (after_missing c round_trip st) ≡ after_asked c round_trip st.now (followed_in st)
by_asked c round_trip st = refl

pub said_at_asked : (c : Config) (round_trip : ℕ) (st : SessionState)
    → OfNack (missing_at c round_trip st) ∷ [] ≡ asked c round_trip st.now (followed_in st)
said_at_asked c round_trip st = refl

-- ---- ends

-- by what there is of it alone
abbrev pub after_end : ℕ → ℕ → Followed → Followed
after_end other now v =
    record {
      stream = choice.ended_if v.stream other now;
      line = v.line;
      asked = v.asked;
      exact = v.exact;
      patched = v.patched;
      held = v.held;
    }

pub by_end : (other : ℕ) (st : SessionState) → followed_in (after_ended other st)
    ≡ after_end other st.now (followed_in st)
by_end other st = refl

-- its SSRC stays
ended_source : (b : Bool) (f : Stream) (now source : ℕ)
    → choice.is_of (cond b (Some (choice.ended_at now f)) (Some f)) source ≡ eqb f.source source
ended_source true f now source = refl
ended_source false f now source = refl

pub of_end : (o : Option Stream) (other now source : ℕ)
    → choice.is_of (choice.ended_if o other now) source ≡ choice.is_of o source
of_end None other now source = refl
of_end (Some f) other now source = ended_source (eqb f.source other) f now source

-- an end of another stream leaves it
others_end : (b : Bool) (f : Stream) (other now : ℕ) → (b ≡ true → f.source ≡ other) → (f.source ≡ other → ⊥)
    → cond b (Some (choice.ended_at now f)) (Some f) ≡ Some f
others_end false f other now e n = refl
others_end true f other now e n = absurd (n (e refl))

pub left_by_end : (o : Option Stream) (other now source : ℕ) → choice.is_of o source ≡ true → eqb other source ≡ false
    → choice.ended_if o other now ≡ o
left_by_end None other now source h e = refl
left_by_end (Some f) other now source h e =
    others_end (eqb f.source other) f other now (eqb-true f.source other)
    (λ same. true≢false (sym (eq-eqb other source (sym same ∙ eqb-true f.source source h)) ∙ e))
