-- What is asked for again comes in time.
use Rattle.std.proofs.Common.{◌≡◌, ℕ, ◌-◌, ◌≤◌, Bool, true, false, cond, eqb, List, [], ◌∷◌, Option, Some, None, refl}
use Rattle.std.specs.Prelude.{MatchOption, is_some}
use Rattle.std.specs.List.{AllByRecursion}
use Rattle.stream_choice.specs.declared.streams.Run.TheVariants as runs
use Rattle.stream_choice.specs.Choice.{run_source}
use Rattle.packet_gaps.specs.declared.gap.Gap.{Gap}
use Rattle.packet_gaps.specs.declared.moment.Moment.{Moment}
use Rattle.packet_gaps.specs.Asking.{gaps_asked_for}
use Rattle.packet_gaps.specs.Kept.{asked_at, has_number, kept_gaps_after}
use Rattle.packet_gaps.specs.Laws.{Apart, ComesInTime, AsksInTime, Named, NackNames}
use Rattle.session_runs.specs.Histories.{Config, History, due_in, moment_at, moment_in, nack_at, next_number_in, picture_period}
use Rattle.session_runs.specs.Following.{moment_of}
use Rattle.call_session.specs.Sessions.{SessionEntry, at, missing_at, session_run}
use Rattle.session_laws.specs.AskingAgain.{ComesBack, gaps_told, gaps_told_at}

-- ---- in time

abbrev moment : ℕ → ℕ → ℕ → ℕ → ℕ → Moment
moment now round_trip next due period =
    record { time = now; round_trip = round_trip; next = next; due = due; period = period }

each : (now round_trip next due period : ℕ) (gs : List Gap)
    → AllByRecursion (ComesInTime (moment now round_trip next due period)) gs
    → AllByRecursion (ComesBack now round_trip next period (Some due)) gs
each now round_trip next due period [] x = tt
each now round_trip next due period (g ∷ gs) x = (
  record { unplayed = x.0.unplayed; comes = x.0.comes },
  each now round_trip next due period gs x.1,
)

at_once : AsksInTime → (b : Bool) (now round_trip next due period : ℕ) (h : History)
    → AllByRecursion (ComesBack now round_trip next period (Some due))
    (gaps_told (cond b None (Some (moment now round_trip next due period))) h)
at_once law true now round_trip next due period h = tt
at_once law false now round_trip next due period h =
    let m = moment now round_trip next due period in
    let k = kept_gaps_after h.gaps in
    each now round_trip next due period (gaps_asked_for m k.newest k.gaps) (law m k.newest k.gaps)

by_due : AsksInTime → (o : Option ℕ) (c : Config) (round_trip now next : ℕ) (h : History)
    → AllByRecursion (ComesBack now round_trip next (picture_period c.rate) o)
    (gaps_told (moment_at c round_trip now next o) h)
by_due law None c round_trip now next h = tt
by_due law (Some due) c round_trip now next h =
    at_once law (eqb due 0) now round_trip next due (picture_period c.rate) h

by_source : AsksInTime → (b : Bool) (c : Config) (round_trip now : ℕ) (h : History)
    → AllByRecursion (ComesBack now round_trip (next_number_in c h) (picture_period c.rate) (due_in c h))
    (gaps_told (cond b (moment_in c round_trip now h) None) h)
by_source law false c round_trip now h = tt
by_source law true c round_trip now h = by_due law (due_in c h) c round_trip now (next_number_in c h) h

pub in_time : AsksInTime → (c : Config) (past : List SessionEntry) (round_trip now : ℕ)
    → let st = at now (session_run c past) in let h = st.follows.lines.followed in
    AllByRecursion (ComesBack st.now round_trip (next_number_in c h) (picture_period c.rate) (due_in c h))
    (gaps_told_at c round_trip st)
in_time law c past round_trip now =
    let st = at now (session_run c past) in
    by_source law (is_some (run_source st.follows.streams runs.Followed)) c round_trip st.now st.follows.lines.followed

-- ---- by name

by_moment : Named → (o : Option Moment) (h : History)
    → MatchOption (nack_at o h) (gaps_told o h ≡ []) (λ n. (first : ℕ) × NackNames n first (gaps_told o h))
by_moment law None h = refl
by_moment law (Some m) h = law m (kept_gaps_after h.gaps).newest (kept_gaps_after h.gaps).gaps

pub by_name : Named → (c : Config) (past : List SessionEntry) (round_trip now : ℕ)
    → let st = at now (session_run c past) in
    MatchOption (missing_at c round_trip st) (gaps_told_at c round_trip st ≡ [])
    (λ n. (first : ℕ) × NackNames n first (gaps_told_at c round_trip st))
by_name law c past round_trip now =
    let st = at now (session_run c past) in
    by_moment law (moment_of c round_trip st.now st.follows) st.follows.lines.followed

-- ---- a round trip apart

abbrev Parted : ℕ → ℕ → ℕ → History → Type 0
Parted now round_trip number h =
    AllByRecursion (λ time. round_trip ≤ now - time) (asked_at number h.gaps)

apart_at : Apart → (b : Bool) (now round_trip next due period number : ℕ) (h : History)
    → has_number number (gaps_told (cond b None (Some (moment now round_trip next due period))) h) ≡ true
    → Parted now round_trip number h
apart_at law true now round_trip next due period number h e = absurd cc
apart_at law false now round_trip next due period number h e =
    law h.gaps (moment now round_trip next due period) number e

apart_due : Apart → (o : Option ℕ) (c : Config) (round_trip now next number : ℕ) (h : History)
    → has_number number (gaps_told (moment_at c round_trip now next o) h) ≡ true → Parted now round_trip number h
apart_due law None c round_trip now next number h e = absurd cc
apart_due law (Some due) c round_trip now next number h e =
    apart_at law (eqb due 0) now round_trip next due (picture_period c.rate) number h e

apart_source : Apart → (b : Bool) (c : Config) (round_trip now number : ℕ) (h : History)
    → has_number number (gaps_told (cond b (moment_in c round_trip now h) None) h) ≡ true
    → Parted now round_trip number h
apart_source law false c round_trip now number h e = absurd cc
apart_source law true c round_trip now number h e =
    apart_due law (due_in c h) c round_trip now (next_number_in c h) number h e

pub parted : Apart → (c : Config) (past : List SessionEntry) (round_trip now number : ℕ)
    → let st = at now (session_run c past) in
    has_number number (gaps_told_at c round_trip st) ≡ true
    → AllByRecursion (λ time. round_trip ≤ st.now - time) (asked_at number st.follows.lines.followed.gaps)
parted law c past round_trip now number e =
    let st = at now (session_run c past) in
    apart_source law (is_some (run_source st.follows.streams runs.Followed)) c round_trip st.now number
    st.follows.lines.followed e
