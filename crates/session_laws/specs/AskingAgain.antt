-- What is asked for again. Lists have the newest first.
use Rattle.std.specs.Prelude.{◌≡◌, ℕ, ◌+◌, ◌-◌, ◌*◌, ◌≤◌, true, List, [], length, Option, Some, None, MatchOption}
use Rattle.std.specs.List.{AllByRecursion}
use Rattle.stream_choice.specs.declared.streams.Run.{Run}
use Rattle.packet_gaps.specs.declared.gap.Gap.{Gap}
use Rattle.packet_gaps.specs.declared.moment.Moment.{Moment}
use Rattle.packet_gaps.specs.Asking.{gaps_asked_for}
use Rattle.packet_gaps.specs.Kept.{asked_at, has_number, kept_gaps_after}
use Rattle.packet_gaps.specs.Laws.{NackNames}
use Rattle.session_runs.specs.Histories.{Config, History, due_in, next_number_in, picture_period}
use Rattle.session_runs.specs.Lines.{line_of}
use Rattle.session_runs.specs.Following.{moment_of}
use Rattle.call_session.specs.Sessions.{SessionEntry, SessionState, at, missing_at, session_run}

-- the missing packets that are asked for with one call
abbrev pub gaps_told : Option Moment → History → List Gap
gaps_told None h = []
gaps_told (Some m) h = gaps_asked_for m (kept_gaps_after h.gaps).newest (kept_gaps_after h.gaps).gaps

abbrev pub gaps_told_at : Config → ℕ → SessionState → List Gap
gaps_told_at c round_trip st = gaps_told (moment_of c round_trip st.now st.follows) st.follows.lines.followed

-- It is of a picture that wasn't played, or of one before it; and what is asked for now comes before
-- that is due: as many periods after the next picture as it is pictures after that.
pub record ComesBack (now round_trip next period : ℕ) (due : Option ℕ) (g : Gap) : Type 0 where
  pub unplayed : next ≤ g.picture
  pub comes : MatchOption due ⊥ (λ time. now + round_trip ≤ time + (g.picture - next) * period)

-- Nothing else is asked for.
abbrev pub AskedInTime : Type 0
AskedInTime =
    (c : Config) (past : List SessionEntry) (round_trip now : ℕ)
    → let st = at now (session_run c past) in let h = st.follows.lines.followed in
    AllByRecursion (ComesBack st.now round_trip (next_number_in c h) (picture_period c.rate) (due_in c h))
    (gaps_told_at c round_trip st)

-- The answer names what is asked for; where there is none nothing is.
abbrev pub AskedByName : Type 0
AskedByName =
    (c : Config) (past : List SessionEntry) (round_trip now : ℕ)
    → let st = at now (session_run c past) in
    MatchOption (missing_at c round_trip st) (gaps_told_at c round_trip st ≡ [])
    (λ n. (first : ℕ) × NackNames n first (gaps_told_at c round_trip st))

-- Of a run no packet is asked for a third time, nor again within a round trip.
abbrev pub AskedTwice : Type 0
AskedTwice =
    ((c : Config) (past : List SessionEntry) (run : Run) (number : ℕ)
    → length (asked_at number (line_of run (session_run c past).follows.lines).gaps) ≤ 2)
    × ((c : Config) (past : List SessionEntry) (round_trip now number : ℕ)
    → let st = at now (session_run c past) in
    has_number number (gaps_told_at c round_trip st) ≡ true
    → AllByRecursion (λ time. round_trip ≤ st.now - time) (asked_at number st.follows.lines.followed.gaps))
