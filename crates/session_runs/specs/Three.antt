-- What the three runs of a session stand for.
use Rattle.std.specs.Prelude.{ℕ, ◌≤◌}
use Rattle.session_intake.specs.declared.settings.Settings.{Settings}
use Rattle.session_runs.specs.declared.three.ThreeRuns.{ThreeRuns}
use Rattle.session_runs.specs.Kept.{HistoryStands, IsKeptRun}
use Rattle.session_runs.specs.Lines.{Lines}

-- all have these settings, and nothing of them is later than now
pub record AreKept (s : Settings) (now : ℕ) (t : ThreeRuns) : Type 0 where
  pub followed : IsKeptRun s now t.followed
  pub former : IsKeptRun s now t.former
  pub tried : IsKeptRun s now t.tried

-- this came of their streams
pub record LinesStand (t : ThreeRuns) (l : Lines) : Type 0 where
  pub followed : HistoryStands t.followed l.followed
  pub former : HistoryStands t.former l.former
  pub tried : HistoryStands t.tried l.tried

-- what is no later than one time is no later than a later one
abbrev pub KeptLater : Type 0
KeptLater = (s : Settings) (then now : ℕ) (t : ThreeRuns) → then ≤ now → AreKept s then t → AreKept s now t
