-- The run of which a picture is played has one that is due.
use Rattle.std.proofs.Common.{◌≡◌, ℕ, Bool, true, false, Option, Some, None, refl, sym, subst}
use Rattle.std.specs.Prelude.{is_some, if◌then◌else◌}
use Rattle.receiver_end.specs.declared.answers.Played.{Played}
use Rattle.stream_choice.specs.declared.streams.Run.{Run}
use Rattle.stream_choice.specs.declared.streams.Run.TheVariants as runs
use Rattle.stream_choice.specs.Choice.{run_source}
use Rattle.session_runs.specs.declared.three.ThreeRuns.{ThreeRuns}
use Rattle.session_runs.specs.Histories.{Config, history_after_play, after_play_if, is_due_in}
use Rattle.session_runs.specs.Kept.{ArePlays}
use Rattle.session_runs.specs.Lines.{line_of, lines_with}
use Rattle.session_runs.specs.Three.{LinesStand}
use Rattle.session_runs.specs.Following.{Follows, is_run_due, run_due}
use Rattle.session_runs.specs.Followed.{ArePlayed}

both : (a b : Bool) → (if a then b else false) ≡ true → b ≡ true
both true b e = e
both false b e = absurd cc

abbrev of_three : Run → Bool → Bool → Bool → Bool
of_three runs.Followed a b c = a
of_three runs.Former a b c = b
of_three runs.Tried a b c = c

first : (a b c : Bool) (run : Run)
    → (if a then Some runs.Followed else if b then Some runs.Former else if c then Some runs.Tried else None) ≡ Some run
    → of_three run a b c ≡ true
first true b c runs.Followed e = refl
first true b c runs.Former e = absurd cc
first true b c runs.Tried e = absurd cc
first false true c runs.Followed e = absurd cc
first false true c runs.Former e = refl
first false true c runs.Tried e = absurd cc
first false false true runs.Followed e = absurd cc
first false false true runs.Former e = absurd cc
first false false true runs.Tried e = refl
first false false false run e = absurd cc

of_run : (c : Config) (run : Run) (now : ℕ) (f : Follows) → is_run_due c run now f ≡ true
    → is_due_in c now (line_of run f.lines) ≡ true
of_run c run now f e = both (is_some (run_source f.streams run)) (is_due_in c now (line_of run f.lines)) e

is_due : (c : Config) (run : Run) (now : ℕ) (f : Follows) → run_due c now f ≡ Some run
    → is_due_in c now (line_of run f.lines) ≡ true
is_due c runs.Followed now f e =
    of_run c runs.Followed now f (first (is_run_due c runs.Followed now f) (is_run_due c runs.Former now f)
    (is_run_due c runs.Tried now f) runs.Followed e)
is_due c runs.Former now f e =
    of_run c runs.Former now f (first (is_run_due c runs.Followed now f) (is_run_due c runs.Former now f)
    (is_run_due c runs.Tried now f) runs.Former e)
is_due c runs.Tried now f e =
    of_run c runs.Tried now f (first (is_run_due c runs.Followed now f) (is_run_due c runs.Former now f)
    (is_run_due c runs.Tried now f) runs.Tried e)

-- so that it is played
pub played : (c : Config) (f : Follows) (run : Run) (now : ℕ) (p : Played) → Some run ≡ run_due c now f
    → ArePlays c (line_of run f.lines) (is_due_in c now (line_of run f.lines)) (Some p)
    → ArePlayed c f (run_due c now f) (Some (run, p))
played c f run now p e a =
    let b = subst (λ (x : Bool). ArePlays c (line_of run f.lines) x (Some p)) (is_due c run now f (sym e)) a in
    let q = b.1 in
    let same : Some (run, p) ≡ Some (run, b.0) = cc in
    subst (λ (x : Option Run). ArePlayed c f x (Some (run, p))) e (b.0, same, b.2)

pub not_none : (c : Config) (f : Follows) (run : Run) (now : ℕ) → Some run ≡ run_due c now f
    → ArePlays c (line_of run f.lines) (is_due_in c now (line_of run f.lines)) None → ⊥
not_none c f run now e a =
    let b = subst (λ (x : Bool). ArePlays c (line_of run f.lines) x None) (is_due c run now f (sym e)) a in
    let q = b.1 in cc

pub after : (t : ThreeRuns) (c : Config) (f : Follows) (run : Run) (now : ℕ) → Some run ≡ run_due c now f
    → LinesStand t
    (lines_with run (after_play_if c (is_due_in c now (line_of run f.lines)) now (line_of run f.lines)) f.lines)
    → LinesStand t (lines_with run (history_after_play c now (line_of run f.lines)) f.lines)
after t c f run now e l =
    subst (λ (x : Bool). LinesStand t (lines_with run (after_play_if c x now (line_of run f.lines)) f.lines))
    (is_due c run now f (sym e)) l
