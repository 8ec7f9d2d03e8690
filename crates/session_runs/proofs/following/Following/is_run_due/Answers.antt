use Rattle.stream_choice.specs.Choice.{run_source}
use Rattle.session_runs.specs.Histories.{due_in}
use Rattle.session_runs.specs.Lines.{line_of}
use Rattle.session_runs.specs.Kept.{config_in}
use Rattle.session_runs.proofs.Dues.{at_time, never}
use Rattle.session_runs.proofs.following.Following.is_run_due.Goals as goal

pub returns-in-Some : goal.returns-in-Some
returns-in-Some c = λ s now f k x.
    at_time c.args.now c.in-Some.time (run_source f.streams c.args.run)
    (due_in (config_in s) (line_of c.args.run f.lines)) (c.in-Some.ensures s now f k x)

pub returns-in-None : goal.returns-in-None
returns-in-None c = λ s now f k x.
    never c.args.now (run_source f.streams c.args.run) (due_in (config_in s) (line_of c.args.run f.lines))
    (c.in-None.ensures s now f k x)
