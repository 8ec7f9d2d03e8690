use Rattle.call_session.specs.Sessions.{session_run}
use Rattle.session_runs.specs.Histories.{next_number_in, timed_in}
use Rattle.session_runs.specs.Lines.{line_of}
use Rattle.timed_receiver.specs.Timed.{arrivals_of}
use Rattle.session_laws.proofs.Ways.{due_between, each_counts}
use Rattle.session_laws.proofs.laws.recovers.Goals as goal

pub returns-clause-counts : goal.returns-clause-counts
returns-clause-counts c = each_counts

pub returns-clause-due : goal.returns-clause-due
returns-clause-due c = λ config past run shortest longest later before.
    let h = line_of run (session_run config past).follows.lines in
    due_between c.recovers.ensures config.wait (next_number_in config h) shortest longest
    (arrivals_of (timed_in config h))
    later
    before
