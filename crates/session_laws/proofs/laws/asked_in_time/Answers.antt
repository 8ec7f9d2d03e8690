use Rattle.session_runs.specs.Lines.{line_of}
use Rattle.call_session.specs.Sessions.{session_run}
use Rattle.session_laws.proofs.AskedAgain.{by_name, in_time, parted}
use Rattle.session_laws.proofs.laws.asked_in_time.Goals as goal

pub returns-clause-time : goal.returns-clause-time
returns-clause-time c = in_time c.in_time.ensures

pub returns-clause-name : goal.returns-clause-name
returns-clause-name c = by_name c.named.ensures

pub returns-clause-twice : goal.returns-clause-twice
returns-clause-twice c = (
  λ config past run number. c.twice.ensures (line_of run (session_run config past).follows.lines).gaps number,
  parted c.apart.ensures,
)
