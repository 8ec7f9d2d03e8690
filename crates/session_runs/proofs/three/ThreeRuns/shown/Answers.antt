use Rattle.session_runs.proofs.three.ThreeRuns.shown.Goals as goal

pub returns-clause-run : goal.returns-clause-run
returns-clause-run c = λ s now l k x. c.shown.ensures.run s now l.followed k.followed x.followed
