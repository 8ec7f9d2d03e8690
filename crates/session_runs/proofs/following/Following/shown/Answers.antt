use Rattle.session_runs.proofs.following.Following.shown.Goals as goal

pub returns-clause-run : goal.returns-clause-run
returns-clause-run c = λ s now f k x. c.shown.ensures.run s now f.lines k x.lines
