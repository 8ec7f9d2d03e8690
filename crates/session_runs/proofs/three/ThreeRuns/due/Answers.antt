use Rattle.std.proofs.Common.{ap, sym, ◌∙◌}
use Rattle.stream_choice.specs.declared.streams.Run.{Run}
use Rattle.session_runs.specs.Histories.{due_in}
use Rattle.session_runs.specs.Lines.{line_of}
use Rattle.session_runs.specs.Kept.{config_in}
use Rattle.session_runs.proofs.three.ThreeRuns.due.Goals as goal

pub returns-in-Followed : goal.returns-in-Followed
returns-in-Followed c = λ s now l k x.
    c.due.ensures.exact s now l.followed k.followed x.followed
    ∙ ap (λ (r : Run). due_in (config_in s) (line_of r l)) (sym c.in-Followed.is)

pub returns-in-Former : goal.returns-in-Former
returns-in-Former c = λ s now l k x.
    c.due-in-Former.ensures.exact s now l.former k.former x.former
    ∙ ap (λ (r : Run). due_in (config_in s) (line_of r l)) (sym c.in-Former.is)

pub returns-in-Tried : goal.returns-in-Tried
returns-in-Tried c = λ s now l k x.
    c.due-in-Tried.ensures.exact s now l.tried k.tried x.tried
    ∙ ap (λ (r : Run). due_in (config_in s) (line_of r l)) (sym c.in-Tried.is)
