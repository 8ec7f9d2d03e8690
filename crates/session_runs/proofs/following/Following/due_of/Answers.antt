use Rattle.std.proofs.Common.{ap, ◌∙◌}
use Rattle.stream_choice.specs.declared.streams.Streams.{Streams}
use Rattle.stream_choice.specs.Choice.{run_source}
use Rattle.session_runs.specs.Histories.{due_in}
use Rattle.session_runs.specs.Lines.{line_of}
use Rattle.session_runs.specs.Kept.{config_in}
use Rattle.session_runs.proofs.Dues.{of_stream}
use Rattle.session_runs.proofs.following.Following.due_of.Goals as goal

pub returns-in-Some : goal.returns-in-Some
returns-in-Some c = λ s now f k x.
    c.due.ensures s now f.lines k x.lines
    ∙ of_stream (run_source f.streams c.args.run) c.in-Some.field-0 (due_in (config_in s) (line_of c.args.run f.lines))
    (c.in-Some.ensures ∙ ap (λ (y : Streams). run_source y c.args.run) x.streams)
