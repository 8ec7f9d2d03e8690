use Rattle.std.proofs.Common.{ℕ, Option, ap, ◌∙◌}
use Rattle.stream_choice.specs.declared.streams.Run.TheVariants as runs
use Rattle.session_runs.specs.Kept.{config_in}
use Rattle.session_runs.specs.Following.{due_of_run, earlier}
use Rattle.session_runs.proofs.following.Following.due.Goals as goal

pub returns : goal.returns
returns c = λ s now f k x.
    let a = due_of_run (config_in s) runs.Followed f in let b = due_of_run (config_in s) runs.Former f in
    c.earlier-2.ensures
    ∙ ap (λ (y : Option ℕ). earlier y c.earlier.result) (c.due_of.ensures s now f k x)
    ∙ ap (earlier a) (c.earlier.ensures
    ∙ ap (λ (y : Option ℕ). earlier y c.due_of-3.result) (c.due_of-2.ensures s now f k x)
    ∙ ap (earlier b) (c.due_of-3.ensures s now f k x))
