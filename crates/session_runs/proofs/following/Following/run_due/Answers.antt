use Rattle.std.proofs.Common.{sym, ◌∙◌}
use Rattle.stream_choice.specs.declared.streams.Run.TheVariants as runs
use Rattle.session_runs.specs.Kept.{config_in}
use Rattle.session_runs.specs.Following.{is_run_due}
use Rattle.session_runs.proofs.Dues.{followed, former, none, tried}
use Rattle.session_runs.proofs.following.Following.run_due.Goals as goal

pub returns-then-is_run_due : goal.returns-then-is_run_due
returns-then-is_run_due c = λ s now f k x.
    followed (is_run_due (config_in s) runs.Followed c.args.now f)
    (is_run_due (config_in s) runs.Former c.args.now f) (is_run_due (config_in s) runs.Tried c.args.now f)
    (sym c.if-is_run_due.true ∙ c.is_run_due.ensures s now f k x)

pub returns-then-is_run_due-2 : goal.returns-then-is_run_due-2
returns-then-is_run_due-2 c = λ s now f k x.
    former (is_run_due (config_in s) runs.Followed c.args.now f)
    (is_run_due (config_in s) runs.Former c.args.now f) (is_run_due (config_in s) runs.Tried c.args.now f)
    (sym c.if-is_run_due.false ∙ c.is_run_due.ensures s now f k x)
    (sym c.if-is_run_due-2.true ∙ c.is_run_due-2.ensures s now f k x)

pub returns-then-is_run_due-3 : goal.returns-then-is_run_due-3
returns-then-is_run_due-3 c = λ s now f k x.
    tried (is_run_due (config_in s) runs.Followed c.args.now f)
    (is_run_due (config_in s) runs.Former c.args.now f) (is_run_due (config_in s) runs.Tried c.args.now f)
    (sym c.if-is_run_due.false ∙ c.is_run_due.ensures s now f k x)
    (sym c.if-is_run_due-2.false ∙ c.is_run_due-2.ensures s now f k x)
    (sym c.if-is_run_due-3.true ∙ c.is_run_due-3.ensures s now f k x)

pub returns : goal.returns
returns c = λ s now f k x.
    none (is_run_due (config_in s) runs.Followed c.args.now f)
    (is_run_due (config_in s) runs.Former c.args.now f) (is_run_due (config_in s) runs.Tried c.args.now f)
    (sym c.if-is_run_due.false ∙ c.is_run_due.ensures s now f k x)
    (sym c.if-is_run_due-2.false ∙ c.is_run_due-2.ensures s now f k x)
    (sym c.if-is_run_due-3.false ∙ c.is_run_due-3.ensures s now f k x)
