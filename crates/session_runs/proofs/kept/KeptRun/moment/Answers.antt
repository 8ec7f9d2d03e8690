use Rattle.std.proofs.Common.{ap, ◌∙◌}
use Rattle.session_runs.specs.Histories.{Config, due_in, next_number_in}
use Rattle.session_runs.specs.Kept.{config_in}
use Rattle.session_runs.proofs.Moments.{made}
use Rattle.session_runs.proofs.kept.KeptRun.moment.Goals as goal

pub returns : goal.returns
returns c = λ h s.
    let k = config_in c.args.settings.now in
    made k c.args.round_trip c.args.now c.next.result (next_number_in k h) c.in-Some.due c.picture_period.result
    (due_in k h)
    (c.next.ensures.run h.first h.past s.run ∙ ap (λ (x : Config). next_number_in x h) c.requires.kept.config)
    c.picture_period.ensures c.if-due-eq0.false
    (c.in-Some.ensures.exact c.args.settings.now c.args.now h c.requires.kept s)
