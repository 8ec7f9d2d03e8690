use Rattle.group_command.proofs.Watching.{all_new}
use Rattle.group_command.proofs.viewers.Viewers.start.Goals as goal

pub returns-in-Ok-start_if-clause-holds : goal.returns-in-Ok-start_if-clause-holds
returns-in-Ok-start_if-clause-holds c = λ run none.
    all_new c.args.params.now run c.args.count c.in_ok-first.first c.in-Ok.second c.in-Ok-start_if.third none
    c.requires.some c.requires.few c.in-Ok.ensures.there c.in-Ok-start_if.ensures.there
    c.in_ok-first.ensures.holds c.in-Ok.ensures.holds c.in-Ok-start_if.ensures.holds
