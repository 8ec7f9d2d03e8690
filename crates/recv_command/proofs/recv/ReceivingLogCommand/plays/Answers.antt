use Rattle.std.proofs.Common.{sym, ap, ◌∙◌}
use Rattle.h263_types.specs.declared.params.Params.{Params}
use Rattle.receiver_end.specs.State.{run_of}
use Rattle.recv_command.proofs.recv.ReceivingLogCommand.plays.Goals as goal

pub returns-clause-is : goal.returns-clause-is
returns-clause-is c = λ s stands.
    c.played.ensures.run s.past stands.run ∙ ap (λ (p : Params). (run_of p s.past).played) (sym stands.params)
