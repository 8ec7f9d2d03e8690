use Rattle.std.proofs.Common.{ap, ◌∙◌}
use Rattle.h263_types.specs.declared.params.Params.{Params}
use Rattle.receiver_end.specs.State.{run_of}
use Rattle.group_call.proofs.viewer.Viewer.played.Goals as goal

pub returns-clause-view : goal.returns-clause-view
returns-clause-view c = λ p view h.
    c.played.ensures.run view.entries h.receives ∙ ap (λ (q : Params). (run_of q view.entries).played) h.params
