use Rattle.std.proofs.Common.{ap, ◌∙◌}
use Rattle.h263_types.specs.declared.params.Params.{Params}
use Rattle.receiver_end.specs.State.{run_of}
use Rattle.group_call.proofs.viewer.Viewer.shown.Goals as goal

pub returns-clause-view : goal.returns-clause-view
returns-clause-view c = λ p view h.
    c.shown.ensures.run view.entries h.receives ∙ ap (λ (q : Params). (run_of q view.entries).screen) h.params
