use Rattle.std.proofs.Common.{List, length, sym, ap, ◌∙◌}
use Rattle.std.proofs.lemmas.List.{length-map}
use Rattle.call_model.specs.JoinedRun.{SaidMessage}
use Rattle.one_way.specs.Network.{told_in}
use Rattle.group_call.proofs.viewer.Viewer.told.Goals as goal

pub returns-clause-view : goal.returns-clause-view
returns-clause-view c = λ p view h.
    c.said.ensures.messages h.messages.pairs h.messages.holds
    ∙ sym (length-map h.messages.pairs told_in)
    ∙ ap (λ (l : List SaidMessage). length l) h.messages.same
