use Rattle.std.proofs.Common.{ℕ, List, ap, ◌∙◌}
use Rattle.std.specs.Prelude.{slice_get}
use Rattle.group_call.proofs.broadcast.Broadcast.packet.Goals as goal

pub returns : goal.returns
returns c = λ p run h cast.
    c.packet.ensures h.packets.pictures h.packets.keeps
    ∙ ap (λ (l : List (List ℕ)). slice_get l c.args.place)
    ((c.ring_laws.ensures p).kept c.args.self.now.packets run.coded c.args.number h.packets cast.0 cast.1)
