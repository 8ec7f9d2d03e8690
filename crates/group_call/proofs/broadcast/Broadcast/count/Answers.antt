use Rattle.std.proofs.Common.{ℕ, List, length, ap, ◌∙◌}
use Rattle.group_call.proofs.broadcast.Broadcast.count.Goals as goal

pub returns-clause-few : goal.returns-clause-few
returns-clause-few c = c.count.ensures.few

pub returns-clause-packets : goal.returns-clause-packets
returns-clause-packets c = λ p run h cast.
    c.count.ensures.packets h.packets.pictures h.packets.keeps
    ∙ ap (λ (l : List (List ℕ)). length l) ((c.ring_laws.ensures p).kept c.args.self.now.packets run.coded c.args.number
    h.packets cast.0 cast.1)
