use Rattle.group_call.proofs.broadcast.Broadcast.reference_of.Goals as goal

pub returns : goal.returns
returns c = λ p run h few near.
    (c.ring_laws.ensures p).reference c.args.self.now.references run.coded c.args.number c.get.result h.references
    c.get.ensures few near
