use Rattle.payload_join.proofs.joiner.ready.Goals as goal

pub lay-requires : goal.lay-requires
lay-requires c =
    let whole = c.in-Some.ensures.whole c.args.ring.now.packets c.requires.first c.requires.second in
    whole.0
