use Rattle.test_layers.proofs.duplex_ends_rows.bring_all.Goals as goal

pub deliver_all-requires : goal.deliver_all-requires
deliver_all-requires c = c.in-Ok.ensures.may 0
