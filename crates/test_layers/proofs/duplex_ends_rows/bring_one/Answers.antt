use Rattle.test_layers.proofs.duplex_ends_rows.bring_one.Goals as goal

pub deliver-requires : goal.deliver-requires
deliver-requires c = c.in-Ok.ensures.may c.args.place
