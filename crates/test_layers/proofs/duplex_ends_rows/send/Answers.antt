use Rattle.test_layers.proofs.duplex_ends_rows.send.Goals as goal

pub returns-in-Ok-check_send : goal.returns-in-Ok-check_send
returns-in-Ok-check_send c =
    c.send.ensures.ready c.args.far.now (c.in-Ok-check_send.ensures.may c.args.far.now c.requires)
