use Rattle.std.proofs.Common.{Option, ap, sym, ◌∙◌}
use Rattle.stream_numbers.specs.declared.newest.Newest.{Newest}
use Rattle.stream_numbers.specs.Placing.{step_of}
use Rattle.stream_numbers.proofs.stepping.taken.Goals as goal

pub returns-in-None-clause-exact : goal.returns-in-None-clause-exact
returns-in-None-clause-exact c =
    c.step_first.ensures.exact c.args.rate.now
    ∙ sym (ap (λ (o : Option Newest). step_of c.args.rate.now o c.args.packet.now c.args.now) c.in-None.is)
