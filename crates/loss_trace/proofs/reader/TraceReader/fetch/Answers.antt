use Rattle.std.proofs.Common.{ℕ, List, Some, sym, ap, subst, ◌∙◌}
use Rattle.loss_trace.specs.declared.input.Came.{Came}
use Rattle.loss_trace.specs.Input.{CameOf}
use Rattle.loss_trace.proofs.Firsts.{byte_there, no_byte}
use Rattle.loss_trace.proofs.Readers.{over, past_all}
use Rattle.h263_outside.specs.declared.desk.Role.TheVariants.{Events}
use Rattle.loss_trace.proofs.reader.TraceReader.fetch.Goals as goal

pub returns-in-None-clause-gives : goal.returns-in-None-clause-gives
returns-in-None-clause-gives g c = λ rest told.
    let b = c.in_ok-read_byte.ensures.told rest told in
    over c.args.self.now rest _ (no_byte c.in_ok-read_byte.field-0 rest c.in-None.is b.0) b.1

pub returns-in-Some-clause-gives : goal.returns-in-Some-clause-gives
returns-in-Some-clause-gives g c = λ rest told.
    let b = c.in_ok-read_byte.ensures.told rest told in
    past_all rest c.in-Some.field-0 _ (byte_there c.in_ok-read_byte.field-0 c.in-Some.field-0 rest c.in-Some.is b.0) b.1

pub returns-in-End-clause-gives : goal.returns-in-End-clause-gives
returns-in-End-clause-gives g c = λ rest told.
    let b = subst (λ (x : Came). CameOf x rest c.read_line.new.line
    ((g.D.Desk.outside c.read_line.new.desk).left Events)) c.in-End.is (c.in_ok-read_line.ensures.told rest told) in
    (b.1 ∙ ap (λ (l : List ℕ). Some l) (sym b.0), λ _. b.0)

pub returns-in-Closed-clause-gives : goal.returns-in-Closed-clause-gives
returns-in-Closed-clause-gives g c = λ rest told.
    subst (λ (x : Came). CameOf x rest c.read_line.new.line ((g.D.Desk.outside c.read_line.new.desk).left Events))
    c.in-Closed.is (c.in_ok-read_line.ensures.told rest told)

pub returns-in-Open-clause-gives : goal.returns-in-Open-clause-gives
returns-in-Open-clause-gives g c = λ rest told.
    subst (λ (x : Came). CameOf x rest c.read_line.new.line ((g.D.Desk.outside c.read_line.new.desk).left Events))
    c.in-Open.is (c.in_ok-read_line.ensures.told rest told)

pub returns-in-Long-clause-gives : goal.returns-in-Long-clause-gives
returns-in-Long-clause-gives g c = λ rest told.
    subst (λ (x : Came). CameOf x rest c.read_line.new.line ((g.D.Desk.outside c.read_line.new.desk).left Events))
    c.in-Long.is (c.in_ok-read_line.ensures.told rest told)
