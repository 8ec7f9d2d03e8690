use Rattle.std.proofs.Common.{◌∙◌, sym}
use Rattle.make_input.proofs.Lines.{at_end}
use Rattle.make_input.proofs.trace.TraceMaker.next.Goals as goal

pub returns : goal.returns
returns c =
    let m = c.args.self.now in
    at_end m.first m.second m.play m.back m.last c.take.new.self c.take-2.new.self c.take-3.new.self c.take-4.new.self
    c.take-5.new.self c.take-5.result m.frames m.number m.state
    (sym c.take.ensures.value ∙ c.in_default.is) (sym c.take-2.ensures.value
    ∙ c.in_default-take.is) (sym c.take-3.ensures.value ∙ c.in_default-take-2.is) (sym c.take-4.ensures.value
    ∙ c.in_default-take-3.is)
    c.take.ensures.after c.take-2.ensures.after c.take-3.ensures.after c.take-4.ensures.after c.take-5.ensures.after
    c.take-5.ensures.value c.if-self-gt0.false
