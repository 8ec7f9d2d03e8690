use Rattle.std.proofs.Common.{Option, Ok, subst}
use Rattle.h263_outside.specs.declared.desk.Role.TheVariants.{Events}
use Rattle.loss_trace.specs.declared.reader.Fetched.{Fetched}
use Rattle.loss_trace.specs.Reader.{FetchGives}
use Rattle.loss_trace.proofs.Readers.{bytes_stopped, found_of, passes}
use Rattle.loss_trace.proofs.reader.TraceReader.raw.Goals as goal

pub returns-in_err-fetched-clause-gives : goal.returns-in_err-fetched-clause-gives
returns-in_err-fetched-clause-gives g c = λ rest told.
    bytes_stopped c.args.self.now rest c.fetch.new.buf _ c.from_residual.result c.in_err-fetched.field-0.0
    c.from_residual.ensures.1 (c.in_err-fetched.ensures.gives rest told)

pub returns-in_default-clause-gives : goal.returns-in_default-clause-gives
returns-in_default-clause-gives g c = λ rest told.
    subst (λ (o : Option Fetched). FetchGives (Ok o) c.args.self.now rest c.fetch.new.buf
    ((g.D.Desk.outside c.fetch.new.desk).left Events)) c.in_default.is (c.in_ok-fetched.ensures.gives rest told)

pub returns-clause-gives : goal.returns-clause-gives
returns-clause-gives g c = λ rest told.
    let line = c.in-Some.fetched in
    let h = found_of c.args.self.now rest c.fetch.new.buf _ c.in_ok-fetched.field-0 line c.in-Some.is
    (c.in_ok-fetched.ensures.gives rest told) in (
      passes rest c.fetch.new.buf line.len _ h.0 c.pass.new.self line.closed h.1 c.pass.ensures.ended,
      h.0.size,
      h.0.same,
    )
