use Rattle.std.proofs.Common.{Ok, ap, sym, ◌∙◌, arith}
use Rattle.h263_bits.specs.Reading.{Bits, skip}
use Rattle.code_tables.specs.Events.{coefficient_of}
use Rattle.code_tables.proofs.SeenEvents.{event_read}
use Rattle.code_tables.proofs.words.read_rare_event.Goals as goal

pub returns-in-Some : goal.returns-in-Some
returns-in-Some c =
    let old = c.args.reader.now in
    let first = c.in-Some.ensures old (omega (arith, c.rest.ensures, c.if-rest-ge22.true))
    (sym c.peek-seen.ensures.value) in
    event_read old (skip c.in-Some.found.len old) _ first.read
    ∙ ap (λ (b : Bits). Ok (coefficient_of c.in-Some.found.event, b)) (sym c.skip.ensures)
