use Rattle.std.proofs.Common.{sym, arith}
use Rattle.code_tables.proofs.SeenEvents.{next_event}
use Rattle.code_tables.proofs.words.look_at_event.Goals as goal

pub returns : goal.returns
returns c =
    let old = c.args.reader.now in
    next_event 13 c.peek_early.result old c.seen_event.result c.seen_event.ensures (omega (
      arith,
      c.rest.ensures,
      c.if-rest-lt64.false,
    )) (sym c.peek_early.ensures.value)
