use Rattle.std.proofs.Common.{◌/◌, ◌<◌, get_or, arith}
use Rattle.code_tables.specs.declared.event_tables.TheConstants.{SHORT_EVENTS, LONG_EVENTS}
use Rattle.code_tables.proofs.PackedEvents.{packed_there, packed_more, short_events, long_events}
use Rattle.code_tables.proofs.event_bits.packed_event.Goals as goal

pub returns-then-short-ne0-clause-event : goal.returns-then-short-ne0-clause-event
returns-then-short-ne0-clause-event c =
    let inside : c.args.seen / 16 < 256 = omega (arith, c.requires) in
    λ some. packed_more c.args.seen (get_or SHORT_EVENTS (c.args.seen / 16) 0)
    (packed_there 8 (c.args.seen / 16) SHORT_EVENTS short_events inside some)

pub returns-then-seen-lt304-clause-event : goal.returns-then-seen-lt304-clause-event
returns-then-seen-lt304-clause-event c = λ some. packed_there 12 c.args.seen LONG_EVENTS long_events
    c.if-seen-lt304.true some
