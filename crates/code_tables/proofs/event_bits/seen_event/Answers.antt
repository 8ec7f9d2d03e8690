use Rattle.code_tables.proofs.PackedEvents.{row_word}
use Rattle.code_tables.proofs.event_bits.seen_event.Goals as goal

pub unpacked-requires-clause-len : goal.unpacked-requires-clause-len
unpacked-requires-clause-len c =
    (row_word c.args.seen c.packed_event-packed.result
    (c.packed_event-packed.ensures.event c.if-packed-eq0.false)).short
