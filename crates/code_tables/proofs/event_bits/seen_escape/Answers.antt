use Rattle.code_tables.proofs.SeenEvents.{escape_word}
use Rattle.code_tables.proofs.event_bits.seen_escape.Goals as goal

pub escaped-requires : goal.escaped-requires
escaped-requires c = escape_word c.args.seen c.if-seen-eq3.true
