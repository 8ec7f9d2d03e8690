use Rattle.std.proofs.Common.{rules}
use Rattle.h263_bits.specs.Bits.{spelled}
use Rattle.code_tables.specs.Tables.{last_0_texts, last_1_texts, triple_text, event_text}
use Rattle.test_layers.proofs.code_tables_rows.events_written.Goals as goal

pub write_event-requires-clause-room : goal.write_event-requires-clause-room
unfolding event_text triple_text last_0_texts last_1_texts spelled
write_event-requires-clause-room c = search rules

pub write_event-requires-2-clause-room : goal.write_event-requires-2-clause-room
unfolding event_text triple_text last_0_texts last_1_texts spelled
write_event-requires-2-clause-room c = search rules

pub write_event-requires-3-clause-room : goal.write_event-requires-3-clause-room
unfolding event_text triple_text last_0_texts last_1_texts spelled
write_event-requires-3-clause-room c = search rules
