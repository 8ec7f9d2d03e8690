use Rattle.std.proofs.Common.{rules}
use Rattle.code_tables.specs.Mcbpc.{mcbpc_text, class_texts, dquant_text}
use Rattle.code_tables.specs.Tables.{cbpy_texts, cbpy_text, magnitude_texts, mvd_text}
use Rattle.test_layers.proofs.code_tables_rows.words_written.Goals as goal

pub write_mvd-requires-clause-room : goal.write_mvd-requires-clause-room
unfolding mvd_text magnitude_texts
write_mvd-requires-clause-room c = search rules

pub write_mcbpc-requires-clause-room : goal.write_mcbpc-requires-clause-room
unfolding mvd_text magnitude_texts mcbpc_text class_texts
write_mcbpc-requires-clause-room c = search rules

pub write_cbpy-requires-clause-room : goal.write_cbpy-requires-clause-room
unfolding mvd_text magnitude_texts mcbpc_text class_texts cbpy_text cbpy_texts
write_cbpy-requires-clause-room c = search rules

pub write_dquant-requires-clause-room : goal.write_dquant-requires-clause-room
unfolding mvd_text magnitude_texts mcbpc_text class_texts cbpy_text cbpy_texts dquant_text
write_dquant-requires-clause-room c = search rules
