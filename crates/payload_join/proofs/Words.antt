-- Zero bits in a row in the words of the tables.
use Rattle.std.proofs.Common.{◌≡◌, ℕ, Bool, true, refl, arith}
use Rattle.std.specs.Prelude.{Option, Some, None, pos, ◌==◌}
use Rattle.h263_types.specs.declared.Kind.{Kind}
use Rattle.h263_types.specs.declared.Kind.TheVariants as kinds
use Rattle.h263_bits.specs.Bits.{spelled}
use Rattle.h263_bits.specs.Syntax.{any, done, field, either}
use Rattle.code_tables.specs.declared.macroblock.Mcbpc.{Mcbpc}
use Rattle.code_tables.specs.declared.macroblock.Mcbpc.TheVariants.{Stuffing, Word}
use Rattle.code_tables.specs.Mcbpc.{class_texts, mcbpc_words, mcbpc_table, mcbpc, dquant_words, dquant_table, dquant}
use Rattle.code_tables.specs.Tables.{TableEvent, cbpy_texts, cbpy_words, cbpy_table, cbpy, magnitude_texts, magnitude_words, magnitude_table, mvd_parts, mvd, allowed_difference, signed, last_0_texts, last_1_texts, tcoef_words, event_table, after_word, allowed_level, event_parts, event}
use Rattle.payload_join.proofs.Zeros.{zeros, all_below, is_fine}
use Rattle.payload_join.proofs.Kept.{Keeps, keeps_done, keeps_any, keeps_tried, keeps_code, keeps_element, keeps_either}

-- stuffing ends with a 1, and another word with two zeros at most
abbrev pub behind_mcbpc : Mcbpc → ℕ
behind_mcbpc Stuffing = 0
behind_mcbpc (Word class cbpc) = 2

pub mcbpc_keeps : (kind : Kind) → Keeps (mcbpc kind) 7 behind_mcbpc
unfolding mcbpc mcbpc_table mcbpc_words class_texts zeros
mcbpc_keeps kinds.I = keeps_code (mcbpc_table kinds.I) done 7 behind_mcbpc behind_mcbpc refl
    (λ x. keeps_done x (behind_mcbpc x) behind_mcbpc (omega arith))
mcbpc_keeps kinds.P = keeps_code (mcbpc_table kinds.P) done 7 behind_mcbpc behind_mcbpc refl
    (λ x. keeps_done x (behind_mcbpc x) behind_mcbpc (omega arith))

pub cbpy_keeps : (intra : Bool) → Keeps (cbpy intra) 2 (λ _. 3)
unfolding cbpy cbpy_table cbpy_words cbpy_texts zeros
cbpy_keeps intra = keeps_code cbpy_table _ 2 (λ _. 3) (λ _. 3) refl (λ x. keeps_done _ 3 (λ _. 3) (omega arith))

pub dquant_keeps : Keeps dquant 3 (λ _. 5)
unfolding dquant dquant_table dquant_words zeros
dquant_keeps = keeps_code dquant_table done 3 (λ _. 5) (λ _. 5) refl (λ x. keeps_done x 5 (λ _. 5) (omega arith))

sign_keeps : (size : ℕ) → Keeps (either (size == 0) (done (pos 0)) (field 1 any (λ sign. done (signed sign size)))) 4
    (λ _. 5)
sign_keeps size =
    keeps_either (size == 0) (done (pos 0)) (field 1 any (λ sign. done (signed sign size))) 4 (λ _. 5)
    (keeps_done (pos 0) 4 (λ _. 5) (omega arith))
    (keeps_any 1 any (λ sign. done (signed sign size)) 4 (λ _. 5) (λ v. keeps_done (signed v size) 5 (λ _. 5)
    (omega arith)))

mvd_parts_keep : Keeps mvd_parts 5 (λ _. 5)
unfolding mvd_parts magnitude_table magnitude_words magnitude_texts zeros
mvd_parts_keep = keeps_code magnitude_table (λ size. either (size == 0) (done (pos 0))
    (field 1 any (λ sign. done (signed sign size)))) 5 (λ _. 4) (λ _. 5) refl sign_keeps

pub mvd_keeps : Keeps mvd 5 (λ _. 5)
unfolding mvd
mvd_keeps = keeps_element mvd_parts allowed_difference done 5 (λ _. 5) (λ _. 5) mvd_parts_keep
    (λ x. keeps_done x 5 (λ _. 5) (omega arith))

-- the escape's word ends with a 1, and another with five zeros at most
abbrev behind_word : Option TableEvent → ℕ
behind_word (Some e) = 5
behind_word None = 0

-- each LEVEL of an escape after LAST and RUN
levels_tried : all_below 256 (is_fine 8 7 allowed_level (λ _. 6)) ≡ true
unfolding all_below zeros spelled
levels_tried = refl

after_keeps : (o : Option TableEvent) → Keeps (after_word o) (behind_word o) (λ _. 6)
after_keeps (Some e) = keeps_any 1 any _ 5 (λ _. 6) (λ v. keeps_done _ 6 (λ _. 6) (omega arith))
after_keeps None =
    keeps_any 1 any _ 0 (λ _. 6) (λ last. keeps_any 6 any _ 1 (λ _. 6) (λ run.
    keeps_tried 8 allowed_level _ 7 (λ _. 6) (λ _. 6) levels_tried (λ level free. keeps_done _ 6 (λ _. 6)
    (omega arith))))

event_parts_keep : Keeps event_parts 6 (λ _. 6)
unfolding event_parts event_table tcoef_words last_0_texts last_1_texts zeros
event_parts_keep = keeps_code event_table after_word 6 behind_word (λ _. 6) refl after_keeps

pub event_keeps : Keeps event 6 (λ _. 6)
unfolding event
event_keeps = keeps_element event_parts any done 6 (λ _. 6) (λ _. 6) event_parts_keep
    (λ x. keeps_done x 6 (λ _. 6) (omega arith))
