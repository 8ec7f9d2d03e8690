-- THE GENERAL LAWS OF SYNTAX, and of the bits of numbers and bytes. This is the one public module of proofs in the
-- repository: every crate's proofs may cite it, and no other crate's. A law over every type of values cannot stand
-- on a function, so that each crate states the laws of its own syntax from these.
pub use Rattle.h263_bits.proofs.BitLists.{length-spelled, length-bits_of, bits_of-append, bits_of-drop, bits_of-take, number-append, number-lt, number-spelled, spelled-low, spelled-number, spelled-append, number-middle, number-push, take-take, length-window, drop-window}
pub use Rattle.h263_bits.proofs.SyntaxTexts.{bind_ok, err_not_ok, ok_is, allowed_ok, passed_if, passed_unless, number_takes, number_again, field_takes, field_again, begins_parts, begins_itself, both_begin, and_both, not_false, found_in, found_again, word_takes, word_again, Finds, sound, complete, one_reading, reads_texts, texts_read, reads_within, reads_fault, spells_done, spells_field, spells_code, spells_part, spells_element, spells_last, spells_turn, spells_whole, spelled_whole, done_length, field_length, stands_within, fields-append, length-fields, turn_shorter, repeat-again, repeat-finally, repeat-err, field_some, either_productive, part_some, element_some, code_some, IsMoved, moved, appends_none, appends_both}
pub use Rattle.h263_bits.proofs.FirstFaults.{stands, err_is, bind_err, refused_err, field_fault_again, field_fault, word_fault, word_fault_again, no_word_of_front, word_only, apart_words, exact_words, fault_found, fault_again, first_fault_is, reads_err, only_other, fault_here, fault_after_field, fault_after_word, fault_in_part, fault_of_part, fault_after_part, fault_in_element, fault_of_element, fault_after_element, fault_in_turn, fault_after_turn, fault_of_cut, fault_of_no_word, fault_of_text, fault_of_whole_part, ends_after_word, ends_in_element}
