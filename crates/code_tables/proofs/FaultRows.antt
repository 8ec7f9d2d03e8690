-- The rows of the table of faults.
use Rattle.std.proofs.Common.{◌≡◌, ℕ, ◌+◌, ◌-◌, ◌<◌, Bool, true, false, refl, sym, ap, ◌∙◌, arith, inl, inr, List, [], ◌∷◌, ◌++◌, length, Some, None}
use Rattle.std.specs.Prelude.{pos}
use Rattle.std.proofs.lemmas.List.{append-nil}
use Rattle.h263_types.specs.declared.Kind.{Kind}
use Rattle.h263_types.specs.declared.Kind.TheVariants as kinds
use Rattle.h263_bits.specs.declared.fault.FaultKind.TheVariants.{Ended, BadCode, BadLevel}
use Rattle.h263_bits.specs.Bits.{spelled, fields}
use Rattle.h263_bits.specs.Syntax.{IsIn, IsProductive, Spells, reading, begins, any, done, element}
use Rattle.h263_bits.specs.Elements.{IsWordOf, HasFault, EndsWithFault}
use Rattle.h263_bits.proofs.SyntaxLaws.{word_only, fault_of_no_word, fault_in_element, fault_of_element, fault_after_word, fault_after_field, fault_here, fault_of_cut, ends_after_word, ends_in_element, fault_of_text, spells_code, spells_field, spells_done}
use Rattle.code_tables.specs.Words.{word}
use Rattle.code_tables.specs.Mcbpc.{mcbpc, mcbpc_table, mcbpc_words, class_texts, dquant, dquant_table, dquant_words}
use Rattle.code_tables.specs.Tables.{TableEvent, cbpy, cbpy_table, cbpy_words, cbpy_texts, mvd, mvd_parts, magnitude_table, magnitude_words, magnitude_texts, signed, allowed_difference, event, event_parts, event_table, tcoef_words, from_runs, last_0_texts, last_1_texts, after_word, allowed_level}
use Rattle.code_tables.specs.Faults.{HasWordFaults, AreWords, HaveBadCodes, HasEventFaults, WordFaults}
use Rattle.code_tables.proofs.Productive.{mvd_productive}
use Rattle.code_tables.proofs.Written.{in_numbers}
use Rattle.code_tables.proofs.SignedWords.{mvd_in, mvd_words_are}

-- ---- words

pub mcbpc_are : (kind : Kind) → HasWordFaults (mcbpc kind) (λ w. IsWordOf (mcbpc_words kind) w)
unfolding mcbpc mcbpc_table
mcbpc_are kinds.I = λ b d. word_only (mcbpc_table kinds.I) (λ m. m) b d
mcbpc_are kinds.P = λ b d. word_only (mcbpc_table kinds.P) (λ m. m) b d

pub cbpy_are : (intra : Bool) → HasWordFaults (cbpy intra) (λ w. IsWordOf cbpy_words w)
unfolding cbpy cbpy_table
cbpy_are true = λ b d. word_only cbpy_table (λ pattern. pattern) b d
cbpy_are false = λ b d. word_only cbpy_table (λ pattern. 15 - pattern) b d

pub dquant_are : HasWordFaults dquant (λ w. IsWordOf dquant_words w)
unfolding dquant dquant_table
dquant_are = λ b d. word_only dquant_table (λ z. z) b d

are_words : AreWords
are_words = record { mcbpc = mcbpc_are; cbpy = cbpy_are; dquant = dquant_are; mvd = mvd_words_are; mvd_text = mvd_in }

-- ---- what is no word

mcbpc_bad : (kind : Kind) → HasFault (mcbpc kind) (word "000000000") BadCode 0
unfolding mcbpc mcbpc_table mcbpc_words class_texts begins
mcbpc_bad kinds.I = fault_of_no_word (mcbpc_table kinds.I) done (word "000000000") refl
mcbpc_bad kinds.P = fault_of_no_word (mcbpc_table kinds.P) done (word "000000000") refl

cbpy_bad : (intra : Bool) → HasFault (cbpy intra) (word "000000") BadCode 0
unfolding cbpy cbpy_table cbpy_words cbpy_texts begins
cbpy_bad true = fault_of_no_word cbpy_table (λ pattern. done pattern) (word "000000") refl
cbpy_bad false = fault_of_no_word cbpy_table (λ pattern. done (15 - pattern)) (word "000000") refl

-- 32 with plus is spelled as a magnitude and a sign, and refused
listed_32 : IsIn (word "000000000010", 32) magnitude_table.list
unfolding magnitude_table magnitude_words magnitude_texts
listed_32 = in_numbers magnitude_texts 0 32 (omega arith)

parts_productive : IsProductive mvd_parts
unfolding mvd IsProductive
parts_productive = mvd_productive.0

spelt_32 : Spells mvd_parts (pos 32) (word "000000000010" ++ word "0")
unfolding mvd_parts spelled
spelt_32 = spells_code magnitude_table _ _ (word "000000000010") 32 (word "0") listed_32
    (spells_field 1 any (λ sign. done (signed sign 32)) (pos 32) 0 [] (omega arith) refl (spells_done (pos 32)))

mvd_bad : HasFault mvd (word "000000000010" ++ word "0") BadCode 0
unfolding mvd
mvd_bad = fault_of_text (element mvd_parts allowed_difference done) ((word "000000000010" ++ word "0")
    ++ []) (word "000000000010" ++ word "0") BadCode 0 refl (fault_of_element mvd_parts allowed_difference done (pos 32)
    (word "000000000010" ++ word "0") [] BadCode parts_productive spelt_32 refl)

event_bad : HasFault event (word "000000000") BadCode 0
unfolding event event_parts event_table tcoef_words last_0_texts last_1_texts begins
event_bad = fault_in_element event_parts any done (word "000000000") BadCode 0 (fault_of_no_word event_table after_word
    (word "000000000") refl)

have_bad_codes : HaveBadCodes
have_bad_codes = record { mcbpc = mcbpc_bad; cbpy = cbpy_bad; mvd = mvd_bad; event = event_bad }

-- ---- events

sign_cut : (w : List Bool) (e : TableEvent) → IsIn (w, Some e) tcoef_words → EndsWithFault event w Ended 0
unfolding event event_parts event_table
sign_cut w e h =
    λ at. ap (λ (t : List Bool). reading event (record { at = at; bits = t })) (sym (append-nil w))
    ∙ ends_in_element event_parts any done (w ++ []) Ended (length w + 0) (ends_after_word event_table after_word w
    (Some e) [] Ended 0 h (fault_of_cut 1 any _ [] (omega arith))) at

pub in_after : {X : Type 0} (x : X) (xs ys : List X) → IsIn x ys → IsIn x (xs ++ ys)
in_after x [] ys h = h
in_after x (v ∷ xs) ys h = inr (in_after x xs ys h)

escape_in : IsIn (word "0000011", None) event_table.list
unfolding event_table tcoef_words
escape_in = in_after (word "0000011", None) (from_runs false 0 last_0_texts) (from_runs true 0 last_1_texts
    ++ (word "0000011", None) ∷ []) (in_after (word "0000011", None) (from_runs true 0 last_1_texts)
    ((word "0000011", None) ∷ []) (inl refl))

-- the fields of an escape, up to a LEVEL that is refused
pub level_row : (last run level : ℕ) → last < 2 → run < 64 → level < 256 → allowed_level level ≡ Some BadLevel
    → HasFault event (word "0000011" ++ fields ((1, last) ∷ (6, run) ∷ (8, level) ∷ [])) BadLevel 0
unfolding event event_parts
level_row last run level l r v refused =
    fault_in_element event_parts any done (word "0000011" ++ fields ((1, last) ∷ (6, run) ∷ (8, level) ∷ [])) BadLevel
    14
    (fault_after_word event_table after_word (word "0000011") None (fields ((1, last) ∷ (6, run) ∷ (8, level) ∷ []))
    BadLevel 7 escape_in
    (fault_after_field 1 any _ last (fields ((6, run) ∷ (8, level) ∷ [])) BadLevel 6 l refl
    (fault_after_field 6 any _ run (fields ((8, level) ∷ [])) BadLevel 0 r refl
    (fault_here 8 allowed_level _ level [] BadLevel v refused))))

have_event_faults : HasEventFaults
have_event_faults = record {
  sign = sign_cut;
  level_0 = λ last run l r. level_row last run 0 l r (omega arith) refl;
  level_128 = λ last run l r. level_row last run 128 l r (omega arith) refl;
}

pub word_faults : WordFaults
word_faults = record { words = are_words; bad = have_bad_codes; events = have_event_faults }
