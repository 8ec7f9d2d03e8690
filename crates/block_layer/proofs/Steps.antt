-- Level after level: what is still to be written, and what is written in all.
use Rattle.std.proofs.Common.{◌≡◌, ℕ, ◌+◌, Bool, true, false, cond, List, [], ◌++◌, length, drop, not, refl, sym, ap, ◌∙◌, length-append}
use Rattle.std.specs.Prelude.{ℤ}
use Rattle.std.proofs.lemmas.List.{append-nil}
use Rattle.block_layer.proofs.Written.{no_events}
use Rattle.h263_bits.specs.Bits.{spelled}
use Rattle.h263_bits.proofs.SyntaxLaws.{length-spelled}
use Rattle.block_layer.specs.Text.{none_left, coefficients_of, events_text, levels_text, coded_text, dc_code, intra_text, inter_text}
use Rattle.block_layer.specs.Step.{level_in_list}

-- the text of what is left, after a run of zeros
abbrev pub left_text : ℕ → ℕ → List ℤ → List Bool
left_text run place levels = events_text (coefficients_of run (drop place levels))

pub none_text : (run place : ℕ) (levels : List ℤ) → none_left (drop place levels) ≡ true → left_text run place levels
    ≡ []
unfolding events_text
none_text run place levels none = rw (no_events run (drop place levels) none) refl

pub ended : (run place : ℕ) (levels : List ℤ) (new all : List Bool) → none_left (drop place levels) ≡ true
    → new ++ left_text run place levels ≡ all → new ≡ all
ended run place levels new all none h = sym (append-nil new)
    ∙ ap (λ (l : List Bool). new ++ l) (sym (none_text run place levels none)) ∙ h

pub text_is : (from : ℕ) (levels : List ℤ) → left_text 0 from levels ≡ levels_text from levels
unfolding levels_text
text_is from levels = refl

-- the events after INTRADC: none where the block is not coded
pub coded_is : (levels : List ℤ) → coded_text levels ≡ levels_text 1 levels
unfolding levels_text
coded_is levels = at (none_left (drop 1 levels)) refl
  where
    at : (t : Bool) → none_left (drop 1 levels) ≡ t → cond (not t) (left_text 0 1 levels) [] ≡ left_text 0 1 levels
    at true none = sym (none_text 0 1 levels none)
    at false some = refl

-- after INTRADC
pub intra_is : (levels : List ℤ) (dc : ℕ) → dc ≡ dc_code (level_in_list levels 0) → spelled 8 dc ++ levels_text 1 levels
    ≡ intra_text levels
unfolding intra_text
intra_is levels dc is = ap (λ (n : ℕ). spelled 8 n ++ levels_text 1 levels) is
    ∙ ap (λ (l : List Bool). spelled 8 (dc_code (level_in_list levels 0)) ++ l) (sym (coded_is levels))

-- an intra block's text is eight bits of INTRADC and the events
pub intra_length : (levels : List ℤ) → length (intra_text levels) ≡ 8 + length (coded_text levels)
unfolding intra_text
intra_length levels = let dc = dc_code (level_in_list levels 0) in length-append (spelled 8 dc) (coded_text levels)
    ∙ ap (λ (n : ℕ). n + length (coded_text levels)) (length-spelled 8 dc)

-- nothing is written of a block with no level
pub none_inter : (levels : List ℤ) → none_left levels ≡ true → inter_text levels ≡ []
unfolding inter_text levels_text
none_inter levels none = none_text 0 0 levels none
