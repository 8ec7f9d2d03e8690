-- The lines of a meter.
use Rattle.std.specs.Prelude.{ℕ, List, [], ◌∷◌, ◌++◌, codes, decimal}
use Rattle.rate_control.specs.declared.meter.Totals.{Totals}
use Rattle.rate_control.specs.declared.text.Text.{Text}
use Rattle.h263_types.specs.Texts.{newline}

-- its bytes
abbrev pub meter_text : Text → List ℕ
meter_text text = text.line.bytes

-- a picture that has ended: its number, its size and its level
abbrev pub picture_line : ℕ → ℕ → ℕ → List ℕ
picture_line number size level =
    decimal number ++ (32 ∷ decimal size) ++ (32 ∷ decimal level) ++ newline

-- a word and its number
abbrev pub counted_word : List ℕ → ℕ → List ℕ
counted_word word number = word ++ decimal number

-- the numbers of a whole log
abbrev pub totals_line : Totals → List ℕ
totals_line t =
    counted_word (codes "pictures ") t.pictures
    ++ counted_word (codes " greatest ") t.greatest
    ++ counted_word (codes " over ") t.over
    ++ counted_word (codes " refused ") t.refused
    ++ newline
