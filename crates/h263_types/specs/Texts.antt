-- Texts: their bytes.
use Rattle.std.specs.Prelude.{ℕ, List, [], ◌∷◌}

abbrev pub Text : Type 0
Text = List ℕ

-- a line's end
abbrev pub newline : Text
newline = 10 ∷ []
