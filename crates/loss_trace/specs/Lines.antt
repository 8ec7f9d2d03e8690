-- A text in lines: each ends with a newline, and the last may end with the text.
use Rattle.std.specs.Prelude.{ℕ, ◌≢◌, ◌≡◌, ◌+◌, ◌≤◌, ◌==◌, nat_lt, min, Bool, List, [], ◌∷◌, ◌++◌, length, take, drop, Option, Some, All, if◌then◌else◌}
use Rattle.std.specs.List.{flat_map}
use Rattle.h263_outside.specs.Lines.{NoNewline}

-- the bytes before the first newline
abbrev pub first_line : List ℕ → List ℕ
first_line [] = []
first_line (b ∷ text) = if b == 10 then [] else b ∷ first_line text

-- whether a newline stands after them
abbrev pub is_closed : List ℕ → Bool
is_closed text = nat_lt (length (first_line text)) (length text)

-- what stands after the first line and its newline
abbrev pub later_lines : List ℕ → List ℕ
later_lines text = drop (length (first_line text) + 1) text

-- what stands after a line of which no byte past the 65th is looked at
abbrev pub after_long : List ℕ → List ℕ
after_long text = drop (min (length (first_line text) + 1) 65) text

-- what ends a text after its last newline, as a line, if there is something
abbrev pub last_line : List ℕ → List (List ℕ)
last_line [] = []
last_line (b ∷ bytes) = (b ∷ bytes) ∷ []

-- a text whose lines are these: some that end with a newline, and what stands after the last newline
pub record IsText (text : List ℕ) (lines : List (List ℕ)) : Type 0 where
  pub closed : List (List ℕ)
  pub end : List ℕ
  pub spelled : text ≡ flat_map (λ line. line ++ 10 ∷ []) closed ++ end
  pub apart : All NoNewline closed
  pub unclosed : NoNewline end
  pub all : lines ≡ closed ++ last_line end

-- what was taken when a read failed: no newline, and so no whole line
pub record IsTraceCut (rest : List ℕ) (left : Option (List ℕ)) : Type 0 where
  pub taken : ℕ
  pub within : taken ≤ length rest
  pub gone : left ≡ Some (drop taken rest)
  pub free : NoNewline (take taken rest)
