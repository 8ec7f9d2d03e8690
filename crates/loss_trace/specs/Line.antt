-- The lines of a trace: a line is a letter, numbers and marks, one after the other.
use Rattle.std.specs.Prelude.{◌≡◌, ◌≤◌, ◌<◌, ℕ, true, List, [], ◌∷◌, ◌++◌, length, codes}
use Rattle.std.specs.Str.{all_ascii_digits}
use Rattle.std.specs.Str.Parse.{digits_value}
use Rattle.loss_trace.specs.declared.event.Event.{Event}
use Rattle.loss_trace.specs.declared.event.Event.TheVariants.{Nothing, Send, Packet, All, Back, Play}

-- a part of a line
pub data Part : Type 0 where
  -- these bytes
  Word : List ℕ → Part
  -- this number, in 1 to 7 decimal digits
  Number : ℕ → Part

-- 1 to 7 decimal digits that write a number
pub record IsNumber (n : ℕ) (digits : List ℕ) : Type 0 where
  pub some : 0 < length digits
  pub few : length digits ≤ 7
  pub decimal : all_ascii_digits digits ≡ true
  pub value : digits_value 10 digits ≡ n

-- bytes that spell a part
abbrev pub IsEventPart : Part → List ℕ → Type 0
IsEventPart (Word word) bytes = bytes ≡ word
IsEventPart (Number n) bytes = IsNumber n bytes

-- bytes that spell parts, one after the other
abbrev pub Spell : List Part → List ℕ → Type 0
Spell [] bytes = bytes ≡ []
Spell (part ∷ parts) bytes = (front : List ℕ)
    × (rest : List ℕ) × (bytes ≡ front ++ rest) × IsEventPart part front × Spell parts rest

-- the parts of the line that says an event
abbrev pub line_parts : Event → List Part
line_parts Nothing = []
line_parts Send = Word (codes "S") ∷ []
line_parts (Packet number place) = Word (codes "D ") ∷ Number number ∷ Word (codes ".") ∷ Number place ∷ []
line_parts (All number) = Word (codes "D ") ∷ Number number ∷ Word (codes ".*") ∷ []
line_parts (Back message) = Word (codes "B ") ∷ Number message ∷ []
line_parts Play = Word (codes "P") ∷ []

-- a line, without its newline, that says an event
abbrev pub IsLine : Event → List ℕ → Type 0
IsLine event line = Spell (line_parts event) line
