-- What is said: a message's bytes.
use Rattle.std.specs.Prelude.{◌≡◌, ℕ, List, [], ◌∷◌, take, drop}
use Rattle.back_messages.specs.declared.writing.Said.{Said}

-- the bytes of the message
abbrev pub text_of_said : Said → List ℕ
text_of_said said = take said.len said.bytes

-- after a message of three bytes the others are 0
abbrev pub IsFilled : Said → Type 0
IsFilled said = said.len ≡ 3 → drop 3 said.bytes ≡ 0 ∷ 0 ∷ []
