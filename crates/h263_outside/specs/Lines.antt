-- Lines of bytes.
use Rattle.std.specs.Prelude.{◌≢◌, ℕ, List, All}

abbrev pub NoNewline : List ℕ → Type 0
NoNewline bytes = All (λ b. b ≢ 10) bytes
