-- What the reading of one line says of the trace.
use Rattle.std.specs.Prelude.{ℕ, ◌≡◌, ◌<◌, ◌≤◌, true, false, List, [], length, take, Option, Some}
use Rattle.loss_trace.specs.declared.input.Came.{Came}
use Rattle.loss_trace.specs.declared.input.Came.TheVariants.{End, Closed, Open, Long}
use Rattle.loss_trace.specs.Lines.{first_line, is_closed, later_lines, after_long}

-- the first line of the rest is in the buffer, and was read
pub record IsFirstLine (rest buf : List ℕ) (len : ℕ) (left : Option (List ℕ)) : Type 0 where
  pub some : 0 < length rest
  pub size : length (first_line rest) ≡ len
  pub same : take len buf ≡ first_line rest
  pub gone : left ≡ Some (later_lines rest)

abbrev pub CameOf : Came → List ℕ → List ℕ → Option (List ℕ) → Type 0
CameOf End rest buf left = (rest ≡ []) × (left ≡ Some [])
CameOf (Closed len) rest buf left = IsFirstLine rest buf len left × (is_closed rest ≡ true)
CameOf (Open len) rest buf left = IsFirstLine rest buf len left × (is_closed rest ≡ false)
CameOf Long rest buf left = (64 < length (first_line rest)) × (left ≡ Some (after_long rest))

-- a length within the buffer
abbrev pub IsLengthWithin : Came → ℕ → Type 0
IsLengthWithin End most = Unit {0}
IsLengthWithin (Closed len) most = len ≤ most
IsLengthWithin (Open len) most = len ≤ most
IsLengthWithin Long most = Unit {0}
