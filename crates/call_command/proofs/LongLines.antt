-- A text of more than 17 bytes says no event.
use Rattle.std.proofs.Common.{◌≡◌, ℕ, ◌+◌, ◌<◌, ◌≤◌, List, [], ◌∷◌, length, Option, Some, None, refl, ap, arith, lit≤, length-append}
use Rattle.loss_trace.specs.declared.event.Event.{Event as Line}
use Rattle.loss_trace.specs.declared.event.Event.TheVariants as says
use Rattle.loss_trace.specs.Line.{IsLine, IsEventPart, Number, Part, Spell, Word, line_parts}
use Rattle.loss_trace.specs.Reading.{event_in}

abbrev most_of : Part → ℕ
most_of (Word word) = length word
most_of (Number n) = 7

abbrev most : List Part → ℕ
most [] = 0
most (part ∷ parts) = most_of part + most parts

part_len : (part : Part) (bytes : List ℕ) → IsEventPart part bytes → length bytes ≤ most_of part
part_len (Word word) bytes is = omega (arith, ap (λ (l : List ℕ). length l) is)
part_len (Number n) bytes is = is.few

parts_len : (parts : List Part) (bytes : List ℕ) → Spell parts bytes → length bytes ≤ most parts
parts_len [] bytes none = omega (arith, ap (λ (l : List ℕ). length l) none)
parts_len (part ∷ parts) bytes (front, rest, whole, is, h) =
    omega (
      arith,
      ap (λ (l : List ℕ). length l) whole,
      length-append front rest,
      part_len part front is,
      parts_len parts rest h,
    )

event_len : (event : Line) → most (line_parts event) ≤ 17
event_len says.Nothing = lit≤ tt
event_len says.Send = lit≤ tt
event_len (says.Packet n i) = lit≤ tt
event_len (says.All n) = lit≤ tt
event_len (says.Back n) = lit≤ tt
event_len says.Play = lit≤ tt

module _ (read : (line : List ℕ) (event : Line) → event_in line ≡ Some event → IsLine event line) where
  none_or : (rest : List ℕ) (o : Option Line) → event_in rest ≡ o → 17 < length rest → o ≡ None
  none_or rest None is long = refl
  none_or rest (Some event) is long = absurd (omega (
    arith,
    parts_len (line_parts event) rest (read rest event is),
    event_len event,
    long,
  ))

  pub says_nothing : (text : List ℕ) → 17 < length text → event_in text ≡ None
  says_nothing text long = none_or text (event_in text) refl long
