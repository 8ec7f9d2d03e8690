-- A trace as the events of a call.
use Rattle.std.specs.Prelude.{◌≡◌, ℕ, ◌<◌, List, [], ◌∷◌, map, length, Some}
use Rattle.std.specs.List.{range_with_len}
use Rattle.loss_trace.specs.declared.event.Event.{Event as Line}
use Rattle.loss_trace.specs.declared.event.Event.TheVariants as line
use Rattle.call_model.specs.Coding.{Pictures, Rules}
use Rattle.call_model.specs.CodedPictures.{Coded}
use Rattle.call_model.specs.IdealCall.{Call, Event, Source, Send, Deliver, Play, Back, call_from, slices_at}

-- these events onto the events before them, of which the newest is the first
abbrev pub events_onto : List Event → List Event → List Event
events_onto [] past = past
events_onto (e ∷ events) past = events_onto events (e ∷ past)

-- the events of a line after a call; a line that delivers all packets of a picture delivers them in their order
abbrev pub expanded_events : {Style Mb Picture : Type 0} → Call Style Mb Picture → Line → List Event
expanded_events c line.Nothing = []
expanded_events c line.Send = Send ∷ []
expanded_events c (line.Packet n i) = Deliver n i ∷ []
expanded_events c (line.All n) = map (Deliver n) (range_with_len 0 (length (slices_at c.coded n)))
expanded_events c (line.Back k) = Back k ∷ []
expanded_events c line.Play = Play ∷ []

module _ {Style Mb Picture : Type 0}
    (pictures : Pictures Style Mb Picture) (rules : Rules) (source : Source Style Mb Picture) where
  -- the events of these lines after others, the newest first
  unfoldable pub expanded : List Event → List Line → List Event
  expanded past [] = past
  expanded past (l ∷ lines) = expanded (events_onto (expanded_events (call_from pictures rules source past) l) past)
      lines

  -- after any events a picture with a slice can be sent, until there were this many
  abbrev pub SendsSlices : ℕ → Type 0
  SendsSlices frames = (past : List Event) → length (call_from pictures rules source past).coded < frames
      → (x : Coded Style Mb Picture) × (source (call_from pictures rules source past) ≡ Some x) × (0 < length x.slices)
