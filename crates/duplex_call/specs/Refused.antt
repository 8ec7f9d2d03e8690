-- Which events of a call of two parties are refused.
use Rattle.std.specs.Prelude.{◌≡◌, ◌↔◌, ℕ, Bool, true, ◌&&◌, not, is_some, List, [], ◌∷◌, length, slice_index_or, Option, Some, None}
use Rattle.call_model.specs.IdealCall.{Event, Send, Deliver, Play, Back}
use Rattle.call_model.specs.Refusals.{Refusal, NotSaid, refusal_in}
use Rattle.duplex_call.specs.declared.line.Party.{Party}
use Rattle.duplex_call.specs.Duplex.{other, Lettered, WayRun, WayRuns, way, WayCoding, call_of, ways_after, MayHappenOf}

-- the first refusal, if there is one
abbrev pub earlier_refusal : Option Refusal → Option Refusal → Option Refusal
earlier_refusal None second = second
earlier_refusal (Some refusal) second = Some refusal

module _ {Captured Frame Style Mb Picture Fault MessageFault : Type 0}
    (side : Party → WayCoding Captured Frame Style Mb Picture Fault MessageFault) where
  -- the refusal of an event by the counts of its own party, where so many pictures are there
  abbrev pub own_refusal : ℕ → Party → WayRun Frame → Event → Option Refusal
  own_refusal left x w e = refusal_in (side x).rules left (call_of side x w) e

  -- the first of these messages that is refused: it is about a picture too far behind the capture
  abbrev pub heard_refusal : Party → WayRun Frame → List ℕ → Option Refusal
  heard_refusal x w [] = None
  heard_refusal x w (k ∷ ks) = earlier_refusal (own_refusal 0 x w (Back k)) (heard_refusal x w ks)

  -- The first refusal of an event. A packet is asked for its own distance before its picture's
  -- messages are, in their order.
  abbrev pub refusal_of : ℕ → Party → Event → WayRuns Frame → Option Refusal
  refusal_of left x Send ways = own_refusal left x (way x ways) Send
  refusal_of left x (Deliver n j) ways =
      earlier_refusal (own_refusal left x (way x ways) (Deliver n j))
      (heard_refusal (other x) (way (other x) ways) (slice_index_or (way x ways).carried n []))
  refusal_of left x Play ways = own_refusal left x (way x ways) Play
  refusal_of left x (Back k) ways = Some NotSaid

  -- an event has no refusal exactly where it is in place and near
  abbrev pub NoneWhereItMayHappenOf : Type 0
  NoneWhereItMayHappenOf = (left : ℕ) (x : Party) (e : Event) (ways : WayRuns Frame) →
      (refusal_of left x e ways ≡ None) ↔ MayHappenOf side left x e ways

  -- none of these events was refused
  abbrev pub passed : (Party → List Captured) → List Lettered → Bool
  passed captures [] = true
  passed captures (e ∷ past) =
      not (is_some (refusal_of (length (captures e.party)) e.party e.event (ways_after side captures past)))
      && passed captures past
