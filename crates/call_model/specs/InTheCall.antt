-- What both ends do in a near call, event by event.
use Rattle.std.specs.Prelude.{◌≡◌, ◌↔◌, ℕ, List, length, slice_get, Some}
use Rattle.call_model.specs.Coding.{Rules, Coding}
use Rattle.call_model.specs.IdealCall.{Event, Deliver, MayHappen, ideal, AllMayHappen}
use Rattle.call_model.specs.Sending.{packets_at}
use Rattle.call_model.specs.Receiving.{heard}
use Rattle.call_model.specs.JoinedRun.{MayHappenBoth, AllMayHappenBoth, joined, new_receiver}
use Rattle.call_model.specs.Sound.{delivery_answer}
use Rattle.call_model.specs.Lawful.{IsPace}

module _ {Frame Style Mb Picture Fault MessageFault : Type 0}
    (coding : Coding Frame Style Mb Picture Fault MessageFault) (rules : Rules) where
  -- the sender's packets are answered as the ideal call says
  abbrev pub PacketsAreAnswered : Type 0
  PacketsAreAnswered = (pace : List ℕ → ℕ) (frames : List Frame) (past : List Event) (n j : ℕ) (bytes : List ℕ) →
      let c = ideal coding rules pace frames past in
      let both = joined coding rules (new_receiver coding rules) pace frames past in
      IsPace pace → AllMayHappen coding rules pace frames past → MayHappen rules (length frames) c (Deliver n j)
      → slice_get (packets_at coding.encoding rules both.sender.coded n) j ≡ Some bytes
      → heard coding.decoding rules both.receiver (coding.decoding.read bytes) ≡ delivery_answer rules c n j

  -- an event is near by the ideal call where it is near by what both ends have done
  abbrev pub MayHappenInBoth : Type 0
  MayHappenInBoth = (pace : List ℕ → ℕ) (frames : List Frame) (past : List Event) (e : Event) →
      IsPace pace → AllMayHappen coding rules pace frames past
      → MayHappen rules (length frames) (ideal coding rules pace frames past) e
      ↔ MayHappenBoth coding rules frames (joined coding rules (new_receiver coding rules) pace frames past) e

  -- so for all events
  abbrev pub AllNearIsAllNearBoth : Type 0
  AllNearIsAllNearBoth = (pace : List ℕ → ℕ) (frames : List Frame) (past : List Event) →
      IsPace pace → AllMayHappen coding rules pace frames past
      ↔ AllMayHappenBoth coding rules (new_receiver coding rules) pace frames past
