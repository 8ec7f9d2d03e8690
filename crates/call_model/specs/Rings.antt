-- How much a network has to keep: of what may still be delivered.
use Rattle.std.specs.Prelude.{◌≡◌, ℕ, ◌+◌, ◌<◌, List, ◌∷◌, length}
use Rattle.call_model.specs.Coding.{Rules, period, Coding}
use Rattle.call_model.specs.IdealCall.{Event, Deliver, Back}
use Rattle.call_model.specs.Receiving.{ReceiverRun}
use Rattle.call_model.specs.JoinedRun.{joined, AllMayHappenBoth}
use Rattle.call_model.specs.Lawful.{IsPace}

module _ {Frame Style Mb Picture Fault MessageFault : Type 0}
    (coding : Coding Frame Style Mb Picture Fault MessageFault) (rules : Rules) where
  -- a packet that is delivered is of one of the last pictures, as many as the period
  abbrev pub PacketsAreInRing : Type 0
  PacketsAreInRing = (receiver : ReceiverRun Style Mb Picture)
      (pace : List ℕ → ℕ) (frames : List Frame) (past : List Event) (n j : ℕ) →
      receiver.played ≡ 0 → AllMayHappenBoth coding rules receiver pace frames (Deliver n j ∷ past)
      → length (joined coding rules receiver pace frames past).sender.coded < n + period rules

  -- a message that is brought back is one of the last, as many as half a period and the lead, less
  -- one
  abbrev pub MessagesAreInRing : Type 0
  MessagesAreInRing = (receiver : ReceiverRun Style Mb Picture)
      (pace : List ℕ → ℕ) (frames : List Frame) (past : List Event) (k : ℕ) →
      receiver.played ≡ 0 → IsPace pace → AllMayHappenBoth coding rules receiver pace frames (Back k ∷ past)
      → length (joined coding rules receiver pace frames past).said < k + rules.lead + rules.half
