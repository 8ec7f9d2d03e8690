-- Frames after those that were sent change nothing: neither the ideal call nor the run of both ends,
-- nor what is near.
use Rattle.std.specs.Prelude.{◌≡◌, ℕ, List, ◌++◌}
use Rattle.call_model.specs.Coding.{Rules, Coding}
use Rattle.call_model.specs.IdealCall.{Event, AllMayHappen, ideal}
use Rattle.call_model.specs.Receiving.{ReceiverRun}
use Rattle.call_model.specs.JoinedRun.{AllMayHappenBoth, joined}

module _ {Frame Style Mb Picture Fault MessageFault : Type 0}
    (coding : Coding Frame Style Mb Picture Fault MessageFault) (rules : Rules) where
  -- of the ideal call
  abbrev pub LaterFrames : Type 0
  LaterFrames = (pace : List ℕ → ℕ) (frames later : List Frame) (past : List Event) →
      AllMayHappen coding rules pace frames past
      → (ideal coding rules pace (frames ++ later) past ≡ ideal coding rules pace frames past)
      × AllMayHappen coding rules pace (frames ++ later) past

  -- of the run of both ends, with any receiver
  abbrev pub LaterFramesBoth : Type 0
  LaterFramesBoth =
      (receiver : ReceiverRun Style Mb Picture)
      (pace : List ℕ → ℕ) (frames later : List Frame) (past : List Event) →
      AllMayHappenBoth coding rules receiver pace frames past
      → (joined coding rules receiver pace (frames ++ later) past ≡ joined coding rules receiver pace frames past)
      × AllMayHappenBoth coding rules receiver pace (frames ++ later) past
