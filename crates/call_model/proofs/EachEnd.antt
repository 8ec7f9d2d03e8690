-- In the run of both ends each end does what its own run does.
use Rattle.std.proofs.Common.{◌≡◌, ℕ, refl, ap, ◌∙◌, Option, Some, None, List, [], ◌∷◌, ◌++◌, length}
use Rattle.std.specs.Prelude.{slice_get}
use Rattle.std.specs.Option.{option_map_or}
use Rattle.call_model.specs.Coding.{Rules, Coding, pictures_of}
use Rattle.call_model.specs.IdealCall.{Event, Send, Deliver, Play, Back}
use Rattle.call_model.specs.Sending.{SenderRun, SenderEntry, Capture, Feedback, after_capture, after_feedback, packets_at, sender_run}
use Rattle.call_model.specs.Receiving.{ReceiverRun, ReceiverEntry, Packet, after_packet, after_play, receiver_run}
use Rattle.call_model.specs.JoinedRun.{SaidMessage, Joined, after_bytes, joined, sender_entries, receiver_entries, EachEndRuns}

module _ {Frame Style Mb Picture Fault MessageFault : Type 0}
    (coding : Coding Frame Style Mb Picture Fault MessageFault) (rules : Rules) where
  abbrev SenderIs : ReceiverRun Style Mb Picture → (List ℕ → ℕ) → List Frame → List Event → Type 0
  SenderIs receiver pace frames past = (joined coding rules receiver pace frames past).sender
      ≡ sender_run (pictures_of coding) coding.encoding rules pace
      (sender_entries coding rules receiver pace frames past)

  sender_send : (receiver : ReceiverRun Style Mb Picture) (pace : List ℕ → ℕ) (frames : List Frame) (past : List Event)
      → SenderIs receiver pace frames past → SenderIs receiver pace frames (Send ∷ past)
  sender_send receiver pace frames past is =
      go (slice_get frames (length (joined coding rules receiver pace frames past).sender.coded))
    where
      go : (o : Option Frame) → option_map_or (λ frame. after_capture (pictures_of coding) coding.encoding rules pace
          frame (joined coding rules receiver pace frames past).sender) o
          (joined coding rules receiver pace frames past).sender
          ≡ sender_run (pictures_of coding) coding.encoding rules pace (option_map_or (λ frame. Capture frame ∷ []) o []
          ++ sender_entries coding rules receiver pace frames past)
      go None = is
      go (Some frame) = ap (λ (run : SenderRun Style Mb Picture). after_capture (pictures_of coding) coding.encoding
          rules pace frame run) is

  sender_back : (receiver : ReceiverRun Style Mb Picture) (pace : List ℕ → ℕ) (frames : List Frame) (past : List Event)
      (k : ℕ) → SenderIs receiver pace frames past → SenderIs receiver pace frames (Back k ∷ past)
  sender_back receiver pace frames past k is = go (slice_get (joined coding rules receiver pace frames past).said k)
    where
      go : (o : Option SaidMessage)
          → option_map_or (λ told. after_feedback coding.encoding rules told.bytes
          (joined coding rules receiver pace frames past).sender) o
          (joined coding rules receiver pace frames past).sender
          ≡ sender_run (pictures_of coding) coding.encoding rules pace
          (option_map_or (λ told. let entry : SenderEntry Frame = Feedback told.bytes in entry ∷ []) o []
          ++ sender_entries coding rules receiver pace frames past)
      go None = is
      go (Some told) = ap (λ (run : SenderRun Style Mb Picture). after_feedback coding.encoding rules told.bytes run) is

  after_bytes_keeps : (w : Joined Style Mb Picture) (n : ℕ) (o : Option (List ℕ))
      → (option_map_or (after_bytes coding rules w n) o w).sender ≡ w.sender
  after_bytes_keeps w n None = refl
  after_bytes_keeps w n (Some bytes) = refl

  sender_is : (receiver : ReceiverRun Style Mb Picture) (pace : List ℕ → ℕ) (frames : List Frame) (past : List Event)
      → SenderIs receiver pace frames past
  sender_is receiver pace frames [] = refl
  sender_is receiver pace frames (Send ∷ past) = sender_send receiver pace frames past
      (sender_is receiver pace frames past)
  sender_is receiver pace frames (Deliver n j ∷ past) =
      after_bytes_keeps (joined coding rules receiver pace frames past) n
      (slice_get (packets_at coding.encoding rules (joined coding rules receiver pace frames past).sender.coded n)
      j) ∙ sender_is receiver pace frames past
  sender_is receiver pace frames (Play ∷ past) = sender_is receiver pace frames past
  sender_is receiver pace frames (Back k ∷ past) = sender_back receiver pace frames past k
      (sender_is receiver pace frames past)

  receiver_is : (entries : List ReceiverEntry) (pace : List ℕ → ℕ) (frames : List Frame) (past : List Event)
      → (joined coding rules (receiver_run coding.decoding rules entries) pace frames past).receiver
      ≡ receiver_run coding.decoding rules (receiver_entries coding rules (receiver_run coding.decoding rules entries)
      pace frames past ++ entries)
  receiver_is entries pace frames [] = refl
  receiver_is entries pace frames (Send ∷ past) = receiver_is entries pace frames past
  receiver_is entries pace frames (Deliver n j ∷ past) =
      go (slice_get (packets_at coding.encoding rules (joined coding rules (receiver_run coding.decoding rules entries)
      pace frames past).sender.coded n) j) (receiver_is entries pace frames past)
    where
      go : (o : Option (List ℕ))
          → (joined coding rules (receiver_run coding.decoding rules entries) pace frames past).receiver
          ≡ receiver_run coding.decoding rules
          (receiver_entries coding rules (receiver_run coding.decoding rules entries) pace frames past ++ entries)
          → (option_map_or (after_bytes coding rules (joined coding rules (receiver_run coding.decoding rules entries)
          pace frames past) n) o (joined coding rules (receiver_run coding.decoding rules entries) pace frames
          past)).receiver ≡ receiver_run coding.decoding rules ((option_map_or (λ bytes. Packet bytes ∷ []) o []
          ++ receiver_entries coding rules (receiver_run coding.decoding rules entries) pace frames past) ++ entries)
      go None is = is
      go (Some bytes) is = ap (after_packet coding.decoding rules bytes) is
  receiver_is entries pace frames (Play ∷ past) = ap (after_play coding.decoding rules)
      (receiver_is entries pace frames past)
  receiver_is entries pace frames (Back k ∷ past) = receiver_is entries pace frames past

  pub each_end_runs : EachEndRuns coding rules
  each_end_runs entries pace frames past = (
    sender_is (receiver_run coding.decoding rules entries) pace frames past,
    receiver_is entries pace frames past,
  )
