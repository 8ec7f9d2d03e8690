-- What the run of both ends says of single events.
use Rattle.std.proofs.Common.{◌≡◌, ℕ, List, [], ◌∷◌, ◌++◌, length, Option, Some, ap}
use Rattle.std.specs.Prelude.{slice_get}
use Rattle.std.specs.Option.{option_map_or}
use Rattle.call_model.specs.Coding.{Rules, Coding, pictures_of}
use Rattle.call_model.specs.CodedPictures.{Coded}
use Rattle.call_model.specs.IdealCall.{Event, Send, Deliver}
use Rattle.call_model.specs.Sending.{SenderEntry, Capture, next_coded, packets_at, after_capture}
use Rattle.call_model.specs.Receiving.{ReceiverRun, ReceiverEntry, Packet}
use Rattle.call_model.specs.JoinedRun.{Joined, joined, sender_entries, receiver_entries}

module _ {Frame Style Mb Picture Fault MessageFault : Type 0}
    (coding : Coding Frame Style Mb Picture Fault MessageFault) (rules : Rules) (pace : List ℕ
    → ℕ) (frames : List Frame) where
  -- the next picture, of this frame
  abbrev pub next : Joined Style Mb Picture → Frame → Coded Style Mb Picture
  next w f = next_coded (pictures_of coding) coding.encoding rules pace f w.sender.coded w.sender.known

  module _ (begun : ReceiverRun Style Mb Picture) (past : List Event) where
    abbrev both : List Event → Joined Style Mb Picture
    both events = joined coding rules begun pace frames events

    pub entries_sent : (f : Frame) → slice_get frames (length (both past).sender.coded) ≡ Some f
        → sender_entries coding rules begun pace frames (Send ∷ past)
        ≡ Capture f ∷ sender_entries coding rules begun pace frames past
    entries_sent f at =
        ap (λ (o : Option Frame). let first : List (SenderEntry Frame) =
        option_map_or (λ frame. Capture frame ∷ []) o [] in
        first ++ sender_entries coding rules begun pace frames past) at

    pub coded_sent : (f : Frame) → slice_get frames (length (both past).sender.coded) ≡ Some f
        → (both (Send ∷ past)).sender.coded ≡ (both past).sender.coded ++ next (both past) f ∷ []
    coded_sent f at =
        ap (λ (o : Option Frame).
        (option_map_or (λ frame. after_capture (pictures_of coding) coding.encoding rules pace frame
        (both past).sender) o (both past).sender).coded) at

    pub entries_delivered : (n j : ℕ) (bytes : List ℕ)
        → slice_get (packets_at coding.encoding rules (both past).sender.coded n) j ≡ Some bytes
        → receiver_entries coding rules begun pace frames (Deliver n j ∷ past)
        ≡ Packet bytes ∷ receiver_entries coding rules begun pace frames past
    entries_delivered n j bytes at =
        ap (λ (o : Option (List ℕ)). let first : List ReceiverEntry = option_map_or (λ bytes. Packet bytes ∷ []) o [] in
        first ++ receiver_entries coding rules begun pace frames past) at
