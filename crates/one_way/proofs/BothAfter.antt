-- What single events leave of both ends.
use Rattle.std.proofs.Common.{◌≡◌, ℕ, zero, suc, ◌+◌, ◌<◌, ◌≤◌, List, [], ◌∷◌, ◌++◌, length, Option, Some, None, refl, ap, ◌∙◌, arith}
use Rattle.std.specs.Prelude.{slice_get}
use Rattle.std.specs.Option.{option_map_or}
use Rattle.call_model.specs.Coding.{Rules, Coding, pictures_of}
use Rattle.call_model.specs.CodedPictures.{Coded}
use Rattle.call_model.specs.IdealCall.{Event, Send, Deliver, Play, Back}
use Rattle.call_model.specs.Sending.{SenderRun, next_coded, packets_at}
use Rattle.call_model.specs.Receiving.{ReceiverRun}
use Rattle.call_model.specs.JoinedRun.{AllMayHappenBoth, Joined, SaidMessage, after_bytes, joined, sender_with_frame, sender_with_message}
use Rattle.one_way.specs.Trace.{delivered}

module _ {Frame Style Mb Picture Fault MessageFault : Type 0}
    (coding : Coding Frame Style Mb Picture Fault MessageFault) (rules : Rules) (begun : ReceiverRun Style Mb Picture)
    (pace : List ℕ → ℕ) (frames : List Frame) where
  abbrev both : List Event → Joined Style Mb Picture
  both events = joined coding rules begun pace frames events

  -- ---- a packet

  pub sender_after : (w : Joined Style Mb Picture) (n : ℕ) (o : Option (List ℕ))
      → (option_map_or (after_bytes coding rules w n) o w).sender ≡ w.sender
  sender_after w n None = refl
  sender_after w n (Some bytes) = refl

  pub plays_after : (w : Joined Style Mb Picture) (n : ℕ) (o : Option (List ℕ))
      → (option_map_or (after_bytes coding rules w n) o w).plays ≡ w.plays
  plays_after w n None = refl
  plays_after w n (Some bytes) = refl

  pub played_after : (w : Joined Style Mb Picture) (n : ℕ) (o : Option (List ℕ))
      → (option_map_or (after_bytes coding rules w n) o w).receiver.played ≡ w.receiver.played
  played_after w n None = refl
  played_after w n (Some bytes) = refl

  -- the packets below a place leave the sender and the plays as they are
  pub sender_delivered : (n count : ℕ) (past : List Event) → (both (delivered n count ++ past)).sender
      ≡ (both past).sender
  sender_delivered n zero past = refl
  sender_delivered n (suc j) past =
      let w = both (delivered n j ++ past) in
      sender_after w n (slice_get (packets_at coding.encoding rules w.sender.coded n) j) ∙ sender_delivered n j past

  pub plays_delivered : (n count : ℕ) (past : List Event) → (both (delivered n count ++ past)).plays ≡ (both past).plays
  plays_delivered n zero past = refl
  plays_delivered n (suc j) past =
      let w = both (delivered n j ++ past) in
      plays_after w n (slice_get (packets_at coding.encoding rules w.sender.coded n) j) ∙ plays_delivered n j past

  pub played_delivered : (n count : ℕ) (past : List Event) → (both (delivered n count ++ past)).receiver.played
      ≡ (both past).receiver.played
  played_delivered n zero past = refl
  played_delivered n (suc j) past =
      let w = both (delivered n j ++ past) in
      played_after w n (slice_get (packets_at coding.encoding rules w.sender.coded n) j) ∙ played_delivered n j past

  -- and they are near where the first of them is
  pub near_delivered : (n count : ℕ) (past : List Event) → n < length (both past).sender.coded
      → (both past).receiver.played < n + rules.half
      → AllMayHappenBoth coding rules begun pace frames past
      → AllMayHappenBoth coding rules begun pace frames (delivered n count ++ past)
  near_delivered n zero past sent played near = near
  near_delivered n (suc j) past sent played near =
      let same : length (both (delivered n j ++ past)).sender.coded ≡ length (both past).sender.coded =
      ap (λ (run : SenderRun Style Mb Picture). length run.coded) (sender_delivered n j past)
      in (
        (omega (arith, sent, same), omega (arith, played, played_delivered n j past)),
        near_delivered n j past sent played near,
      )

  -- a message leaves the pictures as they are
  pub coded_brought : (w : Joined Style Mb Picture) (o : Option SaidMessage)
      → (sender_with_message coding rules w.sender o).coded ≡ w.sender.coded
  coded_brought w None = refl
  coded_brought w (Some told) = refl

  -- ---- the counts of a near call

  one_longer : {X : Type 0} (xs : List X) (x : X) → length (xs ++ x ∷ []) ≡ length xs + 1
  one_longer [] x = refl
  one_longer (y ∷ xs) x = omega (arith, one_longer xs x)

  -- a capture makes one picture more, if there is a frame
  sent_counts : (w : Joined Style Mb Picture) (o : Option Frame)
      → (length w.sender.coded ≤ length (sender_with_frame coding rules pace w.sender o).coded)
      × (length (sender_with_frame coding rules pace w.sender o).coded ≤ length w.sender.coded + 1)
  sent_counts w None = (omega arith, omega arith)
  sent_counts w (Some frame) =
      let longer = one_longer w.sender.coded (next_coded (pictures_of coding) coding.encoding rules pace frame
      w.sender.coded w.sender.known) in
      (omega (arith, longer), omega (arith, longer))

  -- the sender is ahead of the play, by half a period at most
  pub counts_near : begun.played ≡ 0 → (past : List Event) → AllMayHappenBoth coding rules begun pace frames past
      → ((both past).receiver.played ≤ length (both past).sender.coded)
      × (length (both past).sender.coded ≤ (both past).receiver.played + rules.half)
  counts_near none [] near = (omega (arith, none), omega (arith, none))
  counts_near none (Send ∷ past) near =
      let before = counts_near none past near.1 in
      let more = sent_counts (both past) (slice_get frames (length (both past).sender.coded)) in
      (omega (arith, before.0, more.0), omega (arith, near.0.1, more.1))
  counts_near none (Deliver n j ∷ past) near =
      let before = counts_near none past near.1 in
      let w = both past in
      let o = slice_get (packets_at coding.encoding rules w.sender.coded n) j in
      let coded = ap (λ (run : SenderRun Style Mb Picture). length run.coded) (sender_after w n o) in
      let played = played_after w n o in
      (omega (arith, before.0, coded, played), omega (arith, before.1, coded, played))
  counts_near none (Play ∷ past) near =
      let before = counts_near none past near.1 in
      (omega (arith, near.0), omega (arith, before.1))
  counts_near none (Back k ∷ past) near =
      let before = counts_near none past near.1 in
      let coded = ap (λ (l : List (Coded Style Mb Picture)). length l)
      (coded_brought (both past) (slice_get (both past).said k)) in
      (omega (arith, before.0, coded), omega (arith, before.1, coded))
