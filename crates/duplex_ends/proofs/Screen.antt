-- The picture on the screen is the one that was played last.
use Rattle.std.proofs.Common.{◌≡◌, ℕ, List, [], ◌∷◌, Option, Some, None, refl}
use Rattle.std.specs.Prelude.{slice_get}
use Rattle.std.specs.Option.{option_map_or}
use Rattle.call_model.specs.Coding.{Coding, Rules, pictures_of}
use Rattle.call_model.specs.IdealCall.{Back, Deliver, Event, Play, Send, shown_last}
use Rattle.call_model.specs.JoinedRun.{Joined, after_bytes, joined, new_receiver}
use Rattle.call_model.specs.Sending.{packets_at}

module _ {Frame Style Mb Picture Fault MessageFault : Type 0}
    (coding : Coding Frame Style Mb Picture Fault MessageFault) (rules : Rules) (pace : List ℕ
    → ℕ) (frames : List Frame) where
  abbrev both : List Event → Joined Style Mb Picture
  both past = joined coding rules (new_receiver coding rules) pace frames past

  by_packet : (w : Joined Style Mb Picture) (n : ℕ) (o : Option (List ℕ))
      → w.receiver.screen ≡ shown_last (pictures_of coding) w.plays
      → (option_map_or (after_bytes coding rules w n) o w).receiver.screen
      ≡ shown_last (pictures_of coding) (option_map_or (after_bytes coding rules w n) o w).plays
  by_packet w n None is = is
  by_packet w n (Some bytes) is = is

  pub screen_is : (past : List Event) → (both past).receiver.screen ≡ shown_last (pictures_of coding) (both past).plays
  screen_is [] = refl
  screen_is (Send ∷ past) = screen_is past
  screen_is (Deliver n j ∷ past) =
      by_packet (both past) n (slice_get (packets_at coding.encoding rules (both past).sender.coded n) j)
      (screen_is past)
  screen_is (Play ∷ past) = refl
  screen_is (Back k ∷ past) = screen_is past
