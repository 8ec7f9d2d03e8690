-- A receiver with slots and a lead of its own, which may differ from its sender's. All that it needs
-- is a window that is at least the sender's: then it takes each reference that the sender chooses.
use Rattle.std.specs.Prelude.{◌≡◌, ℕ, ◌+◌, ◌≤◌, ⊤, Bool, List, [], ◌∷◌, length, slice_get, Some}
use Rattle.call_model.specs.Coding.{Rules, window, Decoding, Coding, pictures_of}
use Rattle.call_model.specs.IdealCall.{Event, NumberedMessage, Call, Source, AllMayHappenFrom, call_from, encoded}
use Rattle.call_model.specs.Lawful.{IsPace}
use Rattle.call_model.specs.Sending.{packets_at}
use Rattle.call_model.specs.Sound.{Packets, IsSoundEvent, AllSound, IsUnderstood, FollowsTheCall}
use Rattle.call_model.specs.Steering.{AreQuants, steered}

-- the numbers of the receiver: those of its sender, but for the slots and the lead
abbrev pub with_own_window : Rules → ℕ → ℕ → Rules
with_own_window rules slots lead = record rules { slots = slots; lead = lead }

-- the receiver's slots fit half a period, and its window is at least the sender's
pub record IsWideEnough (rules : Rules) (slots lead : ℕ) : Type 0 where
  pub slots_small : slots ≤ rules.half
  pub window : window rules ≤ window (with_own_window rules slots lead)

-- a smaller lead alone is enough,
abbrev pub SmallerLead : Rules → Type 0
SmallerLead rules = (lead : ℕ) → lead ≤ rules.lead → IsWideEnough rules rules.slots lead

-- and so are any slots and lead whose difference is at least the sender's
abbrev pub GreaterDifference : Rules → Type 0
GreaterDifference rules = (slots lead : ℕ) → slots ≤ rules.half → rules.slots + lead ≤ slots + rules.lead
    → IsWideEnough rules slots lead

module _ {Style Mb Picture Fault : Type 0} (decoding : Decoding Style Mb Picture Fault)
    (rules : Rules) (slots lead : ℕ) where
  module _ (source : Source Style Mb Picture) (packets : Packets Style Mb Picture) where
    -- the call that such a receiver is in
    abbrev pub own_call : List Event → Call Style Mb Picture
    own_call past = call_from decoding.pictures (with_own_window rules slots lead) source past

    -- each of its events is sound by the numbers of the sender
    abbrev pub AllSoundToSender : List Event → Type 0
    AllSoundToSender [] = ⊤
    AllSoundToSender (e ∷ past) =
        IsSoundEvent decoding rules source packets (own_call past) e × AllSoundToSender past

    -- the receiver follows that call, and the sender, by the sender's numbers, understands its
    -- messages
    pub record FollowsOwnCall (count : ℕ) (past : List Event) : Type 0 where
      pub follows : FollowsTheCall decoding (with_own_window rules slots lead) source packets count past
      pub understood : (k : ℕ) (note : NumberedMessage) → slice_get (own_call past).said k ≡ Some note
          → IsUnderstood decoding rules (own_call past) note

    -- what is sound by the sender's numbers is sound by the receiver's
    abbrev pub SoundToSenderIsSound : Type 0
    SoundToSenderIsSound = (past : List Event) → AllSoundToSender past
        → AllSound decoding (with_own_window rules slots lead) source packets past

  -- so the receiver follows any sender whose pictures are sound by the sender's numbers
  abbrev pub AnySenderIsFollowed : Type 0
  AnySenderIsFollowed = (source : Source Style Mb Picture)
      (packets : Packets Style Mb Picture) (count : ℕ) (past : List Event) →
      AllMayHappenFrom decoding.pictures (with_own_window rules slots lead) source count past
      → AllSoundToSender source packets past → FollowsOwnCall source packets count past

module _ {Frame Style Mb Picture Fault MessageFault : Type 0}
    (coding : Coding Frame Style Mb Picture Fault MessageFault) (rules : Rules) (slots lead : ℕ) where
  -- the pictures of a steered sender, chosen by the sender's numbers, are sound by the receiver's,
  abbrev pub SteeredIsSoundToOwn : Type 0
  SteeredIsSoundToOwn = (quant : Call Style Mb Picture → ℕ) (may : Call Style Mb Picture → ℕ → Bool)
      (frames : List Frame) (past : List Event) → AreQuants quant
      → AllSound coding.decoding (with_own_window rules slots lead)
      (steered coding rules quant may frames) (packets_at coding.encoding rules) past

  -- and in a near call the receiver follows them
  abbrev pub SteeredIsFollowedByOwn : Type 0
  SteeredIsFollowedByOwn = (quant : Call Style Mb Picture → ℕ) (may : Call Style Mb Picture → ℕ → Bool)
      (frames : List Frame) (past : List Event) → AreQuants quant
      → AllMayHappenFrom (pictures_of coding) (with_own_window rules slots lead)
      (steered coding rules quant may frames) (length frames) past
      → FollowsOwnCall coding.decoding rules slots lead
      (steered coding rules quant may frames) (packets_at coding.encoding rules) (length frames) past

  -- as it follows those of an encoder that is not steered
  abbrev pub EncoderIsFollowedByOwn : Type 0
  EncoderIsFollowedByOwn = (pace : List ℕ → ℕ) (frames : List Frame) (past : List Event) → IsPace pace
      → AllMayHappenFrom (pictures_of coding) (with_own_window rules slots lead)
      (encoded coding rules pace frames) (length frames) past
      → FollowsOwnCall coding.decoding rules slots lead
      (encoded coding rules pace frames) (packets_at coding.encoding rules) (length frames) past
