-- A receiver whose window is at least its sender's follows it.
use Rattle.std.proofs.Common.{◌≡◌, ℕ, ◌+◌, ◌-◌, ◌≤◌, Bool, refl, sym, ap, ◌∙◌, subst, arith, Some, None, Ok, List, [], ◌∷◌, length}
use Rattle.call_model.specs.Coding.{Rules, window, Message, Ack, Nack, Header, Decoding, Coding}
use Rattle.call_model.specs.CodedPictures.{Coded}
use Rattle.call_model.specs.IdealCall.{Event, Send, Deliver, Play, Back, NumberedMessage, Got, Lost, Call, Source, encoded}
use Rattle.call_model.specs.Lawful.{IsPace, IsInPeriod, IsDecoding, IsCoding, IsRules}
use Rattle.call_model.specs.OwnWindow.{with_own_window, IsWideEnough, SmallerLead, GreaterDifference, AllSoundToSender, SoundToSenderIsSound, AnySenderIsFollowed, SteeredIsSoundToOwn, SteeredIsFollowedByOwn, EncoderIsFollowedByOwn, own_call}
use Rattle.call_model.specs.Sending.{nearest_below, nearest, called_complete, made_known, header_of, packets_at, message_flags}
use Rattle.call_model.specs.Sound.{Packets, IsSoundPicture, IsPacketOfSlice, IsSoundEvent, IsUnderstood}
use Rattle.call_model.specs.Steering.{AreQuants, steered}
use Rattle.call_model.specs.TwoStores.{travelling}
use Rattle.call_model.proofs.AnySender.{any_sound_sender}
use Rattle.call_model.proofs.Capturing as capturing
use Rattle.call_model.proofs.Steered as steering

-- a window that is at least another, which has one picture, has one picture
some_window : (s l t m : ℕ) → l + 2 ≤ s → s - l - 1 ≤ t - m - 1 → m + 2 ≤ t
some_window s l t m room wide = omega (arith, room, wide)

less_lead : (s l m : ℕ) → m ≤ l → s - l - 1 ≤ s - m - 1
less_lead s l m less = omega (arith, less)

greater_difference : (s l t m : ℕ) → s + m ≤ t + l → s - l - 1 ≤ t - m - 1
greater_difference s l t m greater = omega (arith, greater)

-- what is in a window is in a wider one
in_wider : (n m v w : ℕ) → v ≤ w → n ≤ m + v → n ≤ m + w
in_wider n m v w wide near = omega (arith, wide, near)

pub smaller_lead : (rules : Rules) → IsRules rules → SmallerLead rules
smaller_lead rules ruled lead less = record {
  slots_small = ruled.slots_small;
  window = less_lead rules.slots rules.lead lead less;
}

pub wide_by_difference : (rules : Rules) → GreaterDifference rules
wide_by_difference rules slots lead small greater = record {
  slots_small = small;
  window = greater_difference rules.slots rules.lead slots lead greater;
}

module _ (rules : Rules) (slots lead : ℕ) where
  abbrev own : Rules
  own = with_own_window rules slots lead

  own_rules : IsRules rules → IsWideEnough rules slots lead → IsRules own
  own_rules ruled wide = record {
    some_mbs = ruled.some_mbs;
    lead_small = some_window rules.slots rules.lead slots lead ruled.lead_small wide.window;
    slots_small = wide.slots_small;
  }

  -- temporal references and flags are the same by the numbers of both
  header_same : {Style Mb Picture : Type 0} (n : ℕ) (x : Coded Style Mb Picture)
      → header_of rules n x ≡ header_of own n x
  unfolding header_of
  header_same n x = refl

  travelling_same : (note : NumberedMessage) → travelling own note ≡ travelling rules note
  travelling_same (Got n flags) = refl
  travelling_same (Lost n None flags) = refl
  travelling_same (Lost n (Some q) flags) = refl

  in_period_same : (message : Message) → IsInPeriod own message → IsInPeriod rules message
  in_period_same (Ack number flags) fits = fits
  in_period_same (Nack number offered flags) fits = fits

  known_same : (sent : ℕ) (message : Message) → made_known rules sent message ≡ made_known own sent message
  unfolding made_known called_complete nearest nearest_below
  known_same sent (Ack number flags) = refl
  known_same sent (Nack number offered flags) = refl

  module _ {Style Mb Picture Fault : Type 0} (decoding : Decoding Style Mb Picture Fault) where
    own_decoding : IsDecoding decoding rules → IsDecoding decoding own
    own_decoding lawful = record {
      pictures = record { picture_same = lawful.pictures.picture_same; sample_is = lawful.pictures.sample_is };
      read_inside = lawful.read_inside;
      same_style_is = lawful.same_style_is;
    }

    own_picture : IsWideEnough rules slots lead → (c : Call Style Mb Picture) (x : Coded Style Mb Picture)
        → IsSoundPicture decoding.pictures rules c x → IsSoundPicture decoding.pictures own c x
    own_picture wide c x sound = record {
      covers = sound.covers;
      picture = sound.picture;
      reference = λ m e.
          let h = sound.reference m e in
          (in_wider (length c.coded) m (window rules) (window own) wide.window h.0, h.1);
    }

    own_packet : (packets : List (List ℕ)) (n j : ℕ) (x : Coded Style Mb Picture)
        → IsPacketOfSlice decoding rules packets n j x → IsPacketOfSlice decoding own packets n j x
    own_packet packets n j x is = record {
      read_as = λ slice at_j.
          let got = is.read_as slice at_j in (
            got.0,
            got.1,
            got.2 ∙ ap (λ (h : Header Style). Ok (record { header = h; slice = slice }))
                (header_same n x),
          );
      no_other = is.no_other;
    }

    understood : (c : Call Style Mb Picture) (note : NumberedMessage) → IsUnderstood decoding own c note
        → IsUnderstood decoding rules c note
    understood c note is = record {
      in_period = subst (IsInPeriod rules) (travelling_same note) (in_period_same (travelling own note) is.in_period);
      flags = ap (λ (message : Message). length (message_flags message)) (sym (travelling_same note)) ∙ is.flags;
      known = λ near. ap (made_known rules (length c.coded)) (sym (travelling_same note))
          ∙ known_same (length c.coded) (travelling own note) ∙ is.known near;
    }

    module _ (wide : IsWideEnough rules slots lead) where
      own_event : (source : Source Style Mb Picture) (packets : Packets Style Mb Picture) (c : Call Style Mb Picture)
          (e : Event) → IsSoundEvent decoding rules source packets c e → IsSoundEvent decoding own source packets c e
      own_event source packets c Send sound = λ x is. own_picture wide c x (sound x is)
      own_event source packets c (Deliver n j) sound = λ x at_n. own_packet (packets c.coded n) n j x (sound x at_n)
      own_event source packets c Play sound = tt
      own_event source packets c (Back k) sound = tt

      pub own_sound : (source : Source Style Mb Picture) (packets : Packets Style Mb Picture)
          → SoundToSenderIsSound decoding rules slots lead source packets
      own_sound source packets [] sound = tt
      own_sound source packets (e ∷ past) sound = (
        own_event source packets _ e sound.0,
        own_sound source packets past sound.1,
      )

      pub any_is_followed : IsDecoding decoding rules → IsRules rules → AnySenderIsFollowed decoding rules slots lead
      any_is_followed lawful ruled source packets count past near sound =
          let follows = any_sound_sender decoding own (own_decoding lawful) (own_rules ruled wide) source packets count
          past near (own_sound source packets past sound) in
          record {
            follows = follows;
            understood = λ k note there. understood (own_call decoding rules slots lead source packets past) note
                (follows.messages k note there);
          }

module _ {Frame Style Mb Picture Fault MessageFault : Type 0}
    (coding : Coding Frame Style Mb Picture Fault MessageFault) (rules : Rules) (slots lead : ℕ)
    (lawful : IsCoding coding rules) (ruled : IsRules rules) (wide : IsWideEnough rules slots lead) where
  -- both encoders are sound by their own numbers
  steered_sound : (quant : Call Style Mb Picture → ℕ) (may : Call Style Mb Picture → ℕ
      → Bool) (frames : List Frame) (past : List Event) → AreQuants quant
      → AllSoundToSender coding.decoding rules slots lead (steered coding rules quant may frames)
      (packets_at coding.encoding rules) past
  steered_sound quant may frames [] range = tt
  steered_sound quant may frames (e ∷ past) range = (
    steering.sound_event coding rules lawful ruled (with_own_window rules slots lead) quant may frames range past e,
    steered_sound quant may frames past range,
  )

  encoder_sound : (pace : List ℕ → ℕ) (frames : List Frame) (past : List Event) → IsPace pace
      → AllSoundToSender coding.decoding rules slots lead (encoded coding rules pace frames)
      (packets_at coding.encoding rules) past
  encoder_sound pace frames [] range = tt
  encoder_sound pace frames (e ∷ past) range = (
    capturing.sound_event coding rules lawful ruled (with_own_window rules slots lead) pace frames range past e,
    encoder_sound pace frames past range,
  )

  pub steered_is_sound_to_own : SteeredIsSoundToOwn coding rules slots lead
  steered_is_sound_to_own quant may frames past range =
      own_sound rules slots lead coding.decoding wide (steered coding rules quant may frames)
      (packets_at coding.encoding rules) past (steered_sound quant may frames past range)

  pub steered_is_followed_by_own : SteeredIsFollowedByOwn coding rules slots lead
  steered_is_followed_by_own quant may frames past range near =
      any_is_followed rules slots lead coding.decoding wide lawful.decodes ruled (steered coding rules quant may frames)
      (packets_at coding.encoding rules) (length frames) past near
      (steered_sound quant may frames past range)

  pub encoder_is_followed_by_own : EncoderIsFollowedByOwn coding rules slots lead
  encoder_is_followed_by_own pace frames past range near =
      any_is_followed rules slots lead coding.decoding wide lawful.decodes ruled (encoded coding rules pace frames)
      (packets_at coding.encoding rules) (length frames) past near
      (encoder_sound pace frames past range)
