-- A steered encoder's pictures are sound, and a receiver follows it.
use Rattle.std.proofs.Common.{◌≡◌, ℕ, Bool, sym, ◌∙◌, subst, Option, Some, None, List, [], ◌∷◌, ◌++◌, length}
use Rattle.std.specs.Prelude.{filter, slice_get}
use Rattle.std.specs.Option.{option_map, option_map_or}
use Rattle.std.proofs.lemmas.Bool.{and_parts}
use Rattle.std.proofs.lemmas.List.{append-nil}
use Rattle.call_model.specs.Coding.{Rules, Coding, pictures_of}
use Rattle.call_model.specs.CodedPictures.{Coded, capture, reference_for, is_among, depth_at}
use Rattle.call_model.specs.IdealCall.{Event, Send, Deliver, Play, Back, Call, call_from}
use Rattle.call_model.specs.Sending.{packets_at}
use Rattle.call_model.specs.Sound.{IsSoundPicture, IsSoundEvent}
use Rattle.call_model.specs.Steering.{AreQuants, steered, SteeredIsSound, SteeredIsFollowed}
use Rattle.call_model.specs.Lawful.{IsCoding, IsRules}
use Rattle.call_model.proofs.Capturing.{AllEncoded, capture_encoded, capture_sound, is_packet, more_encoded}
use Rattle.call_model.proofs.Forgetting.{among_filtered}
use Rattle.call_model.proofs.AnySender.{any_sound_sender}

module _ {Frame Style Mb Picture Fault MessageFault : Type 0}
    (coding : Coding Frame Style Mb Picture Fault MessageFault) (rules : Rules) (lawful : IsCoding coding rules)
    (ruled : IsRules rules) where
  -- in the call of a receiver whatever its numbers
  module _ (own : Rules) (quant : Call Style Mb Picture → ℕ) (may : Call Style Mb Picture → ℕ
      → Bool) (frames : List Frame) (range : AreQuants quant) where
    -- the call so far, and its next picture, of this frame
    abbrev call : List Event → Call Style Mb Picture
    call past = call_from (pictures_of coding) own (steered coding rules quant may frames) past

    abbrev next : Call Style Mb Picture → Frame → Coded Style Mb Picture
    next c frame = capture (pictures_of coding) coding.encoding (quant c) frame c.coded
        (reference_for rules (depth_at c.coded) (is_among (filter (may c) c.known)) (length c.coded))

    all_encoded : (past : List Event) → AllEncoded (pictures_of coding) coding.encoding (call past).coded
    all_encoded [] = λ n x e. cc
    all_encoded (Send ∷ past) = go (slice_get frames (length (call past).coded)) (all_encoded past)
      where
        go : (o : Option Frame) → AllEncoded (pictures_of coding) coding.encoding (call past).coded
            → AllEncoded (pictures_of coding) coding.encoding ((call past).coded
            ++ option_map_or (λ (x : Coded Style Mb Picture). x ∷ []) (option_map (next (call past)) o) [])
        go None all = subst (λ (xs : List (Coded Style Mb Picture)). AllEncoded (pictures_of coding) coding.encoding xs)
            (sym (append-nil (call past).coded)) all
        go (Some frame) all = more_encoded (pictures_of coding) coding.encoding rules (call past).coded
            (next (call past) frame) all (capture_encoded (pictures_of coding) coding.encoding rules
            (quant (call past)) frame (call past).coded (filter (may (call past)) (call past).known)
            (range (call past)) all)
    all_encoded (Deliver n j ∷ past) = all_encoded past
    all_encoded (Play ∷ past) = all_encoded past
    all_encoded (Back k ∷ past) = all_encoded past

    -- what is sound by some of the known pictures is sound
    by_some : (c : Call Style Mb Picture) (x : Coded Style Mb Picture)
        → IsSoundPicture (pictures_of coding) rules (record c { known = filter (may c) c.known }) x
        → IsSoundPicture (pictures_of coding) rules c x
    by_some c x sound = record {
      covers = sound.covers;
      picture = sound.picture;
      reference = λ m e.
          let h = sound.reference m e in
          (h.0, (and_parts (may c m) (is_among c.known m) (sym (among_filtered (may c) c.known m) ∙ h.1)).1);
    }

    sound_next : (c : Call Style Mb Picture) (frame : Frame) → AllEncoded (pictures_of coding) coding.encoding c.coded
        → IsSoundPicture (pictures_of coding) rules c (next c frame)
    sound_next c frame all =
        by_some c (next c frame)
        (capture_sound (pictures_of coding) coding.encoding rules lawful.decodes.pictures lawful.encodes (quant c) frame
        (record c { known = filter (may c) c.known }) (range c) all)

    pub sound_event : (past : List Event) (e : Event)
        → IsSoundEvent coding.decoding rules (steered coding rules quant may frames) (packets_at coding.encoding rules)
        (call past) e
    sound_event past Send = λ x is. go x (slice_get frames (length (call past).coded)) is
      where
        go : (x : Coded Style Mb Picture) (o : Option Frame) → option_map (next (call past)) o ≡ Some x
            → IsSoundPicture (pictures_of coding) rules (call past) x
        go x None is = cc
        go x (Some frame) is =
            let same : next (call past) frame ≡ x = cc in
            subst (λ (y : Coded Style Mb Picture). IsSoundPicture (pictures_of coding) rules (call past) y) same
            (sound_next (call past) frame (all_encoded past))
    sound_event past (Deliver n j) = λ x at_n. is_packet coding rules lawful ruled (call past).coded n j x at_n
        (all_encoded past n x at_n)
    sound_event past Play = tt
    sound_event past (Back k) = tt

  pub steered_is_sound : SteeredIsSound coding rules
  steered_is_sound quant may frames [] range = tt
  steered_is_sound quant may frames (e ∷ past) range = (
    sound_event rules quant may frames range past e,
    steered_is_sound quant may frames past range,
  )

  pub steered_is_followed : SteeredIsFollowed coding rules
  steered_is_followed quant may frames past range near =
      any_sound_sender coding.decoding rules lawful.decodes ruled (steered coding rules quant may frames)
      (packets_at coding.encoding rules) (length frames) past near
      (steered_is_sound quant may frames past range)
