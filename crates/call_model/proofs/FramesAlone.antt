-- What a call says rests on the frames that were sent, and what it coded stays.
use Rattle.std.proofs.Common.{◌≡◌, ℕ, ◌+◌, ◌<◌, ◌≤◌, refl, sym, ap, ◌∙◌, arith, inl, inr, Option, Some, None, List, [], ◌∷◌, ◌++◌, length, length-append}
use Rattle.std.specs.Prelude.{slice_get, option_and_then}
use Rattle.std.specs.Option.{option_map, option_map_or}
use Rattle.std.proofs.lemmas.Option.{slice_get_cases}
use Rattle.call_model.specs.Coding.{Rules, Coding, pictures_of}
use Rattle.call_model.specs.CodedPictures.{Coded}
use Rattle.call_model.specs.IdealCall.{Event, Send, Deliver, Play, Back, Call, encoded, ideal, after}
use Rattle.call_model.specs.Before.{sent_before, CodedStays, SentFramesAlone}
use Rattle.call_model.proofs.ListLemmas.{slice_get_left}

module _ {Frame Style Mb Picture Fault MessageFault : Type 0}
    (coding : Coding Frame Style Mb Picture Fault MessageFault) (rules : Rules) (pace : List ℕ → ℕ) where
  sent_at_most : (frames : List Frame) (past : List Event)
      → length (ideal coding rules pace frames past).coded ≤ sent_before past
  sent_at_most frames [] = omega arith
  sent_at_most frames (Send ∷ past) = go (encoded coding rules pace frames (ideal coding rules pace frames past))
      (sent_at_most frames past)
    where
      go : (o : Option (Coded Style Mb Picture)) → length (ideal coding rules pace frames past).coded ≤ sent_before past
          → length ((ideal coding rules pace frames past).coded
          ++ option_map_or (λ (x : Coded Style Mb Picture). x ∷ []) o []) ≤ sent_before past + 1
      go None le = simp length-append (omega (arith, le))
      go (Some x) le = simp length-append (omega (arith, le))
  sent_at_most frames (Deliver n j ∷ past) = sent_at_most frames past
  sent_at_most frames (Play ∷ past) = sent_at_most frames past
  sent_at_most frames (Back k ∷ past) = sent_at_most frames past

  same_call : (frames others : List Frame) (past : List Event)
      → ((i : ℕ) → i < sent_before past → slice_get frames i ≡ slice_get others i) → ideal coding rules pace frames past
      ≡ ideal coding rules pace others past
  same_call frames others [] same = refl
  same_call frames others (Send ∷ past) same =
      let before = same_call frames others past (λ i lt. same i (omega arith)) in
      let here : slice_get frames (length (ideal coding rules pace frames past).coded)
      ≡ slice_get others (length (ideal coding rules pace frames past).coded) =
      same (length (ideal coding rules pace frames past).coded) (omega (arith, sent_at_most frames past)) in
      rw here (ap (λ (c : Call Style Mb Picture). after (pictures_of coding) rules (encoded coding rules pace others) c
      Send) before)
  same_call frames others (Deliver n j ∷ past) same =
      ap (λ (c : Call Style Mb Picture). after (pictures_of coding) rules (encoded coding rules pace others) c
      (Deliver n j)) (same_call frames others past same)
  same_call frames others (Play ∷ past) same = ap (λ (c : Call Style Mb Picture). after (pictures_of coding) rules
      (encoded coding rules pace others) c Play) (same_call frames others past same)
  same_call frames others (Back k ∷ past) same = ap (λ (c : Call Style Mb Picture). after (pictures_of coding) rules
      (encoded coding rules pace others) c (Back k)) (same_call frames others past same)

  module _ (frames : List Frame) where
    pub coded_stays : CodedStays coding rules pace frames
    coded_stays past Send n lt =
        elim (slice_get_cases (ideal coding rules pace frames past).coded n).1 [
          | inl h ↦
              let more = slice_get_left (ideal coding rules pace frames past).coded
              (option_map_or (λ (x : Coded Style Mb Picture). x ∷ [])
              (encoded coding rules pace frames (ideal coding rules pace frames past)) []) n h.0 h.2 in
              let same = more ∙ sym h.2 in (
                ap (option_and_then (λ (x : Coded Style Mb Picture). x.reference)) same,
                ap (λ (o : Option (Coded Style Mb Picture)). option_map_or (λ (x : Coded Style Mb Picture). x.depth) o
                    0) same,
                ap (option_map (λ (x : Coded Style Mb Picture). x.picture)) same,
              )
          | inr h ↦ absurd (omega (arith, h.0, lt))
        ]
    coded_stays past (Deliver m j) n lt = (refl, refl, refl)
    coded_stays past Play n lt = (refl, refl, refl)
    coded_stays past (Back k) n lt = (refl, refl, refl)

pub sent_frames_alone : {Frame Style Mb Picture Fault MessageFault : Type 0}
    (coding : Coding Frame Style Mb Picture Fault MessageFault) (rules : Rules) → SentFramesAlone coding rules
sent_frames_alone coding rules pace frames others past same = same_call coding rules pace frames others past same
