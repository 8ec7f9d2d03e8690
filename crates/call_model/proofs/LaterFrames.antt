-- Frames after those that were sent.
use Rattle.std.proofs.Common.{◌≡◌, ℕ, ◌+◌, ◌<◌, refl, sym, ap, ◌∙◌, subst, arith, inl, inr, Option, List, [], ◌∷◌, ◌++◌, length, length-append}
use Rattle.std.specs.Prelude.{slice_get}
use Rattle.std.specs.Option.{option_map, option_map_or}
use Rattle.std.proofs.lemmas.Option.{slice_get_cases}
use Rattle.call_model.specs.Coding.{Rules, Coding, pictures_of}
use Rattle.call_model.specs.CodedPictures.{Coded}
use Rattle.call_model.specs.Sending.{next_coded}
use Rattle.call_model.specs.IdealCall.{Event, Send, Deliver, Play, Back, Call, MayHappen, after, encoded, ideal, AllMayHappen}
use Rattle.call_model.specs.Receiving.{ReceiverRun}
use Rattle.call_model.specs.JoinedRun.{Joined, joined, after_both, sender_with_frame, MayHappenBoth, AllMayHappenBoth}
use Rattle.call_model.specs.LaterFrames.{LaterFramesBoth, LaterFrames}
use Rattle.call_model.proofs.ListLemmas.{slice_get_left}

module _ {Frame Style Mb Picture Fault MessageFault : Type 0}
    (coding : Coding Frame Style Mb Picture Fault MessageFault) (rules : Rules) (pace : List ℕ
    → ℕ) (frames later : List Frame) where
  sent_frame : (n : ℕ) → n < length frames → slice_get (frames ++ later) n ≡ slice_get frames n
  sent_frame n few =
      elim (slice_get_cases frames n).1 [
        | inl got ↦ slice_get_left frames later n got.0 got.2 ∙ sym got.2
        | inr out ↦ absurd (omega (arith, out.0, few))
      ]

  more : (n : ℕ) → n < length frames → n < length (frames ++ later)
  more n lt = let sum : length (frames ++ later) ≡ length frames + length later = length-append frames later in
      omega (arith, lt, sum)

  module _ (begun : ReceiverRun Style Mb Picture) where
    both : (past : List Event) → AllMayHappenBoth coding rules begun pace frames past
        → joined coding rules begun pace (frames ++ later) past ≡ joined coding rules begun pace frames past
    both [] near = refl
    both (Send ∷ past) near =
        let w = joined coding rules begun pace frames past in
        ap (λ (w : Joined Style Mb Picture). after_both coding rules pace (frames ++ later) w Send) (both past near.1)
        ∙ ap (λ (o : Option Frame). after_frame w o) (sent_frame (length w.sender.coded) near.0.0)
      where
        after_frame : Joined Style Mb Picture → Option Frame → Joined Style Mb Picture
        after_frame w o = record w { sender = sender_with_frame coding rules pace w.sender o }
    both (Deliver n j ∷ past) near = ap (λ (w : Joined Style Mb Picture). after_both coding rules pace frames w
        (Deliver n j)) (both past near.1)
    both (Play ∷ past) near = ap (λ (w : Joined Style Mb Picture). after_both coding rules pace frames w Play)
        (both past near.1)
    both (Back k ∷ past) near = ap (λ (w : Joined Style Mb Picture). after_both coding rules pace frames w (Back k))
        (both past near.1)

    wider : (w : Joined Style Mb Picture) (e : Event) → MayHappenBoth coding rules frames w e
        → MayHappenBoth coding rules (frames ++ later) w e
    wider w Send near = (more (length w.sender.coded) near.0, near.1)
    wider w (Deliver n j) near = near
    wider w Play near = near
    wider w (Back k) near = near

    near_both : (past : List Event) → AllMayHappenBoth coding rules begun pace frames past
        → AllMayHappenBoth coding rules begun pace (frames ++ later) past
    near_both [] near = near
    near_both (e ∷ past) near = (
      subst (λ (w : Joined Style Mb Picture). MayHappenBoth coding rules (frames ++ later) w e)
          (sym (both past near.1)) (wider (joined coding rules begun pace frames past) e near.0),
      near_both past near.1,
    )

  alone : (past : List Event) → AllMayHappen coding rules pace frames past
      → ideal coding rules pace (frames ++ later) past ≡ ideal coding rules pace frames past
  alone [] near = refl
  alone (Send ∷ past) near =
      let c = ideal coding rules pace frames past in
      ap (λ (c : Call Style Mb Picture). after (pictures_of coding) rules (encoded coding rules pace (frames ++ later))
      c Send) (alone past near.1)
      ∙ ap (λ (o : Option Frame). after_frame c o) (sent_frame (length c.coded) near.0.0)
    where
      after_frame : Call Style Mb Picture → Option Frame → Call Style Mb Picture
      after_frame c o = record c {
        coded = c.coded ++ option_map_or (λ (x : Coded Style Mb Picture). x ∷ [])
            (option_map (λ (frame : Frame). next_coded (pictures_of coding) coding.encoding rules pace frame c.coded
            c.known) o) [];
      }
  alone (Deliver n j ∷ past) near = ap (λ (c : Call Style Mb Picture). after (pictures_of coding) rules
      (encoded coding rules pace frames) c (Deliver n j)) (alone past near.1)
  alone (Play ∷ past) near = ap (λ (c : Call Style Mb Picture). after (pictures_of coding) rules
      (encoded coding rules pace frames) c Play) (alone past near.1)
  alone (Back k ∷ past) near = ap (λ (c : Call Style Mb Picture). after (pictures_of coding) rules
      (encoded coding rules pace frames) c (Back k)) (alone past near.1)

  wider_alone : (c : Call Style Mb Picture) (e : Event) → MayHappen rules (length frames) c e
      → MayHappen rules (length (frames ++ later)) c e
  wider_alone c Send near = (more (length c.coded) near.0, near.1)
  wider_alone c (Deliver n j) near = near
  wider_alone c Play near = near
  wider_alone c (Back k) near = near

  near_alone : (past : List Event) → AllMayHappen coding rules pace frames past
      → AllMayHappen coding rules pace (frames ++ later) past
  near_alone [] near = near
  near_alone (e ∷ past) near = (
    subst (λ (c : Call Style Mb Picture). MayHappen rules (length (frames ++ later)) c e) (sym (alone past near.1))
        (wider_alone (ideal coding rules pace frames past) e near.0),
    near_alone past near.1,
  )

pub later_frames_both : {Frame Style Mb Picture Fault MessageFault : Type 0}
    (coding : Coding Frame Style Mb Picture Fault MessageFault) (rules : Rules) → LaterFramesBoth coding rules
later_frames_both coding rules receiver pace frames later past near = (
  both coding rules pace frames later receiver past near,
  near_both coding rules pace frames later receiver past near,
)

pub later_frames : {Frame Style Mb Picture Fault MessageFault : Type 0}
    (coding : Coding Frame Style Mb Picture Fault MessageFault) (rules : Rules) → LaterFrames coding rules
later_frames coding rules pace frames later past near = (
  alone coding rules pace frames later past near,
  near_alone coding rules pace frames later past near,
)
