-- What both ends do in a near call, event by event.
use Rattle.std.proofs.Common.{◌≡◌, ℕ, ◌+◌, ◌<◌, refl, sym, ap, ◌∙◌, subst, Option, Some, None, List, [], ◌∷◌, length}
use Rattle.std.specs.Prelude.{slice_get}
use Rattle.std.specs.Option.{option_map}
use Rattle.std.proofs.lemmas.Option.{slice_get-map}
use Rattle.call_model.specs.Coding.{Rules, Coding}
use Rattle.call_model.specs.IdealCall.{Event, Send, Deliver, Play, Back, NumberedMessage, Call, MayHappen, ideal, AllMayHappen, encoded}
use Rattle.call_model.specs.Sending.{packets_at}
use Rattle.call_model.specs.Receiving.{TakenSlice}
use Rattle.call_model.specs.JoinedRun.{SaidMessage, Joined, MayHappenBoth, AllMayHappenBoth, joined, new_receiver}
use Rattle.call_model.specs.TwoStores.{told_of}
use Rattle.call_model.specs.InTheCall.{PacketsAreAnswered, MayHappenInBoth, AllNearIsAllNearBoth}
use Rattle.call_model.specs.Lawful.{IsCoding, IsRules, IsPace}
use Rattle.call_model.proofs.Capturing.{all_sound}
use Rattle.call_model.proofs.TwoStores.{ends_of, follows, near_both}
use Rattle.call_model.proofs.AnySender.{IsAt, answers_at}

module _ {Frame Style Mb Picture Fault MessageFault : Type 0}
    (coding : Coding Frame Style Mb Picture Fault MessageFault) (rules : Rules) (lawful : IsCoding coding rules)
    (ruled : IsRules rules) where
  pub packets_are_answered : PacketsAreAnswered coding rules
  packets_are_answered pace frames past n j bytes range near now packet =
      let f = follows coding rules lawful ruled pace frames range past near in
      let c = ideal coding rules pace frames past in
      let at : IsAt coding.decoding rules lawful.decodes ruled c
      (joined coding rules (new_receiver coding rules) pace frames past).receiver = record {
        taken = f.taken;
        is = ap (λ (w : Joined Style Mb Picture). w.receiver) f.ends;
        good = f.good;
      } in
      let same : slice_get (packets_at coding.encoding rules c.coded n) j
      ≡ Some bytes = subst (λ (w : Joined Style Mb Picture). slice_get
      (packets_at coding.encoding rules w.sender.coded n) j ≡ Some bytes) f.ends packet in
      answers_at coding.decoding rules lawful.decodes ruled (encoded coding rules pace frames)
      (packets_at coding.encoding rules) (length frames) c _ n j bytes at now
      (all_sound coding rules lawful ruled pace frames range (Deliver n j ∷ past)).0 same

  both_near : (frames : List Frame) (c : Call Style Mb Picture) (ts : List (TakenSlice Style Mb)) (e : Event)
      → MayHappenBoth coding rules frames (ends_of coding rules c ts) e → MayHappen rules (length frames) c e
  both_near frames c ts Send near = near
  both_near frames c ts (Deliver n j) near = near
  both_near frames c ts Play near = near
  both_near frames c ts (Back k) near = go (slice_get c.said k) refl
      (sym (slice_get-map (told_of coding.encoding.write_message rules) c.said k) ∙ near.1)
    where
      go : (o : Option NumberedMessage) → slice_get c.said k ≡ o
          → option_map (told_of coding.encoding.write_message rules) o ≡ Some near.0
          → MayHappen rules (length frames) c (Back k)
      go None at e = cc
      go (Some note) at e =
          let same : told_of coding.encoding.write_message rules note ≡ near.0 = cc in
          (note, at, subst (λ (t : SaidMessage). length c.coded < t.about + rules.half) (sym same) near.2)

  pub near_is_near_both : MayHappenInBoth coding rules
  near_is_near_both pace frames past e range near =
      let f = follows coding rules lawful ruled pace frames range past near in
      let c = ideal coding rules pace frames past in (
        λ now. subst (λ (w : Joined Style Mb Picture). MayHappenBoth coding rules frames w e) (sym f.ends)
            (near_both coding rules lawful ruled pace frames c f.taken e now),
        λ now. both_near frames c f.taken e
            (subst (λ (w : Joined Style Mb Picture). MayHappenBoth coding rules frames w e) f.ends now),
      )

  forth : (pace : List ℕ → ℕ) (frames : List Frame) (past : List Event) → IsPace pace
      → AllMayHappen coding rules pace frames past
      → AllMayHappenBoth coding rules (new_receiver coding rules) pace frames past
  forth pace frames [] range near = near
  forth pace frames (e ∷ past) range near = (
    (near_is_near_both pace frames past e range near.1).0 near.0,
    forth pace frames past range near.1,
  )

  back : (pace : List ℕ → ℕ) (frames : List Frame) (past : List Event) → IsPace pace
      → AllMayHappenBoth coding rules (new_receiver coding rules) pace frames past
      → AllMayHappen coding rules pace frames past
  back pace frames [] range near = near
  back pace frames (e ∷ past) range near =
      let before = back pace frames past range near.1 in
      ((near_is_near_both pace frames past e range before).1 near.0, before)

  pub all_near_is_all_near_both : AllNearIsAllNearBoth coding rules
  all_near_is_all_near_both pace frames past range = (forth pace frames past range, back pace frames past range)
