-- Message k of a ring, and why it isn't there.
use Rattle.std.proofs.Common.{◌≡◌, ◌⊎◌, inl, inr, ℕ, zero, suc, ◌+◌, ◌<◌, ◌≤◌, Bool, true, false, List, [], ◌∷◌, length, Option, Some, None, refl, sym, ap, ◌∙◌, arith}
use Rattle.std.specs.Prelude.{map, nat_le, slice_get, if◌then◌else◌}
use Rattle.std.specs.Option.{option_map_or}
use Rattle.std.proofs.lemmas.Bool.{cases_lt, le-leb, lt-leb}
use Rattle.back_messages.specs.declared.writing.Said.{Said}
use Rattle.call_model.specs.Coding.{Rules}
use Rattle.call_model.specs.IdealCall.{Back, Event}
use Rattle.call_model.specs.Refusals.{Far, first_refusal}
use Rattle.call_rings.specs.Messages.{message_at}
use Rattle.h263_types.specs.declared.params.Params.{Params}
use Rattle.h263_types.specs.Params.{IsParams}
use Rattle.call_model.specs.JoinedRun.{SaidMessage}
use Rattle.call_model.specs.Receiving.{ReceiverEntry}
use Rattle.call_decoding.specs.Rules.{rules_of}
use Rattle.call_encoding.specs.Frames.{Frame}
use Rattle.receiver_end.specs.State as receiver_end
use Rattle.receiver_end.specs.declared.kept.Kept.{Kept}
use Rattle.one_way.specs.Both.{State}
use Rattle.one_way.specs.declared.network.Network.{Network}
use Rattle.one_way.specs.Both.{both_after, steady}
use Rattle.one_way.specs.Laws.{NearLaws}
use Rattle.one_way.specs.Network.{about_of, told_in}
use Rattle.one_way.specs.Refused.{refusal_after}
use Rattle.one_way.specs.Seen.{in_both}
use Rattle.one_way.specs.Way.{HoldsNetwork, MayHappenNow}
use Rattle.one_way.proofs.Refusing.{back_far, back_near}
use Rattle.one_way.proofs.Holding.{as_many}
use Rattle.one_way.proofs.Passing.{half_few, steady_is}
use Rattle.one_way.proofs.Ring.{about_at, abouts_are}

pub late_by : (a b : ℕ) → nat_le a b ≡ true → a ≤ b
late_by a b is = by_place (cases_lt b a)
  where
    by_place : (b < a) ⊎ (a ≤ b) → a ≤ b
    by_place (inl near) = absurd (cc (is, lt-leb a b near))
    by_place (inr far) = far

pub near_by : (a b : ℕ) → nat_le a b ≡ false → b < a
near_by a b is = by_place (cases_lt b a)
  where
    by_place : (b < a) ⊎ (a ≤ b) → b < a
    by_place (inl near) = near
    by_place (inr far) = absurd (cc (is, le-leb a b far))

-- a message of the ring was said
pub there : (pairs : List (ℕ × Said)) (k : ℕ) (x : ℕ × Said) → message_at pairs k ≡ Some x → slice_get pairs k ≡ Some x
there pairs k x is = by_last _ is
  where
    by_last : (b : Bool) → (if b then slice_get pairs k else None) ≡ Some x → slice_get pairs k ≡ Some x
    by_last true is = is
    by_last false is = absurd (cc is)

pub none_past : (pairs : List (ℕ × Said)) (k : ℕ) → length pairs ≤ k → slice_get (map about_of pairs) k ≡ None
none_past [] k few = refl
none_past (x ∷ pairs) zero few = absurd (omega (arith, few))
none_past (x ∷ pairs) (suc k) few = none_past pairs k (omega (arith, few))

pub some_at : (pairs : List (ℕ × Said)) (k : ℕ) → k < length pairs → (x : ℕ × Said) × (slice_get pairs k ≡ Some x)
some_at [] k few = absurd (omega (arith, few))
some_at (x ∷ pairs) zero few = (x, refl)
some_at (x ∷ pairs) (suc k) few = some_at pairs k (omega (arith, few))

-- a ring has one message at a place
pub same_about : (o m : Option (ℕ × Said)) (a x : ℕ × Said) → o ≡ Some a → o ≡ m → m ≡ Some x → a.0 ≡ x.0
same_about o m a x first same second = ap (λ (o : Option (ℕ × Said)). option_map_or (λ (x : ℕ × Said). x.0) o 0)
    (sym first ∙ same ∙ second)

-- One that was said and is late, or has left the ring, is far.
pub too_late : (rules : Rules) (sent played : ℕ) (pairs : List (ℕ × Said)) (k : ℕ) → k < length pairs
    → (first_refusal rules (sent + 1) sent played (map about_of pairs) (Back k) ≡ None → length pairs ≤ k + 1024)
    → ((x : ℕ × Said) → message_at pairs k ≡ Some x → x.0 + rules.half ≤ sent)
    → (t : ℕ) × (first_refusal rules (sent + 1) sent played (map about_of pairs) (Back k) ≡ Some (Far t sent))
too_late rules sent played pairs k said kept late =
    let s = some_at pairs k said in
    by_place s.0 s.1 (cases_lt sent (s.0.0 + rules.half))
  where
    by_place : (x : ℕ × Said) → slice_get pairs k ≡ Some x → (sent < x.0 + rules.half) ⊎ (x.0 + rules.half ≤ sent)
        → (t : ℕ) × (first_refusal rules (sent + 1) sent played (map about_of pairs) (Back k) ≡ Some (Far t sent))
    by_place x at (inl near) =
        let none = back_near rules sent played (map about_of pairs) (sent + 1) k x.0 (about_at pairs k x at) near in
        let here : message_at pairs k ≡ Some x = ap (λ (b : Bool). if b then slice_get pairs k else None)
        (le-leb (length pairs) (k + 1024) (kept none)) ∙ at in
        absurd (omega (arith, near, late x here))
    by_place x at (inr far) = (
      x.0,
      back_far rules sent played (map about_of pairs) (sent + 1) k x.0
          (about_at pairs k x at) far,
    )

-- ---- by what both ends have done

module _ (p : Params) (in_range : IsParams p) (laws : NearLaws p) (network : Network) (sender : State) (receiver : Kept)
    (before : List ReceiverEntry) (frames : List Frame) (past : List Event)
    (begun : (receiver_end.run_of p before).played
    ≡ 0) (h : HoldsNetwork p network sender receiver before frames past) where
  abbrev pairs_in : List (ℕ × Said)
  pairs_in = h.messages_are.pairs

  -- a near message is in the ring
  pub message_kept : (k : ℕ) → MayHappenNow p before frames past (Back k) → length pairs_in ≤ k + 1024
  message_kept k near =
      let all = (both_after p (steady p) frames before past).said in
      let long : length pairs_in ≡ length all = sym (as_many told_in pairs_in)
      ∙ ap (λ (l : List SaidMessage). length l) h.messages_are.same in
      let few = laws.messages (receiver_end.run_of p before) (steady p) frames past k begun (steady_is p in_range)
      (near, h.way_holds.near) in
      omega (arith, few, long, half_few p.clock, in_range.lead, in_range.slots_high)

  -- the refusal by the messages of the ring
  pub told_is : (sent k : ℕ) → sent ≡ length (both_after p (steady p) frames before past).sender.coded
      → first_refusal (rules_of p) (sent + 1) sent (both_after p (steady p) frames before past).receiver.played
      (map about_of pairs_in) (Back k) ≡ refusal_after p before frames past (Back k)
  told_is sent k same =
      let abouts : map about_of pairs_in ≡ (in_both (both_after p (steady p) frames before past)).abouts =
      sym (abouts_are pairs_in)
      ∙ ap (λ (l : List SaidMessage). map (λ (told : SaidMessage). told.about) l) h.messages_are.same
      in
      λ i. first_refusal (rules_of p) (same i + 1) (same i) (both_after p (steady p) frames before past).receiver.played
      (abouts i) (Back k)
