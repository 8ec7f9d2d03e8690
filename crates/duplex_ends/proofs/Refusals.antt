-- How the refusals of events are told.
use Rattle.std.proofs.Common.{◌≡◌, ℕ, ◌+◌, Bool, true, false, List, [], ◌∷◌, length, Option, Some, None, Result, Ok, Err, refl, sym, ap, subst, ◌∙◌}
use Rattle.std.specs.Prelude.{OnOk, map, nat_le, slice_get, if◌then◌else◌}
use Rattle.std.specs.Option.{option_map_or}
use Rattle.h263_types.specs.declared.params.Params.{Params}
use Rattle.call_encoding.specs.Frames.{Frame}
use Rattle.call_model.specs.Coding.{Rules}
use Rattle.call_model.specs.IdealCall.{Back, Deliver, Event, Play, about}
use Rattle.call_model.specs.Refusals as call
use Rattle.call_model.specs.Refusals.{first_refusal}
use Rattle.call_decoding.specs.Rules.{rules_of}
use Rattle.duplex_call.specs.declared.queue.Carried.{Carried}
use Rattle.duplex_call.specs.declared.line.Party.{Party}
use Rattle.duplex_call.specs.Duplex.{WayRun}
use Rattle.duplex_call.specs.Refused.{earlier_refusal, heard_refusal, own_refusal}
use Rattle.one_way.specs.declared.refusals.EventRefusal.{EventRefusal}
use Rattle.one_way.specs.declared.refusals.EventRefusal.TheVariants.{Far}
use Rattle.one_way.specs.Refused.{IsAllowed}
use Rattle.duplex_ends.specs.Bringing.{first_far}
use Rattle.duplex_ends.specs.Headers.{AreNumbered}
use Rattle.duplex_ends.specs.Ways.{call_by, carried_as, sides, carried_from}
use Rattle.duplex_ends.proofs.Lists.{get_map, map_get}

-- what holds where there is no refusal holds where the event is allowed
pub may_of : (X : Type 0) (result : Result Unit EventRefusal) (e : Event) (refusal : Option call.Refusal)
    → IsAllowed result e refusal → (refusal ≡ None → X) → OnOk result X
may_of X (Ok _) e refusal is none = none is
may_of X (Err told) e refusal is none = tt

-- how many pictures are there makes no difference but to a capture
pub any_packet : (rules : Rules) (sent played : ℕ) (abouts : List ℕ) (a b n j : ℕ)
    → first_refusal rules a sent played abouts (Deliver n j) ≡ first_refusal rules b sent played abouts (Deliver n j)
unfolding first_refusal
any_packet rules sent played abouts a b n j = refl

pub any_play : (rules : Rules) (sent played : ℕ) (abouts : List ℕ) (a b : ℕ)
    → first_refusal rules a sent played abouts Play ≡ first_refusal rules b sent played abouts Play
unfolding first_refusal
any_play rules sent played abouts a b = refl

-- of a message that was said
about_far : (rules : Rules) (pictures sent played : ℕ) (abouts : List ℕ) (k t : ℕ) → slice_get abouts k ≡ Some t
    → first_refusal rules pictures sent played abouts (Back k)
    ≡ (if nat_le (t + rules.half) sent then Some (call.Far t sent) else None)
unfolding first_refusal
about_far rules pictures sent played abouts k t at =
    ap (λ (o : Option ℕ). option_map_or (λ t. if nat_le (t + rules.half) sent then Some (call.Far t sent) else None) o
    (Some call.NotSaid)) at

-- the first that is refused is told first
pub first_allowed : (result : Result Unit EventRefusal) (e : Event) (one two : Option call.Refusal) → one ≡ None
    → IsAllowed result e two → IsAllowed result e (earlier_refusal one two)
first_allowed result e one two none is = subst (λ (o : Option call.Refusal). IsAllowed result e (earlier_refusal o two))
    (sym none) is

pub first_refused : (told : EventRefusal) (e : Event) (one two : Option call.Refusal) → IsAllowed (Err told) e one
    → IsAllowed (Err told) e (earlier_refusal one two)
first_refused told e one two is = (is.0, ap (λ (o : Option call.Refusal). earlier_refusal o two) is.1, is.2)

-- the messages of a header are refused as it is told
module _ (p : Party → Params) (y : Party) (v : WayRun Frame) (n j : ℕ) where
  one_heard : (m : Carried) (k : ℕ) → slice_get (carried_from (p y) v) k ≡ Some m
      → own_refusal (sides p) 0 y v (Back k)
      ≡ (if nat_le (m.about + (rules_of (p y)).half) (length (call_by (p y) v).coded) then Some
      (call.Far m.about (length (call_by (p y) v).coded)) else None)
  one_heard m k at =
      let c = call_by (p y) v in
      let note = map_get (carried_as (rules_of (p y))) c.said k m at in
      let is : carried_as (rules_of (p y)) note.0 ≡ m = cc note.2 in
      let here : slice_get (map about c.said) k ≡ Some m.about = get_map about c.said k note.0 note.1
      ∙ ap (λ (m : Carried). let a : Option ℕ = Some m.about in a) is in
      about_far (rules_of (p y)) 0 (length c.coded) c.played (map about c.said) k m.about here

  abbrev half : ℕ
  half = (rules_of (p y)).half

  abbrev sent : ℕ
  sent = length (call_by (p y) v).coded

  pub heard_is : (ks : List ℕ) (messages : List Carried) → AreNumbered (carried_from (p y) v) ks messages
      → IsAllowed (first_far half sent messages) (Deliver n j) (heard_refusal (sides p) y v ks)
  heard_is [] [] are = refl
  heard_is (k ∷ ks) (m ∷ messages) are =
      subst (λ (o : Option call.Refusal). IsAllowed (first_far half sent (m ∷ messages)) (Deliver n j)
      (earlier_refusal o (heard_refusal (sides p) y v ks))) (sym (one_heard m k are.0))
      (by_test (nat_le (m.about + half) sent) (heard_is ks messages are.1))
    where
      by_test : (b : Bool) → IsAllowed (first_far half sent messages) (Deliver n j) (heard_refusal (sides p) y v ks)
          → IsAllowed (if b then Err (Far m.about sent) else first_far half sent messages) (Deliver n j)
          (earlier_refusal (if b then Some (call.Far m.about sent) else None) (heard_refusal (sides p) y v ks))
      by_test true rest = (call.Far m.about sent, refl, refl)
      by_test false rest = rest
  heard_is [] (m ∷ messages) are = absurd are
  heard_is (k ∷ ks) [] are = absurd are
