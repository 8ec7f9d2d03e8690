-- The first refusal of an event, by the counts of a call.
use Rattle.std.proofs.Common.{◌≡◌, ◌⊎◌, inl, inr, ℕ, ◌+◌, ◌<◌, ◌≤◌, Bool, List, Option, Some, None, refl, ap, ◌∙◌}
use Rattle.std.specs.Prelude.{nat_le, slice_get, if◌then◌else◌}
use Rattle.std.specs.Option.{option_map_or}
use Rattle.std.proofs.lemmas.Bool.{cases_lt, le-leb, lt-leb}
use Rattle.call_model.specs.Coding.{Rules}
use Rattle.call_model.specs.IdealCall.{Send, Deliver, Play, Back}
use Rattle.call_model.specs.Refusals.{Refusal, NotSent, NotSaid, Far, PlayBeforeSend, NoFrame, first_refusal}

module _ (rules : Rules) (sent played : ℕ) (abouts : List ℕ) where
  -- ---- a capture

  pub capture_far : played + rules.half ≤ sent → first_refusal rules (sent + 1) sent played abouts Send
      ≡ Some (Far sent played)
  unfolding first_refusal
  capture_far far =
      ap (λ (b : Bool). if b then Some (Far sent played) else if nat_le (sent + 1) sent then Some NoFrame else None)
      (le-leb (played + rules.half) sent far)

  -- where this many pictures are there to be sent
  pub capture_near : (pictures : ℕ) → sent < pictures → sent < played + rules.half
      → first_refusal rules pictures sent played abouts Send ≡ None
  unfolding first_refusal
  capture_near pictures some near =
      ap (λ (b : Bool). if b then Some (Far sent played) else if nat_le pictures sent then Some NoFrame else None)
      (lt-leb (played + rules.half) sent near)
      ∙ ap (λ (b : Bool). if b then Some NoFrame else None) (lt-leb pictures sent some)

  -- one that isn't far is near
  pub capture_not_far : first_refusal rules (sent + 1) sent played abouts Send ≡ None → sent < played + rules.half
  capture_not_far none = by_place (cases_lt sent (played + rules.half))
    where
      by_place : (sent < played + rules.half) ⊎ (played + rules.half ≤ sent) → sent < played + rules.half
      by_place (inl near) = near
      by_place (inr far) = absurd (cc (none, capture_far far))

  -- ---- a delivery

  pub packet_unsent : (pictures n place : ℕ) → sent ≤ n
      → first_refusal rules pictures sent played abouts (Deliver n place) ≡ Some NotSent
  unfolding first_refusal
  packet_unsent pictures n place few =
      ap (λ (b : Bool). if b then Some NotSent else if nat_le (n + rules.half) played then Some
      (Far n played) else None) (le-leb sent n few)

  pub packet_far : (pictures n place : ℕ) → n < sent → n + rules.half ≤ played
      → first_refusal rules pictures sent played abouts (Deliver n place) ≡ Some (Far n played)
  unfolding first_refusal
  packet_far pictures n place some far =
      ap (λ (b : Bool). if b then Some NotSent else if nat_le (n + rules.half) played then Some
      (Far n played) else None) (lt-leb sent n some)
      ∙ ap (λ (b : Bool). if b then Some (Far n played) else None) (le-leb (n + rules.half) played far)

  pub packet_near : (pictures n place : ℕ) → n < sent → played < n + rules.half
      → first_refusal rules pictures sent played abouts (Deliver n place) ≡ None
  unfolding first_refusal
  packet_near pictures n place some near =
      ap (λ (b : Bool). if b then Some NotSent else if nat_le (n + rules.half) played then Some
      (Far n played) else None) (lt-leb sent n some)
      ∙ ap (λ (b : Bool). if b then Some (Far n played) else None) (lt-leb (n + rules.half) played near)

  -- ---- a play

  pub play_early : (pictures : ℕ) → sent ≤ played → first_refusal rules pictures sent played abouts Play
      ≡ Some PlayBeforeSend
  unfolding first_refusal
  play_early pictures few = ap (λ (b : Bool). if b then Some PlayBeforeSend else None) (le-leb sent played few)

  pub play_near : (pictures : ℕ) → played < sent → first_refusal rules pictures sent played abouts Play ≡ None
  unfolding first_refusal
  play_near pictures some = ap (λ (b : Bool). if b then Some PlayBeforeSend else None) (lt-leb sent played some)

  -- ---- a message

  told_by : ℕ → Option ℕ → Option Refusal
  told_by k about = option_map_or (λ t. if nat_le (t + rules.half) sent then Some (Far t sent) else None) about
      (Some NotSaid)

  pub back_unsaid : (pictures k : ℕ) → slice_get abouts k ≡ None
      → first_refusal rules pictures sent played abouts (Back k) ≡ Some NotSaid
  unfolding first_refusal told_by
  back_unsaid pictures k none = ap (told_by k) none

  pub back_far : (pictures k t : ℕ) → slice_get abouts k ≡ Some t → t + rules.half ≤ sent
      → first_refusal rules pictures sent played abouts (Back k) ≡ Some (Far t sent)
  unfolding first_refusal told_by
  back_far pictures k t some far = ap (told_by k) some
      ∙ ap (λ (b : Bool). if b then Some (Far t sent) else None) (le-leb (t + rules.half) sent far)

  pub back_near : (pictures k t : ℕ) → slice_get abouts k ≡ Some t → sent < t + rules.half
      → first_refusal rules pictures sent played abouts (Back k) ≡ None
  unfolding first_refusal told_by
  back_near pictures k t some near = ap (told_by k) some
      ∙ ap (λ (b : Bool). if b then Some (Far t sent) else None) (lt-leb (t + rules.half) sent near)

  -- but of a capture it makes no difference how many pictures are there to be sent
  pub any_packet : (a b n place : ℕ) → first_refusal rules a sent played abouts (Deliver n place)
      ≡ first_refusal rules b sent played abouts (Deliver n place)
  unfolding first_refusal
  any_packet a b n place = refl

  pub any_play : (a b : ℕ) → first_refusal rules a sent played abouts Play
      ≡ first_refusal rules b sent played abouts Play
  unfolding first_refusal
  any_play a b = refl

  pub any_back : (a b k : ℕ) → first_refusal rules a sent played abouts (Back k)
      ≡ first_refusal rules b sent played abouts (Back k)
  unfolding first_refusal
  any_back a b k = refl
