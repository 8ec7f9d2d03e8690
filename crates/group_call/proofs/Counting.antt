-- The first refusal of an event at one receiver, by the counts of the group and its own.
use Rattle.std.proofs.Common.{◌≡◌, ◌⊎◌, inl, inr, ℕ, zero, suc, ◌+◌, ◌<◌, ◌≤◌, Bool, true, false, List, [], ◌∷◌, length, Option, Some, None, sym, ap, ◌∙◌, arith}
use Rattle.std.specs.Prelude.{map, nat_le, slice_get, if◌then◌else◌}
use Rattle.std.specs.Option.{option_map, option_map_or}
use Rattle.std.proofs.lemmas.Bool.{cases_lt, le-leb, lt-leb}
use Rattle.std.proofs.lemmas.List.{length-map}
use Rattle.std.proofs.lemmas.Option.{slice_get-map, slice_get_past}
use Rattle.call_model.specs.Coding.{Rules}
use Rattle.call_model.specs.IdealCall.{Send, Deliver, Play, Back}
use Rattle.call_model.specs.JoinedRun.{SaidMessage}
use Rattle.call_model.specs.Refusals.{Refusal, NotSent, NotSaid, Far, PlayBeforeSend, NoFrame, first_refusal}
use Rattle.group_call.specs.Refused.{unless_left}
use Rattle.group_call.specs.Viewing.{told_at}

module _ (rules : Rules) (sent played : ℕ) (abouts : List ℕ) where
  pub next_far : played + rules.half ≤ sent → first_refusal rules (sent + 1) sent played abouts Send
      ≡ Some (Far sent played)
  unfolding first_refusal
  next_far far =
      ap (λ (b : Bool). if b then Some (Far sent played) else if nat_le (sent + 1) sent then Some NoFrame else None)
      (le-leb (played + rules.half) sent far)

  pub next_near : sent < sent + 1 → sent < played + rules.half → first_refusal rules (sent + 1) sent played abouts Send
      ≡ None
  unfolding first_refusal
  next_near some near =
      ap (λ (b : Bool). if b then Some (Far sent played) else if nat_le (sent + 1) sent then Some NoFrame else None)
      (lt-leb (played + rules.half) sent near)
      ∙ ap (λ (b : Bool). if b then Some NoFrame else None) (lt-leb (sent + 1) sent some)

  pub number_unsent : (n place : ℕ) → sent ≤ n → first_refusal rules (sent + 1) sent played abouts (Deliver n place)
      ≡ Some NotSent
  unfolding first_refusal
  number_unsent n place few =
      ap (λ (b : Bool). if b then Some NotSent else if nat_le (n + rules.half) played then Some
      (Far n played) else None) (le-leb sent n few)

  pub number_far : (n place : ℕ) → n < sent → n + rules.half ≤ played
      → first_refusal rules (sent + 1) sent played abouts (Deliver n place) ≡ Some (Far n played)
  unfolding first_refusal
  number_far n place some far =
      ap (λ (b : Bool). if b then Some NotSent else if nat_le (n + rules.half) played then Some
      (Far n played) else None) (lt-leb sent n some)
      ∙ ap (λ (b : Bool). if b then Some (Far n played) else None) (le-leb (n + rules.half) played far)

  pub number_near : (n place : ℕ) → n < sent → played < n + rules.half
      → first_refusal rules (sent + 1) sent played abouts (Deliver n place) ≡ None
  unfolding first_refusal
  number_near n place some near =
      ap (λ (b : Bool). if b then Some NotSent else if nat_le (n + rules.half) played then Some
      (Far n played) else None) (lt-leb sent n some)
      ∙ ap (λ (b : Bool). if b then Some (Far n played) else None) (lt-leb (n + rules.half) played near)

  pub shown_early : sent ≤ played → first_refusal rules (sent + 1) sent played abouts Play ≡ Some PlayBeforeSend
  unfolding first_refusal
  shown_early few = ap (λ (b : Bool). if b then Some PlayBeforeSend else None) (le-leb sent played few)

  pub shown_near : played < sent → first_refusal rules (sent + 1) sent played abouts Play ≡ None
  unfolding first_refusal
  shown_near some = ap (λ (b : Bool). if b then Some PlayBeforeSend else None) (lt-leb sent played some)

  far_by : Option ℕ → Option Refusal
  far_by about = option_map_or (λ t. if nat_le (t + rules.half) sent then Some (Far t sent) else None) about
      (Some NotSaid)

  pub message_unsaid : (k : ℕ) → slice_get abouts k ≡ None → first_refusal rules (sent + 1) sent played abouts (Back k)
      ≡ Some NotSaid
  unfolding first_refusal far_by
  message_unsaid k none = ap far_by none

  pub message_far : (k t : ℕ) → slice_get abouts k ≡ Some t → t + rules.half ≤ sent
      → first_refusal rules (sent + 1) sent played abouts (Back k) ≡ Some (Far t sent)
  unfolding first_refusal far_by
  message_far k t some far = ap far_by some
      ∙ ap (λ (b : Bool). if b then Some (Far t sent) else None) (le-leb (t + rules.half) sent far)

  pub message_near : (k t : ℕ) → slice_get abouts k ≡ Some t → sent < t + rules.half
      → first_refusal rules (sent + 1) sent played abouts (Back k) ≡ None
  unfolding first_refusal far_by
  message_near k t some near = ap far_by some
      ∙ ap (λ (b : Bool). if b then Some (Far t sent) else None) (lt-leb (t + rules.half) sent near)

-- ---- a message of a receiver that has said these

not_past : {X : Type 0} (xs : List X) (k : ℕ) → k < length xs → slice_get xs k ≡ None → ⊥
not_past [] k few none = omega (arith, few)
not_past (x ∷ xs) zero few none = absurd (cc none)
not_past (x ∷ xs) (suc k) few none = not_past xs k (omega (arith, few)) none

pub late_by : (a b : ℕ) → nat_le a b ≡ true → a ≤ b
late_by a b is = by_place (cases_lt b a)
  where
    by_place : (b < a) ⊎ (a ≤ b) → a ≤ b
    by_place (inl near) = absurd (cc (is, lt-leb a b near))
    by_place (inr far) = far

pub near_by : (a b : ℕ) → nat_le a b ≡ false → b < a
near_by a b is = by_place (cases_lt b a)
  where
    by_place : (b < a) ⊎ (a ≤ b) → b < a
    by_place (inl near) = near
    by_place (inr far) = absurd (cc (is, le-leb a b far))

module _ (rules : Rules) (sent played : ℕ) (told : List SaidMessage) (k : ℕ) where
  abbrev abouts : List ℕ
  abouts = map (λ (told : SaidMessage). told.about) told

  -- what refuses message k
  abbrev pub refusal_of_message : Option Refusal
  refusal_of_message = unless_left (length told) sent k (first_refusal rules (sent + 1) sent played abouts (Back k))

  -- one that is among the last ones
  in_ring : (o : Option Refusal) → length told ≤ k + 1024 → unless_left (length told) sent k o ≡ o
  in_ring o near = ap (λ (b : Bool). if b then o else Some (Far k sent)) (le-leb (length told) (k + 1024) near)

  pub message_left : k + 1024 < length told → refusal_of_message ≡ Some (Far k sent)
  message_left past =
      ap (λ (b : Bool). if b then first_refusal rules (sent + 1) sent played abouts (Back k) else Some (Far k sent))
      (lt-leb (length told) (k + 1024) past)

  pub told_unsaid : length told ≤ k → refusal_of_message ≡ Some NotSaid
  told_unsaid few =
      let past : length abouts ≤ k = omega (arith, few, length-map told (λ (told : SaidMessage). told.about)) in
      in_ring _ (omega (arith, few)) ∙ message_unsaid rules sent played abouts k (slice_get_past abouts k past)

  about_at : (x : SaidMessage) → slice_get told k ≡ Some x → slice_get abouts k ≡ Some x.about
  about_at x is =
      slice_get-map (λ (told : SaidMessage). told.about) told k
      ∙ ap (λ (o : Option SaidMessage). option_map (λ (told : SaidMessage). told.about) o) is

  pub told_far : (x : SaidMessage) → slice_get told k ≡ Some x → length told ≤ k + 1024 → x.about + rules.half ≤ sent
      → refusal_of_message ≡ Some (Far x.about sent)
  told_far x is near far = in_ring _ near ∙ message_far rules sent played abouts k x.about (about_at x is) far

  pub told_near : (x : SaidMessage) → slice_get told k ≡ Some x → length told ≤ k + 1024 → sent < x.about + rules.half
      → refusal_of_message ≡ None
  told_near x is near close = in_ring _ near ∙ message_near rules sent played abouts k x.about (about_at x is) close

  -- what is there was said, and is among the last ones; what isn't there, but was said, has left
  pub there : (x : SaidMessage) → told_at told k ≡ Some x → (slice_get told k ≡ Some x) × (length told ≤ k + 1024)
  there x is = by_place (cases_lt (k + 1024) (length told))
    where
      by_place : (k + 1024 < length told) ⊎ (length told ≤ k + 1024) → (slice_get told k ≡ Some x)
          × (length told ≤ k + 1024)
      by_place (inr near) = (
        sym (ap (λ (b : Bool). if b then slice_get told k else None) (le-leb (length told) (k + 1024) near))
            ∙ is,
        near,
      )
      by_place (inl past) =
          absurd (cc (
            is,
            ap (λ (b : Bool). if b then slice_get told k else None)
                (lt-leb (length told) (k + 1024) past),
          ))

  pub has_left : told_at told k ≡ None → k < length told → k + 1024 < length told
  has_left is some = by_place (cases_lt (k + 1024) (length told))
    where
      by_place : (k + 1024 < length told) ⊎ (length told ≤ k + 1024) → k + 1024 < length told
      by_place (inl past) = past
      by_place (inr near) =
          absurd (not_past told k some
          (sym (ap (λ (b : Bool). if b then slice_get told k else None) (le-leb (length told) (k + 1024) near)) ∙ is))
