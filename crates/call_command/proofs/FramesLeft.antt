-- How many frames are left to be sent matters to a capture alone.
use Rattle.std.proofs.Common.{◌≡◌, ◌≢◌, ℕ, ◌+◌, ◌≤◌, Bool, true, false, List, Option, Some, None, refl, sym, ap, ◌∙◌, arith, if◌then◌else◌}
use Rattle.std.specs.Prelude.{nat_le}
use Rattle.std.proofs.lemmas.Bool.{le-leb, lt-leb}
use Rattle.call_model.specs.Coding.{Rules}
use Rattle.call_model.specs.IdealCall.{Send, Deliver, Play, Back}
use Rattle.call_model.specs.Refusals.{Far, NoFrame as NoPicture, Refusal, first_refusal}

none_is : (r : Refusal) → (let o : Option Refusal = None in o) ≡ Some r → ⊥
none_is r is = cc

-- a capture that is far is far however many pictures are there
pub send_far : (rules : Rules) (left sent played : ℕ) (abouts : List ℕ) (r : Refusal)
    → first_refusal rules (sent + 1) sent played abouts Send ≡ Some r → first_refusal rules left sent played abouts Send
    ≡ Some r
unfolding first_refusal
send_far rules left sent played abouts r = go (nat_le (played + rules.half) sent) (lt-leb (sent + 1) sent (omega arith))
  where
    go : (far : Bool) → nat_le (sent + 1) sent ≡ false
        → (if far then Some (Far sent played) else if nat_le (sent + 1) sent then Some NoPicture else None) ≡ Some r
        → (if far then Some (Far sent played) else if nat_le left sent then Some NoPicture else None) ≡ Some r
    go true never is = is
    go false never is = absurd
        (none_is r (sym (ap (λ (b : Bool). let o : Option Refusal = if b then Some NoPicture else None in o) never)
        ∙ is))

-- and it is refused for its distance
pub send_distance : (rules : Rules) (sent played : ℕ) (abouts : List ℕ) (r : Refusal)
    → first_refusal rules (sent + 1) sent played abouts Send ≡ Some r → r ≢ NoPicture
unfolding first_refusal
send_distance rules sent played abouts r = go (nat_le (played + rules.half) sent) (lt-leb (sent + 1) sent (omega arith))
  where
    go : (far : Bool) → nat_le (sent + 1) sent ≡ false
        → (if far then Some (Far sent played) else if nat_le (sent + 1) sent then Some NoPicture else None) ≡ Some r
        → r ≢ NoPicture
    go true never is out = absurd (cc (is, out))
    go false never is out = absurd
        (none_is r (sym (ap (λ (b : Bool). let o : Option Refusal = if b then Some NoPicture else None in o) never)
        ∙ is))

-- one that isn't far has no frame where all were sent
pub send_out : (rules : Rules) (left sent played : ℕ) (abouts : List ℕ) → left ≤ sent
    → first_refusal rules (sent + 1) sent played abouts Send ≡ None → first_refusal rules left sent played abouts Send
    ≡ Some NoPicture
unfolding first_refusal
send_out rules left sent played abouts out = go (nat_le (played + rules.half) sent) (le-leb left sent out)
  where
    go : (far : Bool) → nat_le left sent ≡ true
        → (if far then Some (Far sent played) else if nat_le (sent + 1) sent then Some NoPicture else None) ≡ None
        → (if far then Some (Far sent played) else if nat_le left sent then Some NoPicture else None) ≡ Some NoPicture
    go true all is = absurd (cc is)
    go false all is = ap (λ (b : Bool). let o : Option Refusal = if b then Some NoPicture else None in o) all

pub any_packet : (rules : Rules) (n j a b sent played : ℕ) (abouts : List ℕ)
    → first_refusal rules a sent played abouts (Deliver n j) ≡ first_refusal rules b sent played abouts (Deliver n j)
unfolding first_refusal
any_packet rules n j a b sent played abouts = refl

pub any_message : (rules : Rules) (m a b sent played : ℕ) (abouts : List ℕ)
    → first_refusal rules a sent played abouts (Back m) ≡ first_refusal rules b sent played abouts (Back m)
unfolding first_refusal
any_message rules m a b sent played abouts = refl

pub any_play : (rules : Rules) (a b sent played : ℕ) (abouts : List ℕ) → first_refusal rules a sent played abouts Play
    ≡ first_refusal rules b sent played abouts Play
unfolding first_refusal
any_play rules a b sent played abouts = refl
