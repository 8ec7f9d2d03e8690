-- What the rule of references says of the reference that it finds.
use Rattle.std.proofs.Common.{◌≡◌, ℕ, ◌+◌, ◌<◌, ◌≤◌, Bool, true, false, ◌&&◌, refl, subst, Option, Some, None, leb, ltb}
use Rattle.std.specs.Prelude.{if◌then◌else◌, option_and_then}
use Rattle.std.specs.Option.{option_map_or}
use Rattle.std.proofs.lemmas.Bool.{and_parts, leb-true, ltb-true}
use Rattle.call_model.specs.Numbers.{GreatestIs, greatest}
use Rattle.call_model.specs.Coding.{Rules, window}
use Rattle.call_model.specs.CodedPictures.{reference_for}
use Rattle.call_model.specs.Steering.{from_floor}

-- one that isn't below the floor
pub above_is : (floor : ℕ) (o : Option ℕ) (m : ℕ) → Some m ≡ from_floor floor o → Some m ≡ o
above_is floor None m e = cc
above_is floor (Some k) m e = go (leb floor k) e
  where
    go : (b : Bool) → (let x : Option ℕ = Some m in x) ≡ (if b then Some k else None) → (let x : Option ℕ = Some m in x)
        ≡ Some k
    go true e = e
    go false e = cc

-- it is in the window, and its chain may grow
pub reference_parts : GreatestIs → (rules : Rules) (depth : ℕ → ℕ) (known : ℕ → Bool) (n m : ℕ)
    → Some m ≡ reference_for rules depth known n
    → (m < n) × (n ≤ m + window rules) × (depth m < rules.chain)
unfolding reference_for
reference_parts greatest_is rules depth known n m found = go (greatest test n) refl found
  where
    test : ℕ → Bool
    test k = known k && leb n (k + window rules)

    kept : ℕ → Option ℕ
    kept k = if ltb (depth k) rules.chain then Some k else None

    here : (k : ℕ) → greatest test n ≡ Some k → (t : Bool) → ltb (depth k) rules.chain ≡ t
        → (let x : Option ℕ = Some m in x) ≡ (if t then Some k else None)
        → (m < n) × (n ≤ m + window rules) × (depth m < rules.chain)
    here k is false low same = cc
    here k is true low same =
        let parts = (greatest_is test n k).0 is in
        let both = and_parts (known k) (leb n (k + window rules)) parts.0 in
        let e : k ≡ m = cc in
        subst (λ (i : ℕ). (i < n) × (n ≤ i + window rules) × (depth i < rules.chain)) e (
          parts.1,
          leb-true n (k + window rules) both.1,
          ltb-true (depth k) rules.chain low,
        )

    go : (o : Option ℕ) → greatest test n ≡ o → Some m ≡ option_and_then kept o → (m < n) × (n ≤ m + window rules)
        × (depth m < rules.chain)
    go None is same = cc
    go (Some k) is same = here k is (ltb (depth k) rules.chain) refl same

-- without a reference the depth is 0
pub no_depth : (o : Option ℕ) (depth : ℕ → ℕ) → o ≡ None → option_map_or (λ m. depth m + 1) o 0 ≡ 0
no_depth None depth none = refl
no_depth (Some m) depth none = cc
