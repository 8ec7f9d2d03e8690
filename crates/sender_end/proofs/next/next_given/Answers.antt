use Rattle.std.proofs.Common.{◌≡◌, ℕ, ◌+◌, ◌<◌, ◌≤◌, Bool, true, false, Option, Some, None, IfSome, refl, sym, ap, ◌∙◌, subst, arith, ltb}
use Rattle.std.specs.Prelude.{if◌then◌else◌}
use Rattle.std.specs.Option.{option_map_or}
use Rattle.call_model.specs.Coding.{Rules}
use Rattle.reference_selector.specs.Stands.{SelectorStands}
use Rattle.sender_end.specs.Selecting.{within_chain}
use Rattle.sender_end.proofs.next.next_given.Goals as goal

-- the depth that was read is the picture's
depth_is : (c : goal.After-below_limit) → (rules : Rules) (depth : ℕ → ℕ) (known : ℕ → Bool)
    → SelectorStands rules c.args.pictures.now c.args.number depth known
    → c.depth.result ≡ depth c.in-Some.m
depth_is c rules depth known stands =
    let recent = subst (λ (o : Option ℕ). IfSome o (λ m. (m < c.args.number)
    × (c.args.number ≤ m + c.args.pictures.now.slots))) c.in-Some.is c.requires.recent in
    c.depth.ensures rules c.args.number depth known recent.0 (omega (arith, recent.1, stands.slots)) stands

pub returns-in-Some-clause-reference : goal.returns-in-Some-clause-reference
returns-in-Some-clause-reference c rules depth known stands =
    c.below_limit.ensures.reference
    ∙ ap (λ (d : ℕ). if ltb d 131 then Some c.in-Some.m else None) (depth_is c rules depth known stands)
    ∙ ap (λ (l : ℕ). if ltb (depth c.in-Some.m) l then Some c.in-Some.m else None) (sym stands.chain)
    ∙ ap (within_chain rules depth) (sym c.in-Some.is)

-- whatever is taken as the depth of the reference, if it is the reference's own
same_depth : (o : Option ℕ) (m d : ℕ) (depth : ℕ → ℕ) (b : Bool) → d ≡ depth m → o ≡ (if b then Some m else None)
    → option_map_or (λ k. d + 1) o 0 ≡ option_map_or (λ k. depth k + 1) o 0
same_depth None m d depth b is e = refl
same_depth (Some k) m d depth true is e = let same : k ≡ m = cc in ap (λ (i : ℕ). i + 1) (is ∙ ap depth (sym same))
same_depth (Some k) m d depth false is e = cc

pub returns-in-Some-clause-depth : goal.returns-in-Some-clause-depth
returns-in-Some-clause-depth c rules depth known stands =
    c.below_limit.ensures.depth
    ∙ same_depth c.below_limit.result.reference c.in-Some.m c.depth.result depth (ltb c.depth.result 131)
    (depth_is c rules depth known stands) c.below_limit.ensures.reference
