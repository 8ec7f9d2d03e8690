use Rattle.std.proofs.Common.{◌≡◌, ℕ, ◌+◌, ◌<◌, ◌≤◌, Bool, sym, ap, ◌∙◌, arith}
use Rattle.call_model.specs.Coding.{Rules, window}
use Rattle.reference_selector.specs.Stands.{SelectorStands}
use Rattle.call_model.specs.CodedPictures.{reference_for}
use Rattle.call_model.specs.Steering.{from_floor}
use Rattle.sender_end.proofs.Choosing.{above_is, reference_parts}
use Rattle.sender_end.proofs.next.next_from.Goals as goal

-- what is known of the reference that was found
parts : (c : goal.After-depth) → (rules : Rules) (depth : ℕ → ℕ) (known : ℕ → Bool)
    → SelectorStands rules c.args.pictures.now c.args.number depth known
    → (c.in-Some.m < c.args.number) × (c.args.number ≤ c.in-Some.m + window rules) × (depth c.in-Some.m < rules.chain)
parts c rules depth known stands =
    reference_parts c.searches.ensures.greatest rules depth known c.args.number c.in-Some.m
    (above_is c.args.floor (reference_for rules depth known c.args.number) c.in-Some.m
    (sym c.in-Some.is ∙ c.above.ensures ∙ ap (from_floor c.args.floor) (c.choose.ensures rules depth known stands)))

depth_is : (c : goal.After-depth) → (rules : Rules) (depth : ℕ → ℕ) (known : ℕ → Bool)
    → SelectorStands rules c.args.pictures.now c.args.number depth known
    → c.depth.result ≡ depth c.in-Some.m
depth_is c rules depth known stands =
    let p = parts c rules depth known stands in
    c.depth.ensures rules c.args.number depth known p.0 (omega (arith, p.1)) stands

pub overflow_add-result : goal.overflow_add-result
overflow_add-result c =
    let r = c.requires in
    let p = parts c r.rules r.depth r.known r.stands in
    omega (arith, p.2, depth_is c r.rules r.depth r.known r.stands, r.stands.chain)

pub returns-in-Some-clause-depth : goal.returns-in-Some-clause-depth
returns-in-Some-clause-depth c rules depth known stands = ap (λ (n : ℕ). n + 1) (depth_is c rules depth known stands)

pub returns-in-Some-clause-recent : goal.returns-in-Some-clause-recent
returns-in-Some-clause-recent c rules depth known stands =
    let p = parts c rules depth known stands in
    (p.0, omega (arith, p.1))

pub returns-in-None-clause-reference : goal.returns-in-None-clause-reference
returns-in-None-clause-reference c rules depth known stands =
    sym c.in-None.is ∙ c.above.ensures ∙ ap (from_floor c.args.floor) (c.choose.ensures rules depth known stands)

pub returns-in-Some-clause-reference : goal.returns-in-Some-clause-reference
returns-in-Some-clause-reference c rules depth known stands =
    sym c.in-Some.is ∙ c.above.ensures ∙ ap (from_floor c.args.floor) (c.choose.ensures rules depth known stands)
