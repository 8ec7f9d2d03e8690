-- Components that fit their type.
use Rattle.std.proofs.Common.{◌≡◌, refl, ap, ◌∙◌, arith}
use Rattle.std.specs.Prelude.{ℤ, pos, negsuc, ◌≤ℤ◌, ◌-ℤ◌}
use Rattle.std.specs.Int.{w8, w16}
use mir.Val.{SFits, to_z, of_z}
use Rattle.macroblock_layer.specs.Text.{wrapped}
use Rattle.std.proofs.lemmas.Int.{ints, to_z-of_z}

pub in_range : (z : ℤ) → negsuc 127 ≤ℤ z → z ≤ℤ pos 127 → SFits w8 z
in_range z low high = omega (arith, ints)

-- a component of a vector fits 8 bits
pub component_fits : (z : ℤ) → negsuc 31 ≤ℤ z → z ≤ℤ pos 31 → SFits w8 z
component_fits z low high = omega (arith, ints)

-- equal differences are wrapped to the same
pub wrapped_same : (r a b : ℤ) → r ≡ wrapped a → a ≡ b → r ≡ wrapped b
wrapped_same r a b e same = e ∙ ap (λ (z : ℤ). wrapped z) same

-- a difference of components, as the code has it
pub sub_same : (x p : ℤ) → SFits w8 x → SFits w8 p
    → to_z w16 (of_z w16 (to_z w16 (of_z w16 (to_z w8 (of_z w8 x))) -ℤ to_z w16 (of_z w16 (to_z w8 (of_z w8 p)))))
    ≡ x -ℤ p
sub_same x p a b =
    let c : SFits w16 x = omega (arith, ints, a) in
    let d : SFits w16 p = omega (arith, ints, b) in
    let e : SFits w16 (x -ℤ p) = omega (arith, ints, a, b) in
    rw (to_z-of_z w8 x a, to_z-of_z w8 p b, to_z-of_z w16 x c, to_z-of_z w16 p d, to_z-of_z w16 (x -ℤ p) e) refl
