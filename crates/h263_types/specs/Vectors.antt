-- How far the vectors of a macroblock reach.
use Rattle.std.specs.Prelude.{ℕ, ◌+◌, ◌*◌, ◌/◌, ◌%◌, ℤ, pos, ◌+ℤ◌, ◌≤ℤ◌, neg_ℤ, unsigned_abs}
use Rattle.std.specs.Int.{int_shr}
use Rattle.h263_types.specs.declared.format.Format.{Format}
use Rattle.h263_types.specs.declared.vector.Reach.{Reach}
use Rattle.h263_types.specs.Sizes.{width_of, height_of, columns_of}

-- where a component's whole part leads from sample `at`: v/2 rounded down
abbrev pub whole_place : ℕ → ℤ → ℤ
whole_place at v = pos at +ℤ int_shr v 1

-- the samples that 16 samples from `at` on refer to by a component lie in 0 to `size - 1`: the first place is
-- not below 0, and the last one (one more where the component is odd) is not past the end
abbrev pub InSide : ℕ → ℕ → ℤ → Type 0
InSide at size v = (pos 0 ≤ℤ whole_place at v) × ((whole_place at v +ℤ pos (16 + unsigned_abs v % 2)) ≤ℤ pos size)

-- a vector of macroblock mb whose components are from -32 to 31 and whose block lies in the picture
abbrev pub InReach : Format → ℕ → ℤ → ℤ → Type 0
InReach f mb x y =
    ((neg_ℤ (pos 32) ≤ℤ x) × (x ≤ℤ pos 31) × InSide (16 * (mb % columns_of f)) (width_of f) x)
    × ((neg_ℤ (pos 32) ≤ℤ y) × (y ≤ℤ pos 31) × InSide (16 * (mb / columns_of f)) (height_of f) y)

-- the components are between those of a reach
abbrev pub IsWithin : Reach → ℤ → ℤ → Type 0
IsWithin r x y = ((r.left ≤ℤ x) × (x ≤ℤ r.right)) × ((r.up ≤ℤ y) × (y ≤ℤ r.down))
