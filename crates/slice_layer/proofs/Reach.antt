-- The reach of a macroblock, in its closed form.
use Rattle.std.proofs.Common.{◌≡◌, ℕ, ◌+◌, ◌*◌, ◌-◌, ◌/◌, ◌%◌, ◌<◌, ◌≤◌, refl, ℤ, pos, negsuc, ◌≤ℤ◌, ◌+ℤ◌, neg_ℤ, ◌↔◌, unsigned_abs, arith}
use Rattle.std.specs.Int.{int_shr}
use Rattle.std.specs.Int.Signed.{≤ℤ_refl}
use Rattle.std.proofs.lemmas.Int.{ints, int_max_is, int_min_is}
use Rattle.h263_types.specs.declared.format.Format.{Format}
use Rattle.h263_types.specs.declared.format.Format.TheVariants.{SubQcif, Qcif, Cif}
use Rattle.h263_types.specs.declared.vector.Reach.{Reach}
use Rattle.h263_types.specs.Sizes.{width_of, height_of, columns_of, mbs_of}
use Rattle.h263_types.specs.Vectors.{InSide, InReach, IsWithin}
use Rattle.slice_layer.specs.Around.{least_component, most, reach_of}
use Rattle.slice_layer.specs.Laws.{AreReached}

-- ---- one component

-- a component is twice its whole part, and one more where it is odd
record IsHalf (v h : ℤ) (odd : ℕ) : Type 0 where
  shifted : int_shr v 1 ≡ h
  whole : v ≡ h +ℤ h +ℤ pos odd
  bit : odd ≤ 1
  is-odd : unsigned_abs v % 2 ≡ odd

halves : (v : ℤ) → IsHalf v (int_shr v 1) (unsigned_abs v % 2)
halves (pos n) = record { shifted = refl; whole = omega (arith, ints); bit = omega arith; is-odd = refl }
halves (negsuc n) = record { shifted = refl; whole = omega (arith, ints); bit = omega arith; is-odd = refl }

-- the samples are inside, by the whole part
inside_within : (at size odd : ℕ) (v h : ℤ) → v ≡ h +ℤ h +ℤ pos odd → odd ≤ 1 → at + 16 ≤ size → pos 0 ≤ℤ (pos at +ℤ h)
    → (pos at +ℤ h +ℤ pos (16 + odd)) ≤ℤ pos size
    → (neg_ℤ (pos (2 * at)) ≤ℤ v) × (v ≤ℤ pos (2 * (size - (at + 16))))
inside_within at size odd v h e bit fits low high = (omega (arith, ints), omega (arith, ints))

within_inside : (at size odd : ℕ) (v h : ℤ) → v ≡ h +ℤ h +ℤ pos odd → odd ≤ 1 → at + 16 ≤ size
    → neg_ℤ (pos (2 * at)) ≤ℤ v → v ≤ℤ pos (2 * (size - (at + 16)))
    → (pos 0 ≤ℤ (pos at +ℤ h)) × ((pos at +ℤ h +ℤ pos (16 + odd)) ≤ℤ pos size)
within_inside at size odd v h e bit fits low high = (omega (arith, ints), omega (arith, ints))

-- a component in reach
abbrev InPart : ℕ → ℕ → ℤ → Type 0
InPart at size v = (neg_ℤ (pos 32) ≤ℤ v) × (v ≤ℤ pos 31) × InSide at size v

abbrev Between : ℤ → ℤ → ℤ → Type 0
Between low high v = (low ≤ℤ v) × (v ≤ℤ high)

part_between : (at size : ℕ) (v : ℤ) → at + 16 ≤ size → InPart at size v → Between (least_component at) (most at size) v
part_between at size v fits h =
    let p = halves v in
    let w = inside_within at size (unsigned_abs v % 2) v (int_shr v 1) p.whole p.bit fits h.2.0 h.2.1 in (
      omega (arith, ints, h.0, w.0, int_max_is (neg_ℤ (pos 32)) (neg_ℤ (pos (2 * at)))),
      omega (arith, ints, h.1, w.1, int_min_is (pos 31) (pos (2 * (size - (at + 16))))),
    )

between_part : (at size : ℕ) (v : ℤ) → at + 16 ≤ size → Between (least_component at) (most at size) v → InPart at size v
between_part at size v fits h =
    let p = halves v in
    let low : neg_ℤ (pos (2 * at)) ≤ℤ v = omega (arith, ints, h.0, int_max_is (neg_ℤ (pos 32)) (neg_ℤ (pos (2 * at))))
    in
    let high : v ≤ℤ pos (2 * (size - (at + 16))) = omega (
      arith,
      ints,
      h.1,
      int_min_is (pos 31) (pos (2 * (size - (at + 16)))),
    ) in
    let w = within_inside at size (unsigned_abs v % 2) v (int_shr v 1) p.whole p.bit fits low high in (
      omega (arith, ints, h.0, int_max_is (neg_ℤ (pos 32)) (neg_ℤ (pos (2 * at)))),
      omega (arith, ints, h.1, int_min_is (pos 31) (pos (2 * (size - (at + 16))))),
      (w.0, w.1),
    )

none_between : (at size : ℕ) → Between (least_component at) (most at size) (pos 0)
none_between at size = (
  omega (arith, ints, int_max_is (neg_ℤ (pos 32)) (neg_ℤ (pos (2 * at)))),
  omega (arith, ints, int_min_is (pos 31) (pos (2 * (size - (at + 16))))),
)

-- ---- both

across_fits : (f : Format) (k : ℕ) → 16 * (k % columns_of f) + 16 ≤ width_of f
across_fits SubQcif k = omega arith
across_fits Qcif k = omega arith
across_fits Cif k = omega arith

along_fits : (f : Format) (k : ℕ) → k < mbs_of f → 16 * (k / columns_of f) + 16 ≤ height_of f
along_fits SubQcif k lt = omega arith
along_fits Qcif k lt = omega arith
along_fits Cif k lt = omega arith

-- a vector is in reach exactly where it is within the numbers that the reader tests
pub reach_within : AreReached
reach_within f k x y lt =
    let a = across_fits f k in
    let b = along_fits f k lt in (
      λ h. (
        part_between (16 * (k % columns_of f)) (width_of f) x a h.0,
        part_between (16 * (k / columns_of f)) (height_of f) y b h.1,
      ),
      λ h. (
        between_part (16 * (k % columns_of f)) (width_of f) x a h.0,
        between_part (16 * (k / columns_of f)) (height_of f) y b h.1,
      ),
    )

equal : (a b : ℤ) → a ≤ℤ b → b ≤ℤ a → a ≡ b
equal a b p q = omega (arith, ints)

abbrev made : ℤ → ℤ → ℤ → ℤ → Reach
made left right up down = record { left = left; right = right; up = up; down = down }

same_made : (a b c d e f g h : ℤ) → a ≡ e → b ≡ f → c ≡ g → d ≡ h → made a b c d ≡ made e f g h
same_made a b c d e f g h p q r s = cc

-- two reaches of the same vectors, one of which has the vector (0, 0), are the same
same_reach : (r s : Reach) → ((x y : ℤ) → IsWithin r x y → IsWithin s x y)
    → ((x y : ℤ) → IsWithin s x y → IsWithin r x y) → IsWithin s (pos 0) (pos 0) → r ≡ s
same_reach r s to back none =
    let own = back (pos 0) (pos 0) none in
    let left : r.left ≡ s.left =
    equal r.left s.left (back s.left (pos 0) ((≤ℤ_refl s.left, none_wide s.left s.right none.0), none.1)).0.0
    (to r.left (pos 0) ((≤ℤ_refl r.left, none_wide r.left r.right own.0), own.1)).0.0 in
    let right : r.right ≡ s.right =
    equal r.right s.right (to r.right (pos 0) ((none_wide r.left r.right own.0, ≤ℤ_refl r.right), own.1)).0.1
    (back s.right (pos 0) ((none_wide s.left s.right none.0, ≤ℤ_refl s.right), none.1)).0.1 in
    let up : r.up ≡ s.up = equal r.up s.up (back (pos 0) s.up (
      none.0,
      (≤ℤ_refl s.up, none_wide s.up s.down none.1),
    )).1.0 (to (pos 0) r.up (
      own.0,
      (≤ℤ_refl r.up, none_wide r.up r.down own.1),
    )).1.0 in
    let down : r.down ≡ s.down =
    equal r.down s.down (to (pos 0) r.down (own.0, (none_wide r.up r.down own.1, ≤ℤ_refl r.down))).1.1
    (back (pos 0) s.down (none.0, (none_wide s.up s.down none.1, ≤ℤ_refl s.down))).1.1 in
    same_made r.left r.right r.up r.down s.left s.right s.up s.down left right up down
  where
    none_wide : (a b : ℤ) → Between a b (pos 0) → a ≤ℤ b
    none_wide a b h = omega (arith, ints, h.0, h.1)

-- the reach is the closed form
pub reach_is : (f : Format) (k : ℕ) (r : Reach) → k < mbs_of f → ((x y : ℤ) → InReach f k x y ↔ IsWithin r x y)
    → r ≡ reach_of f k
reach_is f k r lt h =
    same_reach r (reach_of f k) (λ x y w. (reach_within f k x y lt).0 ((h x y).1 w))
    (λ x y w. (h x y).0 ((reach_within f k x y lt).1 w))
    (none_between (16 * (k % columns_of f)) (width_of f), none_between (16 * (k / columns_of f)) (height_of f))
