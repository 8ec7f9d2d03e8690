-- The vectors among which the search chooses.
use Rattle.std.specs.Prelude.{◌≡◌, ℕ, ◌+◌, ◌*◌, ◌/◌, ◌%◌, ◌≤◌, ℤ, pos, ◌+ℤ◌, ◌-ℤ◌, neg_ℤ, unsigned_abs, int_le, Bool, ◌&&◌, List, [], ◌∷◌, map}
use Rattle.std.specs.List.{range_with_len}
use Rattle.h263_types.specs.declared.format.Format.{Format}
use Rattle.h263_types.specs.declared.vector.Vector.{Vector}
use Rattle.h263_types.specs.Sizes.{width_of, height_of, columns_of}
use Rattle.h263_types.specs.Vectors.{whole_place}

-- the facts of a vector in reach (`InReach`) as a test
abbrev pub in_side : ℕ → ℕ → ℤ → Bool
in_side at size v =
    (int_le (neg_ℤ (pos 32)) v && int_le v (pos 31))
    && (int_le (pos 0) (whole_place at v) && int_le (whole_place at v +ℤ pos (16 + unsigned_abs v % 2)) (pos size))

abbrev pub in_reach : Format → ℕ → Vector → Bool
in_reach f mb v =
    in_side (16 * (mb % columns_of f)) (width_of f) v.x && in_side (16 * (mb / columns_of f)) (height_of f) v.y

abbrev pub zero_vector : Vector
zero_vector = record { x = pos 0; y = pos 0 }

-- a component of whole samples, from -radius to radius, in half samples
abbrev pub whole_component : ℕ → ℕ → ℤ
whole_component radius k = pos (2 * k) -ℤ pos (2 * radius)

-- the vector in column i of row j of the square of those that lead at most `radius` samples across and down
abbrev pub whole_at : ℕ → ℕ → ℕ → Vector
whole_at radius i j = record { x = whole_component radius i; y = whole_component radius j }

-- the square, by rows from the top
abbrev pub whole_vector : ℕ → ℕ → Vector
whole_vector radius k = whole_at radius (k % (2 * radius + 1)) (k / (2 * radius + 1))

unfoldable pub whole_vectors : ℕ → List Vector
whole_vectors radius = map (whole_vector radius) (range_with_len 0 ((2 * radius + 1) * (2 * radius + 1)))

-- the eight vectors half a sample away
abbrev pub moved_by : Vector → ℤ → ℤ → Vector
moved_by v x y = record { x = v.x +ℤ x; y = v.y +ℤ y }

unfoldable pub neighbours : Vector → List Vector
neighbours v =
    let m = neg_ℤ (pos 1) in
    let o = pos 0 in
    let p = pos 1 in
    moved_by v m m ∷ moved_by v o m ∷ moved_by v p m
    ∷ moved_by v m o ∷ moved_by v p o ∷ moved_by v m p ∷ moved_by v o p ∷ moved_by v p p ∷ []

-- the vector in place k of the nine around a vector, itself among them, by rows from the top
abbrev pub vector_around : Vector → ℕ → Vector
vector_around v k = moved_by v (pos (k % 3) -ℤ pos 1) (pos (k / 3) -ℤ pos 1)

-- a vector of whole samples
pub record IsEven (v : Vector) : Type 0 where
  pub x : unsigned_abs v.x % 2 ≡ 0
  pub y : unsigned_abs v.y % 2 ≡ 0

-- one that leads at most `radius` samples across and down
pub record IsWholeSample (radius : ℕ) (v : Vector) : Type 0 where
  pub even : IsEven v
  pub x : unsigned_abs v.x ≤ 2 * radius
  pub y : unsigned_abs v.y ≤ 2 * radius

-- w is v, or leads half a sample further or less far, across or down or both
pub record IsHalfAround (v w : Vector) : Type 0 where
  pub x : unsigned_abs (w.x -ℤ v.x) ≤ 1
  pub y : unsigned_abs (w.y -ℤ v.y) ≤ 1
