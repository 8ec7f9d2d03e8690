-- The vectors among which the search chooses, as lists and by what is true of them.
use Rattle.std.proofs.Common.{◌≡◌, refl, sym, ap, subst, ◌∙◌, arith, true≢false, ℕ, suc, ◌+◌, ◌*◌, ◌/◌, ◌%◌, ◌<◌, ◌≤◌, List, [], ◌∷◌, map, length, Bool, true, false, cond, ◌&&◌, ℤ, pos, negsuc, ◌+ℤ◌, ◌-ℤ◌, ◌≤ℤ◌, neg_ℤ, unsigned_abs, int_le, lit≤, lit<, zero, ◌⊎◌, inl, inr, ◌-◌}
use Rattle.std.proofs.lemmas.Int.{ints}
use Rattle.std.specs.List.{All, filter}
use Rattle.std.proofs.lemmas.Bool.Decides.{Decides-and}
use Rattle.std.specs.Bool.{Decides}
use Rattle.std.proofs.lemmas.Bool.{cases_order}
use Rattle.std.proofs.lemmas.List.Elements.{All-nil, All-cons, All-head, All-tail, All-filter, filter_passes, All-get_or, All-from_get_or, All-from_recursion}
use Rattle.std.proofs.Math.Nat.{mod-lt, div-lt_iff_lt-mul}
use Rattle.std.proofs.lemmas.Nat.{mul-add-lt, div-mul-add, mod-mul-add}
use Rattle.std.proofs.lemmas.List.FromFn.{length-map-range_with_len, get_or-map-range_with_len}
use Rattle.h263_types.specs.declared.format.Format.{Format}
use Rattle.h263_types.specs.declared.vector.Vector.{Vector}
use Rattle.h263_types.specs.declared.format.Format.TheVariants.{SubQcif, Qcif, Cif}
use Rattle.h263_types.specs.Sizes.{width_of, height_of, columns_of, mbs_of}
use Rattle.h263_types.specs.Vectors.{whole_place, InSide, InReach}
use Rattle.motion_search.specs.Vectors.{in_side, in_reach, whole_component, whole_at, whole_vector, whole_vectors, moved_by, vector_around, neighbours, zero_vector, IsEven, IsWholeSample, IsHalfAround}

-- ---- lists

-- a fact of those that pass a test
pub passed : {X : Type 0} (p : X → Bool) (P : X → Type 0) (xs : List X) → All (λ x. p x ≡ true → P x) xs
    → All P (filter p xs)
passed p P xs h = λ k d lt. All-filter p (λ x. p x ≡ true → P x) xs h k d lt (filter_passes p xs k d lt)

pub from_passed : {X : Type 0} (p : X → Bool) (P : X → Type 0) (xs : List X) → All P (filter p xs)
    → All (λ x. p x ≡ true → P x) xs
from_passed p P [] h = All-nil (λ x. p x ≡ true → P x)
from_passed p P (x ∷ xs) h = by (from_passed p P xs) (p x) refl
  where
    by : (All P (filter p xs) → All (λ x. p x ≡ true → P x) xs) → (t : Bool) → p x ≡ t
        → All (λ x. p x ≡ true → P x) (x ∷ xs)
    by rest true e =
        let l : All P (x ∷ filter p xs) = subst (λ (b : Bool). All P (cond b (x ∷ filter p xs) (filter p xs))) e h in
        All-cons (λ x. p x ≡ true → P x) x xs (λ _. All-head P x (filter p xs) l) (rest (All-tail P x (filter p xs) l))
    by rest false e =
        let l : All P (filter p xs) = subst (λ (b : Bool). All P (cond b (x ∷ filter p xs) (filter p xs))) e h in
        All-cons (λ x. p x ≡ true → P x) x xs (λ yes. absurd (true≢false (sym yes ∙ e))) (rest l)

pub from_map : {X Y : Type 0} (P : Y → Type 0) (f : X → Y) (xs : List X) → All P (map f xs) → All (λ x. P (f x)) xs
from_map P f [] h = All-nil (λ x. P (f x))
from_map P f (x ∷ xs) h = All-cons (λ x. P (f x)) x xs (All-head P (f x) (map f xs) h)
    (from_map P f xs (All-tail P (f x) (map f xs) h))

-- ---- the vectors of whole samples

component_even : (radius k : ℕ) → unsigned_abs (whole_component radius k) % 2 ≡ 0
component_even radius k = by (whole_component radius k) refl
  where
    by : (z : ℤ) → whole_component radius k ≡ z → unsigned_abs z % 2 ≡ 0
    by (pos n) e = omega (arith, ints, e)
    by (negsuc n) e = omega (arith, ints, e)

component_within : (radius k : ℕ) → k < 2 * radius + 1 → unsigned_abs (whole_component radius k) ≤ 2 * radius
component_within radius k h = omega (arith, ints)

abbrev place_of : ℕ → ℤ → ℕ
place_of radius z = unsigned_abs (z +ℤ pos (2 * radius)) / 2

place_small : (radius : ℕ) (z : ℤ) → unsigned_abs z ≤ 2 * radius → place_of radius z < 2 * radius + 1
place_small radius z h = omega (arith, ints)

place_leads : (radius : ℕ) (z : ℤ) → unsigned_abs z % 2 ≡ 0 → unsigned_abs z ≤ 2 * radius
    → whole_component radius (place_of radius z) ≡ z
place_leads radius (pos n) e h = omega (arith, ints)
place_leads radius (negsuc n) e h = omega (arith, ints)

pub whole_is_whole : (radius k : ℕ) → k < (2 * radius + 1) * (2 * radius + 1)
    → IsWholeSample radius (whole_vector radius k)
whole_is_whole radius k h =
    let some : 0 < 2 * radius + 1 = omega arith in
    let column : k % (2 * radius + 1) < 2 * radius + 1 = mod-lt k some in
    let row : k / (2 * radius + 1) < 2 * radius + 1 =
    (div-lt_iff_lt-mul {k = 2 * radius + 1} {x = k} {y = 2 * radius + 1} some).1 h in
    record {
      even = record {
        x = component_even radius (k % (2 * radius + 1));
        y = component_even radius (k / (2 * radius + 1));
      };
      x = component_within radius (k % (2 * radius + 1)) column;
      y = component_within radius (k / (2 * radius + 1)) row;
    }

-- vectors with equal components are the same
pub same_vectors : (x x' y y' : ℤ) → x ≡ x' → y ≡ y' → let v : Vector = record { x = x; y = y } in
    let w : Vector = record { x = x'; y = y' } in v ≡ w
same_vectors x x' y y' hx hy = cc

abbrev index_of : ℕ → Vector → ℕ
index_of radius v = place_of radius v.y * (2 * radius + 1) + place_of radius v.x

index_small : (radius : ℕ) (v : Vector) → IsWholeSample radius v
    → index_of radius v < (2 * radius + 1) * (2 * radius + 1)
index_small radius v h =
    mul-add-lt (place_of radius v.y) (2 * radius + 1) (place_of radius v.x) (2 * radius + 1)
    (place_small radius v.y h.y) (place_small radius v.x h.x)

index_leads : (radius : ℕ) (v : Vector) → IsWholeSample radius v → whole_vector radius (index_of radius v) ≡ v
index_leads radius v h =
    let small = place_small radius v.x h.x in
    same_vectors _ v.x _ v.y
    (ap (whole_component radius) (mod-mul-add (place_of radius v.y) (2 * radius + 1) (place_of radius v.x) small)
    ∙ place_leads radius v.x h.even.x h.x)
    (ap (whole_component radius) (div-mul-add (place_of radius v.y) (2 * radius + 1) (place_of radius v.x) small)
    ∙ place_leads radius v.y h.even.y h.y)

-- what is true of each vector of whole samples within the radius is true of those of the list
pub all_whole : (P : Vector → Type 0) (radius : ℕ) → ((v : Vector) → IsWholeSample radius v → P v)
    → All P (whole_vectors radius)
unfolding whole_vectors
all_whole P radius h =
    let n : ℕ = (2 * radius + 1) * (2 * radius + 1) in
    let long : length (whole_vectors radius) ≡ n = length-map-range_with_len (whole_vector radius) 0 n in
    All-from_get_or P (whole_vectors radius) zero_vector
    (λ k hk. let small : k < n = omega arith in
    subst P (sym (get_or-map-range_with_len (whole_vector radius) 0 n k k zero_vector small (omega arith)))
    (h (whole_vector radius k) (whole_is_whole radius k small)))

pub whole_one : (P : Vector → Type 0) (radius : ℕ) (v : Vector) → IsWholeSample radius v → All P (whole_vectors radius)
    → P v
unfolding whole_vectors
whole_one P radius v h all =
    let n : ℕ = (2 * radius + 1) * (2 * radius + 1) in
    let k : ℕ = index_of radius v in
    let small : k < n = index_small radius v h in
    let long : length (whole_vectors radius) ≡ n = length-map-range_with_len (whole_vector radius) 0 n in
    subst P (get_or-map-range_with_len (whole_vector radius) 0 n k k zero_vector small (omega arith)
    ∙ index_leads radius v h)
    (All-get_or P (whole_vectors radius) k zero_vector (omega arith) all)

-- ---- reach

le_decides : (x y : ℤ) → Decides (int_le x y) (x ≤ℤ y)
le_decides x y = (λ e. grind (arith, ints), λ h. grind (arith, ints))

side_is : (at size : ℕ) (v : ℤ) → Decides (in_side at size v) ((neg_ℤ (pos 32) ≤ℤ v) × (v ≤ℤ pos 31) × InSide at size v)
side_is at size v =
    let d = Decides-and (int_le (neg_ℤ (pos 32)) v && int_le v (pos 31)) _
    (Decides-and (int_le (neg_ℤ (pos 32)) v) (int_le v (pos 31)) (le_decides _ _) (le_decides _ _))
    (Decides-and (int_le (pos 0) (whole_place at v)) (int_le (whole_place at v +ℤ pos (16 + unsigned_abs v % 2))
    (pos size)) (le_decides _ _) (le_decides _ _)) in
    (λ e. let h = d.0 e in (h.0.0, h.0.1, h.1), λ h. d.1 ((h.0, h.1), h.2))

pub reach_is : (f : Format) (mb : ℕ) (v : Vector) → Decides (in_reach f mb v) (InReach f mb v.x v.y)
reach_is f mb v = Decides-and (in_side (16 * (mb % columns_of f)) (width_of f) v.x)
    (in_side (16 * (mb / columns_of f)) (height_of f) v.y) (side_is _ _ v.x) (side_is _ _ v.y)

columns_fit : (f : Format) (mb : ℕ) → mb < mbs_of f → (16 * (mb % columns_of f) + 16 ≤ width_of f)
    × (16 * (mb / columns_of f) + 16 ≤ height_of f)
columns_fit SubQcif mb h = (omega arith, omega arith)
columns_fit Qcif mb h = (omega arith, omega arith)
columns_fit Cif mb h = (omega arith, omega arith)

zero_in : (at size : ℕ) → at + 16 ≤ size → (neg_ℤ (pos 32) ≤ℤ pos 0) × (pos 0 ≤ℤ pos 31) × InSide at size (pos 0)
zero_in at size h = (omega (arith, ints), omega (arith, ints), (omega (arith, ints), omega (arith, ints)))

-- the zero vector is in reach everywhere
pub zero_reaches : (f : Format) (mb : ℕ) → mb < mbs_of f → InReach f mb (pos 0) (pos 0)
zero_reaches f mb h = let fit = columns_fit f mb h in (zero_in _ _ fit.0, zero_in _ _ fit.1)

-- the zero vector is in each square
pub zero_is_whole : (radius : ℕ) → IsWholeSample radius zero_vector
zero_is_whole radius = record { even = record { x = refl; y = refl }; x = omega arith; y = omega arith }

-- ---- the neighbours

near_by : (v : Vector) (x y : ℤ) → unsigned_abs x ≤ 1 → unsigned_abs y ≤ 1 → IsHalfAround v (moved_by v x y)
near_by v x y hx hy = record { x = omega (arith, ints, hx); y = omega (arith, ints, hy) }

pub all_near : (P : Vector → Type 0) (v : Vector) → ((w : Vector) → IsHalfAround v w → P w) → All P (neighbours v)
unfolding neighbours
all_near P v h =
    let m : ℤ = neg_ℤ (pos 1) in
    let o : ℤ = pos 0 in
    let p : ℤ = pos 1 in
    let at = λ (x y : ℤ) (hx : unsigned_abs x ≤ 1) (hy : unsigned_abs y ≤ 1). h (moved_by v x y)
    (near_by v x y hx hy) in
    All-from_recursion P (neighbours v) (
      at m m (lit≤ tt) (lit≤ tt),
      (
        at o m (lit≤ tt) (lit≤ tt),
        (
          at p m (lit≤ tt) (lit≤ tt),
          (
            at m o (lit≤ tt) (lit≤ tt),
            (
              at p o (lit≤ tt) (lit≤ tt),
              (at m p (lit≤ tt) (lit≤ tt), (at o p (lit≤ tt) (lit≤ tt), (at p p (lit≤ tt) (lit≤ tt), tt))),
            ),
          ),
        ),
      ),
    )

stays : (x d : ℤ) → d ≡ pos 0 → x +ℤ d ≡ x
stays x d e = omega (arith, ints, e)

one_by : (P : Vector → Type 0) (v : Vector) (x y : ℤ) → unsigned_abs x ≤ 1 → unsigned_abs y ≤ 1 → P v
    → All P (neighbours v) → P (moved_by v x y)
unfolding neighbours
one_by P v (pos zero) (pos zero) hx hy h all = subst P (same_vectors v.x _ v.y _ (sym (stays v.x (pos 0) refl))
    (sym (stays v.y (pos 0) refl))) h
one_by P v (negsuc zero) (negsuc zero) hx hy h all = All-get_or P (neighbours v) 0 v (lit< tt) all
one_by P v (pos zero) (negsuc zero) hx hy h all = All-get_or P (neighbours v) 1 v (lit< tt) all
one_by P v (pos (suc zero)) (negsuc zero) hx hy h all = All-get_or P (neighbours v) 2 v (lit< tt) all
one_by P v (negsuc zero) (pos zero) hx hy h all = All-get_or P (neighbours v) 3 v (lit< tt) all
one_by P v (pos (suc zero)) (pos zero) hx hy h all = All-get_or P (neighbours v) 4 v (lit< tt) all
one_by P v (negsuc zero) (pos (suc zero)) hx hy h all = All-get_or P (neighbours v) 5 v (lit< tt) all
one_by P v (pos zero) (pos (suc zero)) hx hy h all = All-get_or P (neighbours v) 6 v (lit< tt) all
one_by P v (pos (suc zero)) (pos (suc zero)) hx hy h all = All-get_or P (neighbours v) 7 v (lit< tt) all
one_by P v (pos (suc (suc x))) y hx hy h all = absurd (omega arith)
one_by P v (negsuc (suc x)) y hx hy h all = absurd (omega arith)
one_by P v (pos zero) (pos (suc (suc y))) hx hy h all = absurd (omega arith)
one_by P v (pos zero) (negsuc (suc y)) hx hy h all = absurd (omega arith)
one_by P v (pos (suc zero)) (pos (suc (suc y))) hx hy h all = absurd (omega arith)
one_by P v (pos (suc zero)) (negsuc (suc y)) hx hy h all = absurd (omega arith)
one_by P v (negsuc zero) (pos (suc (suc y))) hx hy h all = absurd (omega arith)
one_by P v (negsuc zero) (negsuc (suc y)) hx hy h all = absurd (omega arith)

led_there : (x x' : ℤ) → x +ℤ (x' -ℤ x) ≡ x'
led_there x x' = omega (arith, ints)

pub near_one : (P : Vector → Type 0) (v w : Vector) → IsHalfAround v w → P v → All P (neighbours v) → P w
near_one P v w near h all =
    subst P (same_vectors _ w.x _ w.y (led_there v.x w.x) (led_there v.y w.y))
    (one_by P v (w.x -ℤ v.x) (w.y -ℤ v.y) near.x near.y h all)

-- ---- the nine around a vector

around_index : (z : ℤ) → unsigned_abs z ≤ 1 → (unsigned_abs (z +ℤ pos 1) < 3)
    × (pos (unsigned_abs (z +ℤ pos 1)) -ℤ pos 1 ≡ z)
around_index z h = (omega (arith, ints, h), omega (arith, ints, h))

-- what is true of the nine in reach is true of each near vector
pub near_around : (P : Vector → Type 0) (v w : Vector) → IsHalfAround v w → ((k : ℕ) → k < 9 → P (vector_around v k))
    → P w
near_around P v w near all =
    let i : ℕ = unsigned_abs ((w.x -ℤ v.x) +ℤ pos 1) in
    let j : ℕ = unsigned_abs ((w.y -ℤ v.y) +ℤ pos 1) in
    let across = around_index (w.x -ℤ v.x) near.x in
    let down = around_index (w.y -ℤ v.y) near.y in
    let small : j * 3 + i < 9 = omega (arith, across.0, down.0) in
    subst P
    (same_vectors _ w.x _ w.y
    (ap (λ (k : ℕ). v.x +ℤ (pos k -ℤ pos 1)) (mod-mul-add j 3 i across.0) ∙ ap (λ (z : ℤ). v.x +ℤ z) across.1
    ∙ led_there v.x w.x)
    (ap (λ (k : ℕ). v.y +ℤ (pos k -ℤ pos 1)) (div-mul-add j 3 i across.0) ∙ ap (λ (z : ℤ). v.y +ℤ z) down.1
    ∙ led_there v.y w.y))
    (all (j * 3 + i) small)

-- what is true of the vector itself and of its eight neighbours
pub near_others : (P : Vector → Type 0) (v w : Vector) → IsHalfAround v w → P v
    → ((n : ℕ) → n < 8 → P (vector_around v (n + n / 4)))
    → P w
near_others P v w near own others = near_around P v w near (λ k hk. by k hk (cases_order k 4))
  where
    by : (k : ℕ) → k < 9 → (k ≡ 4) ⊎ ((k < 4) ⊎ (4 < k)) → P (vector_around v k)
    by k hk (inl e) = subst (λ (m : ℕ). P (vector_around v m)) (sym e)
        (subst P (same_vectors v.x _ v.y _ (sym (stays v.x (pos 0) refl)) (sym (stays v.y (pos 0) refl))) own)
    by k hk (inr (inl above)) = let e : k + k / 4 ≡ k = omega (arith, above) in
        subst (λ (m : ℕ). P (vector_around v m)) e (others k (omega (arith, above)))
    by k hk (inr (inr below)) = let e : (k - 1) + (k - 1) / 4 ≡ k = omega (arith, hk, below) in
        subst (λ (m : ℕ). P (vector_around v m)) e (others (k - 1) (omega (arith, hk, below)))

pub around_is_near : (v : Vector) (k : ℕ) → k < 9 → IsHalfAround v (vector_around v k)
around_is_near v k h = record { x = omega (arith, ints); y = omega (arith, ints) }

-- ---- the square of whole samples by its columns and rows

pub at_is_whole : (radius i j : ℕ) → i < 2 * radius + 1 → j < 2 * radius + 1
    → IsWholeSample radius (whole_at radius i j)
at_is_whole radius i j hi hj =
    record {
      even = record { x = component_even radius i; y = component_even radius j };
      x = component_within radius i hi;
      y = component_within radius j hj;
    }

pub at_is_even : (radius i j : ℕ) → IsEven (whole_at radius i j)
at_is_even radius i j = record { x = component_even radius i; y = component_even radius j }

-- what is true of each place of the square is true of the vectors of whole samples
pub whole_from_places : (P : Vector → Type 0) (radius : ℕ) (v : Vector) → IsWholeSample radius v
    → ((i j : ℕ) → i < 2 * radius + 1 → j < 2 * radius + 1 → P (whole_at radius i j)) → P v
whole_from_places P radius v h all =
    subst P
    (same_vectors (whole_component radius (place_of radius v.x)) v.x (whole_component radius (place_of radius v.y)) v.y
    (place_leads radius v.x h.even.x h.x) (place_leads radius v.y h.even.y h.y))
    (all (place_of radius v.x) (place_of radius v.y) (place_small radius v.x h.x) (place_small radius v.y h.y))
