-- What holds of each of eight vectors that stand in a list.
use Rattle.std.proofs.Common.{refl, ◌≡◌, ◌≢◌, ◌∙◌, ap, sym, subst, arith, ℕ, ◌+◌, ◌<◌, ℤ, List, [], ◌∷◌, length, length-set, slice_set, get_or-set_same, get_or-set_other, below_more}
use Rattle.idct8.specs.declared.passes.Row.{Row}
use Rattle.idct8.specs.declared.passes.Sum.{Sum}
use Rattle.idct8.specs.Vectors.{lane, list_at, row_at, sum_at}
use Rattle.idct8.proofs.Sums.{below_eight}

abbrev pub row_with : List ℤ → Row
row_with v = record { lanes = v }

abbrev pub sum_with : List ℤ → Sum
sum_with v = record { lanes = v }

module _ {v0 v1 v2 v3 v4 v5 v6 v7 : List ℤ} (P : ℕ → List ℤ → Type 0) (p0 : P 0 v0) (p1 : P 1 v1) (p2 : P 2 v2)
    (p3 : P 3 v3) (p4 : P 4 v4) (p5 : P 5 v5) (p6 : P 6 v6) (p7 : P 7 v7) where
  pub each_sum : (k : ℕ) → k < 8
      → P k (sum_at (sum_with v0 ∷ sum_with v1 ∷ sum_with v2 ∷ sum_with v3 ∷ sum_with v4 ∷ sum_with v5 ∷ sum_with v6 ∷
      sum_with v7 ∷ []) k)
  each_sum = below_eight (λ k. P k
      (sum_at (sum_with v0 ∷ sum_with v1 ∷ sum_with v2 ∷ sum_with v3 ∷ sum_with v4 ∷ sum_with v5 ∷ sum_with v6 ∷
      sum_with v7 ∷ []) k)) p0 p1 p2 p3 p4 p5 p6 p7

-- ---- rows that are put into a list

row_same : (rows : List Row) (k : ℕ) (v : List ℤ) → k < length rows → row_at (slice_set rows k (row_with v)) k ≡ v
row_same rows k v h = ap (λ (r : Row). r.lanes) (get_or-set_same rows k (row_with v) (row_with []) h)

row_other : (rows : List Row) (k j : ℕ) (v : List ℤ) → j ≢ k → row_at (slice_set rows k (row_with v)) j ≡ row_at rows j
row_other rows k j v h = ap (λ (r : Row). r.lanes) (get_or-set_other rows k j (row_with v) (row_with []) h)

both : (Q : List ℤ → List ℤ → Type 0) {x x' y y' : List ℤ} → x ≡ x' → y ≡ y' → Q x' y' → Q x y
both Q {x} {x'} {y} {y'} e f q = subst (λ (u : List ℤ). Q u y) (sym e) (subst (λ (u : List ℤ). Q x' u) (sym f) q)

-- one more row
pub one_row : (P : ℕ → List ℤ → Type 0) (rows : List Row) (k : ℕ) (v : List ℤ) → k < length rows
    → ((j : ℕ) → j < k → P j (row_at rows j)) → P k v →
    (j : ℕ) → j < k + 1 → P j (row_at (slice_set rows k (row_with v)) j)
one_row P rows k v room before own =
    below_more (λ j. P j (row_at (slice_set rows k (row_with v)) j)) k
    (λ j hj. subst (P j) (sym (row_other rows k j v (omega (arith, hj)))) (before j hj))
    (subst (P k) (sym (row_same rows k v room)) own)

-- one more row of each of two lists
pub one_row_of_each : (P : ℕ → List ℤ → List ℤ → Type 0) (a b : List Row) (k : ℕ) (v w : List ℤ) → k < length a
    → k < length b → ((j : ℕ) → j < k → P j (row_at a j) (row_at b j)) → P k v w →
    (j : ℕ) → j < k + 1 → P j (row_at (slice_set a k (row_with v)) j) (row_at (slice_set b k (row_with w)) j)
one_row_of_each P a b k v w room_a room_b before own =
    below_more (λ j. P j (row_at (slice_set a k (row_with v)) j) (row_at (slice_set b k (row_with w)) j)) k
    (λ j hj. both (P j) (row_other a k j v (omega (arith, hj))) (row_other b k j w (omega (arith, hj))) (before j hj))
    (both (P k) (row_same a k v room_a) (row_same b k w room_b) own)

-- two more rows, at places that f and g tell
pub two_rows : (P : ℕ → List ℤ → List ℤ → Type 0) (f g : ℕ → ℕ) (rows : List Row) (k : ℕ) (v w : List ℤ)
    → f k < length rows → g k < length (slice_set rows (f k) (row_with v)) → f k ≢ g k →
    ((j : ℕ) → j < k → (f j ≢ f k) × (f j ≢ g k) × (g j ≢ f k) × (g j ≢ g k))
    → ((j : ℕ) → j < k → P j (row_at rows (f j)) (row_at rows (g j))) → P k v w →
    (j : ℕ) → j < k + 1 → P j (row_at (slice_set (slice_set rows (f k) (row_with v)) (g k) (row_with w)) (f j))
    (row_at (slice_set (slice_set rows (f k) (row_with v)) (g k) (row_with w)) (g j))
two_rows P f g rows k v w room_f room_g differ apart before own =
    let once : List Row = slice_set rows (f k) (row_with v) in
    below_more (λ j. P j (row_at (slice_set once (g k) (row_with w)) (f j)) (row_at (slice_set once (g k) (row_with w))
    (g j))) k
    (λ j hj. both (P j)
    (row_other once (g k) (f j) w (apart j hj).1 ∙ row_other rows (f k) (f j) v (apart j hj).0)
    (row_other once (g k) (g j) w (apart j hj).3 ∙ row_other rows (f k) (g j) v (apart j hj).2)
    (before j hj))
    (both (P k) (row_other once (g k) (f k) w differ ∙ row_same rows (f k) v room_f) (row_same once (g k) w room_g) own)

-- the first and the fifth one in the place of two others
pub first_and_middle : (P : ℕ → List ℤ → Type 0) (rows : List Row) (v w : List ℤ) → length rows ≡ 8
    → ((j : ℕ) → j < 8 → P j (row_at rows j)) → P 0 v → P 4 w →
    (j : ℕ) → j < 8 → P j (row_at (slice_set (slice_set rows 0 (row_with v)) 4 (row_with w)) j)
first_and_middle P rows v w long before p q =
    let once : List Row = slice_set rows 0 (row_with v) in
    let other = λ (j : ℕ) (a : j ≢ 0) (b : j ≢ 4) (h : j < 8). subst (P j)
    (sym (row_other once 4 j w b ∙ row_other rows 0 j v a)) (before j h) in
    below_eight (λ j. P j (row_at (slice_set once 4 (row_with w)) j))
    (subst (P 0) (sym (row_other once 4 0 w (omega arith) ∙ row_same rows 0 v (omega (arith, long)))) p)
    (other 1 (omega arith) (omega arith) (omega arith)) (other 2 (omega arith) (omega arith) (omega arith))
    (other 3 (omega arith) (omega arith) (omega arith))
    (subst (P 4) (sym (row_same once 4 w (omega (arith, long, length-set rows 0 (row_with v))))) q)
    (other 5 (omega arith) (omega arith) (omega arith)) (other 6 (omega arith) (omega arith) (omega arith))
    (other 7 (omega arith) (omega arith) (omega arith))

-- lane j of the list of lane i
pub listed : (rows : List Row) (i j : ℕ) → j < 8 → lane (list_at rows i) j ≡ lane (row_at rows j) i
listed rows i = below_eight (λ j. lane (list_at rows i) j ≡ lane (row_at rows j) i) refl refl refl refl refl refl refl
    refl

-- the others stay
pub sum_other : (sums : List Sum) (k j : ℕ) (v : List ℤ) → j ≢ k → sum_at (slice_set sums k (sum_with v)) j
    ≡ sum_at sums j
sum_other sums k j v h = ap (λ (s : Sum). s.lanes) (get_or-set_other sums k j (sum_with v) (sum_with []) h)

-- one more vector of sums
pub one_sum : (P : ℕ → List ℤ → Type 0) (sums : List Sum) (k : ℕ) (v : List ℤ) → k < length sums
    → ((j : ℕ) → j < k → P j (sum_at sums j)) → P k v →
    (j : ℕ) → j < k + 1 → P j (sum_at (slice_set sums k (sum_with v)) j)
one_sum P sums k v room before own =
    below_more (λ j. P j (sum_at (slice_set sums k (sum_with v)) j)) k
    (λ j hj. subst (P j) (sym (sum_other sums k j v (omega (arith, hj)))) (before j hj))
    (subst (P k) (sym (ap (λ (s : Sum). s.lanes) (get_or-set_same sums k (sum_with v) (sum_with []) room))) own)
