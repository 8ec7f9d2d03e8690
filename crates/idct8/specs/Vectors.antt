-- Vectors of eight numbers.
use Rattle.std.specs.Prelude.{◌≡◌, ℕ, ◌*◌, ◌<◌, ℤ, pos, unsigned_abs, List, [], ◌∷◌, length, slice_index_or}
use Rattle.idct8.specs.declared.passes.Row.{Row}
use Rattle.idct8.specs.declared.passes.Sum.{Sum}
use Rattle.idct8.specs.Ranges.{Within}

-- the square of a number
abbrev pub squared : ℤ → ℕ
squared z = unsigned_abs z * unsigned_abs z

-- lane i of a vector
abbrev pub lane : List ℤ → ℕ → ℤ
lane v i = slice_index_or v i (pos 0)

-- eight numbers from -n to n
pub record EightWithin (n : ℕ) (v : List ℤ) : Type 0 where
  pub long : length v ≡ 8
  pub within : (i : ℕ) → i < 8 → Within n (lane v i)

-- sixteen numbers from -n to n
pub record SixteenWithin (n : ℕ) (v : List ℤ) : Type 0 where
  pub long : length v ≡ 16
  pub within : (i : ℕ) → i < 16 → Within n (lane v i)

-- vector j of some rows
abbrev pub row_at : List Row → ℕ → List ℤ
row_at v j = (slice_index_or v j (record { lanes = [] })).lanes

-- vector k of some sums
abbrev pub sum_at : List Sum → ℕ → List ℤ
sum_at v k = (slice_index_or v k (record { lanes = [] })).lanes

-- eight times eight numbers from -n to n
abbrev pub RowsWithin : ℕ → List Row → Type 0
RowsWithin n v = (j : ℕ) → j < 8 → EightWithin n (row_at v j)

abbrev pub SumsWithin : ℕ → List Sum → Type 0
SumsWithin n v = (k : ℕ) → k < 8 → EightWithin n (sum_at v k)

-- the list of lane i, one number of each vector
abbrev pub list_at : List Row → ℕ → List ℤ
list_at v i = lane (row_at v 0) i ∷ lane (row_at v 1) i ∷ lane (row_at v 2) i ∷ lane (row_at v 3) i
    ∷ lane (row_at v 4) i ∷ lane (row_at v 5) i ∷ lane (row_at v 6) i ∷ lane (row_at v 7) i ∷ []

-- the same of sums
abbrev pub column_at : List Sum → ℕ → List ℤ
column_at v i = lane (sum_at v 0) i ∷ lane (sum_at v 1) i ∷ lane (sum_at v 2) i ∷ lane (sum_at v 3) i
    ∷ lane (sum_at v 4) i ∷ lane (sum_at v 5) i ∷ lane (sum_at v 6) i ∷ lane (sum_at v 7) i ∷ []

-- the lanes of two vectors in turn, of their first halves and of their last ones
abbrev pub woven_first : List ℤ → List ℤ → List ℤ
woven_first a b = lane a 0 ∷ lane b 0 ∷ lane a 1 ∷ lane b 1 ∷ lane a 2 ∷ lane b 2 ∷ lane a 3 ∷ lane b 3 ∷ []

abbrev pub woven_last : List ℤ → List ℤ → List ℤ
woven_last a b = lane a 4 ∷ lane b 4 ∷ lane a 5 ∷ lane b 5 ∷ lane a 6 ∷ lane b 6 ∷ lane a 7 ∷ lane b 7 ∷ []
