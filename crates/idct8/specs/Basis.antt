-- The basis of the transforms: M[u][x] is the cosine of frequency u at place x, in 2048ths, times the square root of 2
-- from u = 1 on, rounded to a whole number.
use Rattle.std.specs.Prelude.{ℕ, ℤ, pos, neg_ℤ, List, [], ◌∷◌, slice_index_or}

abbrev pub n : ℕ → ℤ
n k = neg_ℤ (pos k)

abbrev pub p : ℕ → ℤ
p k = pos k

-- the rows of M, from frequency 0
abbrev pub rows : List (List ℤ)
rows =
    (p 2048 ∷ p 2048 ∷ p 2048 ∷ p 2048 ∷ p 2048 ∷ p 2048 ∷ p 2048 ∷ p 2048 ∷ [])
    ∷ (p 2841 ∷ p 2408 ∷ p 1609 ∷ p 565 ∷ n 565 ∷ n 1609 ∷ n 2408 ∷ n 2841 ∷ [])
    ∷ (p 2676 ∷ p 1108 ∷ n 1108 ∷ n 2676 ∷ n 2676 ∷ n 1108 ∷ p 1108 ∷ p 2676 ∷ [])
    ∷ (p 2408 ∷ n 565 ∷ n 2841 ∷ n 1609 ∷ p 1609 ∷ p 2841 ∷ p 565 ∷ n 2408 ∷ [])
    ∷ (p 2048 ∷ n 2048 ∷ n 2048 ∷ p 2048 ∷ p 2048 ∷ n 2048 ∷ n 2048 ∷ p 2048 ∷ [])
    ∷ (p 1609 ∷ n 2841 ∷ p 565 ∷ p 2408 ∷ n 2408 ∷ n 565 ∷ p 2841 ∷ n 1609 ∷ [])
    ∷ (p 1108 ∷ n 2676 ∷ p 2676 ∷ n 1108 ∷ n 1108 ∷ p 2676 ∷ n 2676 ∷ p 1108 ∷ [])
    ∷ (p 565 ∷ n 1609 ∷ p 2408 ∷ n 2841 ∷ p 2841 ∷ n 2408 ∷ p 1609 ∷ n 565 ∷ [])
    ∷ []

-- M[u][x]
unfoldable pub basis : ℕ → ℕ → ℤ
basis u x = slice_index_or (slice_index_or rows u []) x (pos 0)
