-- The prediction of a macroblock's vector from those before it in the slice (H.263, 5.3.7 and 6.1.1).
use Rattle.std.specs.Prelude.{ℕ, ◌+◌, ◌-◌, ◌%◌, ◌==◌, Bool, ◌||◌, List, slice_index_or, nat_lt, ℤ, pos, if◌then◌else◌}
use Rattle.std.specs.Int.{int_min, int_max}
use Rattle.h263_types.specs.declared.vector.Vector.{Vector}

-- the one in the middle
abbrev pub median : ℤ → ℤ → ℤ → ℤ
median a b c = int_max (int_min a b) (int_min (int_max a b) c)

abbrev pub no_vector : Vector
no_vector = record { x = pos 0; y = pos 0 }

-- the vector of a macroblock
abbrev pub vector_at : List Vector → ℕ → Vector
vector_at vectors k = slice_index_or vectors k no_vector

-- the candidate on the left: none outside the picture, or before the slice's first macroblock
abbrev pub left_of : List Vector → ℕ → ℕ → ℕ → Vector
left_of vectors first mb columns =
    if (mb % columns == 0) || (mb == first) then no_vector else vector_at vectors (mb - 1)

-- whether the macroblock this many places before this one lies above the picture, or before the slice's first one
abbrev pub is_outside : ℕ → ℕ → ℕ → Bool
is_outside first mb back = nat_lt mb back || nat_lt (mb - back) first

-- the candidate above: the left one in its place, where there is none
abbrev pub above_of : List Vector → ℕ → ℕ → ℕ → Vector
above_of vectors first mb columns = if is_outside first mb columns
    then left_of vectors first mb columns else vector_at vectors (mb - columns)

-- the candidate above on the right: none beyond the right edge; the left one in its place, where there is none else
abbrev pub above_right_of : List Vector → ℕ → ℕ → ℕ → Vector
above_right_of vectors first mb columns =
    if mb % columns + 1 == columns then no_vector
    else (if nat_lt mb columns || is_outside first mb (columns - 1)
    then left_of vectors first mb columns else vector_at vectors (mb - (columns - 1)))

-- component by component the median of the three
abbrev pub median_of : Vector → Vector → Vector → Vector
median_of a b c = record { x = median a.x b.x c.x; y = median a.y b.y c.y }

abbrev pub predictor_of : List Vector → ℕ → ℕ → ℕ → Vector
predictor_of vectors first mb columns = median_of (left_of vectors first mb columns)
    (above_of vectors first mb columns) (above_right_of vectors first mb columns)
