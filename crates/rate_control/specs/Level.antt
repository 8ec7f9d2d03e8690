-- How far the pictures of a stream lie above a target in bytes per picture.
use Rattle.std.specs.Prelude.{ℕ, ◌+◌, ◌-◌, ◌*◌, ◌/◌, ◌≤◌, min, max, List, [], ◌∷◌, map, length, sum}
use Rattle.std.specs.List.{AllZip}

-- the parts of a list that reach to its end, but for the empty one
abbrev pub suffixes : List ℕ → List (List ℕ)
suffixes [] = []
suffixes (size ∷ sizes) = (size ∷ sizes) ∷ suffixes sizes

-- the sum over a list of size less target, and 0 where that is negative
abbrev pub excess : ℕ → List ℕ → ℕ
excess target sizes = sum sizes - length sizes * target

-- the greatest of 0 and these numbers
abbrev pub greatest_or_0 : List ℕ → ℕ
greatest_or_0 [] = 0
greatest_or_0 (n ∷ ns) = max n (greatest_or_0 ns)

-- The bucket level after pictures of these sizes, oldest first: the greatest of 0 and, for each
-- suffix of the list that isn't empty, the sum over it of size less target.
unfoldable pub level_of : ℕ → List ℕ → ℕ
level_of target sizes = greatest_or_0 (map (excess target) (suffixes sizes))

-- the quantiser after pictures of these sizes: four steps coarser for each target of bytes in the
-- bucket
abbrev pub bucket_quant : ℕ → ℕ → List ℕ → ℕ
bucket_quant target first sizes = min (first + 4 * level_of target sizes / target) 31

-- as many sizes, and each of them at least what it was
abbrev pub NoneShrinks : List ℕ → List ℕ → Type 0
NoneShrinks before after = AllZip (λ x y. x ≤ y) before after
