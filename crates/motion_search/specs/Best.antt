-- The best vector of a macroblock. The choice is this project's own: H.263 leaves it to the coder.
use Rattle.std.specs.Prelude.{◌≡◌, ℕ, List, map}
use Rattle.std.specs.List.{filter}
use Rattle.h263_types.specs.declared.vector.Vector.{Vector}
use Rattle.h263_types.specs.Vectors.{InReach}
use Rattle.h263_planes.specs.Picture.{Picture}
use Rattle.motion_search.specs.declared.candidate.Candidate.{Candidate}
use Rattle.motion_search.specs.Order.{least}
use Rattle.motion_search.specs.Cost.{samples_of, cost_of, candidate_of}
use Rattle.motion_search.specs.Vectors.{in_reach, zero_vector, whole_vectors, neighbours, IsWholeSample}

-- those of some vectors that are in reach, with their costs
abbrev pub candidates_of : List ℕ → Picture → ℕ → ℕ → List Vector → List Candidate
candidates_of block reference mb rounding vectors =
    map (candidate_of block reference mb rounding) (filter (in_reach reference.format mb) vectors)

-- the first of the vectors of whole samples within the radius; the zero vector is one of them
unfoldable pub best_whole : List ℕ → Picture → ℕ → ℕ → ℕ → Candidate
best_whole block reference mb radius rounding =
    least (candidate_of block reference mb rounding zero_vector)
    (candidates_of block reference mb rounding (whole_vectors radius))

-- the first of a candidate and its neighbours
unfoldable pub best_near : List ℕ → Picture → ℕ → ℕ → Candidate → Candidate
best_near block reference mb rounding best =
    least best (candidates_of block reference mb rounding (neighbours best.vector))

-- the best vector of macroblock mb of a frame, and its cost
abbrev pub best_vector : Picture → Picture → ℕ → ℕ → ℕ → Candidate
best_vector frame reference mb radius rounding =
    let block = samples_of frame mb in
    best_near block reference mb rounding (best_whole block reference mb radius rounding)

-- a vector in reach with its cost
pub record IsCandidate (block : List ℕ) (reference : Picture) (mb rounding : ℕ) (c : Candidate) : Type 0 where
  pub reach : InReach reference.format mb c.vector.x c.vector.y
  pub cost : c.cost ≡ cost_of block reference mb rounding c.vector

-- one of whole samples within the radius
pub record IsWholeCandidate
    (block : List ℕ) (reference : Picture) (mb radius rounding : ℕ) (c : Candidate) : Type 0 where
  pub whole : IsWholeSample radius c.vector
  pub candidate : IsCandidate block reference mb rounding c
