-- What is left to be given of a unit whose coded bytes lie in the room.
use Rattle.std.specs.Prelude.{ℕ, ◌≤◌, List, [], ◌∷◌, ◌++◌, map, if◌then◌else◌}
use Rattle.payload_join.specs.declared.giving.Giving.{Giving}
use Rattle.payload_join.specs.Packet.{bytes_between}
use Rattle.payload_join.specs.Split.{split_of}
use Rattle.payload_join.specs.Fronts.{bytes_of_front}

-- a front for the first part, and one for each other
abbrev pub fronted : List ℕ → List ℕ → List (List ℕ) → List (List ℕ)
fronted first other [] = []
fronted first other (part ∷ parts) = (first ++ part) ∷ map (λ p. other ++ p) parts

abbrev pub left_of_unit : Giving → List ℕ → List (List ℕ)
left_of_unit g coded =
    if g.splits then fronted (bytes_of_front g.front) (bytes_of_front g.other) (split_of coded)
    else (bytes_of_front g.front ++ coded) ∷ []

abbrev pub left_in : Giving → List ℕ → List (List ℕ)
left_in g room = if g.is_left then left_of_unit g (bytes_between room g.at g.to) else []

-- each front fits before the coded bytes
pub record IsGiving (g : Giving) : Type 0 where
  pub front : g.front.len ≤ 77
  pub other : g.other.len ≤ 77
  pub at : 77 ≤ g.at
  pub order : g.at ≤ g.to
  pub end : g.to ≤ 65535
