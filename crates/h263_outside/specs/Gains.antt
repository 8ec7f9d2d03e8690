-- What one role has gained, for statements role by role.
use Rattle.std.specs.Prelude.{ℕ, ◌≡◌, List, ◌++◌, Option}
use Rattle.std.specs.Option.{option_map}

-- these bytes after what was written, where it is told
abbrev pub gained : Option (List ℕ) → List ℕ → Option (List ℕ)
gained written bytes = option_map (λ old. old ++ bytes) written

-- a prefix of the text was gained, and the rest of it is still to come
pub record Before (rest all : List ℕ) (old new : Option (List ℕ)) : Type 0 where
  pub front : List ℕ
  pub whole : front ++ rest ≡ all
  pub gains : new ≡ gained old front

-- some prefix of the text was gained
pub record Front (all : List ℕ) (old new : Option (List ℕ)) : Type 0 where
  pub rest : List ℕ
  pub so_far : Before rest all old new
