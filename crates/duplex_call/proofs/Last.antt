-- The last four of a list with one more.
use Rattle.std.proofs.Common.{◌≡◌, ℕ, ◌+◌, ◌-◌, refl, ap, ◌∙◌, arith, List, [], ◌∷◌, ◌++◌, length, length-append, Option, Some, None}
use Rattle.std.specs.Prelude.{drop, zero, suc, is_some, true, false, slice_index_or}
use Rattle.duplex_call.specs.Waiting.{last_four, in_four_places}

-- with one more, in places: the first that is free, or the last, where all go one down
abbrev pub placed_more : {X : Type 0} → List X → X → List (Option X)
placed_more [] x = Some x ∷ None ∷ None ∷ None ∷ []
placed_more (a ∷ []) x = Some a ∷ Some x ∷ None ∷ None ∷ []
placed_more (a ∷ b ∷ []) x = Some a ∷ Some b ∷ Some x ∷ None ∷ []
placed_more (a ∷ b ∷ c ∷ []) x = Some a ∷ Some b ∷ Some c ∷ Some x ∷ []
placed_more (a ∷ b ∷ c ∷ d ∷ more) x = Some b ∷ Some c ∷ Some d ∷ Some x ∷ []

module _ {X : Type 0} where
  -- behind k elements there are four: with one more there are four behind k + 1
  four : (k : ℕ) (xs : List X) (x : X) → length xs ≡ k + 4 → in_four_places (drop (k + 1) (xs ++ x ∷ []))
      ≡ placed_more (drop k xs) x
  four zero [] x long = absurd (omega (arith, long))
  four zero (a ∷ []) x long = absurd (omega (arith, long))
  four zero (a ∷ b ∷ []) x long = absurd (omega (arith, long))
  four zero (a ∷ b ∷ c ∷ []) x long = absurd (omega (arith, long))
  four zero (a ∷ b ∷ c ∷ d ∷ []) x long = refl
  four zero (a ∷ b ∷ c ∷ d ∷ e ∷ rest) x long = absurd (omega (arith, long))
  four (suc k) [] x long = absurd (omega (arith, long))
  four (suc k) (a ∷ xs) x long = rw (suc_more k) (four k xs x (omega (arith, long)))
    where
      suc_more : (k : ℕ) → suc k + 1 ≡ suc (k + 1)
      suc_more k = omega arith

  pub last_more : (xs : List X) (x : X) → in_four_places (last_four (xs ++ x ∷ [])) ≡ placed_more (last_four xs) x
  last_more [] x = refl
  last_more (a ∷ []) x = refl
  last_more (a ∷ b ∷ []) x = refl
  last_more (a ∷ b ∷ c ∷ []) x = refl
  last_more (a ∷ b ∷ c ∷ d ∷ rest) x =
      let xs : List X = a ∷ b ∷ c ∷ d ∷ rest in
      let now : length (xs ++ x ∷ []) - 4 ≡ (length xs - 4) + 1 = omega (arith, length-append xs (x ∷ [])) in
      ap (λ (k : ℕ). in_four_places (drop k (xs ++ x ∷ []))) now ∙ four (length xs - 4) xs x (omega arith)

  -- the first place that is free takes it
  pub free_0 : (m : List X) (x : X) → is_some (slice_index_or (in_four_places m) 0 None) ≡ false
      → Some x ∷ None ∷ None ∷ None ∷ [] ≡ placed_more m x
  free_0 [] x free = refl
  free_0 (a ∷ []) x free = cc
  free_0 (a ∷ b ∷ []) x free = cc
  free_0 (a ∷ b ∷ c ∷ []) x free = cc
  free_0 (a ∷ b ∷ c ∷ d ∷ more) x free = cc

  pub free_1 : (m : List X) (x : X) → is_some (slice_index_or (in_four_places m) 0 None) ≡ true
      → is_some (slice_index_or (in_four_places m) 1 None) ≡ false
      → slice_index_or (in_four_places m) 0 None ∷ Some x ∷ None ∷ None ∷ [] ≡ placed_more m x
  free_1 [] x taken free = cc
  free_1 (a ∷ []) x taken free = refl
  free_1 (a ∷ b ∷ []) x taken free = cc
  free_1 (a ∷ b ∷ c ∷ []) x taken free = cc
  free_1 (a ∷ b ∷ c ∷ d ∷ more) x taken free = cc

  pub free_2 : (m : List X) (x : X) → is_some (slice_index_or (in_four_places m) 1 None) ≡ true
      → is_some (slice_index_or (in_four_places m) 2 None) ≡ false
      → slice_index_or (in_four_places m) 0 None ∷ slice_index_or (in_four_places m) 1 None ∷ Some x ∷ None ∷ []
      ≡ placed_more m x
  free_2 [] x taken free = cc
  free_2 (a ∷ []) x taken free = cc
  free_2 (a ∷ b ∷ []) x taken free = refl
  free_2 (a ∷ b ∷ c ∷ []) x taken free = cc
  free_2 (a ∷ b ∷ c ∷ d ∷ more) x taken free = cc

  pub free_3 : (m : List X) (x : X) → is_some (slice_index_or (in_four_places m) 2 None) ≡ true
      → is_some (slice_index_or (in_four_places m) 3 None) ≡ false
      → slice_index_or (in_four_places m) 0 None ∷ slice_index_or (in_four_places m) 1 None ∷ slice_index_or
      (in_four_places m) 2 None ∷ Some
      x ∷ [] ≡ placed_more m x
  free_3 [] x taken free = cc
  free_3 (a ∷ []) x taken free = cc
  free_3 (a ∷ b ∷ []) x taken free = cc
  free_3 (a ∷ b ∷ c ∷ []) x taken free = refl
  free_3 (a ∷ b ∷ c ∷ d ∷ more) x taken free = cc

  pub full : (m : List X) (x : X) → is_some (slice_index_or (in_four_places m) 3 None) ≡ true
      → slice_index_or (in_four_places m) 1 None ∷ slice_index_or (in_four_places m) 2 None ∷ slice_index_or
      (in_four_places m) 3 None ∷ Some
      x ∷ [] ≡ placed_more m x
  full [] x taken = cc
  full (a ∷ []) x taken = cc
  full (a ∷ b ∷ []) x taken = cc
  full (a ∷ b ∷ c ∷ []) x taken = cc
  full (a ∷ b ∷ c ∷ d ∷ more) x taken = refl
