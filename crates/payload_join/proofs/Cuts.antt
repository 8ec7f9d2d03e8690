-- Where coded bytes are cut, and where they aren't.
use Rattle.std.proofs.Common.{◌≡◌, ℕ, zero, suc, ◌+◌, ◌-◌, ◌<◌, ◌≤◌, true, false, List, [], ◌∷◌, length, take, drop, get_or, refl, sym, ap, ◌∙◌, inl, inr, arith}
use Rattle.std.proofs.lemmas.Bool.{cases_lt}
use Rattle.std.proofs.lemmas.List.{drop_more, length-drop}
use Rattle.payload_join.specs.Split.{starts_code, starts_part, byte_onto, split_of}

-- the three bytes at a place
pub cut_is : (xs : List ℕ) (at : ℕ) → at + 2 < length xs
    → starts_code (get_or xs at 0) (get_or xs (at + 1) 0) (get_or xs (at + 2) 0) ≡ starts_part (drop at xs)
cut_is xs at lt =
    let e : at + 1 + 1 ≡ at + 2 = omega arith in
    let a = drop_more xs at 0 (omega arith) in
    let b = drop_more xs (at + 1) 0 (omega arith) in
    let c = drop_more xs (at + 1 + 1) 0 (omega arith) in
    let all : drop at xs ≡ get_or xs at 0 ∷ get_or xs (at + 1) 0 ∷ get_or xs (at + 1 + 1) 0 ∷ drop (at + 1 + 1 + 1) xs =
    a ∙ ap (λ (l : List ℕ). get_or xs at 0 ∷ l) (b ∙ ap (λ (l : List ℕ). get_or xs (at + 1) 0 ∷ l) c) in
    sym (ap starts_part all ∙ ap (λ (k : ℕ). starts_code (get_or xs at 0) (get_or xs (at + 1) 0) (get_or xs k 0)) e)

-- there are too few bytes for a cut
short : (xs : List ℕ) → length xs < 3 → starts_part xs ≡ false
short [] lt = refl
short (a ∷ []) lt = refl
short (a ∷ b ∷ []) lt = refl
short (a ∷ b ∷ c ∷ xs) lt = absurd (omega arith)

-- no cut was found up to the last place
pub none_left : (xs : List ℕ) (n : ℕ) → length xs ≤ n + 2 → ((k : ℕ) → k < n → starts_part (drop k xs) ≡ false)
    → (k : ℕ)
    → starts_part (drop k xs) ≡ false
none_left xs n le none k =
    elim (cases_lt k n) [
      | inl lt ↦ none k lt
      | inr ge ↦ let d : length (drop k xs) ≡ length xs - k = length-drop k xs in short (drop k xs) (omega arith)
    ]

uncut_one : (a b c : ℕ) (xs : List ℕ) → starts_code a b c ≡ false → split_of (a ∷ b ∷ c ∷ xs)
    ≡ byte_onto a (split_of (b ∷ c ∷ xs))
unfolding split_of
uncut_one a b c xs e = rw e refl

cut_one : (a b c : ℕ) (xs : List ℕ) → starts_code a b c ≡ true → split_of (a ∷ b ∷ c ∷ xs) ≡ [] ∷ split_of (c ∷ xs)
unfolding split_of
cut_one a b c xs e = rw e refl

-- without a cut there is one part
pub uncut : (xs : List ℕ) → ((k : ℕ) → starts_part (drop k xs) ≡ false) → split_of xs ≡ xs ∷ []
unfolding split_of
uncut [] none = refl
uncut (a ∷ []) none = refl
uncut (a ∷ b ∷ []) none = refl
uncut (a ∷ b ∷ c ∷ xs) none =
    uncut_one a b c xs (none 0) ∙ ap (byte_onto a) (uncut (b ∷ c ∷ xs) (λ k. none (suc k)))

-- at the first cut the first part ends
pub first_cut : (xs : List ℕ) (at : ℕ) → ((k : ℕ) → k < at → starts_part (drop k xs) ≡ false) → starts_part (drop at xs)
    ≡ true
    → split_of xs ≡ take at xs ∷ split_of (drop (at + 2) xs)
first_cut [] at none cut = let f : starts_part (drop at [])
    ≡ false = short (drop at []) (let d = length-drop {A = ℕ} at [] in omega (arith, d)) in absurd cc
first_cut (a ∷ []) at none cut = let f : starts_part (drop at (a ∷ []))
    ≡ false = short (drop at (a ∷ [])) (let d = length-drop {A = ℕ} at (a ∷ []) in omega (arith, d)) in absurd cc
first_cut (a ∷ b ∷ []) at none cut = let f : starts_part (drop at (a ∷ b ∷ []))
    ≡ false = short (drop at (a ∷ b ∷ [])) (let d = length-drop {A = ℕ} at (a ∷ b ∷ []) in omega (arith, d)) in
    absurd cc
first_cut (a ∷ b ∷ c ∷ xs) zero none cut = cut_one a b c xs cut
first_cut (a ∷ b ∷ c ∷ xs) (suc at) none cut =
    let e : suc at + 2 ≡ suc (at + 2) = omega arith in
    let more = first_cut (b ∷ c ∷ xs) at (λ k lt. none (suc k) (omega arith)) cut in
    uncut_one a b c xs (none 0 (omega arith)) ∙ ap (byte_onto a) more
    ∙ ap (λ (k : ℕ). (a ∷ take at (b ∷ c ∷ xs)) ∷ split_of (drop k (a ∷ b ∷ c ∷ xs))) (sym e)
