-- Slots and work pictures of numbers that are near one another.
use Rattle.std.proofs.Common.{◌≡◌, ℕ, ◌+◌, ◌%◌, ◌<◌, ◌≤◌, List, length, get_or, set, Option, Some, None, sym, ◌∙◌, subst, arith, length-set, inl, inr}
use Rattle.std.proofs.lemmas.Bool.{cases_lt}
use Rattle.std.proofs.lemmas.List.{get_or-set_other}
use Rattle.call_model.specs.Numbers.{OneRestIsFar}
use Rattle.picture_store.specs.Pictures.{StoredPictures, slots_of, slot_of, IsKept}

module _ (far : OneRestIsFar) where
  -- numbers less than a period apart have different rests
  pub apart : (period m n : ℕ) → m < n → n < m + period → m % period ≡ n % period → ⊥
  apart period m n less near same =
      let gap : m + period ≤ n = far period m n (omega (arith, less, near)) same less in omega (arith, gap, near)

  pub differ : (period m n : ℕ) → (m ≡ n → ⊥) → n < m + period → m < n + period → m % period ≡ n % period → ⊥
  differ period m n ne near near' same = elim (cases_lt m n) [
    | inl lt ↦ apart period m n lt near same
    | inr ge ↦ let gt : n < m = omega (arith, ge, ne) in apart period n m gt near' (sym same)
  ]

  -- another number is kept, and an earlier one stays
  pub kept_stays : (s t : StoredPictures) (n m : ℕ) → t.numbers ≡ set s.numbers (slot_of s n) (Some n) → m < n
      → n < m + slots_of s → IsKept s m → IsKept t m
  kept_stays s t n m e less near kept =
      let xs = s.numbers in
      subst (λ (l : List (Option ℕ)). get_or l (m % length l) None ≡ Some m) (sym e)
      (subst (λ (k : ℕ). get_or (set s.numbers (n % length s.numbers) (Some n)) (m % k) None
      ≡ Some m) (sym (length-set s.numbers (n % length s.numbers) (Some n)))
      (get_or-set_other s.numbers (n % length s.numbers) (m % length s.numbers) (Some n) None
      (apart (length s.numbers) m n less near) ∙ kept))
