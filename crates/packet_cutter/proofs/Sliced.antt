-- The slices of a picture as a function.
use Rattle.std.proofs.Common.{◌≡◌, ℕ, zero, suc, ◌+◌, ◌-◌, ◌<◌, ◌≤◌, Bool, true, false, Option, Some, None, List, [], ◌∷◌, ◌++◌, length, take, drop, get_or, refl, sym, ap, subst, ◌∙◌, arith, inl, inr}
use Rattle.std.specs.Prelude.{◌==◌, ◌&&◌, nat_le, nat_lt, slice_get, if◌then◌else◌}
use Rattle.std.specs.Option.{option_map_or}
use Rattle.std.proofs.lemmas.Bool.{cases_lt, leb-true, lt-ltb, ltb-true}
use Rattle.std.proofs.lemmas.Bool.Decides.{nat_tests}
use Rattle.std.proofs.lemmas.List.{length-append, length-take-le, length-drop, take-append-drop, take_at, get_or-take, get_or-drop}
use Rattle.call_model.specs.Coding.{Slice, has_mb, mb_at}
use Rattle.call_model.specs.Lawful.{Covers, Divides}
use Rattle.call_model.specs.Numbers.{greatest, GreatestIs}
use Rattle.h263_types.specs.declared.blocks.Mb.{Mb}
use Rattle.packet_cutter.specs.Slices.{longest_of, slices_from}

-- ---- how many macroblocks the longest slice has

longest_some : (test : ℕ → Bool) (bound m : ℕ) → greatest test bound ≡ Some m
    → option_map_or (λ n. n + 1) (greatest test bound) 1 ≡ m + 1
longest_some test bound m e = ap (λ (o : Option ℕ). option_map_or (λ n. n + 1) o 1) e

greatest_below : GreatestIs → (test : ℕ → Bool) (bound : ℕ) → 0 < bound
    → (0 < option_map_or (λ n. n + 1) (greatest test bound) 1)
    × (option_map_or (λ n. n + 1) (greatest test bound) 1 ≤ bound)
greatest_below found test bound some = by_answer (greatest test bound) refl
  where
    by_answer : (o : Option ℕ) → greatest test bound ≡ o → (0 < option_map_or (λ n. n + 1) o 1)
        × (option_map_or (λ n. n + 1) o 1 ≤ bound)
    by_answer None e = (omega arith, omega arith)
    by_answer (Some m) e = let below : m < bound = ((found test bound m).0 e).1 in (omega arith, omega arith)

pub longest_in : GreatestIs → (size : ℕ → List Mb → ℕ) (limit first : ℕ) (mbs : List Mb) → 0 < length mbs
    → (0 < longest_of size limit first mbs) × (longest_of size limit first mbs ≤ length mbs)
longest_in found size limit first mbs some = greatest_below found (λ n. nat_le (size first (take (n + 1) mbs)) limit)
    (length mbs) some

take_past : (run rest : List Mb) (n : ℕ) → length run ≤ n → take n (run ++ rest) ≡ run ++ take (n - length run) rest
take_past [] rest n le = let same : n ≡ n - 0 = omega arith in ap (λ (k : ℕ). take k rest) same
take_past (m ∷ run) rest zero le = absurd (omega arith)
take_past (m ∷ run) rest (suc n) le =
    let same : n - length run ≡ suc n - suc (length run) = omega arith in
    ap (λ (l : List Mb). m ∷ l) (take_past run rest n (omega arith)) ∙ ap (λ (k : ℕ). m ∷ (run ++ take k rest)) same

pub longest_is : GreatestIs → (size : ℕ → List Mb → ℕ) (limit first : ℕ) (run rest : List Mb) → 0 < length run
    → size first run ≤ limit
    → ((more others : List Mb) → rest ≡ more ++ others → 0 < length more → limit < size first (run ++ more))
    → longest_of size limit first (run ++ rest) ≡ length run
longest_is found size limit first run rest some fits longest =
    longest_some test (length (run ++ rest)) last ((found test (length (run ++ rest)) last).1 (
      here,
      omega (arith, length-append run rest),
      above,
    )) ∙ whole
  where
    test : ℕ → Bool
    test n = nat_le (size first (take (n + 1) (run ++ rest))) limit

    last : ℕ
    last = length run - 1

    whole : length run - 1 + 1 ≡ length run
    whole = omega arith

    leb_true : (a : ℕ) → a ≤ limit → nat_le a limit ≡ true
    leb_true a le = grind (arith, nat_tests)

    leb_false : (a : ℕ) → limit < a → nat_le a limit ≡ false
    leb_false a lt = grind (arith, nat_tests)

    here : test (length run - 1) ≡ true
    here =
        let is : take (length run - 1 + 1) (run ++ rest) ≡ run = ap (λ (n : ℕ). take n (run ++ rest)) whole
        ∙ take_at run rest (length run) refl in
        leb_true (size first (take (length run - 1 + 1) (run ++ rest))) (omega (arith, ap (size first) is))

    above : (k : ℕ) → length run - 1 < k → k < length (run ++ rest) → test k ≡ false
    above k low high =
        let n = k + 1 - length run in
        let is : take (k + 1) (run ++ rest) ≡ run ++ take n rest = take_past run rest (k + 1) (omega arith) in
        let few : n ≤ length rest = omega (arith, length-append run rest) in
        let past = longest (take n rest) (drop n rest) (sym (take-append-drop n rest))
        (omega (arith, length-take-le n rest few)) in
        leb_false (size first (take (k + 1) (run ++ rest))) (omega (arith, past, ap (size first) is))

-- ---- the slices are in a row

-- slices one after the other, from macroblock `first` up to macroblock `end`, none of them empty
unfoldable pub AreInRow : ℕ → ℕ → List (Slice Mb) → Type 0
AreInRow first end [] = first ≡ end
AreInRow first end (slice ∷ slices) = (slice.first ≡ first) × (0 < length slice.mbs)
    × AreInRow (first + length slice.mbs) end slices

pub row_end : (first end : ℕ) (slices : List (Slice Mb)) → AreInRow first end slices → first ≤ end
unfolding AreInRow
row_end first end [] row = omega arith
row_end first end (slice ∷ slices) row = omega (arith, row_end (first + length slice.mbs) end slices row.2)

-- the place of the slice that has macroblock k
abbrev pub place_in : List (Slice Mb) → ℕ → ℕ
place_in [] k = 0
place_in (slice ∷ slices) k = if nat_lt k (slice.first + length slice.mbs) then 0 else suc (place_in slices k)

place_head : (slice : Slice Mb) (slices : List (Slice Mb)) (k : ℕ) → k < slice.first + length slice.mbs
    → place_in (slice ∷ slices) k ≡ 0
place_head slice slices k lt = rw (lt-ltb k (slice.first + length slice.mbs) lt) refl

not_below : (k n : ℕ) → n ≤ k → nat_lt k n ≡ false
not_below k n le = grind (arith, nat_tests)

not_from : (first k : ℕ) → k < first → nat_le first k ≡ false
not_from first k lt = grind (arith, nat_tests)

from : (first k : ℕ) → first ≤ k → nat_le first k ≡ true
from first k le = grind (arith, nat_tests)

place_tail : (slice : Slice Mb) (slices : List (Slice Mb)) (k : ℕ) → slice.first + length slice.mbs ≤ k
    → place_in (slice ∷ slices) k ≡ suc (place_in slices k)
place_tail slice slices k le = rw (not_below k (slice.first + length slice.mbs) le) refl

pub place_below : (first end : ℕ) (slices : List (Slice Mb)) (k : ℕ) → AreInRow first end slices → first ≤ k → k < end
    → place_in slices k < length slices
unfolding AreInRow
place_below first end [] k row low high = absurd (omega arith)
place_below first end (slice ∷ slices) k row low high =
    elim (cases_lt k (slice.first + length slice.mbs)) [
      | inl here ↦ omega (arith, place_head slice slices k here)
      | inr after ↦ omega (
        arith,
        place_tail slice slices k after,
        place_below (first + length slice.mbs) end slices k row.2 (omega (arith, row.0, after)) high,
      )
    ]

pub slice_inside : (first end : ℕ) (slices : List (Slice Mb)) (j : ℕ) (slice : Slice Mb) → AreInRow first end slices
    → slice_get slices j ≡ Some slice
    → (first ≤ slice.first) × (0 < length slice.mbs) × (slice.first + length slice.mbs ≤ end)
unfolding AreInRow
slice_inside first end [] j slice row e = absurd cc
slice_inside first end (head ∷ slices) zero slice row e =
    let same : head ≡ slice = cc in
    subst (λ (s : Slice Mb). (first ≤ s.first) × (0 < length s.mbs) × (s.first + length s.mbs ≤ end)) same
    (omega (arith, row.0), row.1, omega (arith, row.0, row_end (first + length head.mbs) end slices row.2))
slice_inside first end (head ∷ slices) (suc j) slice row e =
    let below = slice_inside (first + length head.mbs) end slices j slice row.2 e in
    (omega (arith, below.0), below.1, below.2)

has_it : (slice : Slice Mb) (k : ℕ) → slice.first ≤ k → k < slice.first + length slice.mbs → has_mb slice k ≡ true
unfolding has_mb
has_it slice k low high = rw (from slice.first k low, lt-ltb k (slice.first + length slice.mbs) high) refl

not_before : (slice : Slice Mb) (k : ℕ) → k < slice.first → has_mb slice k ≡ false
unfolding has_mb
not_before slice k low = rw (not_from slice.first k low) refl

not_after : (slice : Slice Mb) (k : ℕ) → slice.first ≤ k → slice.first + length slice.mbs ≤ k → has_mb slice k ≡ false
unfolding has_mb
not_after slice k low high = rw (from slice.first k low, not_below k (slice.first + length slice.mbs) high) refl

-- a slice that has macroblock k begins before it and ends after it
has_parts : (slice : Slice Mb) (k : ℕ) → has_mb slice k ≡ true
    → (slice.first ≤ k) × (k < slice.first + length slice.mbs)
unfolding has_mb
has_parts slice k e = parts (nat_le slice.first k) refl (nat_lt k (slice.first + length slice.mbs)) refl e
  where
    parts : (a : Bool) → nat_le slice.first k ≡ a → (b : Bool) → nat_lt k (slice.first + length slice.mbs) ≡ b
        → (a && b) ≡ true → (slice.first ≤ k) × (k < slice.first + length slice.mbs)
    parts true p true q e = (leb-true slice.first k p, ltb-true k (slice.first + length slice.mbs) q)
    parts true p false q e = absurd cc
    parts false p b q e = absurd cc

zero_is_no : (n : ℕ) → false ≡ (0 == suc n)
zero_is_no n = grind (arith, nat_tests)

no_is_zero : (n : ℕ) → false ≡ (suc n == 0)
no_is_zero n = grind (arith, nat_tests)

both_suc : (j n : ℕ) → (j == n) ≡ (suc j == suc n)
both_suc j n = grind (arith, nat_tests)

pub one_has : (first end : ℕ) (slices : List (Slice Mb)) (j k : ℕ) (slice : Slice Mb) → AreInRow first end slices
    → first ≤ k → slice_get slices j ≡ Some slice → has_mb slice k ≡ (j == place_in slices k)
unfolding AreInRow
one_has first end [] j k slice row low e = absurd cc
one_has first end (head ∷ slices) zero k slice row low e =
    let same : head ≡ slice = cc in
    subst (λ (s : Slice Mb). has_mb s k ≡ (0 == place_in (head ∷ slices) k)) same
    (elim (cases_lt k (head.first + length head.mbs)) [
      | inl here ↦ has_it head k (omega (arith, row.0)) here
          ∙ sym (ap (λ (n : ℕ). 0 == n) (place_head head slices k here))
      | inr after ↦ not_after head k (omega (arith, row.0)) after ∙ zero_is_no (place_in slices k)
          ∙ sym (ap (λ (n : ℕ). 0 == n) (place_tail head slices k after))
    ])
one_has first end (head ∷ slices) (suc j) k slice row low e =
    elim (cases_lt k (head.first + length head.mbs)) [
      | inl here ↦
          let inside = slice_inside (first + length head.mbs) end slices j slice row.2 e in
          not_before slice k (omega (arith, row.0, inside.0)) ∙ no_is_zero j
          ∙ sym (ap (λ (n : ℕ). suc j == n) (place_head head slices k here))
      | inr after ↦
          one_has (first + length head.mbs) end slices j k slice row.2 (omega (arith, row.0, after)) e
          ∙ both_suc j (place_in slices k) ∙ sym (ap (λ (n : ℕ). suc j == n) (place_tail head slices k after))
    ]

pub row_covers : (count : ℕ) (slices : List (Slice Mb)) → AreInRow 0 count slices → Covers count slices
row_covers count slices row = record {
  place_of = place_in slices;
  below = λ k lt. place_below 0 count slices k row (omega arith) lt;
  has = λ j k slice lt e. one_has 0 count slices j k slice row (omega arith) e;
  inside = λ j slice e. let inside = slice_inside 0 count slices j slice row e in (inside.1, inside.2);
}

-- ---- the slices of a list

pub in_row : GreatestIs → (most : ℕ) (size : ℕ → List Mb → ℕ) (limit first : ℕ) (mbs : List Mb) → length mbs ≤ most
    → AreInRow first (first + length mbs) (slices_from most size limit first mbs)
unfolding AreInRow slices_from
in_row found zero size limit first [] few = omega arith
in_row found zero size limit first (m ∷ mbs) few = absurd (omega arith)
in_row found (suc most) size limit first [] few = omega arith
in_row found (suc most) size limit first (m ∷ mbs) few =
    let count = longest_of size limit first (m ∷ mbs) in
    let range = longest_in found size limit first (m ∷ mbs) (omega arith) in
    let long : length (take count (m ∷ mbs)) ≡ count = length-take-le count (m ∷ mbs) range.1 in
    let left : length (drop count (m ∷ mbs)) ≡ length (m ∷ mbs) - count = length-drop count (m ∷ mbs) in
    let after = in_row found most size limit (first + count) (drop count (m ∷ mbs)) (omega (arith, left, range.0)) in
    let end : first + count + length (drop count (m ∷ mbs)) ≡ first + length (m ∷ mbs) =
    omega (arith, left, range.1) in (
      refl,
      omega (arith, long, range.0),
      subst (λ (n : ℕ). AreInRow (first + n) (first + length (m ∷ mbs)) (slices_from most size limit (first + count)
          (drop count (m ∷ mbs)))) (sym long)
          (subst (λ (n : ℕ). AreInRow (first + count) n (slices_from most size limit (first + count)
          (drop count (m ∷ mbs)))) end after),
    )

pub same_mbs : GreatestIs → (most : ℕ) (size : ℕ → List Mb → ℕ) (limit first : ℕ) (mbs : List Mb) (other : Mb) (j k : ℕ)
    (slice : Slice Mb) → length mbs ≤ most
    → slice_get (slices_from most size limit first mbs) j ≡ Some slice → has_mb slice k ≡ true
    → mb_at other slice k ≡ get_or mbs (k - first) other
unfolding slices_from
same_mbs found zero size limit first mbs other j k slice few e has = absurd cc
same_mbs found (suc most) size limit first [] other j k slice few e has = absurd cc
same_mbs found (suc most) size limit first (m ∷ mbs) other zero k slice few e has =
    let count = longest_of size limit first (m ∷ mbs) in
    let head : Slice Mb = record { first = first; mbs = take count (m ∷ mbs) } in
    let range = longest_in found size limit first (m ∷ mbs) (omega arith) in
    let same : head ≡ slice = cc in
    let there = has_parts head k (subst (λ (s : Slice Mb). has_mb s k ≡ true) (sym same) has) in
    subst (λ (s : Slice Mb). mb_at other s k ≡ get_or (m ∷ mbs) (k - first) other) same
    (get_or-take count (m ∷ mbs) (k - first) other (omega (
      arith,
      there.0,
      there.1,
      length-take-le count (m ∷ mbs) range.1,
    )))
same_mbs found (suc most) size limit first (m ∷ mbs) other (suc j) k slice few e has =
    let count = longest_of size limit first (m ∷ mbs) in
    let range = longest_in found size limit first (m ∷ mbs) (omega arith) in
    let left : length (drop count (m ∷ mbs)) ≡ length (m ∷ mbs) - count = length-drop count (m ∷ mbs) in
    let fewer : length (drop count (m ∷ mbs)) ≤ most = omega (arith, left, range.0) in
    let row = in_row found most size limit (first + count) (drop count (m ∷ mbs)) fewer in
    let inside = slice_inside (first + count) (first + count + length (drop count (m ∷ mbs)))
    (slices_from most size limit (first + count) (drop count (m ∷ mbs))) j slice row e in
    let there = has_parts slice k has in
    let place : count + (k - (first + count)) ≡ k - first = omega (arith, inside.0, there.0) in
    same_mbs found most size limit (first + count) (drop count (m ∷ mbs)) other j k slice fewer e has
    ∙ get_or-drop count (m ∷ mbs) (k - (first + count)) other ∙ ap (λ (n : ℕ). get_or (m ∷ mbs) n other) place

pub divides : GreatestIs → (size : ℕ → List Mb → ℕ) (limit : ℕ) (skip : Mb) (mbs : List Mb)
    → Divides skip (length mbs) (slices_from (length mbs) size limit 0 mbs) mbs
divides found size limit skip mbs =
    let start : 0 + length mbs ≡ length mbs = omega arith in
    let row = subst (λ (n : ℕ). AreInRow 0 n (slices_from (length mbs) size limit 0 mbs)) start
    (in_row found (length mbs) size limit 0 mbs (omega arith)) in
    record {
      covers = row_covers (length mbs) (slices_from (length mbs) size limit 0 mbs) row;
      same = λ j k slice e has. let place : k - 0 ≡ k = omega arith in
          same_mbs found (length mbs) size limit 0 mbs skip j k slice (omega arith) e has
          ∙ ap (λ (n : ℕ). get_or mbs n skip) place;
    }
