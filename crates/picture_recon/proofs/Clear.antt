-- Where a block has no values, by places of the zigzag order that have no mark.
use Rattle.std.proofs.Common.{◌≡◌, ◌≢◌, ℕ, ◌+◌, ◌*◌, ◌%◌, ◌<◌, ◌≤◌, min, ℤ, pos, List, length, get_or, slice_set, Bool, true, false, ◌||◌, nat_eq, nat_lt, refl, ap, sym, subst, ◌∙◌, arith, zero-add, bit_and, get_or-set_other}
use Rattle.std.specs.Int.{bit_at}
use Rattle.std.specs.List.{list_all, range_with_len}
use Rattle.std.proofs.lemmas.List.Folds.{list_all_at}
use Rattle.std.proofs.lemmas.List.FromFn.{get_or-range_with_len}
use Rattle.std.proofs.lemmas.Bool.Decides.{nat_tests}
use Rattle.std.proofs.lemmas.Nat.Bits.{bit_at_and, bit_at-lt, bit_at-zero}
use Rattle.h263_types.specs.declared.blocks.Block.{Block}
use Rattle.idct8.specs.Transform.{entry}
use Rattle.quantiser.specs.Levels.{value_of}
use Rattle.quantiser.specs.Zigzag.{IsOneOrder, figure, zigzag_place_of}
use Rattle.picture_recon.specs.Marks.{AreMarked, HasMarkedValues}
use Rattle.picture_recon.specs.Samples.{inter_value}
use Rattle.picture_recon.proofs.Walk.{within}

-- a level without a mark has the value 0
pub unmarked_value : (one : IsOneOrder) (quant : ℕ) (b : Block) (marks : ℕ) → AreMarked b.levels marks → (at : ℕ)
    → 1 ≤ at → at < 64 → bit_at marks (zigzag_place_of at) ≡ 0 →
    inter_value quant b at ≡ pos 0
unmarked_value one quant b marks marked at some less none =
    let z = zigzag_place_of at in
    ap (value_of quant) (marked z (within z at (one.from_block at less) some) none)

-- the first value leaves the others
pub other_put : (values : List ℤ) (v : ℤ) (at : ℕ) → 1 ≤ at → get_or (slice_set values 0 v) at (pos 0)
    ≡ get_or values at (pos 0)
other_put values v at some =
    let other : at ≢ 0 = omega arith in
    get_or-set_other values 0 at v (pos 0) other

-- ---- the places of a class, by a look at each place of the block

not_false : (b c : Bool) → (b ≡ false → c ≡ false) → c ≡ true → b ≡ true
not_false true c h e = refl
not_false false c h e = let f : c ≡ false = h refl in cc

holds_at : (p : ℕ → Bool) (xs : List ℕ) (i : ℕ) → i < length xs → list_all p xs ≡ true → p (get_or xs i 0) ≡ true
holds_at p xs i h all = not_false (p (get_or xs i 0)) (list_all p xs) (list_all_at p xs i 0 h) all

holds_below : (p : ℕ → Bool) (k : ℕ) → k < 64 → list_all p (range_with_len 0 64) ≡ true → p k ≡ true
holds_below p k h all =
    let e : get_or (range_with_len 0 64) k 0 ≡ k = get_or-range_with_len 0 64 k 0 h ∙ zero-add k in
    subst (λ (n : ℕ). p n ≡ true) e (holds_at p (range_with_len 0 64) k h all)

same : (m n : ℕ) → nat_eq m n ≡ true → m ≡ n
same m n h = grind (arith, nat_tests)

outside : (b : Bool) (bit : ℕ) → b ≡ false → (b || nat_eq bit 1) ≡ true → bit ≡ 1
outside true bit e h = absurd (cc e)
outside false bit e h = same bit 1 h

not_below : (m n : ℕ) → n ≤ m → nat_lt m n ≡ false
not_below m n h = grind (arith, nat_tests)

not_none : (n : ℕ) → 1 ≤ n → nat_eq n 0 ≡ false
not_none n h = grind (arith, nat_tests)

past_row : (at : ℕ) → 8 ≤ at → at < 64 → bit_at 18446744073306849180 (zigzag_place_of at) ≡ 1
unfolding zigzag_place_of
past_row at from less = outside (nat_lt at 8) _ (not_below at 8 from)
    (holds_below (λ n. nat_lt n 8 || nat_eq (bit_at 18446744073306849180 (get_or figure n 0)) 1) at less refl)

past_column : (at : ℕ) → 1 ≤ at % 8 → at < 64 → bit_at 18446744039346665970 (zigzag_place_of at) ≡ 1
unfolding zigzag_place_of
past_column at some less = outside (nat_eq (at % 8) 0) _ (not_none (at % 8) some)
    (holds_below (λ n. nat_eq (n % 8) 0 || nat_eq (bit_at 18446744039346665970 (get_or figure n 0)) 1) at less refl)

past_two_rows : (at : ℕ) → 16 ≤ at → at < 64 → bit_at 18446739674656284424 (zigzag_place_of at) ≡ 1
unfolding zigzag_place_of
past_two_rows at from less = outside (nat_lt at 16) _ (not_below at 16 from)
    (holds_below (λ n. nat_lt n 16 || nat_eq (bit_at 18446739674656284424 (get_or figure n 0)) 1) at less refl)

past_four_rows : (at : ℕ) → 32 ≤ at → at < 64 → bit_at 18437702785315636224 (zigzag_place_of at) ≡ 1
unfolding zigzag_place_of
past_four_rows at from less = outside (nat_lt at 32) _ (not_below at 32 from)
    (holds_below (λ n. nat_lt n 32 || nat_eq (bit_at 18437702785315636224 (get_or figure n 0)) 1) at less refl)

-- ---- no mark there, no value there

no_bit : (marks places k : ℕ) → bit_and marks places ≡ 0 → bit_at places k ≡ 1 → bit_at marks k ≡ 0
no_bit marks places k none has =
    let both : min (bit_at marks k) (bit_at places k) ≡ 0 = sym (bit_at_and marks places k)
    ∙ ap (λ (n : ℕ). bit_at n k) none ∙ bit_at-zero k in
    let small : bit_at marks k < 2 = bit_at-lt marks k in
    omega (arith, both, has, small)

module _ (marks : ℕ) (values : List ℤ) (marked : HasMarkedValues marks values) where
  -- marks in the first row alone
  pub row_alone : bit_and marks 18446744073306849180 ≡ 0 → (at : ℕ) → 8 ≤ at → at < 64 → get_or values at (pos 0)
      ≡ pos 0
  row_alone none at from less = marked at (omega (arith, from)) less
      (no_bit marks 18446744073306849180 (zigzag_place_of at) none (past_row at from less))

  -- in the first column alone
  pub column_alone : bit_and marks 18446744039346665970 ≡ 0 → (y x : ℕ) → y < 8 → 1 ≤ x → x < 8
      → entry values y x ≡ pos 0
  column_alone none y x hy some hx =
      let less : 8 * y + x < 64 = omega (arith, hy, hx) in
      let column : 1 ≤ (8 * y + x) % 8 = omega (arith, some, hx) in
      marked (8 * y + x) (omega (arith, some)) less (no_bit marks 18446744039346665970 (zigzag_place_of (8 * y + x))
      none (past_column (8 * y + x) column less))

  -- in the first two rows
  pub two_rows : bit_and marks 18446739674656284424 ≡ 0 → (at : ℕ) → 16 ≤ at → at < 64 → get_or values at (pos 0)
      ≡ pos 0
  two_rows none at from less = marked at (omega (arith, from)) less
      (no_bit marks 18446739674656284424 (zigzag_place_of at) none (past_two_rows at from less))

  -- in the first four
  pub four_rows : bit_and marks 18437702785315636224 ≡ 0 → (at : ℕ) → 32 ≤ at → at < 64 → get_or values at (pos 0)
      ≡ pos 0
  four_rows none at from less = marked at (omega (arith, from)) less
      (no_bit marks 18437702785315636224 (zigzag_place_of at) none (past_four_rows at from less))
