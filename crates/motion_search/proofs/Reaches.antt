-- Which places of the square are in reach.
use Rattle.std.proofs.Common.{◌≡◌, arith, subst, sym, ℕ, ◌+◌, ◌*◌, ◌/◌, ◌%◌, ◌<◌, ◌≤◌, ℤ, pos, ◌≤ℤ◌, ◌↔◌}
use Rattle.std.proofs.lemmas.Int.{ints}
use Rattle.h263_types.specs.declared.format.Format.{Format}
use Rattle.h263_types.specs.declared.vector.Reach.{Reach}
use Rattle.h263_types.specs.Sizes.{columns_of, height_of, mbs_of, width_of}
use Rattle.h263_types.specs.Vectors.{InReach, IsWithin, whole_place}
use Rattle.motion_search.specs.Vectors.{whole_component}
use Rattle.motion_search.proofs.Squares.{zero_reaches}

-- what a macroblock's reach says
abbrev pub Reaches : Format → ℕ → Reach → Type 0
Reaches f mb reach = (x y : ℤ) → InReach f mb x y ↔ IsWithin reach x y

-- a row of the square leads no further up or down than the reach
abbrev pub IsInRows : ℕ → Reach → ℕ → Type 0
IsInRows radius reach row = (reach.up ≤ℤ whole_component radius row) × (whole_component radius row ≤ℤ reach.down)

-- what the two ends of the square's columns or rows say
abbrev pub IsFirst : ℕ → ℤ → ℕ → Type 0
IsFirst radius least first = (n : ℕ) → (first ≤ n) ↔ (least ≤ℤ whole_component radius n)

abbrev pub IsEnd : ℕ → ℤ → ℕ → Type 0
IsEnd radius most end = (n : ℕ) → (n < end) ↔ ((n < 2 * radius + 1) × (whole_component radius n ≤ℤ most))

-- the same of an end that is called otherwise
pub first_is : (radius first : ℕ) (a b : ℤ) → a ≡ b → IsFirst radius a first → IsFirst radius b first
first_is radius first a b e h = subst (λ (z : ℤ). IsFirst radius z first) e h

pub end_is : (radius end : ℕ) (a b : ℤ) → a ≡ b → IsEnd radius a end → IsEnd radius b end
end_is radius end a b e h = subst (λ (z : ℤ). IsEnd radius z end) e h

-- the first row in reach isn't below the middle one, which leads nowhere
pub first_row_in : (f : Format) (mb radius first : ℕ) (reach : Reach) → Reaches f mb reach → mb < mbs_of f
    → IsFirst radius reach.up first → (first ≤ radius) × IsInRows radius reach first
first_row_in f mb radius first reach is h at_first =
    let zero = ((is (pos 0) (pos 0)).0 (zero_reaches f mb h)).1 in
    let near : first ≤ radius = (at_first radius).1 (omega (arith, ints, zero.0)) in
    (near, ((at_first first).0 (omega arith), omega (arith, ints, near, zero.1)))

module _ (f : Format) (mb radius : ℕ) (reach : Reach) (is : Reaches f mb reach) (row : ℕ) where
  -- a place in reach lies between the ends
  pub from_first : (first i : ℕ) → IsFirst radius reach.left first
      → InReach f mb (whole_component radius i) (whole_component radius row) → first ≤ i
  from_first first i at_first h = (at_first i).1 ((is (whole_component radius i) (whole_component radius row)).0 h).0.0

  pub before_end : (end i : ℕ) → IsEnd radius reach.right end → i < 2 * radius + 1
      → InReach f mb (whole_component radius i) (whole_component radius row) → i < end
  before_end end i at_end hi h = (at_end i).1 (
    hi,
    ((is (whole_component radius i) (whole_component radius row)).0 h).0.1,
  )

  pub in_rows : (i : ℕ) → InReach f mb (whole_component radius i) (whole_component radius row)
      → IsInRows radius reach row
  in_rows i h = ((is (whole_component radius i) (whole_component radius row)).0 h).1

  -- the row begins inside the picture
  pub row_inside : (top : ℕ) → mb < mbs_of f → top ≡ 16 * (mb / columns_of f) → IsInRows radius reach row
      → pos 0 ≤ℤ whole_place top (whole_component radius row)
  row_inside top h e down =
      subst (λ (k : ℕ). pos 0 ≤ℤ whole_place k (whole_component radius row)) (sym e)
      ((is (pos 0) (whole_component radius row)).1 (((is (pos 0) (pos 0)).0 (zero_reaches f mb h)).0, down)).1.2.0

  pub column_inside : (left i : ℕ) → left ≡ 16 * (mb % columns_of f)
      → InReach f mb (whole_component radius i) (whole_component radius row)
      → pos 0 ≤ℤ whole_place left (whole_component radius i)
  column_inside left i e h = subst (λ (k : ℕ). pos 0 ≤ℤ whole_place k (whole_component radius i)) (sym e) h.0.2.0

  -- the sixteen rows that a row of the square leads to end inside the picture
  pub row_ends : (top y : ℕ) → mb < mbs_of f → top ≡ 16 * (mb / columns_of f) → IsInRows radius reach row
      → pos y ≡ whole_place top (whole_component radius row) → y + 15 < height_of f
  row_ends top y h e down ey =
      let there = ((is (pos 0) (whole_component radius row)).1 (
        ((is (pos 0) (pos 0)).0 (zero_reaches f mb h)).0,
        down,
      )).1.2.1 in
      omega (arith, ints, there, subst (λ (k : ℕ). pos y ≡ whole_place k (whole_component radius row)) e ey)

  pub column_starts : (left i : ℕ) → mb < mbs_of f → left ≡ 16 * (mb % columns_of f)
      → (reach.left ≤ℤ whole_component radius i) × (whole_component radius i ≤ℤ reach.right) →
      pos 0 ≤ℤ whole_place left (whole_component radius i)
  column_starts left i h e across =
      subst (λ (k : ℕ). pos 0 ≤ℤ whole_place k (whole_component radius i)) (sym e)
      ((is (whole_component radius i) (pos 0)).1 (across, ((is (pos 0) (pos 0)).0 (zero_reaches f mb h)).1)).0.2.0

  -- the sixteen columns that a column of the square leads to end inside the picture
  pub column_ends : (left x i : ℕ) → mb < mbs_of f → left ≡ 16 * (mb % columns_of f)
      → (reach.left ≤ℤ whole_component radius i) × (whole_component radius i ≤ℤ reach.right) →
      pos x ≡ whole_place left (whole_component radius i) → x + 15 < width_of f
  column_ends left x i h e across ex =
      let there = ((is (whole_component radius i) (pos 0)).1 (
        across,
        ((is (pos 0) (pos 0)).0 (zero_reaches f mb h)).1,
      )).0.2.1 in
      omega (arith, ints, there, subst (λ (k : ℕ). pos x ≡ whole_place k (whole_component radius i)) e ex)

  pub reached_column_ends : (left x i : ℕ) → left ≡ 16 * (mb % columns_of f)
      → InReach f mb (whole_component radius i) (whole_component radius row) →
      pos x ≡ whole_place left (whole_component radius i) → x + 15 < width_of f
  reached_column_ends left x i e h ex =
      omega (arith, ints, h.0.2.1, subst (λ (k : ℕ). pos x ≡ whole_place k (whole_component radius i)) e ex)

  -- the rows between the two ends lead no further up or down than the reach
  pub between_rows : (first end : ℕ) → IsFirst radius reach.up first → IsEnd radius reach.down end → first ≤ row
      → row < end → IsInRows radius reach row
  between_rows first end at_first at_end from to = ((at_first row).0 from, ((at_end row).0 to).1)

  pub after_first_row : (first i : ℕ) → IsFirst radius reach.up first
      → InReach f mb (whole_component radius i) (whole_component radius row) → first ≤ row
  after_first_row first i at_first h = (at_first row).1 (in_rows i h).0

  pub before_end_row : (end i : ℕ) → IsEnd radius reach.down end → row < 2 * radius + 1
      → InReach f mb (whole_component radius i) (whole_component radius row) → row < end
  before_end_row end i at_end hi h = (at_end row).1 (hi, (in_rows i h).1)
