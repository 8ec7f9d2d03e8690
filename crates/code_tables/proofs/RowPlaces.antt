-- The rows by RUN have the places that the rows one after another have.
use Rattle.std.proofs.Common.{◌≡◌, ◌+◌, ◌-◌, ◌<◌, ℕ, zero, suc, Bool, true, false, cond, eqb, ltb, List, length, get_or, Option, Some, refl, ap, sym, ◌∙◌, arith, inl, inr}
use Rattle.std.specs.Prelude.{◌&&◌}
use Rattle.std.proofs.lemmas.Bool.{eqb-true, cases_lt, lt-ltb, le-ltb, le-leb, lt-leb}
use Rattle.h263_bits.proofs.SyntaxLaws.{and_both}
use Rattle.code_tables.specs.declared.event_tables.Row.{Row}
use Rattle.code_tables.specs.declared.event_tables.TheConstants.{LAST_0_ROWS, LAST_1_ROWS}
use Rattle.code_tables.specs.Words.{place_in}
use Rattle.code_tables.specs.Starts.{starts_of}
use Rattle.code_tables.specs.Rows.{table_row, place_in_row}

-- a row begins and ends where the starts say, and is empty after the last of them
abbrev is_row : List ℕ → ℕ → Row → Bool
is_row starts run row =
    cond (ltb (run + 1) (length starts)) (eqb row.first (get_or starts run 0) && eqb (row.first + row.count)
    (get_or starts (run + 1) 0)) (eqb row.count 0)

-- the rows of the runs below n
are_rows : List ℕ → List Row → ℕ → Bool
are_rows starts rows zero = true
are_rows starts rows (suc n) = is_row starts n (table_row rows n) && are_rows starts rows n

row_below : (starts : List ℕ) (rows : List Row) (n run : ℕ) → are_rows starts rows n ≡ true → run < n
    → is_row starts run (table_row rows run) ≡ true
unfolding are_rows
row_below starts rows zero run all lt = absurd (omega arith)
row_below starts rows (suc n) run all lt =
    let both = and_both (is_row starts n (table_row rows n)) (are_rows starts rows n) all in
    elim (cases_lt run n) [
      | inl less ↦ row_below starts rows n run both.1 less
      | inr more ↦ let same : n ≡ run = omega arith in ap (λ (k : ℕ). is_row starts k (table_row rows k)) (sym same)
          ∙ both.0
    ]

abbrev rows_in : Bool → List Row
rows_in false = LAST_0_ROWS
rows_in true = LAST_1_ROWS

all_rows : (last : Bool) → are_rows (starts_of last) (rows_in last) 64 ≡ true
unfolding are_rows
all_rows false = refl
all_rows true = refl

-- a size that a row has, and one that it hasn't
place_of : (starts : List ℕ) (run size : ℕ) (row : Row) → is_row starts run row ≡ true → 0 < size
    → place_in_row row size ≡ place_in starts run size
place_of starts run size row is some =
    elim (cases_lt (run + 1) (length starts)) [
      | inl inside ↦
          let inner : (eqb row.first (get_or starts run 0) && eqb (row.first + row.count) (get_or starts (run + 1) 0))
          ≡ true = rw (lt-ltb (run + 1) (length starts) inside) at is in
          let both = and_both (eqb row.first (get_or starts run 0))
          (eqb (row.first + row.count) (get_or starts (run + 1) 0)) inner in
          let first : row.first ≡ get_or starts run 0 = eqb-true row.first (get_or starts run 0) both.0 in
          let end : row.first + row.count ≡ get_or starts (run + 1) 0 = eqb-true (row.first + row.count)
          (get_or starts (run + 1) 0) both.1 in
          elim (cases_lt row.count size) [
            | inl past ↦ rw (
              lt-leb size row.count past,
              lt-ltb (run + 1) (length starts) inside,
              le-ltb (get_or starts run 0 + size - 1) (get_or starts (run + 1) 0) (omega (arith, first, end)),
            ) refl
            | inr there ↦ rw (
              le-leb size row.count there,
              lt-ltb (run + 1) (length starts) inside,
              lt-ltb (get_or starts run 0 + size - 1) (get_or starts (run + 1) 0) (omega (arith, first, end)),
            )
                (ap (λ (n : ℕ). let o : Option ℕ = Some (n + size - 1) in o) first)
          ]
      | inr outside ↦
          let none : row.count ≡ 0 = eqb-true row.count 0 (rw (le-ltb (run + 1) (length starts) outside) at is) in
          rw (lt-leb size row.count (omega (arith, none)), le-ltb (run + 1) (length starts) outside) refl
    ]

-- the place of a size among the words of a LAST and a RUN
pub place_of_0 : (run size : ℕ) → run < 64 → 0 < size → place_in_row (table_row LAST_0_ROWS run) size
    ≡ place_in (starts_of false) run size
place_of_0 run size lt some = place_of (starts_of false) run size (table_row LAST_0_ROWS run)
    (row_below (starts_of false) LAST_0_ROWS 64 run (all_rows false) lt) some

pub place_of_1 : (run size : ℕ) → run < 64 → 0 < size → place_in_row (table_row LAST_1_ROWS run) size
    ≡ place_in (starts_of true) run size
place_of_1 run size lt some = place_of (starts_of true) run size (table_row LAST_1_ROWS run)
    (row_below (starts_of true) LAST_1_ROWS 64 run (all_rows true) lt) some
