-- The number of a packet is the nearest one with its sequence number.
use Rattle.std.proofs.Common.{◌≡◌, ℕ, ◌<◌, ◌≤◌, Some, arith}
use Rattle.payload_join.specs.Run.{joined_number}
use Rattle.payload_join.specs.Laws.{IsNearest, NumberLaws}
use Rattle.payload_join.proofs.Windows.{is_window}

is_nearest : (top sequence x : ℕ) → 32768 ≤ top → sequence < 65536 → joined_number (Some top) sequence ≡ x
    → IsNearest top sequence x
is_nearest top sequence x high small e = record { from = omega arith; to = omega arith; rest = omega arith }

nearest_is : (top sequence x : ℕ) → 32768 ≤ top → sequence < 65536 → IsNearest top sequence x
    → joined_number (Some top) sequence ≡ x
nearest_is top sequence x high small is = omega (arith, is.from, is.to, is.rest)

pub number_laws : NumberLaws
number_laws = record {
  nearest = λ top sequence x high small. (is_nearest top sequence x high small, nearest_is top sequence x high small);
  high = λ past top e. (is_window past).big top e;
}
