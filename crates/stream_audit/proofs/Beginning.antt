-- Nothing was taken of the picture that a packet begins.
use Rattle.std.proofs.Common.{◌∙◌, ap, None, ◌≡◌, ℕ, ◌+◌, ◌<◌, false, arith, Some, Option, List}
use Rattle.std.specs.Prelude.{not}
use Rattle.std.proofs.lemmas.Bool.{both_ways, false_from_ne_true}
use Rattle.h263_types.specs.Blocks.{IsHeadOf}
use Rattle.h263_types.specs.Sizes.{mbs_of}
use Rattle.picture_header.specs.declared.header.Header.{Header}
use Rattle.packet_collector.specs.declared.collector.Collector.{Collector}
use Rattle.packet_collector.specs.declared.piece.Piece.{Piece}
use Rattle.packet_collector.specs.Collected.{Collects, FitsKept, IsFreshIn, IsInRow, IsHeaderKept, format_of, header_in, has_in, row_of}
use Rattle.call_model.specs.Numbers.{AllBelowIs}
use Rattle.packet_collector.specs.Taken.{Taken, TakenLaws, is_any_taken}

module _ (laws : TakenLaws) (below : AllBelowIs) (c : Collector) (n : ℕ) (taken : List Taken)
    (collects : Collects c n taken) (row : row_of c ≡ 1) (absent : is_any_taken taken n ≡ false) where
  in_row : IsInRow c n
  in_row = record { low = omega (arith, collects.begins); high = omega (arith, collects.begins, row) }

  no_header : (o : Option Header) (h : Header) → IsHeaderKept taken n o → FitsKept o h
  no_header None h kept = tt
  no_header (Some g) h kept = absurd (both_ways _ absent kept.0)

  pub fresh_next : (piece : Piece) → IsHeadOf (format_of c) piece.head → IsFreshIn c n piece
  fresh_next piece head = record {
    header = no_header (header_in c n) piece.header (collects.headers n in_row);
    none = (below piece.head.count (λ i. not (has_in c n (piece.head.first + i)))).1 (λ i lt.
        let inside : piece.head.first + i < mbs_of (format_of c) = omega (arith, lt, head.within) in
        ap not (collects.marks n (piece.head.first + i) in_row inside
        ∙ laws.never taken n (piece.head.first + i) absent));
  }

-- after the row's end nothing was taken
pub absent_after : TakenLaws → (c : Collector) (first n : ℕ) (taken : List Taken) → Collects c first taken
    → row_of c ≡ 1 → n ≡ first + 1 → is_any_taken taken n ≡ false
absent_after laws c first n taken collects row is =
    false_from_ne_true _ (λ e.
    let m = laws.member taken n e in
    let below = collects.below m.0 m.1 in
    let number : m.0.number ≡ n = m.2 in
    absurd (omega (arith, below, number, row, is)))
