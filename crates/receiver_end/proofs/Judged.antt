-- What is judged of a slice is what the receiver that is seen answers.
use Rattle.std.proofs.Common.{◌≡◌, ℕ, ◌+◌, ◌<◌, ◌≤◌, Bool, true, false, not, refl, ap, sym, ◌∙◌, subst, arith}
use Rattle.std.specs.Prelude.{if◌then◌else◌}
use Rattle.h263_bits.specs.declared.fault.Fault.{Fault}
use Rattle.h263_types.specs.declared.blocks.Mb.{Mb}
use Rattle.h263_types.specs.declared.format.Format.{Format}
use Rattle.h263_types.specs.Sizes.{mbs_of}
use Rattle.h263_types.specs.Blocks.{IsHeadOf}
use Rattle.picture_header.specs.declared.header.Header.{Header}
use Rattle.packet_collector.specs.declared.piece.Piece.{Piece}
use Rattle.packet_collector.specs.declared.piece.Place.{Place}
use Rattle.packet_collector.specs.declared.piece.Place.TheVariants as places
use Rattle.packet_collector.specs.Taken.{Taken, IsPlace, HasNoOther}
use Rattle.packet_collector.specs.Taken as kept
use Rattle.packet_collector.specs.Collected.{IsInRow, header_in, has_in}
use Rattle.call_model.specs.Numbers.{all_below}
use Rattle.call_model.specs.Coding as call
use Rattle.call_model.specs.Receiving.{Heard, HeaderDiffers, MissingReference, Repeat, Overlap, all_in, none_in}
use Rattle.call_model.specs.Stands.{judged, fits_kept, reference_is_kept}
use Rattle.call_decoding.specs.Rules.{rules_of}
use Rattle.call_decoding.specs.Styles.{Style, call_header_of, header_from}
use Rattle.receiver_end.specs.declared.kept.Kept.{Kept}
use Rattle.receiver_end.specs.Decoding.{decoding}
use Rattle.receiver_end.specs.State.{Fits, seen}
use Rattle.receiver_end.specs.Steps.{IsPieceOf, taking}
use Rattle.receiver_end.proofs.Headers.{fits, differs}
use Rattle.receiver_end.proofs.Marked.{all_same}

abbrev chosen : Bool → Bool → Bool → Bool → Kept → ℕ → call.Piece Style Mb → Heard Fault
chosen fitting there every none r n p =
    if not fitting then HeaderDiffers else if not there then MissingReference else if every then Repeat else if not
    none then Overlap else taking r n p

module _ (whole : (h : Header) → header_from (call_header_of h) ≡ h) (r : Kept) (n : ℕ) (piece : Piece)
    (p : call.Piece Style Mb) (ok : Fits r)
    (low : r.played ≤ n) (high : n ≤ r.played + r.params.lead) (head : IsHeadOf r.params.format piece.head)
    (spells : IsPieceOf piece p) where
  abbrev the_header : Bool
  the_header = fits_kept (decoding r.params.format) ((seen r).header n) p.header

  abbrev the_reference : Bool
  the_reference = reference_is_kept (decoding r.params.format) (rules_of r.params) (seen r) n p.header.reference

  chain : (a b c d : Bool) → the_header ≡ a → the_reference ≡ b → all_in p.slice ((seen r).has n) ≡ c
      → none_in p.slice ((seen r).has n) ≡ d
      → judged (decoding r.params.format) (rules_of r.params) (seen r) n p ≡ chosen a b c d r n p
  unfolding judged
  chain a b c d e f g h = λ i. chosen (e i) (f i) (g i) (h i) r n p

  in_row : IsInRow r.collector n
  in_row = record {
    low = omega (arith, low, ok.collects.begins);
    high = omega (arith, high, ok.collects.begins, ok.row);
  }

  marked : (k : ℕ) → k < mbs_of r.params.format → has_in r.collector n k ≡ kept.is_mb_taken ok.taken n k
  marked k lt = ok.collects.marks n k in_row (subst (λ (f : Format). k < mbs_of f) (sym ok.collected) lt)

  at : (i : ℕ) → i < piece.head.count → has_in r.collector n (p.slice.first + i)
      ≡ kept.is_mb_taken ok.taken n (piece.head.first + i)
  at i lt = ap (λ (k : ℕ). has_in r.collector n (k + i)) spells.first
      ∙ marked (piece.head.first + i) (omega (arith, lt, head.within))

  every_is : all_in p.slice ((seen r).has n) ≡ kept.all_in_head piece.head (kept.is_mb_taken ok.taken n)
  every_is = ap (λ (k : ℕ). all_below k (λ i. has_in r.collector n (p.slice.first + i))) spells.count
      ∙ all_same piece.head.count _ _ at

  none_is : none_in p.slice ((seen r).has n) ≡ kept.none_in_head piece.head (kept.is_mb_taken ok.taken n)
  none_is = ap (λ (k : ℕ). all_below k (λ i. not (has_in r.collector n (p.slice.first + i)))) spells.count
      ∙ all_same piece.head.count _ _ (λ i lt. ap not (at i lt))

  header_fits : HasNoOther ok.taken n piece.header → the_header ≡ true
  header_fits none =
      ap (fits_kept (decoding r.params.format) ((seen r).header n)) spells.header
      ∙ fits r.params.format whole ok.taken n piece.header (header_in r.collector n) (ok.collects.headers n in_row) none

  pub other_header : IsPlace ok.taken n piece places.HeaderDiffers
      → judged (decoding r.params.format) (rules_of r.params) (seen r) n p ≡ HeaderDiffers
  other_header is =
      chain false _ _ _ (ap (fits_kept (decoding r.params.format) ((seen r).header n)) spells.header
      ∙ differs r.params.format whole ok.taken n piece.header (header_in r.collector n)
      (ok.collects.headers n in_row) is) refl refl refl

  no_other : (place : Place) → IsPlace ok.taken n piece place → (place ≡ places.HeaderDiffers → ⊥)
      → HasNoOther ok.taken n piece.header
  no_other places.HeaderDiffers is other = absurd (other refl)
  no_other places.Repeat is other = is.0
  no_other places.Overlap is other = is.0
  no_other places.Fresh is other = is.0

  named : reference_is_kept (decoding r.params.format) (rules_of r.params) (seen r) n piece.header.trp ≡ the_reference
  named = ap (λ (h : call.Header Style). reference_is_kept (decoding r.params.format) (rules_of r.params)
      (seen r) n h.reference) (sym spells.header)

  pub missing : (place : Place) → IsPlace ok.taken n piece place → (place ≡ places.HeaderDiffers → ⊥)
      → false ≡ reference_is_kept (decoding r.params.format) (rules_of r.params) (seen r) n piece.header.trp
      → judged (decoding r.params.format) (rules_of r.params) (seen r) n p ≡ MissingReference
  missing place is other there = chain true false _ _ (header_fits (no_other place is other)) (sym (there ∙ named)) refl
      refl

  module _ (there : true ≡ reference_is_kept (decoding r.params.format) (rules_of r.params)
      (seen r) n piece.header.trp) where
    pub repeats : IsPlace ok.taken n piece places.Repeat
        → judged (decoding r.params.format) (rules_of r.params) (seen r) n p ≡ Repeat
    repeats is = chain true true true _ (header_fits is.0) (sym (there ∙ named)) (every_is ∙ is.1) refl

    pub overlaps : IsPlace ok.taken n piece places.Overlap
        → judged (decoding r.params.format) (rules_of r.params) (seen r) n p ≡ Overlap
    overlaps is = chain true true false false (header_fits is.0) (sym (there ∙ named)) (every_is ∙ is.1) (none_is
        ∙ is.2)

    pub is_fresh : IsPlace ok.taken n piece places.Fresh
        → judged (decoding r.params.format) (rules_of r.params) (seen r) n p ≡ taking r n p
    is_fresh is = chain true true false true (header_fits is.0) (sym (there ∙ named)) (every_is ∙ is.1) (none_is ∙ is.2)
