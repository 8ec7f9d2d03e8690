-- Of which picture a packet is.
use Rattle.std.proofs.Common.{◌≡◌, ℕ, List, None, Result, Ok, Err, refl, ap, sym, ◌∙◌}
use Rattle.std.specs.Prelude.{option_and_then}
use Rattle.std.specs.Result.{result_ok}
use Rattle.std.proofs.lemmas.Bool.{eq-eqb, ne_eqb}
use Rattle.h263_bits.specs.declared.fault.Fault.{Fault}
use Rattle.h263_types.specs.declared.blocks.Mb.{Mb}
use Rattle.h263_types.specs.Clocks.{half_of}
use Rattle.packet_collector.specs.declared.piece.Piece.{Piece}
use Rattle.packet_collector.specs.Packet.{PacketSlice, packet_at}
use Rattle.call_model.specs.Coding as call
use Rattle.call_model.specs.Receiving.{ReceiverEntry, piece_number}
use Rattle.call_model.specs.Sending.{nearest}
use Rattle.call_decoding.specs.Rules.{rules_of}
use Rattle.call_decoding.specs.Styles.{Style, call_header_of}
use Rattle.receiver_end.specs.declared.kept.Kept.{Kept}
use Rattle.receiver_end.specs.Decoding.{decoding, with_piece}
use Rattle.receiver_end.specs.State.{Stands, number_after, run_of}
use Rattle.receiver_end.proofs.Numbered.{halves}

module _ (r : Kept) (piece : Piece) (p : call.Piece Style Mb) (spells : p.header ≡ call_header_of piece.header) where
  pub of_other_clock : (piece.header.clock ≡ r.params.clock → ⊥) → None ≡ piece_number (rules_of r.params) r.played p
  unfolding piece_number
  of_other_clock differ =
      let ne : p.header.half ≡ half_of r.params.clock
      → ⊥ = λ e. differ (halves _ _ (sym (ap (λ (h : call.Header Style). h.half) spells) ∙ e)) in
      rw (ne_eqb p.header.half (half_of r.params.clock) ne) refl

  pub of_this_clock : piece.header.clock ≡ r.params.clock → nearest (rules_of r.params) r.played piece.header.tr
      ≡ piece_number (rules_of r.params) r.played p
  unfolding piece_number
  of_this_clock same =
      rw (eq-eqb p.header.half (half_of r.params.clock) (ap (λ (h : call.Header Style). h.half) spells
      ∙ ap half_of same))
      (ap (λ (h : call.Header Style). nearest (rules_of r.params) r.played h.number) (sym spells))

-- a packet with a fault is of none
pub number_err : (r : Kept) (past : List ReceiverEntry) (bytes : List ℕ) (fault : Fault)
    → packet_at r.params.format bytes ≡ Err fault → None ≡ number_after r.params past bytes
number_err r past bytes fault read =
    ap (λ (x : Result PacketSlice Fault). option_and_then (piece_number (rules_of r.params)
    (run_of r.params past).played)
    (result_ok (with_piece x))) (sym read)

-- one that is read is of the picture that its slice is of
pub number_ok : (r : Kept) (past : List ReceiverEntry) → Stands r past → (bytes : List ℕ) (p : call.Piece Style Mb)
    → (decoding r.params.format).read bytes ≡ Ok p
    → piece_number (rules_of r.params) r.played p ≡ number_after r.params past bytes
number_ok r past stands bytes p read =
    ap (λ (n : ℕ). piece_number (rules_of r.params) n p) stands.played
    ∙ ap (λ (x : Result (call.Piece Style Mb) Fault). option_and_then (piece_number (rules_of r.params)
    (run_of r.params past).played) (result_ok x)) (sym read)
