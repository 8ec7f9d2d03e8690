-- The answer to a packet, by its clock and its number.
use Rattle.std.proofs.Common.{◌≡◌, ℕ, ◌+◌, ◌<◌, ◌≤◌, true, eqb, Option, Some, None, Ok, refl, ap, sym, ◌∙◌, arith}
use Rattle.std.proofs.lemmas.Bool.{lt-ltb, le-ltb, eq-eqb, ne_eqb}
use Rattle.h263_bits.specs.declared.fault.Fault.{Fault}
use Rattle.h263_types.specs.declared.blocks.Mb.{Mb}
use Rattle.h263_types.specs.declared.clock.Clock.{Clock}
use Rattle.h263_types.specs.declared.clock.Clock.TheVariants.{Standard, Custom}
use Rattle.h263_types.specs.Clocks.{half_of}
use Rattle.packet_collector.specs.declared.piece.Piece.{Piece}
use Rattle.call_model.specs.Coding as call
use Rattle.call_model.specs.Receiving.{Heard, OtherClock, Late, Early}
use Rattle.call_model.specs.Sending.{nearest}
use Rattle.call_model.specs.Stands.{judged}
use Rattle.call_model.specs.ReceiverStanding.{heard_by_kept}
use Rattle.call_decoding.specs.Rules.{rules_of}
use Rattle.call_decoding.specs.Styles.{Style}
use Rattle.receiver_end.specs.declared.kept.Kept.{Kept}
use Rattle.receiver_end.specs.Decoding.{decoding}
use Rattle.receiver_end.specs.State.{seen}
use Rattle.receiver_end.specs.Steps.{IsPieceOf}

apart : (a b : ℕ) → a ≡ 128 → b ≡ 512 → a ≡ b → ⊥
apart a b p q e = omega (arith, p, q, e)

pub halves : (a b : Clock) → half_of a ≡ half_of b → a ≡ b
halves Standard Standard e = refl
halves Custom Custom e = refl
halves Standard Custom e = absurd (apart (half_of Standard) (half_of Custom) refl refl e)
halves Custom Standard e = absurd (apart (half_of Standard) (half_of Custom) refl refl (sym e))

module _ (r : Kept) (piece : Piece) (p : call.Piece Style Mb) (spells : IsPieceOf piece p) where
  abbrev Answers : Heard Fault → Type 0
  Answers h = heard_by_kept (decoding r.params.format) (rules_of r.params) (seen r) (Ok p) ≡ h

  pub other_clock : (piece.header.clock ≡ r.params.clock → ⊥) → Answers OtherClock
  unfolding heard_by_kept
  other_clock differ =
      let ne : p.header.half ≡ half_of r.params.clock
      → ⊥ = λ e. differ (halves _ _ (sym (ap (λ (h : call.Header Style). h.half) spells.header) ∙ e)) in
      rw (ne_eqb p.header.half (half_of r.params.clock) ne) refl

  module _ (same : piece.header.clock ≡ r.params.clock) where
    halved : eqb p.header.half (half_of r.params.clock) ≡ true
    halved = eq-eqb _ _ (ap (λ (h : call.Header Style). h.half) spells.header ∙ ap half_of same)

    numbered : (o : Option ℕ) → nearest (rules_of r.params) r.played piece.header.tr ≡ o
        → nearest (rules_of r.params) r.played p.header.number ≡ o
    numbered o near = ap (λ (h : call.Header Style). nearest (rules_of r.params) r.played h.number) spells.header ∙ near

    pub no_number : nearest (rules_of r.params) r.played piece.header.tr ≡ None → Answers Late
    unfolding heard_by_kept
    no_number near = rw (halved, numbered None near) refl

    module _ (n : ℕ) (near : nearest (rules_of r.params) r.played piece.header.tr ≡ Some n) where
      pub too_late : n < r.played → Answers Late
      unfolding heard_by_kept
      too_late lt = rw (halved, numbered (Some n) near, lt-ltb n r.played lt) refl

      pub too_early : r.played ≤ n → r.played + r.params.lead < n → Answers Early
      unfolding heard_by_kept
      too_early low gt = rw (
        halved,
        numbered (Some n) near,
        le-ltb n r.played low,
        lt-ltb (r.played + r.params.lead) n gt,
      ) refl

      pub is_open : r.played ≤ n → n ≤ r.played + r.params.lead
          → Answers (judged (decoding r.params.format) (rules_of r.params) (seen r) n p)
      unfolding heard_by_kept
      is_open low high = rw (
        halved,
        numbered (Some n) near,
        le-ltb n r.played low,
        le-ltb (r.played + r.params.lead) n high,
      ) refl
