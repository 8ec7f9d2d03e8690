-- The temporal reference that the header of a packet names is below the period of its clock.
use Rattle.std.proofs.Common.{Ok, Err, Result, ◌≡◌, ℕ, ◌<◌, ◌*◌, Bool, ◌↔◌, refl, sym, ap, ◌∙◌, subst, arith, inl, inr, Option, Some, None, List, leb}
use Rattle.std.proofs.lemmas.Bool.{leb-false, cases_Bool}
use Rattle.h263_bits.specs.declared.fault.Fault.{Fault}
use Rattle.h263_bits.specs.declared.fault.FaultKind.TheVariants as faults
use Rattle.h263_bits.specs.Syntax.{Spells}
use Rattle.h263_types.specs.declared.format.Format.{Format}
use Rattle.h263_types.specs.declared.Kind.{Kind}
use Rattle.h263_types.specs.declared.Kind.TheVariants as kinds
use Rattle.h263_types.specs.declared.blocks.Mb.{Mb}
use Rattle.h263_types.specs.declared.clock.Clock.{Clock}
use Rattle.h263_types.specs.declared.params.Params.{Params}
use Rattle.h263_types.specs.Clocks.{half_of, period_of}
use Rattle.picture_header.specs.declared.header.Header.{Header}
use Rattle.picture_header.specs.Text.{header, reference, allowed_low, IsHeaderText}
use Rattle.h263_payload.specs.Headed.{IsHeaded}
use Rattle.h263_payload.specs.Text.{IsExtra}
use Rattle.packet_collector.specs.Packet.{PacketSlice, IsPacket, packet_at}
use Rattle.call_model.specs.Coding as call
use Rattle.call_decoding.specs.Rules.{rules_of}
use Rattle.call_decoding.specs.Styles.{Style}
use Rattle.receiver_end.specs.Decoding.{decoding, with_piece, piece_of}
use Rattle.stream_audit.specs.Replay.{ReadsInPeriod}
use Rattle.stream_audit.proofs.Lists.{not_none}

low_from : (clock : Clock) (v : ℕ) → allowed_low clock v ≡ None → v < period_of clock
low_from clock v e =
    elim (cases_Bool (leb (period_of clock) v)) [
      | inl high ↦ absurd (not_none faults.HighBits (sym (rw high refl) ∙ e))
      | inr low ↦ leb-false (period_of clock) v low
    ]

-- what the reference's field allows
named : (clock : Clock) (kind : Kind) (trp : Option ℕ) (bits : List Bool) → Spells (reference clock kind) trp bits
    → (rest : ℕ) → trp ≡ Some rest → rest < period_of clock
unfolding Spells reference
named clock kinds.I trp bits spells rest is = let none : trp ≡ None = spells.5.0 in
    absurd (not_none rest (sym (sym none ∙ is)))
named clock kinds.P trp bits spells rest is =
    let v = spells.5.0 in
    let some : trp ≡ Some v = spells.5.5.0 in
    let same : Some v ≡ Some rest = sym some ∙ is in
    let equal : v ≡ rest = cc in
    subst (λ (k : ℕ). k < period_of clock) equal (low_from clock v spells.5.3)

in_text : (format : Format) (h : Header) (bits : List Bool) → IsHeaderText format h bits → (rest : ℕ)
    → h.trp ≡ Some rest → rest < period_of h.clock
unfolding Spells header
in_text format h bits text rest is =
    let type = text.6 in
    let channel = type.6.6.6 in
    let trp = channel.6 in
    let end = trp.6.6.5.6 in
    let same : h.trp ≡ trp.0 = ap (λ (x : Header). x.trp) end.0 in
    let clock : h.clock ≡ type.0.0 = ap (λ (x : Header). x.clock) end.0 in
    subst (λ (c : Clock). rest < period_of c) (sym clock) (named type.0.0 type.0.1 trp.0 trp.1 trp.4 rest (sym same
    ∙ is))

in_packet : (format : Format) (o : Option Header) (h : Header) (plen pebit : ℕ) (front middle : List Bool)
    → IsHeaded format o h front → IsExtra format plen pebit o middle → (rest : ℕ) → h.trp ≡ Some rest
    → rest < period_of h.clock
in_packet format None h plen pebit front middle headed extra rest is = in_text format h front headed rest is
in_packet format (Some x) h plen pebit front middle headed extra rest is =
    subst (λ (y : Header). y.trp ≡ Some rest → rest < period_of y.clock) headed.0
    (in_text format x extra.0 extra.6 rest) is

pub reads_in_period : (p : Params) → ((s : PacketSlice) (bytes : List ℕ) → (packet_at p.format bytes ≡ Ok s)
    ↔ IsPacket p.format s bytes) → ReadsInPeriod (decoding p.format) (rules_of p)
reads_in_period p exact bytes piece rest reads half is = go (packet_at p.format bytes) refl reads
  where
    go : (r : Result PacketSlice Fault) → packet_at p.format bytes ≡ r → with_piece r ≡ Ok piece
        → rest < 2 * half_of p.clock
    go (Err fault) at e = cc
    go (Ok s) at e =
        let one : piece_of s ≡ piece = cc in
        let packet = (exact s bytes).0 at in
        let trp : s.header.trp ≡ Some rest = ap (λ (x : call.Piece Style Mb). x.header.reference) one ∙ is in
        let clock : half_of s.header.clock ≡ half_of p.clock = ap (λ (x : call.Piece Style Mb). x.header.half) one
        ∙ half in
        let low : rest < period_of s.header.clock = in_packet p.format packet.payload.extra s.header
        packet.is_payload.opening.plen packet.is_payload.opening.pebit packet.front packet.is_payload.middle
        packet.headed packet.is_payload.extra rest trp in
        omega (arith, low, clock)
