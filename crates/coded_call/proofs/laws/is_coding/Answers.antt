-- The coding meets each law of a call by the laws of its layers.
use Rattle.std.proofs.Common.{◌≡◌, ℕ, ◌<◌, Ok, Result, sym, ap, ◌∙◌, subst, arith, List, length}
use Rattle.std.specs.Prelude.{slice_get, slice_index_or}
use Rattle.h263_bits.specs.declared.fault.Fault.{Fault}
use Rattle.h263_types.specs.declared.Kind.{Kind}
use Rattle.h263_types.specs.declared.blocks.Mb.{Mb}
use Rattle.h263_types.specs.declared.format.Format.{Format}
use Rattle.h263_types.specs.declared.blocks.Mb.TheVariants.{Skip}
use Rattle.h263_types.specs.References.{ReachesInside}
use Rattle.h263_types.specs.Sizes.{mbs_of}
use Rattle.h263_planes.specs.Picture.{Picture}
use Rattle.h263_planes.specs.References.{HasReferenceOnlyInP}
use Rattle.picture_header.specs.Ranges.{IsHeader}
use Rattle.mode_choice.specs.Choice.{choice_of}
use Rattle.packet_cutter.specs.Packets.{packets_of}
use Rattle.packet_cutter.specs.Slices.{cut_of}
use Rattle.packet_collector.specs.Packet.{packet_at}
use Rattle.coded_call.specs.Sent.{AreSent, IsSentAt}
use Rattle.call_model.specs.Coding as call
use Rattle.call_decoding.specs.Styles.{Style, header_from}
use Rattle.call_encoding.specs.Encoding.{encoding}
use Rattle.call_encoding.specs.Frames.{styled_header, in_format, kind_of}
use Rattle.receiver_end.specs.Decoding.{with_piece}
use Rattle.coded_call.proofs.Sent.{has_reference, header_back}
use Rattle.coded_call.proofs.laws.is_coding.Goals as goal

pub returns : goal.returns
returns c p in_range = record {
  decodes = c.is_decoding.ensures p;
  encodes = c.is_encoding.ensures p;
  read_again = λ n sequence predicted header mbs j slice chosen fits at.
      let style = header.style in
      let frame = in_format p.format chosen.frame.picture in
      let reference = chosen.reference in
      let h = header_from header in
      let g = styled_header p.clock style in
      let kind : style.kind ≡ kind_of predicted = ap (λ (s : Style). s.kind) chosen.style_is in
      let ranged : IsHeader h =
      c.header_in_range.ensures p chosen.frame.messages predicted chosen.depth chosen.quant header
      (record { low = omega (arith, chosen.quant_range.0); high = omega (arith, chosen.quant_range.1) })
      chosen.style_is fits
      in
      let format : h.format ≡ p.format = ap (λ (s : Style). s.format) chosen.style_is in
      let quant : style.quant ≡ chosen.quant = ap (λ (s : Style). s.quant) chosen.style_is in
      let has : HasReferenceOnlyInP style.kind p.format reference =
      subst (λ (k : Kind). HasReferenceOnlyInP k p.format reference) (sym kind)
      (has_reference p.format predicted reference chosen.has_reference (λ q is.
      let made = chosen.reference_made q is in
      ap (λ (r : Picture). r.format) made.1 ∙ c.samples_are_picture.ensures.format p.format _))
      in
      let sent_at : (k : ℕ) → k < mbs_of p.format → IsSentAt h k (choice_of frame reference g p k) =
      λ k below. record {
        in_range = c.chosen_is_in_range.ensures.in_range frame reference g p k
            (record {
              low = omega (arith, chosen.quant_range.0, quant);
              high = omega (arith, chosen.quant_range.1, quant);
            });
        of_kind = c.chosen_is_in_range.ensures.of_kind frame reference g p k has;
        plain = c.chosen_is_in_range.ensures.plain frame reference g p k;
        whole = c.chosen_is_in_range.ensures.whole frame reference g p k;
        reach = subst (λ (f : Format). ReachesInside f k (choice_of frame reference g p k)) (sym format)
            (c.chosen_is_in_range.ensures.reach frame reference g p k has below);
      }
      in
      let sent : AreSent h mbs = record {
        count = ap (λ (l : List Mb). length l) chosen.mbs_are ∙ c.one_for_each_place.ensures.count frame reference g p
            ∙ ap mbs_of (sym format);
        each = λ k below.
            let here : k < mbs_of p.format = subst (λ (f : Format). k < mbs_of f) format below in
            subst (λ (m : Mb). IsSentAt h k m)
            (sym (ap (λ (l : List Mb). slice_index_or l k Skip) chosen.mbs_are
            ∙ c.one_for_each_place.ensures.each frame reference g p k here))
            (sent_at k here);
      } in
      let same_cut : cut_of h p.limit mbs ≡ (encoding p).cut style mbs =
      c.written_packets.ensures.cut p predicted header mbs fits kind in
      let read =
      c.read_again.ensures n sequence h p.limit mbs j slice ranged (omega (arith, in_range.limit_low))
      (omega (arith, in_range.limit_high)) sent
      (ap (λ (l : List (call.Slice Mb)). slice_get l j) same_cut ∙ at)
      in (
        read.0,
        ap (λ (l : List (call.Slice Mb)). slice_get (packets_of n sequence h l) j) (sym same_cut) ∙ read.1,
        ap (λ (f : Format). with_piece (packet_at f read.0)) (sym format)
            ∙ ap with_piece read.2
            ∙ ap (λ (x : call.Header Style). let r : Result (call.Piece Style Mb) Fault = Ok (record {
              header = x;
              slice = slice;
            }) in r) (header_back p.clock header fits.half),
      );
  no_packet = λ n sequence header slices j none. c.packet_of_each.ensures.none n sequence (header_from header) slices j
      none;
}
