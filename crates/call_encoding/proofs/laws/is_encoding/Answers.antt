use Rattle.std.proofs.Common.{◌≡◌, ℕ, ◌∙◌, ap, subst, List, length}
use Rattle.h263_types.specs.declared.blocks.Mb.{Mb}
use Rattle.h263_types.specs.declared.blocks.Mb.TheVariants.{Skip}
use Rattle.h263_types.specs.Sizes.{mbs_of}
use Rattle.call_model.specs.Lawful.{Divides}
use Rattle.call_decoding.specs.Styles.{header_from}
use Rattle.call_encoding.specs.Encoding.{encoding}
use Rattle.call_encoding.specs.Frames.{styled_header, in_format}
use Rattle.call_encoding.proofs.Messages.{message_again}
use Rattle.call_encoding.proofs.laws.is_encoding.Goals as goal

pub returns : goal.returns
returns c p = record {
  divides = λ predicted style mbs chosen.
      let long : length mbs ≡ mbs_of p.format =
      ap (λ (l : List Mb). length l) chosen.mbs_are
      ∙ c.one_for_each_place.ensures.count (in_format p.format chosen.frame.picture) chosen.reference
      (styled_header p.clock style) p
      in
      subst (λ (n : ℕ). Divides Skip n ((encoding p).cut style mbs) mbs) long
      (c.cut_divides.ensures.divides (styled_header p.clock style) p.limit mbs);
  sequence_wraps = λ n sequence header slices. c.packet_of_each.ensures.wraps n sequence (header_from header) slices;
  message_again = λ m fits count. message_again c.in_a_syntax.ensures c.exact_text.ensures.written p m fits count;
}
