use Rattle.std.proofs.Common.{◌∙◌, ap, List}
use Rattle.h263_types.specs.declared.blocks.Mb.{Mb}
use Rattle.call_model.specs.Coding.{Slice}
use Rattle.call_decoding.specs.Styles.{header_from}
use Rattle.packet_cutter.specs.Packets.{packets_of}
use Rattle.call_encoding.specs.Frames.{styled_header}
use Rattle.call_encoding.proofs.Styles.{choice_is, one_style}
use Rattle.call_encoding.proofs.laws.written_packets.Goals as goal

pub returns-clause-choice : goal.returns-clause-choice
returns-clause-choice c p frame reference h format = choice_is p frame.picture reference h format

pub returns-clause-cut : goal.returns-clause-cut
returns-clause-cut c p predicted h mbs fits kind =
    c.cut_divides.ensures.style (header_from h) (styled_header p.clock h.style) p.limit mbs
    (one_style p predicted h fits kind)

pub returns-clause-packets : goal.returns-clause-packets
returns-clause-packets c p predicted number sequence h mbs packets fits kind written =
    c.by_functions.ensures.packets number sequence (header_from h) p.limit mbs packets written
    ∙ ap (λ (l : List (Slice Mb)). packets_of number sequence (header_from h) l)
    (c.cut_divides.ensures.style (header_from h) (styled_header p.clock h.style) p.limit mbs
    (one_style p predicted h fits kind))

pub returns-clause-count : goal.returns-clause-count
returns-clause-count c p number sequence h slices = c.packet_of_each.ensures.count number sequence
    (header_from h) slices

pub returns-clause-small : goal.returns-clause-small
returns-clause-small c number sequence h limit mbs packets written =
    c.cut_parts.ensures.packets number sequence h limit 0 mbs written.runs packets written.cut written.each
