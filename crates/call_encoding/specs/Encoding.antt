-- What a sender uses of frames, packets and messages.
use Rattle.std.specs.Prelude.{List, Option}
use Rattle.h263_types.specs.declared.blocks.Mb.{Mb}
use Rattle.h263_types.specs.declared.params.Params.{Params}
use Rattle.h263_planes.specs.Picture.{Picture}
use Rattle.back_messages.specs.declared.message.MessageFault.{MessageFault}
use Rattle.mode_choice.specs.Choice.{choices_of}
use Rattle.packet_cutter.specs.Slices.{cut_of}
use Rattle.packet_cutter.specs.Packets.{packets_of}
use Rattle.call_model.specs.Coding.{Encoding, Slice}
use Rattle.call_decoding.specs.Styles.{Style, header_from}
use Rattle.call_encoding.specs.Frames.{Frame, styled_header, in_format, style_with}
use Rattle.call_encoding.specs.Messages.{write_message, read_message}

-- the macroblocks that are chosen for a frame, and the slices of macroblocks: they are the same
-- for all headers of one style
abbrev pub choices_for : Params → Frame → Option Picture → Style → List Mb
choices_for p frame reference style =
    choices_of (in_format p.format frame.picture) reference (styled_header p.clock style) p

abbrev pub slices_of : Params → Style → List Mb → List (Slice Mb)
slices_of p style mbs = cut_of (styled_header p.clock style) p.limit mbs

abbrev pub encoding : Params → Encoding Frame Style Mb Picture MessageFault
encoding p =
    record {
      style = λ frame predicted depth quant. style_with p frame.messages predicted depth quant;
      choice = choices_for p;
      cut = slices_of p;
      packets = λ number sequence h slices. packets_of number sequence (header_from h) slices;
      write_message = write_message;
      read_message = λ bytes. read_message p.clock bytes;
    }
