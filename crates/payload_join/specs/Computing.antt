-- What a proof opens to compute a whole run.
use Rattle.std.specs.Prelude.{⊤}
use Rattle.h263_bits.specs.Bits.{bits_of, number, spelled}
use Rattle.h263_bits.specs.Reading.{number_at}
use Rattle.h263_bits.specs.Syntax.{begins, found, is_cut, reading, word_at}
use Rattle.back_messages.specs.Text.{flags, marks_in, message, message_fault, message_value}
use Rattle.picture_header.specs.Text.{back, back_turn, bci, channel, extended, extra, extra_turn, header, multipoint, next_message, plus_type, reference}
use Rattle.picture_header.specs.Text.{opening as picture_opening}
use Rattle.rtp_header.specs.Text.{after_fixed, extension, head}
use Rattle.rtp_header.specs.Faults.{rtp_in}
use Rattle.h263_payload.specs.Text.{payload_opening}
use Rattle.payload_join.specs.Packet.{packet_after, packet_in}
use Rattle.payload_join.specs.Split.{split_of}
use Rattle.payload_join.specs.Unit.{each_below, is_unit, least_from, held_packet, unit_at}
use Rattle.h263_bits.specs.Bytes.{bytes_filled}
use Rattle.payload_join.specs.Outgoing.{coded_from, header_copied, outgoing_of, unit_out}
use Rattle.payload_join.specs.Run.{join_run, joined_by, made_from}
use Rattle.payload_join.specs.Worked.{answers, follow_on, two_slices, header_of_63_bytes, header_of_64_bytes, window_ends, closed_by_the_next, extra_headers, sources_and_extension, copies, cut_packet, start_code_across_packets, two_pictures, out_of_order, slices_after_a_picture, no_end}
use Rattle.payload_join.specs.WorkedPackets.{bytes_from, hex, follow_on_0, follow_on_1, two_slices_0, header_of_63_bytes_0, header_of_64_bytes_0, window_ends_0, window_ends_1, window_ends_2, window_ends_3, window_ends_4, window_ends_5, closed_by_the_next_0, closed_by_the_next_1, closed_by_the_next_2, extra_headers_0, extra_headers_1, extra_headers_2, extra_headers_3, extra_headers_4, sources_and_extension_0, sources_and_extension_1, sources_and_extension_2, sources_and_extension_3, sources_and_extension_4, sources_and_extension_5}
use Rattle.payload_join.specs.WorkedLogs.{copies_0, copies_1, copies_2, copies_3, copies_4, copies_5, copies_6, copies_7, copies_8, copies_9, copies_10, copies_11, copies_12, copies_13, cut_packet_0, cut_packet_1, cut_packet_2, cut_packet_3, cut_packet_4, cut_packet_5, start_code_across_packets_0, start_code_across_packets_1, start_code_across_packets_2, start_code_across_packets_3, start_code_across_packets_4, start_code_across_packets_5, start_code_across_packets_6, start_code_across_packets_7, start_code_across_packets_8, start_code_across_packets_9, start_code_across_packets_10, start_code_across_packets_11, start_code_across_packets_12, start_code_across_packets_13, two_pictures_0, two_pictures_1, out_of_order_0, out_of_order_1, out_of_order_2, out_of_order_3, out_of_order_4, out_of_order_5, out_of_order_6, out_of_order_7, out_of_order_8, out_of_order_9, out_of_order_10, out_of_order_11, out_of_order_12, out_of_order_13, out_of_order_14, out_of_order_15, slices_after_a_picture_0, slices_after_a_picture_1, slices_after_a_picture_2, slices_after_a_picture_3, slices_after_a_picture_4, slices_after_a_picture_5, slices_after_a_picture_6, slices_after_a_picture_7, slices_after_a_picture_8, slices_after_a_picture_9, slices_after_a_picture_10, no_end_0, no_end_1, no_end_2, no_end_3, no_end_4, no_end_5}

-- the definitions by which what becomes of a packet, and what goes out, are computed
unfoldable pub whole_runs : ⊤
unfolding answers join_run joined_by packet_in packet_after made_from each_below least_from is_unit unit_at
    outgoing_of unit_out header_copied coded_from split_of bytes_filled held_packet rtp_in head after_fixed extension
    payload_opening
    reading number_at bits_of spelled number word_at found is_cut begins picture_opening plus_type multipoint
    extended channel reference back back_turn next_message bci extra extra_turn header message message_fault
    message_value marks_in flags bytes_from hex
    follow_on_0 follow_on_1 two_slices_0 header_of_63_bytes_0 header_of_64_bytes_0 window_ends_0 window_ends_1
    window_ends_2 window_ends_3 window_ends_4 window_ends_5 closed_by_the_next_0 closed_by_the_next_1
    closed_by_the_next_2 extra_headers_0 extra_headers_1 extra_headers_2 extra_headers_3 extra_headers_4
    sources_and_extension_0 sources_and_extension_1 sources_and_extension_2 sources_and_extension_3
    sources_and_extension_4 sources_and_extension_5 copies_0 copies_1 copies_2 copies_3 copies_4 copies_5 copies_6
    copies_7 copies_8 copies_9 copies_10 copies_11 copies_12 copies_13 cut_packet_0 cut_packet_1 cut_packet_2
    cut_packet_3 cut_packet_4 cut_packet_5 start_code_across_packets_0 start_code_across_packets_1
    start_code_across_packets_2 start_code_across_packets_3 start_code_across_packets_4 start_code_across_packets_5
    start_code_across_packets_6 start_code_across_packets_7 start_code_across_packets_8 start_code_across_packets_9
    start_code_across_packets_10 start_code_across_packets_11 start_code_across_packets_12
    start_code_across_packets_13 two_pictures_0 two_pictures_1 out_of_order_0 out_of_order_1 out_of_order_2
    out_of_order_3 out_of_order_4 out_of_order_5 out_of_order_6 out_of_order_7 out_of_order_8 out_of_order_9
    out_of_order_10 out_of_order_11 out_of_order_12 out_of_order_13 out_of_order_14 out_of_order_15
    slices_after_a_picture_0 slices_after_a_picture_1 slices_after_a_picture_2 slices_after_a_picture_3
    slices_after_a_picture_4 slices_after_a_picture_5 slices_after_a_picture_6 slices_after_a_picture_7
    slices_after_a_picture_8 slices_after_a_picture_9 slices_after_a_picture_10 no_end_0 no_end_1 no_end_2 no_end_3
    no_end_4 no_end_5
    follow_on two_slices header_of_63_bytes header_of_64_bytes window_ends closed_by_the_next extra_headers
    sources_and_extension copies cut_packet start_code_across_packets two_pictures out_of_order
    slices_after_a_picture no_end
whole_runs = tt
