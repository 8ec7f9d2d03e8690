-- Calls that are worked through: what comes in, what becomes of each packet, and what goes out, as
-- an independent program gives it.
use Rattle.std.specs.Prelude.{◌≡◌, ℕ, List, [], ◌∷◌, ◌++◌, reverse}
use Rattle.h263_bits.specs.declared.fault.FaultKind.TheVariants.{Ended, Short}
use Rattle.h263_types.specs.declared.format.Format.{Format}
use Rattle.h263_types.specs.declared.format.Format.TheVariants.{SubQcif, Cif}
use Rattle.payload_join.specs.declared.took.Took.{Took}
use Rattle.payload_join.specs.declared.took.Took.TheVariants.{Held, Old, Again, Refused}
use Rattle.payload_join.specs.Packet.{bytes_between}
use Rattle.payload_join.specs.Run.{join_run, took_next}
use Rattle.payload_join.specs.WorkedPackets as p
use Rattle.payload_join.specs.WorkedLogs as l
use Rattle.payload_join.specs.WorkedPackets.{hex}

pub record WorkedCall : Type 0 where
  -- that of the picture headers
  pub format : Format
  -- the packets that come in, one after the other, and what becomes of each
  pub packets : List (List ℕ)
  pub each : List Took
  -- the packets that go out
  pub out : List (List ℕ)

-- what becomes of each packet
unfoldable pub answers : List (List ℕ) → List Took
answers [] = []
answers (bytes ∷ past) = answers past ++ took_next past bytes ∷ []

-- it runs so
pub record RunsSo (c : WorkedCall) : Type 0 where
  pub each_is : answers (reverse c.packets) ≡ c.each
  pub out_is : join_run c.format (reverse c.packets) ≡ c.out

unfoldable pub follow_on : WorkedCall
follow_on =
    record {
      format = SubQcif;
      packets = p.follow_on_0 ∷ p.follow_on_1 ∷ [];
      each = Held ∷ Held ∷ [];
      out = (hex 14 (0x8060000000000000483236330400 ∷ [])
          ++ (bytes_between p.follow_on_1 14 100 ++ bytes_between p.follow_on_0 14 256)) ∷ [];
    }

unfoldable pub two_slices : WorkedCall
two_slices =
    record {
      format = Cif;
      packets = p.two_slices_0 ∷ [];
      each = Held ∷ [];
      out = (hex 14 (0x8060000000000000483236330400 ∷ []) ++ bytes_between p.two_slices_0 14 1396) ∷
          (hex 14 (0x806000000000000048323633044d ∷ [])
          ++ (bytes_between p.two_slices_0 14 22 ++ bytes_between p.two_slices_0 1397 2653)) ∷ [];
    }

unfoldable pub header_of_63_bytes : WorkedCall
header_of_63_bytes =
    record {
      format = SubQcif;
      packets = p.header_of_63_bytes_0 ∷ [];
      each = Held ∷ [];
      out = (hex 14 (0x8060000700000009483236330400 ∷ []) ++ bytes_between p.header_of_63_bytes_0 14 84) ∷
          (hex 14 (0x80600007000000094832363305fd ∷ [])
          ++ (bytes_between p.header_of_63_bytes_0 14 76 ++ hex 5 (0x80c18010a0 ∷ []))) ∷ [];
    }

unfoldable pub header_of_64_bytes : WorkedCall
header_of_64_bytes =
    record {
      format = SubQcif;
      packets = p.header_of_64_bytes_0 ∷ [];
      each = Held ∷ [];
      out = (hex 14 (0x8060000700000009483236330400 ∷ []) ++ bytes_between p.header_of_64_bytes_0 14 92) ∷ [];
    }

unfoldable pub window_ends : WorkedCall
window_ends =
    record {
      format = SubQcif;
      packets = p.window_ends_0 ∷ p.window_ends_1 ∷ p.window_ends_1 ∷ p.window_ends_2 ∷ p.window_ends_3 ∷
          p.window_ends_4 ∷ p.window_ends_2 ∷ p.window_ends_5 ∷ p.window_ends_4 ∷ p.window_ends_0 ∷ [];
      each = Held ∷ Held ∷ Again ∷ Held ∷ Old ∷ Held ∷ Old ∷ Held ∷ Old ∷ Old ∷ [];
      out = [];
    }

unfoldable pub closed_by_the_next : WorkedCall
closed_by_the_next =
    record {
      format = SubQcif;
      packets = p.closed_by_the_next_0 ∷ p.closed_by_the_next_1 ∷ p.closed_by_the_next_2 ∷ [];
      each = Held ∷ Held ∷ Held ∷ [];
      out = (hex 14 (0x8060000c00000009483236330400 ∷ []) ++ hex 2 (0xc506 ∷ [])) ∷
          (hex 14 (0x8060000a00000009483236330400 ∷ []) ++ hex 4 (0xc102c304 ∷ [])) ∷ [];
    }

unfoldable pub extra_headers : WorkedCall
extra_headers =
    record {
      format = SubQcif;
      packets = p.extra_headers_0 ∷ p.extra_headers_1 ∷ p.extra_headers_2 ∷ p.extra_headers_3 ∷ p.extra_headers_4 ∷ [];
      each = Held ∷ Held ∷ Refused (record { kind = Ended; at = 120 }) ∷ Refused (record {
        kind = Ended;
        at = 96;
      }) ∷ Refused (record { kind = Ended; at = 120 }) ∷ [];
      out = (hex 14 (0x8060000900000009483236330400 ∷ [])) ∷ (hex 14 (0x8060000900000009483236330400 ∷ [])
          ++ hex 2 (0x8001 ∷ [])) ∷ (hex 14 (0x806000080000000948323633040b ∷ []) ++ hex 3 (0xdec708 ∷ [])) ∷
          (hex 14 (0x806000080000000948323633040b ∷ []) ++ hex 2 (0xde80 ∷ [])) ∷ [];
    }

unfoldable pub sources_and_extension : WorkedCall
sources_and_extension =
    record {
      format = SubQcif;
      packets = p.sources_and_extension_0 ∷ p.sources_and_extension_1 ∷ p.sources_and_extension_2 ∷
          p.sources_and_extension_3 ∷ p.sources_and_extension_4 ∷ p.sources_and_extension_5 ∷ [];
      each = Held ∷ Held ∷ Held ∷ Held ∷ Held ∷ Held ∷ [];
      out = (hex 14 (0x8060ffdc00000000483236330400 ∷ [])
          ++ (bytes_between p.sources_and_extension_0 58 274
          ++ (bytes_between p.sources_and_extension_1 15 191
          ++ (bytes_between p.sources_and_extension_2 14 79 ++ hex 2 (0x0000 ∷ []))))) ∷ [];
    }

unfoldable pub copies : WorkedCall
copies =
    record {
      format = SubQcif;
      packets = l.copies_0 ∷ l.copies_1 ∷ l.copies_2 ∷ l.copies_3 ∷ l.copies_4 ∷ l.copies_5 ∷ l.copies_6 ∷ l.copies_7 ∷
          l.copies_8 ∷ l.copies_9 ∷ l.copies_10 ∷ l.copies_11 ∷ l.copies_12 ∷ l.copies_13 ∷ [];
      each = Held ∷ Held ∷ Held ∷ Held ∷ Held ∷ Held ∷ Again ∷ Held ∷ Held ∷ Held ∷ Again ∷ Held ∷ Held ∷ Held ∷ [];
      out = (hex 14 (0x80607ff800000000483236330400 ∷ [])
          ++ (bytes_between l.copies_0 38 178
          ++ (bytes_between l.copies_1 24 157
          ++ (bytes_between l.copies_2 14 75
          ++ (bytes_between l.copies_3 14 78
          ++ (bytes_between l.copies_4 14 109 ++ bytes_between l.copies_5 14 35)))))) ∷ [];
    }

unfoldable pub cut_packet : WorkedCall
cut_packet =
    record {
      format = SubQcif;
      packets = l.cut_packet_0 ∷ l.cut_packet_1 ∷ l.cut_packet_2 ∷ l.cut_packet_3 ∷ l.cut_packet_4 ∷ l.cut_packet_5 ∷
          [];
      each = Held ∷ Held ∷ Again ∷ Held ∷ Held ∷ Held ∷ [];
      out = (hex 14 (0x8060d2e900000000483236330400 ∷ [])
          ++ (bytes_between l.cut_packet_0 14 447 ++ bytes_between l.cut_packet_1 23 29)) ∷ [];
    }

unfoldable pub start_code_across_packets : WorkedCall
start_code_across_packets =
    record {
      format = SubQcif;
      packets = l.start_code_across_packets_0 ∷ l.start_code_across_packets_1 ∷ l.start_code_across_packets_2 ∷
          l.start_code_across_packets_3 ∷ l.start_code_across_packets_4 ∷ l.start_code_across_packets_5 ∷
          l.start_code_across_packets_6 ∷ l.start_code_across_packets_7 ∷ l.start_code_across_packets_8 ∷
          l.start_code_across_packets_9 ∷ l.start_code_across_packets_10 ∷ l.start_code_across_packets_11 ∷
          l.start_code_across_packets_12 ∷ l.start_code_across_packets_13 ∷ [];
      each = Held ∷ Held ∷ Held ∷ Held ∷ Held ∷ Held ∷ Refused (record { kind = Short; at = 232 }) ∷ Held ∷ Held ∷
          Held ∷ Held ∷ Held ∷ Held ∷ Held ∷ [];
      out = (hex 14 (0x8060e46200000000483236330400 ∷ []) ++ bytes_between l.start_code_across_packets_0 14 327) ∷
          (hex 14 (0x8060e46200000000483236330490 ∷ [])
          ++ (bytes_between l.start_code_across_packets_0 14 32
          ++ (bytes_between l.start_code_across_packets_1 15 120
          ++ (bytes_between l.start_code_across_packets_2 14 61
          ++ (bytes_between l.start_code_across_packets_3 14 282
          ++ (bytes_between l.start_code_across_packets_4 14 26
          ++ bytes_between l.start_code_across_packets_5 14 46)))))) ∷ [];
    }

unfoldable pub two_pictures : WorkedCall
two_pictures =
    record {
      format = SubQcif;
      packets = l.two_pictures_0 ∷ l.two_pictures_1 ∷ [];
      each = Held ∷ Held ∷ [];
      out = (hex 14 (0x80607ff800000000483236330400 ∷ []) ++ bytes_between l.two_pictures_0 15 724) ∷
          (hex 14 (0x80607ff900000bbb483236330400 ∷ []) ++ bytes_between l.two_pictures_1 14 80) ∷ [];
    }

unfoldable pub out_of_order : WorkedCall
out_of_order =
    record {
      format = SubQcif;
      packets = l.out_of_order_0 ∷ l.out_of_order_1 ∷ l.out_of_order_2 ∷ l.out_of_order_3 ∷ l.out_of_order_4 ∷
          l.out_of_order_5 ∷ l.out_of_order_6 ∷ l.out_of_order_7 ∷ l.out_of_order_8 ∷ l.out_of_order_9 ∷
          l.out_of_order_10 ∷ l.out_of_order_11 ∷ l.out_of_order_12 ∷ l.out_of_order_13 ∷ l.out_of_order_14 ∷
          l.out_of_order_15 ∷ [];
      each = Held ∷ Held ∷ Held ∷ Held ∷ Held ∷ Held ∷ Held ∷ Held ∷ Held ∷ Held ∷ Held ∷ Held ∷ Held ∷ Held ∷ Held ∷
          Held ∷ [];
      out = (hex 14 (0x8060000000000000483236330400 ∷ [])
          ++ (bytes_between l.out_of_order_13 14 433
          ++ (bytes_between l.out_of_order_0 35 536
          ++ (bytes_between l.out_of_order_1 66 197 ++ bytes_between l.out_of_order_2 66 220)))) ∷
          (hex 14 (0x806000000000000048323633044d ∷ [])
          ++ (bytes_between l.out_of_order_13 14 22
          ++ (hex 1 (0xc0 ∷ [])
          ++ (bytes_between l.out_of_order_3 17 134
          ++ (bytes_between l.out_of_order_12 14 215 ++ bytes_between l.out_of_order_9 22 607))))) ∷
          (hex 14 (0x8060001300002331483236330400 ∷ []) ++ bytes_between l.out_of_order_15 55 333) ∷
          (hex 14 (0x806000130000233148323633044d ∷ [])
          ++ (bytes_between l.out_of_order_15 55 63
          ++ (hex 1 (0xc0 ∷ []) ++ bytes_between l.out_of_order_15 335 573))) ∷ [];
    }

unfoldable pub slices_after_a_picture : WorkedCall
slices_after_a_picture =
    record {
      format = SubQcif;
      packets = l.slices_after_a_picture_0 ∷ l.slices_after_a_picture_1 ∷ l.slices_after_a_picture_2 ∷
          l.slices_after_a_picture_3 ∷ l.slices_after_a_picture_4 ∷ l.slices_after_a_picture_5 ∷
          l.slices_after_a_picture_6 ∷ l.slices_after_a_picture_7 ∷ l.slices_after_a_picture_7 ∷
          l.slices_after_a_picture_8 ∷ l.slices_after_a_picture_9 ∷ l.slices_after_a_picture_10 ∷ [];
      each = Held ∷ Held ∷ Held ∷ Held ∷ Held ∷ Held ∷ Held ∷ Held ∷ Again ∷ Held ∷ Held ∷ Again ∷ [];
      out = (hex 14 (0x8060ffdc00000000483236330400 ∷ [])
          ++ (bytes_between l.slices_after_a_picture_0 34 126
          ++ (bytes_between l.slices_after_a_picture_1 26 222
          ++ (bytes_between l.slices_after_a_picture_2 14 75 ++ bytes_between l.slices_after_a_picture_3 14 122)))) ∷
          (hex 14 (0x8060ffdc0000000048323633044d ∷ [])
          ++ (bytes_between l.slices_after_a_picture_0 34 42 ++ bytes_between l.slices_after_a_picture_4 15 57)) ∷
          (hex 14 (0x8060ffe20000000048323633044d ∷ [])
          ++ (bytes_between l.slices_after_a_picture_6 14 190
          ++ (bytes_between l.slices_after_a_picture_7 14 731
          ++ (bytes_between l.slices_after_a_picture_9 42 825 ++ bytes_between l.slices_after_a_picture_8 14 49)))) ∷
          [];
    }

unfoldable pub no_end : WorkedCall
no_end =
    record {
      format = SubQcif;
      packets = l.slices_after_a_picture_0 ∷ l.no_end_0 ∷ l.slices_after_a_picture_5 ∷ l.no_end_1 ∷ l.no_end_2 ∷
          l.no_end_3 ∷ l.slices_after_a_picture_6 ∷ l.slices_after_a_picture_9 ∷ l.no_end_4 ∷ l.no_end_5 ∷
          l.slices_after_a_picture_7 ∷ [];
      each = Held ∷ Held ∷ Held ∷ Held ∷ Held ∷ Held ∷ Again ∷ Held ∷ Held ∷ Held ∷ Held ∷ [];
      out = (hex 14 (0x8060ffdc00000000483236330400 ∷ [])
          ++ (bytes_between l.slices_after_a_picture_0 34 126
          ++ (bytes_between l.no_end_1 26 283 ++ bytes_between l.no_end_0 14 122))) ∷
          (hex 14 (0x8060ffdc0000000048323633044d ∷ [])
          ++ (bytes_between l.slices_after_a_picture_0 34 42 ++ bytes_between l.no_end_2 13 55)) ∷ [];
    }
