-- The packet of the macroblocks without their marks.
use Rattle.std.proofs.Common.{◌≡◌, ℕ, ◌+◌, ◌<◌, ◌++◌, List, length, subst, sym, ap, ◌∙◌, arith}
use Rattle.std.specs.Prelude.{◌==◌}
use Rattle.h263_bits.specs.Bits.{bits_of, fields}
use Rattle.h263_types.specs.declared.blocks.Mb.{Mb}
use Rattle.rtp_header.specs.Written.{rtp_fields}
use Rattle.h263_payload.specs.Written.{written_payload}
use Rattle.slice_layer.specs.Written.{slice_text, padded, bytes_filled_by}
use Rattle.packet_cutter.specs.Cut.{begins_at, extra_of, front_bytes}
use Rattle.packet_cutter.specs.Packets.{timestamp_of, BeginsWith}
use Rattle.packet_cutter.specs.Taken.{unmarked}
use Rattle.packet_cutter.proofs.Marked.{first_unmarked, length-unmarked}
use Rattle.packet_cutter.proofs.Packed.{packet_begun}
use Rattle.packet_cutter.proofs.filling.write_packet.Goals as goal

pub returns-clause-packet : goal.returns-clause-packet
returns-clause-packet c =
    let h = c.args.header.now in
    let first = c.args.first in
    let slice = c.write_slice-slice in
    let front = c.write_front.new.bytes in
    let range : c.args.sequence < 65536 = omega arith in
    let long : length front ≡ front_bytes h first = omega (
      arith,
      c.front_bytes-at.ensures.bytes,
      c.split_at_mut-front.ensures.front_len,
      c.write_front.auto.bytes,
    ) in
    let parts : front_bytes h first + length slice.new.bytes ≡ length c.args.bytes.now = omega (
      arith,
      c.front_bytes-at.ensures.bytes,
      c.split_at_mut-front.ensures.back_len,
      slice.auto.bytes,
    ) in
    let marked = c.args.mbs.now in
    let mbs = unmarked marked in
    let count = slice.result.count in
    let there = first_unmarked count marked in
    let all = length-unmarked marked in
    let text = λ (run : List Mb). slice_text h (begins_at first) first run in
    subst (λ (n : ℕ). BeginsWith c.args.number c.args.sequence h (length c.args.bytes.now) first mbs
    count (n + slice.result.size) (front ++ slice.new.bytes)) (sym c.front_bytes-at.ensures.bytes)
    (packet_begun c.args.number c.args.sequence h (length c.args.bytes.now) first mbs count
    slice.result.size front slice.new.bytes range long parts slice.ensures.some
    (omega (arith, slice.ensures.few, all))
    (slice.ensures.size ∙ ap (λ (run : List Mb). bytes_filled_by (text run)) there)
    (slice.ensures.text ∙ ap (λ (run : List Mb). padded (text run)) there)
    (omega (arith, slice.ensures.fits, slice.auto.bytes)) (λ lt. omega (
      arith,
      slice.ensures.longest (omega (arith, lt, all)),
      ap (λ (run : List Mb). bytes_filled_by (text run)) (first_unmarked (count + 1) marked),
      slice.auto.bytes,
    ))
    (subst (λ (n : ℕ). bits_of front ≡ fields (rtp_fields (count == n) c.args.sequence (timestamp_of c.args.number))
    ++ written_payload (extra_of h (begins_at first))) (sym all) c.write_front.ensures)
    (λ i. omega (arith, c.type_inv.bytes i)))
