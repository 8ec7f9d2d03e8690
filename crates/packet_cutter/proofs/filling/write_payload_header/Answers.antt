use Rattle.std.proofs.Common.{List, Bool, ◌++◌, sym, ap, ◌∙◌, arith}
use Rattle.h263_bits.specs.Bits.{bits_of}
use Rattle.h263_payload.specs.Written.{written_payload}
use Rattle.packet_cutter.specs.Cut.{extra_of}
use Rattle.packet_cutter.proofs.Packed.{written_whole}
use Rattle.packet_cutter.proofs.filling.write_payload_header.Goals as goal

pub returns : goal.returns
returns c =
    let w = c.append_payload_header.new.writer in
    let text = written_payload (extra_of c.args.header.now c.args.begins) in
    let there = c.bytes-1.given.1.1 (sym (c.append_payload_header.ensures.bits.buffer ∙ c.new-writer.ensures.buffer)) in
    ap bits_of there
    ∙ written_whole w.bytes.now w.len text (c.append_payload_header.ensures.bits.text
    ∙ ap (λ (t : List Bool). t ++ text) c.new-writer.ensures.none)
    (omega (
      arith,
      c.append_payload_header.ensures.len,
      c.append_payload_header.ensures.bits.room,
      c.new-writer.ensures.len,
      c.new-writer.ensures.room,
      c.requires.room,
    ))
