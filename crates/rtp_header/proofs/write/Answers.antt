use Rattle.std.proofs.Common.{◌≡◌, cond, arith}
use Rattle.rtp_header.proofs.Writing.{written_text, written_again, bytes_written}
use Rattle.rtp_header.proofs.write.Goals as goal
use Rattle.rtp_header.proofs.write.Goals.{then-marker, else-marker}

pub returns-clause-text : goal.returns-clause-text
returns-clause-text c =
    let second : c.if-marker.bytes ≡ cond c.args.marker 224 96 = elim c.if-marker.branch [
      | then-marker w ↦
          rw w.if-marker.true w.bytes-is
      | else-marker w ↦ rw w.if-marker.false w.bytes-is
    ] in
    rw (
      c.write_u32-2.ensures,
      c.write_u32.ensures,
      c.write_u16.ensures,
      second,
    ) (written_text c.args.marker c.args.sequence c.args.timestamp (omega (arith, c.ranges.sequence))
    (omega (arith, c.ranges.timestamp)))

pub returns-clause-again : goal.returns-clause-again
returns-clause-again c = λ payload few.
    let marker = c.args.marker in
    let sequence = c.args.sequence in
    let timestamp = c.args.timestamp in
    let second : c.if-marker.bytes ≡ cond marker 224 96 = elim c.if-marker.branch [
      | then-marker w ↦
          rw w.if-marker.true w.bytes-is
      | else-marker w ↦ rw w.if-marker.false w.bytes-is
    ] in
    let text = written_text marker sequence timestamp (omega (arith, c.ranges.sequence))
    (omega (arith, c.ranges.timestamp)) in
    rw (c.write_u32-2.ensures, c.write_u32.ensures, c.write_u16.ensures, second)
    (written_again (bytes_written marker sequence timestamp) payload marker sequence timestamp
    (omega (arith, c.ranges.sequence)) (omega (arith, c.ranges.timestamp)) text few)
