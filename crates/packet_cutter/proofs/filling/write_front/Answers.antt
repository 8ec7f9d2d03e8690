use Rattle.std.proofs.Common.{ℕ, ap, ◌∙◌}
use Rattle.h263_bits.specs.Bits.{fields}
use Rattle.rtp_header.specs.Written.{rtp_fields}
use Rattle.packet_cutter.proofs.Packed.{bits_joined}
use Rattle.packet_cutter.proofs.filling.write_front.Goals as goal

pub returns : goal.returns
returns c =
    bits_joined c.write_rtp.new.bytes c.write_payload_header.new.bytes _ _ (c.write_rtp.ensures
    ∙ ap (λ (t : ℕ). fields (rtp_fields c.args.marker c.args.sequence t)) c.timestamp.ensures)
    c.write_payload_header.ensures
