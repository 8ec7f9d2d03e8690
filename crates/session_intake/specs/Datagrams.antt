-- What a datagram says of itself.
use Rattle.std.specs.Prelude.{ℕ, ◌==◌, nat_lt, List, length, Option, Some, None, is_some, Result, Ok, Err, if◌then◌else◌}
use Rattle.h263_bits.specs.declared.fault.Fault.{Fault}
use Rattle.h263_types.specs.declared.params.Params.{Params}
use Rattle.h263_types.specs.Clocks.{period_of}
use Rattle.picture_header.specs.declared.header.Header.{Header}
use Rattle.rtp_header.specs.declared.rtp.Rtp.{Rtp}
use Rattle.rtp_header.specs.Faults.{rtp_in}
use Rattle.packet_start.specs.Start.{start_at, start_in}
use Rattle.rtp_source.specs.Source.{renamed, source_in}
use Rattle.session_intake.specs.declared.seen.Seen.{Seen}
use Rattle.session_intake.specs.declared.seen.Cause.{Cause}
use Rattle.session_intake.specs.declared.seen.Cause.TheVariants as causes

-- what a packet with this header says, where it is of the call's pictures
abbrev pub header_seen : Params → ℕ → Rtp → Header → Result Seen Cause
header_seen p source rtp h =
    if period_of h.clock == period_of p.clock
    then Ok (record {
      source = source;
      packet = record { reference = h.tr; sequence = rtp.sequence; timestamp = rtp.timestamp };
    })
    else Err causes.OtherPictures

-- it has a header in another format, or in none
abbrev pub cause_of : List ℕ → Cause
cause_of own = if is_some (start_in own) then causes.OtherPictures else causes.Malformed

abbrev pub with_start : Params → ℕ → List ℕ → Rtp → Result Header Fault → Result Seen Cause
with_start p source own rtp (Ok h) = header_seen p source rtp h
with_start p source own rtp (Err fault) = Err (cause_of own)

abbrev pub with_rtp : Params → ℕ → List ℕ → Result Rtp Fault → Result Seen Cause
with_rtp p source own (Ok rtp) = with_start p source own rtp (start_at p.format own)
with_rtp p source own (Err fault) = Err causes.Malformed

abbrev pub with_source : Params → List ℕ → Option ℕ → Result Seen Cause
with_source p own None = Err causes.Malformed
with_source p own (Some source) = with_rtp p source own (rtp_in own)

-- What a datagram says that is a packet of the call's pictures, whatever its SSRC; or why it is none.
abbrev pub seen_in : Params → List ℕ → Result Seen Cause
seen_in p bytes =
    if nat_lt 9000 (length bytes) then Err causes.Long
    else with_source p (renamed bytes) (source_in bytes)
