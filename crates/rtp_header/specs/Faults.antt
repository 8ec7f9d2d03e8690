-- What a reader of an RTP packet finds: its header, or the first fault.
use Rattle.std.specs.Prelude.{ℕ, ◌-◌, ◌*◌, ◌/◌, ◌==◌, ◌||◌, nat_lt, if◌then◌else◌, List, length, slice_index, Option, Some, None, Result, Ok, Err}
use Rattle.h263_bits.specs.declared.fault.Fault.{Fault}
use Rattle.h263_bits.specs.declared.fault.FaultKind.{FaultKind}
use Rattle.h263_bits.specs.declared.fault.FaultKind.TheVariants as faults
use Rattle.h263_bits.specs.Reading.{Bits, first_fault}
use Rattle.h263_bits.specs.Syntax.{reading}
use Rattle.rtp_header.specs.declared.rtp.Rtp.{Rtp}
use Rattle.rtp_header.specs.Text.{Head, head, after_fixed, from_byte}

abbrev pub rtp_fault_at : FaultKind → ℕ → Result Rtp Fault
rtp_fault_at kind at = Err (record { kind = kind; at = at })

-- the byte at which a reading stopped, if it was not cut
abbrev pub end_of : Result (Unit {0} × Bits) Fault → Option ℕ
end_of (Ok x) = Some (x.1.at / 8)
end_of (Err e) = None

-- the byte after the payload: where P is set the last byte counts the padding, which is not empty
-- and lies after the header
abbrev pub payload_end_of : Head → List ℕ → ℕ → Option ℕ
payload_end_of h bytes from =
    if h.padding == 0 then Some (length bytes)
    else if (slice_index bytes (length bytes - 1) == 0)
    || nat_lt (length bytes - from) (slice_index bytes (length bytes - 1)) then None
    else Some (length bytes - slice_index bytes (length bytes - 1))

-- the packet, where its payload type and its source are those of the stream
abbrev pub accepted_of : Head → ℕ → ℕ → Result Rtp Fault
accepted_of h from to =
    if h.type == 96 then
    (if h.source == 1211250227 then Ok (record {
      marker = h.marker == 1;
      sequence = h.sequence;
      timestamp = h.timestamp;
      from = from;
      to = to;
    }) else rtp_fault_at faults.Source 64)
    else rtp_fault_at faults.PayloadType 9

-- the fixed header is too short, or sources and extension pass the end: the fault stands at the end
abbrev pub short_of : List ℕ → Result Rtp Fault
short_of bytes = rtp_fault_at faults.Short (8 * length bytes)

abbrev pub with_payload : List ℕ → Head → ℕ → Option ℕ → Result Rtp Fault
with_payload bytes h from None = rtp_fault_at faults.Padding (8 * length bytes - 8)
with_payload bytes h from (Some to) = accepted_of h from to

abbrev pub with_end : List ℕ → Head → Option ℕ → Result Rtp Fault
with_end bytes h None = short_of bytes
with_end bytes h (Some from) = with_payload bytes h from (payload_end_of h bytes from)

abbrev pub with_head : List ℕ → Result (Head × Bits) Fault → Result Rtp Fault
with_head bytes (Err e) = short_of bytes
with_head bytes (Ok x) = if x.0.version == 2
    then with_end bytes x.0 (end_of (reading (after_fixed x.0) x.1)) else rtp_fault_at faults.Version 0

-- the packet that bytes spell, or its first fault
unfoldable pub rtp_in : List ℕ → Result Rtp Fault
rtp_in bytes = if nat_lt 65535 (length bytes) then rtp_fault_at faults.Long 0
    else with_head bytes (reading head (from_byte 0 bytes))

-- the first fault of a packet's RTP header, if there is one
abbrev pub rtp_fault : List ℕ → Option Fault
rtp_fault bytes = first_fault (rtp_in bytes)
