-- What a reader of a payload finds: the payload header, or the first fault.
use Rattle.std.specs.Prelude.{ℕ, ◌-◌, ◌*◌, ◌==◌, true, false, nat_lt, if◌then◌else◌, List, length, take, Option, Some, None, is_none, Result, Ok, Err}
use Rattle.h263_bits.specs.declared.fault.Fault.{Fault}
use Rattle.h263_bits.specs.declared.fault.FaultKind.{FaultKind}
use Rattle.h263_bits.specs.declared.fault.FaultKind.TheVariants as faults
use Rattle.h263_bits.specs.Reading.{Bits, bits_between, number_at, skip, first_fault, ◌>>=◌}
use Rattle.h263_bits.specs.Syntax.{reading}
use Rattle.h263_types.specs.declared.format.Format.{Format}
use Rattle.picture_header.specs.declared.header.Header.{Header}
use Rattle.picture_header.specs.Text.{header}
use Rattle.rtp_header.specs.declared.rtp.Rtp.{Rtp}
use Rattle.h263_payload.specs.declared.payload.Payload.{Payload}
use Rattle.h263_payload.specs.Text.{leading}

abbrev pub payload_fault_at : {A : Type 0} → FaultKind → ℕ → Result A Fault
payload_fault_at kind at = Err (record { kind = kind; at = at })

-- the first n bits from a place on
abbrev pub first_bits : ℕ → Bits → Bits
first_bits n b = record { at = b.at; bits = take n b.bits }

-- a header that fills its bits: otherwise the fault stands at the first bit after it
abbrev pub filled : Result (Header × Bits) Fault → Result (Option Header) Fault
filled (Ok x) = if length x.1.bits == 0 then Ok (Some x.0) else payload_fault_at faults.ExtraHeader x.1.at
filled (Err e) = Err e

-- the extra header in PLEN bytes less PEBIT bits; the bytes are cut as one
unfoldable pub extra_at : Format → ℕ → ℕ → Bits → Result (Option Header) Fault
extra_at format plen pebit b =
    if plen == 0 then Ok None
    else if nat_lt (length b.bits) (8 * plen) then payload_fault_at faults.Ended b.at
    else filled (reading (header format) (first_bits (8 * plen - pebit) b))

-- by the data's first two bits, 10 begins a picture and 11 a later slice: each fault stands at the first of them
abbrev pub begun_as : Option Header → ℕ → ℕ → Result Payload Fault
begun_as extra at start =
    if nat_lt start 2 then payload_fault_at faults.NoStart at
    else if start == 2 then (if is_none extra then Ok
    (record { extra = extra; begins = true; from = at }) else payload_fault_at faults.ExtraHeader at)
    else if is_none extra then payload_fault_at faults.NoExtraHeader at
    else Ok (record { extra = extra; begins = false; from = at })

unfoldable pub begun_at : Option Header → Bits → Result Payload Fault
begun_at extra b = number_at 2 b >>= λ x. begun_as extra b.at x.0

-- the payload header and the first two bits of the data after it
unfoldable pub payload_at : Format → Bits → Result Payload Fault
payload_at format b = reading leading b >>= λ x.
    (extra_at format x.0.plen x.0.pebit x.1 >>= λ extra. begun_at extra (skip (8 * x.0.plen) x.1))

-- the first fault of the payload header, if there is one
abbrev pub payload_fault : Format → Bits → Option Fault
payload_fault format b = first_fault (payload_at format b)

-- the bits of a packet's payload
abbrev pub payload_bits_of : List ℕ → Rtp → Bits
payload_bits_of bytes rtp = bits_between bytes (8 * rtp.from) (8 * rtp.to)
