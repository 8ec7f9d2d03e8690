-- How many bytes stand in front of a packet's data.
use Rattle.std.proofs.Common.{◌≡◌, ℕ, ◌+◌, ◌*◌, ◌/◌, ◌≤◌, Bool, true, false, arith}
use Rattle.picture_header.specs.declared.header.Header.{Header}
use Rattle.picture_header.specs.Ranges.{IsHeader}
use Rattle.picture_header.specs.Laws.{IsShort}
use Rattle.h263_payload.specs.Written.{payload_bits}
use Rattle.packet_cutter.specs.Cut.{begins_at, extra_of, front_bytes}

abbrev pub AllShort : Type 0
AllShort = (h : Header) → IsHeader h → IsShort h

pub front_short : AllShort → (h : Header) (first : ℕ) → IsHeader h → front_bytes h first ≤ 46
front_short short h first is = at (begins_at first)
  where
    at : (begins : Bool) → 12 + payload_bits (extra_of h begins) / 8 ≤ 46
    at true = omega arith
    at false = let s = short h is in omega (arith, s.before)

-- whole bytes
pub payload_whole : (h : Header) (begins : Bool) → 8 * (payload_bits (extra_of h begins) / 8)
    ≡ payload_bits (extra_of h begins)
payload_whole h true = omega arith
payload_whole h false = omega arith

-- what stands before a packet's slice is whole bytes
pub front_whole : (h : Header) (first : ℕ) → 8 * front_bytes h first ≡ 96 + payload_bits (extra_of h (begins_at first))
front_whole h first = omega (arith, payload_whole h (begins_at first))
