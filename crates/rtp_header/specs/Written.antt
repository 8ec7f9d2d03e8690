-- What is written of an RTP header, and where a payload lies.
use Rattle.std.specs.Prelude.{ℕ, ◌+◌, ◌≤◌, Bool, List, [], ◌∷◌, length, if◌then◌else◌}
use Rattle.rtp_header.specs.declared.rtp.Rtp.{Rtp}

-- V 2, P 0, X 0, CC 0, M, PT 96, sequence number, timestamp, SSRC (RFC 3550, 5.1)
abbrev pub rtp_fields : Bool → ℕ → ℕ → List (ℕ × ℕ)
rtp_fields marker sequence timestamp =
    (2, 2) ∷ (1, 0) ∷ (1, 0) ∷ (4, 0) ∷ (1, if marker then 1 else 0)
    ∷ (7, 96) ∷ (16, sequence) ∷ (32, timestamp) ∷ (32, 1211250227) ∷ []

-- what it is read as, where the payload after it has this many bytes
abbrev pub written_rtp : Bool → ℕ → ℕ → ℕ → Rtp
written_rtp marker sequence timestamp len =
    record { marker = marker; sequence = sequence; timestamp = timestamp; from = 12; to = 12 + len }

-- the payload lies in the packet, after the fixed header
pub record IsPayloadWithin (r : Rtp) (bytes : List ℕ) : Type 0 where
  pub fixed : 12 ≤ r.from
  pub order : r.from ≤ r.to
  pub end : r.to ≤ length bytes
  pub short : length bytes ≤ 65535
