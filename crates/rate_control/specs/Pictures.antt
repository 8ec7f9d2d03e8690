-- The pictures of a log of packets, and the levels at their ends.
use Rattle.std.specs.Prelude.{ℕ, ◌+◌, ◌==◌, List, [], ◌∷◌, map, length, Result, Ok, Err, if◌then◌else◌, count_by, flat_map, is_err, nat_lt}
use Rattle.h263_bits.specs.declared.fault.Fault.{Fault}
use Rattle.rtp_header.specs.declared.rtp.Rtp.{Rtp}
use Rattle.rtp_header.specs.Faults.{rtp_in}
use Rattle.rate_control.specs.declared.meter.Picture.{Picture}
use Rattle.rate_control.specs.Level.{level_of, greatest_or_0}

-- a packet alone is a picture of its length; one that is refused is none
abbrev pub accepted_picture : Result Rtp Fault → ℕ → List Picture
accepted_picture (Ok r) size = record { timestamp = r.timestamp; size = size } ∷ []
accepted_picture (Err fault) size = []

abbrev pub picture_alone : List ℕ → List Picture
picture_alone bytes = accepted_picture (rtp_in bytes) (length bytes)

-- the accepted packets of a log, each with its timestamp and its length
abbrev pub accepted : List (List ℕ) → List Picture
accepted packets = flat_map picture_alone packets

-- how many are refused
abbrev pub refused_in : List (List ℕ) → ℕ
refused_in packets = count_by (λ bytes. is_err (rtp_in bytes)) packets

-- a packet before the pictures of the later ones: it is of the first of these where it has its
-- timestamp
abbrev pub put_before : Picture → List Picture → List Picture
put_before p [] = p ∷ []
put_before p (q ∷ qs) =
    if p.timestamp == q.timestamp
    then record { timestamp = p.timestamp; size = p.size + q.size } ∷ qs
    else p ∷ q ∷ qs

-- The pictures: the longest runs of accepted packets with one timestamp (RFC 3550, 5.1), each of
-- the size of its packets together.
abbrev pub timestamp_runs : List Picture → List Picture
timestamp_runs [] = []
timestamp_runs (p ∷ ps) = put_before p (timestamp_runs ps)

unfoldable pub metered_pictures : List (List ℕ) → List Picture
metered_pictures packets = timestamp_runs (accepted packets)

-- their sizes in bytes
abbrev pub sizes_in : List Picture → List ℕ
sizes_in pictures = map (λ p. p.size) pictures

unfoldable pub metered_sizes : List (List ℕ) → List ℕ
metered_sizes packets = sizes_in (metered_pictures packets)

-- the prefixes of a list but for the empty one, the shortest first
abbrev pub prefixes : List ℕ → List (List ℕ)
prefixes [] = []
prefixes (size ∷ sizes) = (size ∷ []) ∷ map (λ more. size ∷ more) (prefixes sizes)

-- the level at the end of each picture
abbrev pub levels : ℕ → List ℕ → List ℕ
levels target sizes = map (level_of target) (prefixes sizes)

-- the greatest of them, and how many lie above the bucket
unfoldable pub greatest_level : ℕ → List ℕ → ℕ
greatest_level target sizes = greatest_or_0 (levels target sizes)

unfoldable pub over_in : ℕ → ℕ → List ℕ → ℕ
over_in target bucket sizes = count_by (λ level. nat_lt bucket level) (levels target sizes)
