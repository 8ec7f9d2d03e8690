-- Coded bytes that are slices of one picture, and packets of slices.
use Rattle.std.specs.Prelude.{◌≡◌, ◌⊎◌, ◌*◌, ◌≤◌, ◌<◌, ℕ, Bool, true, false, List, [], ◌∷◌, ◌++◌, length, Some}
use Rattle.h263_bits.specs.Bits.{bits_of}
use Rattle.h263_types.specs.declared.format.Format.{Format}
use Rattle.picture_header.specs.declared.header.Header.{Header}
use Rattle.picture_header.specs.Text.{IsHeaderText}
use Rattle.slice_layer.specs.Text.{IsSliceText}
use Rattle.h263_payload.specs.Text.{IsExtra}
use Rattle.packet_collector.specs.Packet.{PacketSlice}
use Rattle.payload_join.specs.Packet.{Extra}

-- the coded bytes of a picture's first slice, with the picture header before it
pub record IsFirstPart (format : Format) (s : PacketSlice) (bytes : List ℕ) : Type 0 where
  pub text : List Bool
  pub slice : List Bool
  pub parts : bits_of bytes ≡ text ++ slice
  pub spelt : IsHeaderText format s.header text
  pub is : IsSliceText s.header true s.first s.mbs slice

-- those of a later slice
abbrev pub IsLaterPart : PacketSlice → List ℕ → Type 0
IsLaterPart s bytes = IsSliceText s.header false s.first s.mbs (bits_of bytes)

abbrev pub IsSlicePart : List ℕ → Type 0
IsSlicePart bytes =
    ((format : Format) × (s : PacketSlice) × IsFirstPart format s bytes)
    ⊎ ((s : PacketSlice) × IsLaterPart s bytes)

-- as many of one list as of the other, each pair so
abbrev pub EachIs : {X Y : Type 0} → (X → Y → Type 0) → List X → List Y → Type 0
EachIs is [] [] = Unit {0}
EachIs is [] (y ∷ ys) = ⊥
EachIs is (x ∷ xs) [] = ⊥
EachIs is (x ∷ xs) (y ∷ ys) = is x y × EachIs is xs ys

-- a later slice of the picture with this header
abbrev pub IsLaterOf : Header → PacketSlice → List ℕ → Type 0
IsLaterOf h s bytes = (s.header ≡ h) × IsLaterPart s bytes

-- ---- the slices of a unit, by the extra header of its first packet

-- There is none, and the unit begins a picture: the picture header stands before its first slice.
-- Where others follow, it takes 63 bytes at most.
pub record BeginPicture (format : Format) (extra : Extra)
    (slices : List PacketSlice) (parts : List (List ℕ)) : Type 0 where
  pub none : extra.bytes ≡ []
  pub first : PacketSlice
  pub others : List PacketSlice
  pub part : List ℕ
  pub after : List (List ℕ)
  pub slices_are : slices ≡ first ∷ others
  pub parts_are : parts ≡ part ∷ after
  pub begun : IsFirstPart format first part
  pub short : (after ≡ []) ⊎ (length begun.text ≤ 8 * 63)
  pub each : EachIs (IsLaterOf first.header) others after

-- it is the header of a picture, and the unit has later slices of it
pub record GoOn (format : Format) (extra : Extra)
    (slices : List PacketSlice) (parts : List (List ℕ)) : Type 0 where
  pub header : Header
  pub is : IsExtra format (length extra.bytes) extra.pebit (Some header) (bits_of extra.bytes)
  pub some : 0 < length parts
  pub each : EachIs (IsLaterOf header) slices parts

abbrev pub AreSlices : Format → Extra → List PacketSlice → List (List ℕ) → Type 0
AreSlices format extra slices parts =
    BeginPicture format extra slices parts ⊎ GoOn format extra slices parts
