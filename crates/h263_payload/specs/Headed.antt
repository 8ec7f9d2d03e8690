-- Where the picture header of a packet stands (RFC 4629, 5.1).
use Rattle.std.specs.Prelude.{◌≡◌, List, [], Bool, Option, Some, None}
use Rattle.h263_types.specs.declared.format.Format.{Format}
use Rattle.picture_header.specs.declared.header.Header.{Header}
use Rattle.picture_header.specs.Text.{IsHeaderText}

-- the bits before a packet's slice: the picture header, or none where there is an extra one
abbrev pub IsHeaded : Format → Option Header → Header → List Bool → Type 0
IsHeaded format None h bits = IsHeaderText format h bits
IsHeaded format (Some extra) h bits = (extra ≡ h) × (bits ≡ [])
