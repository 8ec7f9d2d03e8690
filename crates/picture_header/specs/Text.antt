-- The picture header (H.263, 5.1, with Annexes K and N on): its fields in their order, from the
-- last bits of the start code to the last PEI.
use Rattle.std.specs.Prelude.{Bool, ℕ, ◌+◌, ◌-◌, ◌*◌, ◌%◌, ◌^◌, List, [], ◌∷◌, ◌++◌, length, take, map, Option, Some, None, nat_lt, nat_le, ◌==◌, if◌then◌else◌}
use Rattle.h263_types.specs.declared.format.Format.{Format}
use Rattle.h263_types.specs.declared.format.Format.TheVariants.{SubQcif, Qcif, Cif}
use Rattle.h263_types.specs.declared.Kind.{Kind}
use Rattle.h263_types.specs.declared.Kind.TheVariants as kinds
use Rattle.h263_types.specs.declared.clock.Clock.{Clock}
use Rattle.h263_types.specs.declared.clock.Clock.TheVariants.{Standard, Custom}
use Rattle.picture_header.specs.declared.header.Header.{Header}
use Rattle.h263_types.specs.Clocks.{period_of}
use Rattle.h263_bits.specs.declared.fault.FaultKind.TheVariants as faults
use Rattle.h263_bits.specs.declared.fault.Fault.{Fault}
use Rattle.h263_bits.specs.Reading.{Bits, first_fault}
use Rattle.h263_bits.specs.Syntax.{Syntax, either, Allowed, any, only, done, field, element, part, repeat, LoopTurn, again, finally, Spells, reading}
use Rattle.back_messages.specs.declared.message.Message.{Message}
use Rattle.back_messages.specs.Text.{message}

-- ---- the fields whose values are chosen

-- the number of a source format (OPPTYPE, 5.1.4.2)
abbrev pub format_code : Format → ℕ
format_code SubQcif = 1
format_code Qcif = 2
format_code Cif = 3

-- a number of a source format, and the one that is expected
abbrev pub allowed_format : Format → Allowed ℕ
allowed_format format n =
    if n == format_code format then None
    else if (nat_lt 0 n)
    then (if nat_lt n 4 then Some faults.OtherFormat else Some faults.SourceFormat)
    else Some faults.SourceFormat

-- I and P of the picture types (MPPTYPE, 5.1.4.3)
abbrev pub allowed_kind : Allowed ℕ
allowed_kind n = if nat_lt n 2 then None else Some faults.PictureKind

abbrev pub kind_numbered : ℕ → Kind
kind_numbered n = if n == 0 then kinds.I else kinds.P

-- the clock of a picture (OPPTYPE, bit 4)
abbrev pub clock_of : ℕ → Clock
clock_of n = if n == 0 then Standard else Custom

-- a divisor that isn't 0, after one bit (CPCFC, 5.1.7)
abbrev pub allowed_divisor : Allowed ℕ
allowed_divisor n = if n % 2 ^ 7 == 0 then Some faults.Divisor else None

-- the four modes of the back channel (RPSMF)
abbrev pub allowed_channel : Allowed ℕ
allowed_channel n = if nat_lt n 4 then Some faults.Rpsmf else None

-- a temporal reference of the clock, in a field of ten bits (TRP)
abbrev pub allowed_low : Clock → Allowed ℕ
allowed_low clock n = if nat_le (period_of clock) n then Some faults.HighBits else None

-- a quantiser (PQUANT)
abbrev pub allowed_quant : Allowed ℕ
allowed_quant n = if n == 0 then Some faults.Quant else None

-- ---- the header, part by part

-- the rest of the start code, TR and PTYPE (5.1.1 to 5.1.3)
unfoldable pub opening : Syntax ℕ
opening =
    field 6 (only 32 faults.NoStart) λ start.
    field 8 any λ tr.
    field 2 (only 2 faults.PictureType) λ type.
    field 3 any λ display.
    field 3 (only 7 faults.PictureType) λ extended.
    done tr

-- PLUSPTYPE: UFEP, OPPTYPE and MPPTYPE (5.1.4)
unfoldable pub plus_type : Format → Syntax (Clock × Kind × ℕ)
plus_type format =
    field 3 (only 1 faults.Ufep) λ ufep.
    field 3 (allowed_format format) λ source.
    field 1 any λ custom.
    field 10 (only 24 faults.Modes) λ modes.
    field 4 (only 8 faults.Marker) λ tail.
    field 3 allowed_kind λ kind.
    field 2 (only 0 faults.Resampling) λ resampling.
    field 1 any λ rounding.
    field 3 (only 1 faults.Marker) λ end.
    done (clock_of custom, kind_numbered kind, rounding)

-- CPM (5.1.20)
unfoldable pub multipoint : Syntax (Unit {0})
multipoint = field 1 (only 0 faults.Cpm) λ cpm. done tt

-- in a custom clock CPCFC, and ETR, the two high bits of the temporal reference; its low bits are
-- those of TR (5.1.7, 5.1.8)
unfoldable pub extended : Clock → ℕ → Syntax ℕ
extended Standard tr = done tr
extended Custom tr =
    field 8 allowed_divisor λ cpcfc.
    field 2 any λ etr.
    done (256 * etr + tr)

-- TRPI, and TRP in a picture that refers to another (5.1.14, 5.1.15)
unfoldable pub reference : Clock → Kind → Syntax (Option ℕ)
reference clock kinds.I = field 1 (only 0 faults.IntraReference) λ refers. done None
reference clock kinds.P =
    field 1 (only 1 faults.NoReference) λ refers.
    field 10 (allowed_low clock) λ trp.
    done (Some trp)

-- PEI, and the byte after a 1, which is passed over (5.1.24, 5.1.25)
unfoldable pub extra_turn : Unit {0} → Syntax (LoopTurn (Unit {0}) (Unit {0}))
extra_turn u =
    field 1 any λ pei.
    either (pei == 0) (done (finally tt)) (field 8 any λ psupp. done (again tt))

unfoldable pub extra : Syntax (Unit {0})
extra = repeat tt extra_turn

-- ---- messages

-- at the fifth BCI 1 there are too many messages
abbrev pub bci_room : ℕ → Allowed ℕ
bci_room used more = if more == 0 then None else if nat_lt used 4 then None else Some faults.ManyMessages

-- BCI: 1, or 01 for the end (5.1.16)
unfoldable pub bci : Syntax ℕ
bci =
    field 1 any λ more.
    either (more == 0) (field 1 (only 1 faults.Bci) λ end. done 0) (done 1)

-- BCI and a message, or BCI alone (5.1.17)
unfoldable pub next_message : Clock → ℕ → Syntax (Option Message)
next_message clock used =
    element bci (bci_room used) λ more.
    either (more == 0) (done None) (part (message clock) any λ m. done (Some m))

abbrev pub messages_after : List Message → Option Message → LoopTurn (List Message) (List Message)
messages_after messages None = finally messages
messages_after messages (Some m) = again (messages ++ m ∷ [])

unfoldable pub back_turn : Clock → List Message → Syntax (LoopTurn (List Message) (List Message))
back_turn clock messages = part (next_message clock (length messages)) any λ next. done (messages_after messages next)

unfoldable pub back : Clock → Syntax (List Message)
back clock = repeat [] (back_turn clock)

-- the messages first, in four places
abbrev pub in_places : List Message → List (Option Message)
in_places messages = take 4 (map Some messages ++ None ∷ None ∷ None ∷ None ∷ [])

-- ---- the whole header

-- SSS and RPSMF (5.1.10, 5.1.13)
unfoldable pub channel : Syntax ℕ
channel =
    field 2 (only 0 faults.SliceMode) λ sss.
    field 3 allowed_channel λ rpsmf.
    done (rpsmf - 4)

unfoldable pub header : Format → Syntax Header
header format =
    part opening any λ low.
    part (plus_type format) any λ type.
    part multipoint any λ cpm.
    part (extended type.0 low) any λ tr.
    part channel any λ channel.
    part (reference type.0 type.1) any λ trp.
    part (back type.0) any λ messages.
    field 5 allowed_quant λ quant.
    part extra any λ end.
    done (record {
      tr = tr;
      format = format;
      kind = type.1;
      rounding = type.2;
      channel = channel;
      trp = trp;
      quant = quant;
      back = in_places messages;
      clock = type.0;
    })

-- the bits are a text of the header: its fields, and free values where the header keeps none
abbrev pub IsHeaderText : Format → Header → List Bool → Type 0
IsHeaderText format h bits = Spells (header format) h bits

-- the first fault of a header in bits from a place on, if there is one
abbrev pub header_fault : Format → Bits → Option Fault
header_fault format b = first_fault (reading (header format) b)
