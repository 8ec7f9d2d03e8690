-- What is written of a header: its fields, each a number of bits and its value.
use Rattle.std.specs.Prelude.{ℕ, ◌+◌, ◌/◌, ◌%◌, List, [], ◌∷◌, ◌++◌, Bool, Option, Some, None}
use Rattle.h263_types.specs.declared.format.Format.{Format}
use Rattle.h263_types.specs.declared.Kind.{Kind}
use Rattle.h263_types.specs.declared.Kind.TheVariants as kinds
use Rattle.h263_bits.specs.Bits.{spelled, fields}
use Rattle.h263_types.specs.declared.clock.Clock.{Clock}
use Rattle.h263_types.specs.declared.clock.Clock.TheVariants.{Standard, Custom}
use Rattle.back_messages.specs.declared.message.Message.{Message}
use Rattle.back_messages.specs.Text.{message_text, message_bits}
use Rattle.picture_header.specs.declared.header.Header.{Header}
use Rattle.picture_header.specs.Text.{format_code}
use Rattle.picture_header.specs.Ranges.{messages_in}

abbrev pub kind_code : Kind → ℕ
kind_code kinds.I = 0
kind_code kinds.P = 1

abbrev pub clock_code : Clock → ℕ
clock_code Standard = 0
clock_code Custom = 1

-- the rest of the start code, TR, PTYPE; TR has the low eight bits
abbrev pub opening_fields : ℕ → List (ℕ × ℕ)
opening_fields tr = (6, 32) ∷ (8, tr % 256) ∷ (2, 2) ∷ (3, 0) ∷ (3, 7) ∷ []

-- UFEP and OPPTYPE
abbrev pub optional_fields : Format → Clock → List (ℕ × ℕ)
optional_fields format clock = (3, 1) ∷ (3, format_code format) ∷ (1, clock_code clock) ∷ (10, 24) ∷ (4, 8) ∷ []

-- MPPTYPE
abbrev pub mandatory_fields : Kind → ℕ → List (ℕ × ℕ)
mandatory_fields kind rounding = (3, kind_code kind) ∷ (2, 0) ∷ (1, rounding) ∷ (3, 1) ∷ []

-- PLUSPTYPE
abbrev pub plus_fields : Format → Clock → Kind → ℕ → List (ℕ × ℕ)
plus_fields format clock kind rounding = optional_fields format clock ++ mandatory_fields kind rounding

-- CPM
abbrev pub multipoint_fields : List (ℕ × ℕ)
multipoint_fields = (1, 0) ∷ []

-- CPCFC, for 30000/1001 pictures a second: 1001 and 60; and ETR
abbrev pub extended_fields : Clock → ℕ → List (ℕ × ℕ)
extended_fields Standard tr = []
extended_fields Custom tr = (8, 188) ∷ (2, tr / 256) ∷ []

-- SSS, RPSMF
abbrev pub channel_fields : ℕ → List (ℕ × ℕ)
channel_fields channel = (2, 0) ∷ (3, channel + 4) ∷ []

-- TRPI, TRP
abbrev pub reference_fields : Option ℕ → List (ℕ × ℕ)
reference_fields None = (1, 0) ∷ []
reference_fields (Some trp) = (1, 1) ∷ (10, trp) ∷ []

-- BCI 1 and a message for each, and BCI 01
abbrev pub bci_text : List Message → List Bool
bci_text [] = fields ((1, 0) ∷ (1, 1) ∷ [])
bci_text (m ∷ messages) = spelled 1 1 ++ (message_text m ++ bci_text messages)

-- what says which picture it is
abbrev pub written_front : Header → List Bool
written_front h =
    fields (opening_fields h.tr)
    ++ (fields (plus_fields h.format h.clock h.kind h.rounding)
    ++ (fields multipoint_fields
    ++ fields (extended_fields h.clock h.tr)))

-- its reference and messages, PQUANT, and PEI 0
abbrev pub written_rest : Header → List Bool
written_rest h =
    fields (channel_fields h.channel)
    ++ (fields (reference_fields h.trp)
    ++ (bci_text (messages_in h.back)
    ++ (fields ((5, h.quant) ∷ [])
    ++ fields ((1, 0) ∷ []))))

-- the text that is written
abbrev pub written_header : Header → List Bool
written_header h = written_front h ++ written_rest h

abbrev pub clock_bits : Clock → ℕ
clock_bits Standard = 0
clock_bits Custom = 10

abbrev pub reference_bits : Option ℕ → ℕ
reference_bits None = 0
reference_bits (Some trp) = 10

-- the bits of messages and their BCIs 1
abbrev pub back_bits : List Message → ℕ
back_bits [] = 0
back_bits (m ∷ messages) = 1 + message_bits m + back_bits messages

-- how many bits that are
abbrev pub written_bits : Header → ℕ
written_bits h = 67 + clock_bits h.clock + reference_bits h.trp + back_bits (messages_in h.back)
