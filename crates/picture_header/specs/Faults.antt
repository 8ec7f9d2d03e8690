-- THE FAULTS OF A PICTURE HEADER, field by field (H.263, 5.1, with Annexes K and N on): the fields
-- before it, each with a value that has no fault, the field itself with one that is refused, its
-- fault, and the place of its first bit.
use Rattle.std.specs.Prelude.{◌≡◌, ◌↔◌, ℕ, ◌+◌, ◌<◌, ◌≤◌, ◌^◌, List, [], ◌∷◌, ◌++◌, length, Bool, true, false, Option, Some, None, Err}
use Rattle.h263_types.specs.declared.format.Format.{Format}
use Rattle.h263_types.specs.declared.Kind.{Kind}
use Rattle.h263_types.specs.declared.Kind.TheVariants as kinds
use Rattle.h263_types.specs.declared.clock.Clock.{Clock}
use Rattle.h263_types.specs.declared.clock.Clock.TheVariants.{Custom}
use Rattle.h263_types.specs.Clocks.{period_of}
use Rattle.h263_bits.specs.declared.fault.Fault.{Fault}
use Rattle.h263_bits.specs.declared.fault.FaultKind.{FaultKind}
use Rattle.h263_bits.specs.declared.fault.FaultKind.TheVariants as faults
use Rattle.h263_bits.specs.Bits.{fields}
use Rattle.h263_bits.specs.Reading.{Bits}
use Rattle.h263_bits.specs.Syntax.{Spells, reading, repeat}
use Rattle.h263_bits.specs.Elements.{HasFault, IsFirstFault}
use Rattle.back_messages.specs.declared.message.Message.{Message}
use Rattle.back_messages.specs.declared.message.MessageFault.{MessageFault}
use Rattle.back_messages.specs.Text.{message_fault, is_long, has_markers}
use Rattle.picture_header.specs.Text.{format_code, opening, plus_type, multipoint, extended, channel, reference, next_message, back_turn, back, header}

-- the rest of the start code, TR and PTYPE
pub record OpeningFaults : Type 0 where
  pub start : (n : ℕ) → n < 64 → (n ≡ 32 → ⊥) → HasFault opening (fields ((6, n) ∷ [])) faults.NoStart 0
  pub type : (tr n : ℕ) → tr < 256 → n < 4 → (n ≡ 2 → ⊥)
      → HasFault opening (fields ((6, 32) ∷ (8, tr) ∷ (2, n) ∷ [])) faults.PictureType 14
  pub extended : (tr shown n : ℕ) → tr < 256 → shown < 8 → n < 8 → (n ≡ 7 → ⊥)
      → HasFault opening (fields ((6, 32) ∷ (8, tr) ∷ (2, 2) ∷ (3, shown) ∷ (3, n) ∷ [])) faults.PictureType 19

-- PLUSPTYPE
pub record PlusTypeFaults (format : Format) : Type 0 where
  pub ufep : (n : ℕ) → n < 8 → (n ≡ 1 → ⊥) → HasFault (plus_type format) (fields ((3, n) ∷ [])) faults.Ufep 0
  pub no_source : HasFault (plus_type format) (fields ((3, 1) ∷ (3, 0) ∷ [])) faults.SourceFormat 3
  pub high_source : (n : ℕ) → 4 ≤ n
      → n < 8 → HasFault (plus_type format) (fields ((3, 1) ∷ (3, n) ∷ [])) faults.SourceFormat 3
  pub other_source : (other : Format) → (other ≡ format → ⊥) → HasFault
      (plus_type format) (fields ((3, 1) ∷ (3, format_code other) ∷ [])) faults.OtherFormat 3
  pub modes : (clock n : ℕ) → clock < 2 → n < 1024 → (n ≡ 24 → ⊥)
      → HasFault (plus_type format)
      (fields ((3, 1) ∷ (3, format_code format) ∷ (1, clock) ∷ (10, n) ∷ [])) faults.Modes 7
  pub tail : (clock n : ℕ) → clock < 2 → n < 16 → (n ≡ 8 → ⊥)
      → HasFault (plus_type format) (fields
      ((3, 1) ∷ (3, format_code format) ∷ (1, clock) ∷ (10, 24) ∷ (4, n) ∷ [])) faults.Marker 17
  pub kind : (clock n : ℕ) → clock < 2 → 2 ≤ n → n < 8
      → HasFault (plus_type format)
      (fields ((3, 1) ∷ (3, format_code format) ∷ (1, clock) ∷ (10, 24) ∷ (4, 8) ∷ (3, n) ∷ []))
      faults.PictureKind 21
  pub resampling : (clock kind n : ℕ) → clock < 2 → kind < 2 → n < 4 → (n ≡ 0 → ⊥)
      → HasFault (plus_type format) (fields ((3, 1) ∷ (3, format_code format)
      ∷ (1, clock) ∷ (10, 24) ∷ (4, 8) ∷ (3, kind) ∷ (2, n) ∷ [])) faults.Resampling 24
  pub end : (clock kind rounding n : ℕ) → clock < 2 → kind < 2 → rounding < 2 → n < 8 → (n ≡ 1 → ⊥)
      → HasFault (plus_type format) (fields ((3, 1) ∷ (3, format_code format) ∷ (1, clock)
      ∷ (10, 24) ∷ (4, 8) ∷ (3, kind) ∷ (2, 0) ∷ (1, rounding) ∷ (3, n) ∷ [])) faults.Marker 27

-- CPM, CPCFC, SSS and RPSMF, TRPI and TRP
pub record MiddleFaults : Type 0 where
  pub multipoint : HasFault multipoint (fields ((1, 1) ∷ [])) faults.Cpm 0
  pub divisor : (tr : ℕ) → HasFault (extended Custom tr) (fields ((8, 0) ∷ [])) faults.Divisor 0
  pub high_divisor : (tr : ℕ) → HasFault (extended Custom tr) (fields ((8, 128) ∷ [])) faults.Divisor 0
  pub slices : (n : ℕ) → n < 4 → (n ≡ 0 → ⊥) → HasFault channel (fields ((2, n) ∷ [])) faults.SliceMode 0
  pub channel : (n : ℕ) → n < 4 → HasFault channel (fields ((2, 0) ∷ (3, n) ∷ [])) faults.Rpsmf 2
  pub intra : (clock : Clock) → HasFault (reference clock kinds.I) (fields ((1, 1) ∷ [])) faults.IntraReference 0
  pub inter : (clock : Clock) → HasFault (reference clock kinds.P) (fields ((1, 0) ∷ [])) faults.NoReference 0
  pub high : (clock : Clock) (n : ℕ) → period_of clock ≤ n → n < 1024
      → HasFault (reference clock kinds.P) (fields ((1, 1) ∷ (10, n) ∷ [])) faults.HighBits 1

-- BCI, one element of one or two bits, and the message after a 1: 24 bits and the flags
pub record MessageFaults (clock : Clock) : Type 0 where
  pub bci : (used : ℕ) → HasFault (next_message clock used) (fields ((1, 0) ∷ (1, 0) ∷ [])) faults.Bci 0
  pub many : (used : ℕ) → 4 ≤ used → HasFault (next_message clock used) (fields ((1, 1) ∷ [])) faults.ManyMessages 0
  pub message : (used n : ℕ) (fault : MessageFault)
      → used < 4 → n < 2 ^ 24 → message_fault clock (is_long n) n ≡ Some fault
      → HasFault (next_message clock used) (fields ((1, 1) ∷ (24, n) ∷ [])) faults.Messages 1
  pub flags : (used n marks : ℕ) → used < 4 → n < 2 ^ 24 → marks < 2 ^ 16
      → message_fault clock (is_long n) n ≡ None → is_long n ≡ true → has_markers marks ≡ false
      → HasFault (next_message clock used) (fields ((1, 1) ∷ (24, n) ∷ (16, marks) ∷ [])) faults.Messages 25
  -- after messages
  pub here : (messages : List Message) (text : List Bool) (kind : FaultKind) (place : ℕ)
      → HasFault (next_message clock (length messages)) text kind place
      → HasFault (repeat messages (back_turn clock)) text kind place
  pub after : (messages : List Message) (m : Message) (front text : List Bool) (kind : FaultKind) (place : ℕ)
      → Spells (next_message clock (length messages)) (Some m) front
      → HasFault (repeat (messages ++ m ∷ []) (back_turn clock)) text kind place
      → HasFault (repeat messages (back_turn clock)) (front ++ text) kind (length front + place)

-- each part's faults are the header's, after the texts of the parts before it
pub record PartFaults (format : Format) : Type 0 where
  pub of_opening : (text : List Bool) (kind : FaultKind) (place : ℕ)
      → HasFault opening text kind place → HasFault (header format) text kind place
  pub of_plus_type : (low : ℕ) (a text : List Bool) (kind : FaultKind) (place : ℕ) → Spells opening low a
      → HasFault (plus_type format) text kind place → HasFault (header format) (a ++ text) kind (length a + place)
  pub of_multipoint : (low : ℕ) (type : Clock × Kind × ℕ) (a b text : List Bool)
      (kind : FaultKind) (place : ℕ) → Spells opening low a → Spells (plus_type format) type b
      → HasFault multipoint text kind place
      → HasFault (header format) (a ++ (b ++ text)) kind (length a + (length b + place))
  pub of_extended : (low : ℕ) (type : Clock × Kind × ℕ) (a b c text : List Bool) (kind : FaultKind)
      (place : ℕ) → Spells opening low a → Spells (plus_type format) type b → Spells multipoint tt c
      → HasFault (extended type.0 low) text kind place → HasFault (header format)
      (a ++ (b ++ (c ++ text))) kind (length a + (length b + (length c + place)))
  pub of_channel : (low tr : ℕ) (type : Clock × Kind × ℕ) (a b c d text : List Bool)
      (kind : FaultKind) (place : ℕ) → Spells opening low a → Spells (plus_type format) type b
      → Spells multipoint tt c → Spells (extended type.0 low) tr d
      → HasFault channel text kind place → HasFault (header format) (a ++ (b ++ (c ++ (d ++ text))))
      kind (length a + (length b + (length c + (length d + place))))
  pub of_reference : (low tr n : ℕ) (type : Clock × Kind × ℕ) (a b c d e text : List Bool)
      (kind : FaultKind) (place : ℕ) → Spells opening low a → Spells (plus_type format) type b
      → Spells multipoint tt c → Spells (extended type.0 low) tr d → Spells channel n e
      → HasFault (reference type.0 type.1) text kind place
      → HasFault (header format) (a ++ (b ++ (c ++ (d ++ (e ++ text))))) kind
      (length a + (length b + (length c + (length d + (length e + place)))))
  pub of_back : (low tr n : ℕ) (type : Clock × Kind × ℕ)
      (trp : Option ℕ) (a b c d e f text : List Bool) (kind : FaultKind) (place : ℕ)
      → Spells opening low a → Spells (plus_type format) type b
      → Spells multipoint tt c → Spells (extended type.0 low) tr d
      → Spells channel n e → Spells (reference type.0 type.1) trp f
      → HasFault (back type.0) text kind place
      → HasFault (header format) (a ++ (b ++ (c ++ (d ++ (e ++ (f ++ text)))))) kind
      (length a + (length b + (length c + (length d + (length e + (length f + place))))))
  -- PQUANT after them all
  pub of_quant : (low tr n : ℕ) (type : Clock × Kind × ℕ) (trp : Option ℕ) (messages : List Message)
      (a b c d e f g : List Bool) → Spells opening low a → Spells (plus_type format) type b
      → Spells multipoint tt c → Spells (extended type.0 low) tr d → Spells channel n e
      → Spells (reference type.0 type.1) trp f → Spells (back type.0) messages g
      → HasFault (header format)
      (a ++ (b ++ (c ++ (d ++ (e ++ (f ++ (g ++ fields ((5, 0) ∷ [])))))))) faults.Quant (length
      a + (length b + (length c + (length d + (length e + (length f + (length g + 0)))))))

pub record HeaderFaults : Type 0 where
  -- the first fault is the one that the field after the longest list of fields without a fault
  -- has, and Ended where that is cut
  pub first : (format : Format) (b : Bits) (fault : Fault)
      → (reading (header format) b ≡ Err fault) ↔ IsFirstFault (header format) b fault
  pub opening : OpeningFaults
  pub plus_type : (format : Format) → PlusTypeFaults format
  pub middle : MiddleFaults
  pub messages : (clock : Clock) → MessageFaults clock
  pub parts : (format : Format) → PartFaults format
