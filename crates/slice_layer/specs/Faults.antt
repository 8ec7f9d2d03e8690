-- THE FAULTS OF A SLICE (H.263, Annex K), field by field in its header, and before and in each macroblock.
use Rattle.std.specs.Prelude.{◌≡◌, ◌↔◌, ◌⊎◌, ℕ, ◌+◌, ◌-◌, ◌<◌, ◌≤◌, ◌^◌, List, [], ◌∷◌, ◌++◌, length, Bool, true, false, Option, Some, None, Err}
use Rattle.h263_types.specs.declared.format.Format.{Format}
use Rattle.h263_types.specs.declared.blocks.Mb.{Mb}
use Rattle.h263_types.specs.Sizes.{mbs_of}
use Rattle.h263_bits.specs.declared.fault.Fault.{Fault}
use Rattle.h263_bits.specs.declared.fault.FaultKind.{FaultKind}
use Rattle.h263_bits.specs.declared.fault.FaultKind.TheVariants as faults
use Rattle.h263_bits.specs.Bits.{fields}
use Rattle.h263_bits.specs.Reading.{Bits}
use Rattle.h263_bits.specs.Syntax.{Spells, reading}
use Rattle.h263_bits.specs.Elements.{HasFault, IsFirstFault}
use Rattle.picture_header.specs.declared.header.Header.{Header}
use Rattle.slice_layer.specs.Around.{Around, around, next_mb}
use Rattle.slice_layer.specs.Head.{address_bits, slice_reference, first_head, place, tail, later_head, head_of_slice}
use Rattle.slice_layer.specs.Text.{is_padding, AreTexts, slice_at}
use Rattle.slice_layer.specs.Written.{quant_after_all}

-- after the picture header: SEPB1, MBA, SEPB3
pub record FirstHeadFaults (h : Header) : Type 0 where
  pub marker : HasFault (first_head h) (fields ((1, 0) ∷ [])) faults.Marker 0
  pub address : (n : ℕ) → n < 2 ^ address_bits h.format → (n ≡ 0 → ⊥)
      → HasFault (first_head h) (fields ((1, 1) ∷ (address_bits h.format, n) ∷ [])) faults.Address 1
  pub end : HasFault (first_head h) (fields ((1, 1) ∷ (address_bits h.format, 0) ∷ (1, 0) ∷ []))
      faults.Marker (1 + (address_bits h.format + 0))

-- a later slice: the rest of its start code, SEPB1, MBA, SQUANT, SEPB3
pub record PlaceFaults (f : Format) : Type 0 where
  pub start : HasFault (place f) (fields ((1, 0) ∷ [])) faults.NoStart 0
  pub marker : HasFault (place f) (fields ((1, 1) ∷ (1, 0) ∷ [])) faults.Marker 1
  pub first : HasFault (place f) (fields ((1, 1) ∷ (1, 1) ∷ (address_bits f, 0) ∷ [])) faults.Address 2
  pub past : (n : ℕ) → mbs_of f ≤ n → n < 2 ^ address_bits f
      → HasFault (place f) (fields ((1, 1) ∷ (1, 1) ∷ (address_bits f, n) ∷ [])) faults.Address 2
  pub quant : (n : ℕ) → 0 < n → n < mbs_of f → n < 2 ^ address_bits f
      → HasFault (place f) (fields ((1, 1) ∷ (1, 1) ∷ (address_bits f, n) ∷ (5, 0) ∷ []))
      faults.Quant (1 + (1 + (address_bits f + 0)))
  pub end : (n q : ℕ) → 0 < n → n < mbs_of f → n < 2 ^ address_bits f → 0 < q → q < 32
      → HasFault (place f) (fields ((1, 1) ∷ (1, 1) ∷ (address_bits f, n) ∷ (5, q) ∷ (1, 0) ∷ []))
      faults.Marker (1 + (1 + (address_bits f + 5)))

-- GFID, TRI, TRPI and TRP, BCI
pub record TailFaults : Type 0 where
  pub tri : (trp : Option ℕ) (gfid : ℕ)
      → gfid < 4 → HasFault (tail trp) (fields ((2, gfid) ∷ (1, 1) ∷ [])) faults.SliceReference 2
  pub intra : HasFault (slice_reference None) (fields ((1, 1) ∷ [])) faults.SliceReference 0
  pub inter : (trp : ℕ) → HasFault (slice_reference (Some trp)) (fields ((1, 0) ∷ [])) faults.SliceReference 0
  pub other : (trp n : ℕ) → n < 1024 → (n ≡ trp → ⊥)
      → HasFault (slice_reference (Some trp)) (fields ((1, 1) ∷ (10, n) ∷ [])) faults.SliceReference 1
  pub of_reference : (trp : Option ℕ) (gfid : ℕ) (text : List Bool) (kind : FaultKind) (place : ℕ)
      → gfid < 4 → HasFault (slice_reference trp) text kind place
      → HasFault (tail trp) (fields ((2, gfid) ∷ []) ++ (fields ((1, 0) ∷ []) ++ text)) kind (2 + (1 + place))
  pub bci : (trp : Option ℕ) (gfid n : ℕ) (a : List Bool) → gfid < 4 → n < 4 → (n ≡ 1 → ⊥)
      → Spells (slice_reference trp) tt a
      → HasFault (tail trp)
      (fields ((2, gfid) ∷ []) ++ (fields ((1, 0) ∷ []) ++ (a ++ fields ((2, n) ∷ []))))
      faults.Bci (2 + (1 + (length a + 0)))

pub record LaterHeadFaults (h : Header) : Type 0 where
  pub of_place : (text : List Bool) (kind : FaultKind) (at : ℕ)
      → HasFault (place h.format) text kind at → HasFault (later_head h) text kind at
  pub of_tail : (first quant : ℕ) (a text : List Bool) (kind : FaultKind) (at : ℕ)
      → Spells (place h.format) (first, quant) a → HasFault (tail h.trp) text kind at
      → HasFault (later_head h) (a ++ text) kind (length a + at)

-- ---- the whole slice

-- Bits that begin with this text have this fault first as a slice, whatever follows.
abbrev pub HasSliceFault : Header → Bool → List Bool → FaultKind → ℕ → Type 0
HasSliceFault h begins text kind place =
    (at : ℕ) (rest : List Bool) → slice_at h begins (record { at = at; bits = text ++ rest })
    ≡ Err (record { kind = kind; at = at + place })

pub record BodyFaults (h : Header) (begins : Bool) : Type 0 where
  -- in the header
  pub of_head : (text : List Bool) (kind : FaultKind) (place : ℕ)
      → HasFault (head_of_slice h begins) text kind place → HasSliceFault h begins text kind place
  -- padding after the header: no macroblock was read
  pub empty : (first quant at : ℕ) (front padding : List Bool)
      → Spells (head_of_slice h begins) (first, quant) front → is_padding padding ≡ true
      → slice_at h begins (record { at = at; bits = front ++ padding })
      ≡ Err (record { kind = faults.Empty; at = at + length front })
  -- more than padding after the picture's last macroblock
  pub trailing : (first quant at : ℕ) (mbs : List Mb) (front texts rest : List Bool)
      → Spells (head_of_slice h begins) (first, quant) front → AreTexts (around h first) quant [] mbs texts
      → length mbs ≡ mbs_of h.format - first → is_padding rest ≡ false
      → slice_at h begins (record { at = at; bits = front ++ (texts ++ rest) })
      ≡ Err (record { kind = faults.Trailing; at = at + length front + length texts })
  -- in a macroblock, which is no padding, after those before it
  pub of_mb : (first quant : ℕ)
      (mbs : List Mb) (front texts text : List Bool) (kind : FaultKind) (place : ℕ)
      → Spells (head_of_slice h begins) (first, quant) front → AreTexts (around h first) quant [] mbs texts
      → length mbs < mbs_of h.format - first
      → HasFault (next_mb (around h first) (quant_after_all quant mbs) mbs) text kind place
      → ((rest : List Bool) → is_padding (text ++ rest) ≡ false)
      → HasSliceFault h begins (front ++ (texts ++ text)) kind (length front + (length texts + place))

-- ---- the first fault of a slice, said of its elements

-- After this many macroblocks of the room, which with earlier ones are these, the slice stops with
-- a fault: padding where there is none, more than padding where there is no room, or the first
-- fault of the next macroblock.
abbrev pub StopsAt : Around → ℕ → ℕ → ℕ → List Mb → Bits → Fault → Type 0
StopsAt a quant count room all b fault =
    ((all ≡ []) × (is_padding b.bits ≡ true) × (fault ≡ record { kind = faults.Empty; at = b.at }))
    ⊎ (((count ≡ room) × (is_padding b.bits ≡ false) × (fault ≡ record { kind = faults.Trailing; at = b.at }))
    ⊎ ((count < room) × (is_padding b.bits ≡ false) × IsFirstFault (next_mb a quant all) b fault))

-- the bits are macroblocks without a fault, after which the slice stops with this one
pub record IsBodyFault (a : Around) (quant room : ℕ) (before : List Mb) (b : Bits) (fault : Fault) : Type 0 where
  pub mbs : List Mb
  pub texts : List Bool
  pub left : List Bool
  pub parts : b.bits ≡ texts ++ left
  pub each : AreTexts a quant before mbs texts
  pub stops : StopsAt a (quant_after_all quant mbs)
      (length mbs) room (before ++ mbs) (record { at = b.at + length texts; bits = left }) fault

-- a fault in the header, or after it
abbrev pub IsSliceFault : Header → Bool → Bits → Fault → Type 0
IsSliceFault h begins b fault =
    IsFirstFault (head_of_slice h begins) b fault
    ⊎ ((first quant : ℕ) × (front rest : List Bool)
    × Spells (head_of_slice h begins) (first, quant) front × (b.bits ≡ front ++ rest)
    × IsBodyFault (around h first) quant
    (mbs_of h.format - first) [] (record { at = b.at + length front; bits = rest }) fault)

pub record SliceFaults : Type 0 where
  -- a reader answers a fault exactly where it is the first one of the slice's elements
  pub whole : (h : Header) (begins : Bool) (b : Bits) (fault : Fault)
      → (slice_at h begins b ≡ Err fault) ↔ IsSliceFault h begins b fault
  -- in the header the first fault is the one of the field after the longest list of fields without a fault
  pub head : (h : Header) (begins : Bool) (b : Bits) (fault : Fault)
      → (reading (head_of_slice h begins) b ≡ Err fault) ↔ IsFirstFault (head_of_slice h begins) b fault
  pub first_head : (h : Header) → FirstHeadFaults h
  pub places : (f : Format) → PlaceFaults f
  pub tails : TailFaults
  pub later_head : (h : Header) → LaterHeadFaults h
  pub body : (h : Header) (begins : Bool) → BodyFaults h begins
