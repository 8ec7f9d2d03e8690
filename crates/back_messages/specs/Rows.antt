-- THE FAULTS OF A MESSAGE, in the order in which they are looked for. A row says what the fields
-- hold, and knows no reader.
use Rattle.std.specs.Prelude.{◌≡◌, ◌⊎◌, ◌==◌, ℕ, ◌<◌, ◌≤◌, List, [], ◌∷◌, ◌++◌, length, take, drop, Bool, true, false}
use Rattle.h263_bits.specs.declared.fault.FaultKind.{FaultKind}
use Rattle.h263_bits.specs.declared.fault.FaultKind.TheVariants.{Ended, Messages}
use Rattle.h263_bits.specs.Bits.{bits_of, fields}
use Rattle.h263_types.specs.declared.clock.Clock.{Clock}
use Rattle.h263_types.specs.Clocks.{period_of}
use Rattle.back_messages.specs.declared.message.MessageFault.{MessageFault}
use Rattle.back_messages.specs.declared.message.MessageFault.TheVariants.{Length, Kind, High, Marker, Pair}

-- ---- what a message holds

-- the first 24 bits: BT, URF, TR, a marker, RTR
pub record First : Type 0 where
  pub type : ℕ
  pub urf : ℕ
  pub tr : ℕ
  pub marker : ℕ
  pub rtr : ℕ

-- the bits are these fields
pub record HoldsFields (bits : List Bool) (f : First) : Type 0 where
  pub type_small : f.type < 4
  pub urf_small : f.urf < 2
  pub tr_small : f.tr < 1024
  pub marker_small : f.marker < 2
  pub rtr_small : f.rtr < 1024
  pub text : bits ≡ fields ((2, f.type) ∷ (1, f.urf) ∷ (10, f.tr) ∷ (1, f.marker) ∷ (10, f.rtr) ∷ [])

-- the bits are two bytes of flags, each a marker and seven flags
pub record HoldsFlags (bits : List Bool) (first second : ℕ) : Type 0 where
  pub marks : ℕ
  pub more : ℕ
  pub first_small : first < 2
  pub marks_small : marks < 128
  pub second_small : second < 2
  pub more_small : more < 128
  pub text : bits ≡ fields ((1, first) ∷ (7, marks) ∷ (1, second) ∷ (7, more) ∷ [])

-- URF of a long message, which has flags, and of a short one
abbrev pub urf_in : Bool → ℕ
urf_in true = 1
urf_in false = 0

-- ---- the first 24 bits

-- they have no fault
pub record IsRight (clock : Clock) (long : Bool) (f : First) : Type 0 where
  pub type_high : 2 ≤ f.type
  pub urf_is : f.urf ≡ urf_in long
  pub tr_low : f.tr < period_of clock
  pub marker_is : f.marker ≡ 1
  pub rtr_low : f.rtr < period_of clock
  pub pair_is : f.type ≡ 3 → f.tr ≡ f.rtr

-- they have this fault first
pub data HasFirst (clock : Clock) (long : Bool) (f : First) : MessageFault → Type 0 where
  -- BT is neither 10 nor 11
  wrong_kind : f.type < 2 → HasFirst clock long f Kind
  -- URF says the other length
  other_urf : 2 ≤ f.type → (f.urf ≡ urf_in long → ⊥) → HasFirst clock long f Length
  high_tr : 2 ≤ f.type → f.urf ≡ urf_in long → period_of clock ≤ f.tr → HasFirst clock long f High
  zero_marker : 2 ≤ f.type → f.urf ≡ urf_in long → f.tr < period_of clock → f.marker ≡ 0 → HasFirst clock long f Marker
  high_rtr : 2 ≤ f.type → f.urf ≡ urf_in long → f.tr < period_of clock → f.marker ≡ 1
      → period_of clock ≤ f.rtr → HasFirst clock long f High
  -- an acknowledgement repeats TR
  other_pair : f.urf ≡ urf_in long → f.tr < period_of clock → f.marker ≡ 1 → f.rtr < period_of clock
      → f.type ≡ 3 → (f.tr ≡ f.rtr → ⊥) → HasFirst clock long f Pair

-- ---- a message in bytes

pub data IsMessageFault (clock : Clock) (bytes : List ℕ) : MessageFault → Type 0 where
  other_length : (length bytes ≡ 3 → ⊥) → (length bytes ≡ 5 → ⊥) → IsMessageFault clock bytes Length
  in_short : (f : First) (fault : MessageFault) → length bytes ≡ 3 → HoldsFields (bits_of bytes) f
      → HasFirst clock false f fault → IsMessageFault clock bytes fault
  in_long : (f : First) (fault : MessageFault) → length bytes ≡ 5 → HoldsFields (bits_of (take 3 bytes)) f
      → HasFirst clock true f fault → IsMessageFault clock bytes fault
  -- a byte of flags has no marker
  in_flags : (f : First) (first second : ℕ) → length bytes ≡ 5 → HoldsFields (bits_of (take 3 bytes)) f
      → IsRight clock true f → HoldsFlags (bits_of (drop 3 bytes)) first second
      → (first ≡ 0) ⊎ (second ≡ 0) → IsMessageFault clock bytes Marker

-- ---- a message in a picture header

-- Bits that a header has a message in have this fault first, this many bits from their first. URF
-- gives the length, and each fault of the message is one; the flags are a field of their own.
pub data IsMessageFieldFault (clock : Clock) (bits : List Bool) : FaultKind → ℕ → Type 0 where
  cut : length bits < 24 → IsMessageFieldFault clock bits Ended 0
  refused : (f : First) (front rest : List Bool) (fault : MessageFault) → bits ≡ front ++ rest → HoldsFields front f
      → HasFirst clock (f.urf == 1) f fault → IsMessageFieldFault clock bits Messages 0
  cut_flags : (f : First) (front rest : List Bool) → bits ≡ front ++ rest → HoldsFields front f
      → IsRight clock true f → length rest < 16 → IsMessageFieldFault clock bits Ended 24
  refused_flags : (f : First) (first second : ℕ) (front middle rest : List Bool)
      → bits ≡ front ++ (middle ++ rest) → HoldsFields front f
      → IsRight clock true f → HoldsFlags middle first second
      → (first ≡ 0) ⊎ (second ≡ 0) → IsMessageFieldFault clock bits Messages 24
