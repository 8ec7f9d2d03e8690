-- THE FAULTS OF A BLOCK (H.263, 5.4): INTRADC, and each event after those before it.
use Rattle.std.specs.Prelude.{◌≡◌, ◌↔◌, ℕ, ℤ, ◌+◌, ◌<◌, ◌≤◌, List, [], ◌∷◌, ◌++◌, length, Bool, true, false, slice_set, Err}
use Rattle.h263_bits.specs.declared.fault.Fault.{Fault}
use Rattle.h263_bits.specs.declared.fault.FaultKind.{FaultKind}
use Rattle.h263_bits.specs.declared.fault.FaultKind.TheVariants as faults
use Rattle.h263_bits.specs.Bits.{fields}
use Rattle.h263_bits.specs.Reading.{Bits}
use Rattle.h263_bits.specs.Syntax.{Spells, reading}
use Rattle.h263_bits.specs.Elements.{HasFault, IsFirstFault}
use Rattle.code_tables.specs.Tables.{Coefficient, event}
use Rattle.block_layer.specs.Text.{events, dc_of, no_levels, intra_block, inter_block}

-- the first fault is the one that the element after the longest list of elements without a fault has
pub record AreFirst : Type 0 where
  pub intra : (coded : Bool) (b : Bits) (fault : Fault)
      → (reading (intra_block coded) b ≡ Err fault) ↔ IsFirstFault (intra_block coded) b fault
  pub inter : (b : Bits) (fault : Fault) → (reading inter_block b ≡ Err fault) ↔ IsFirstFault inter_block b fault

-- INTRADC, and what stands after it
pub record DcFaults : Type 0 where
  pub code_0 : (coded : Bool) → HasFault (intra_block coded) (fields ((8, 0) ∷ [])) faults.BadDc 0
  pub code_128 : (coded : Bool) → HasFault (intra_block coded) (fields ((8, 128) ∷ [])) faults.BadDc 0
  pub after : (code : ℕ) (text : List Bool) (kind : FaultKind) (place : ℕ)
      → code < 256 → (code ≡ 0 → ⊥) → (code ≡ 128 → ⊥)
      → HasFault (events 1 (slice_set no_levels 0 (dc_of code))) text kind place
      → HasFault (intra_block true) (fields ((8, code) ∷ []) ++ text) kind (8 + place)
  pub inter : (text : List Bool) (kind : FaultKind) (place : ℕ)
      → HasFault (events 0 no_levels) text kind place → HasFault inter_block text kind place

pub record EventFaults : Type 0 where
  -- each fault of an event is the block's
  pub of_event : (from : ℕ) (levels : List ℤ) (text : List Bool) (kind : FaultKind) (place : ℕ)
      → HasFault event text kind place → HasFault (events from levels) text kind place
  -- a place past 63 is found with the event's last bit, and stands at its first
  pub past : (from : ℕ) (levels : List ℤ) (e : Coefficient) (text : List Bool) → Spells event e text
      → 64 ≤ from + e.run → HasFault (events from levels) text faults.PastEnd 0
  -- after an event that isn't the last
  pub after : (from : ℕ) (levels : List ℤ) (e : Coefficient) (front text : List Bool)
      (kind : FaultKind) (place : ℕ) → Spells event e front → from + e.run < 64 → e.last ≡ false
      → HasFault (events (from + e.run + 1) (slice_set levels (from + e.run) e.level)) text
      kind place → HasFault (events from levels) (front ++ text) kind (length front + place)

pub record BlockFaults : Type 0 where
  pub first : AreFirst
  pub dc : DcFaults
  pub events : EventFaults
