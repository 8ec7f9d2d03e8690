-- The rows of the table of faults.
use Rattle.std.proofs.Common.{◌≡◌, ℕ, ◌+◌, ◌<◌, ◌≤◌, Bool, true, false, refl, sym, arith, List, [], ◌∷◌, ◌++◌, length, Some, None}
use Rattle.std.specs.Prelude.{ℤ, slice_set}
use Rattle.std.proofs.lemmas.Bool.{lt-ltb, le-ltb, ne_eqb}
use Rattle.std.proofs.lemmas.List.{append-nil}
use Rattle.h263_bits.specs.declared.fault.FaultKind.{FaultKind}
use Rattle.h263_bits.specs.declared.fault.FaultKind.TheVariants as faults
use Rattle.h263_bits.specs.Bits.{spelled, fields}
use Rattle.h263_bits.specs.Syntax.{Spells, any, again}
use Rattle.h263_bits.specs.Elements.{HasFault}
use Rattle.h263_bits.proofs.SyntaxLaws.{first_fault_is, fault_here, fault_in_part, fault_after_part, fault_of_whole_part, fault_in_turn, fault_after_turn, spells_field, spells_done}
use Rattle.code_tables.specs.Laws.{TableLaws}
use Rattle.code_tables.specs.Tables.{Coefficient, event}
use Rattle.block_layer.specs.Text.{allowed_place, placed, after_event, event_turn, events, allowed_dc, dc_of, no_levels, intra_dc, intra_block, inter_block}
use Rattle.block_layer.specs.Faults.{DcFaults, BlockFaults}
use Rattle.block_layer.proofs.Turns.{at_place, next, turn_some}
use Rattle.block_layer.proofs.Productive.{dc_productive, turn_productive, intra_productive, inter_productive}

-- ---- INTRADC

dc_row : (coded : Bool) (code : ℕ) → code < 256 → allowed_dc code ≡ Some faults.BadDc
    → HasFault (intra_block coded) (fields ((8, code) ∷ [])) faults.BadDc 0
unfolding intra_block intra_dc
dc_row coded code lt bad = fault_in_part intra_dc any _ (fields ((8, code) ∷ [])) faults.BadDc 0
    (fault_here 8 allowed_dc _ code [] faults.BadDc lt bad)

good_dc : (code : ℕ) → (code ≡ 0 → ⊥) → (code ≡ 128 → ⊥) → allowed_dc code ≡ None
good_dc code zero middle = rw (ne_eqb code 0 zero, ne_eqb code 128 middle) refl

dc_spelt : (code : ℕ) → code < 256 → allowed_dc code ≡ None
    → Spells intra_dc (slice_set no_levels 0 (dc_of code)) (fields ((8, code) ∷ []))
unfolding intra_dc
dc_spelt code lt good = spells_field 8 allowed_dc _ (slice_set no_levels 0 (dc_of code)) code [] lt good
    (spells_done (slice_set no_levels 0 (dc_of code)))

after_dc : (code : ℕ) (text : List Bool) (kind : FaultKind) (place : ℕ) → code < 256 → (code ≡ 0 → ⊥) → (code ≡ 128 → ⊥)
    → HasFault (events 1 (slice_set no_levels 0 (dc_of code))) text kind place
    → HasFault (intra_block true) (fields ((8, code) ∷ []) ++ text) kind (8 + place)
unfolding intra_block spelled
after_dc code text kind place lt zero middle h =
    fault_after_part intra_dc any _ (slice_set no_levels 0 (dc_of code)) (fields ((8, code) ∷ [])) text kind place
    dc_productive (dc_spelt code lt (good_dc code zero middle)) refl h

inter_row : (text : List Bool) (kind : FaultKind) (place : ℕ) → HasFault (events 0 no_levels) text kind place
    → HasFault inter_block text kind place
unfolding inter_block
inter_row text kind place h = h

dc_faults : DcFaults
dc_faults = record {
  code_0 = λ coded. dc_row coded 0 (omega arith) refl;
  code_128 = λ coded. dc_row coded 128 (omega arith) refl;
  after = after_dc;
  inter = inter_row;
}

-- ---- events

event_row : (from : ℕ) (levels : List ℤ) (text : List Bool) (kind : FaultKind) (place : ℕ)
    → HasFault event text kind place → HasFault (events from levels) text kind place
unfolding events event_turn placed
event_row from levels text kind place h =
    fault_in_turn (at_place from levels) event_turn text kind place
    (fault_in_part (placed from) any _ text kind place
    (fault_in_part event (allowed_place from) _ text kind place h))

outside : (from : ℕ) (e : Coefficient) → 64 ≤ from + e.run → allowed_place from e ≡ Some faults.PastEnd
outside from e le = rw (le-ltb (from + e.run) 64 le) refl

inside : (from : ℕ) (e : Coefficient) → from + e.run < 64 → allowed_place from e ≡ None
inside from e lt = rw (lt-ltb (from + e.run) 64 lt) refl

past_row : TableLaws → (from : ℕ) (levels : List ℤ) (e : Coefficient) (text : List Bool) → Spells event e text
    → 64 ≤ from + e.run → HasFault (events from levels) text faults.PastEnd 0
unfolding events event_turn placed
past_row tables from levels e text spelt le =
    fault_in_turn (at_place from levels) event_turn text faults.PastEnd 0
    (fault_in_part (placed from) any _ text faults.PastEnd 0
    (fault_of_whole_part event (allowed_place from) _ e text faults.PastEnd tables.productive.event spelt
    (outside from e le)))

-- a turn with an event that isn't the last
turn_spelt : (from : ℕ) (levels : List ℤ) (e : Coefficient) (front : List Bool) → Spells event e front
    → from + e.run < 64 → e.last ≡ false
    → Spells (event_turn (at_place from levels))
    (again (at_place (from + e.run + 1) (slice_set levels (from + e.run) e.level))) front
unfolding event_turn placed Spells
turn_spelt from levels e front spelt lt last =
    let on : again (at_place (from + e.run + 1) (slice_set levels (from + e.run) e.level))
    ≡ after_event levels (next (from + e.run) e.level e.last) = rw last refl in (
      next (from + e.run) e.level e.last,
      front,
      [],
      sym (append-nil front),
      (
        e,
        front,
        [],
        sym (append-nil front),
        spelt,
        inside from e lt,
        (refl, refl),
      ),
      refl,
      (on, refl),
    )

after_row : TableLaws → (from : ℕ) (levels : List ℤ) (e : Coefficient) (front text : List Bool) (kind : FaultKind)
    (place : ℕ) → Spells event e front → from + e.run < 64 → e.last ≡ false
    → HasFault (events (from + e.run + 1) (slice_set levels (from + e.run) e.level)) text kind place
    → HasFault (events from levels) (front ++ text) kind (length front + place)
unfolding events
after_row tables from levels e front text kind place spelt lt last h =
    fault_after_turn (at_place from levels) (at_place (from + e.run + 1) (slice_set levels (from + e.run) e.level))
    event_turn front text kind place (turn_productive tables (at_place from levels)) turn_some
    (turn_spelt from levels e front spelt lt last) h

pub block_faults : TableLaws → BlockFaults
block_faults tables = record {
  first = record {
    intra = λ coded b fault. first_fault_is (intra_block coded) b fault (intra_productive tables coded);
    inter = λ b fault. first_fault_is inter_block b fault (inter_productive tables);
  };
  dc = dc_faults;
  events = record { of_event = event_row; past = past_row tables; after = after_row tables };
}
