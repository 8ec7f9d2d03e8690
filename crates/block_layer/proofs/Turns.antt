-- A turn of a block's events, from the event at its place.
use Rattle.std.proofs.Common.{◌≡◌, ℕ, ◌+◌, ◌<◌, ◌≤◌, Bool, true, false, List, [], length, Ok, Err, refl, sym}
use Rattle.std.proofs.lemmas.Bool.{lt-ltb, le-ltb}
use Rattle.std.specs.Prelude.{ℤ, slice_set, nat_lt}
use Rattle.std.specs.List.{list_all}
use Rattle.h263_bits.specs.declared.fault.Fault.{Fault}
use Rattle.h263_bits.specs.declared.fault.FaultKind.TheVariants as faults
use Rattle.h263_bits.specs.Reading.{Bits, skip}
use Rattle.h263_bits.specs.Syntax.{again, finally, any, done, reading, Spells}
use Rattle.h263_bits.proofs.SyntaxLaws.{part_some, element_some, code_some}
use Rattle.code_tables.specs.declared.event_bits.SeenEvent.{SeenEvent}
use Rattle.code_tables.specs.Seen.{IsNextEvent}
use Rattle.code_tables.specs.Tables.{Coefficient, event, event_parts, event_table, tcoef_words, after_word}
use Rattle.block_layer.specs.Text.{Events, Placed, placed, allowed_place, event_turn}

-- where a turn stands
abbrev pub at_place : ℕ → List ℤ → Events
at_place place levels = record { place = place; levels = levels }

abbrev pub next : ℕ → ℤ → Bool → Placed
next place level last = record { place = place; level = level; last = last }

all_some : list_all (λ w. nat_lt 0 (length w.0)) (event_table).list ≡ true
unfolding event_table tcoef_words
all_some = refl

parts_some : (x : Coefficient) → Spells event_parts x [] → ⊥
unfolding event_parts
parts_some x h = code_some event_table after_word x all_some h

event_some : (x : Coefficient) → Spells event x [] → ⊥
unfolding event
event_some x h = element_some event_parts any done x parts_some h

placed_some : (place : ℕ) (x : Placed) → Spells (placed place) x [] → ⊥
unfolding placed
placed_some place x h = part_some event (allowed_place place) _ x event_some h

-- no event has an empty text
pub turn_some : (t u : Events) → Spells (event_turn t) (again u) [] → ⊥
unfolding event_turn
turn_some t u h = part_some (placed t.place) any _ (again u) (placed_some t.place) h

pub turn_more : (place : ℕ) (levels : List ℤ) (b c : Bits) (p : ℕ) (level : ℤ) → reading (placed place) b
    ≡ Ok (next p level false, c) → reading (event_turn (at_place place levels)) b
    ≡ Ok (again (at_place (p + 1) (slice_set levels p level)), c)
unfolding reading event_turn
turn_more place levels b c p level e = rw e refl

pub turn_last : (place : ℕ) (levels : List ℤ) (b c : Bits) (p : ℕ) (level : ℤ) → reading (placed place) b
    ≡ Ok (next p level true, c) → reading (event_turn (at_place place levels)) b
    ≡ Ok (finally (slice_set levels p level), c)
unfolding reading event_turn
turn_last place levels b c p level e = rw e refl

pub turn_fault : (place : ℕ) (levels : List ℤ) (b : Bits) (f : Fault) → reading (placed place) b ≡ Err f
    → reading (event_turn (at_place place levels)) b ≡ Err f
unfolding reading event_turn
turn_fault place levels b f e = rw e refl

-- an event that is seen, where its place is in the block
pub placed_there : (place : ℕ) (b c : Bits) (found : SeenEvent) (last : Bool) → IsNextEvent b found
    → place + found.event.run < 64 → found.event.last ≡ last → c ≡ skip found.len b
    → reading (placed place) b ≡ Ok (next (place + found.event.run) found.event.level last, c)
unfolding reading placed
placed_there place b c found last e inside same after = rw (
  sym same,
  after,
  e.read,
  lt-ltb (place + found.event.run) 64 inside,
) refl

-- and where it is past it
pub placed_past : (place : ℕ) (b : Bits) (found : SeenEvent) → IsNextEvent b found → 64 ≤ place + found.event.run
    → reading (placed place) b ≡ Err (record { kind = faults.PastEnd; at = b.at })
unfolding reading placed
placed_past place b found e past = rw (e.read, le-ltb (place + found.event.run) 64 past) refl
