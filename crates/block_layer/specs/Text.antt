-- A block: INTRADC, and events up to the one with LAST 1.
use Rattle.std.specs.Prelude.{ℕ, ◌+◌, ◌++◌, ◌∷◌, [], List, drop, not, slice_index_or, unsigned_abs, Bool, Option, Some, None, nat_lt, ◌==◌, ◌||◌, if◌then◌else◌, slice_set, replicate, ℤ, pos}
use Rattle.std.specs.Ordering.{int_eq}
use Rattle.std.specs.List.{list_all}
use Rattle.h263_types.specs.Marks.{is_zero}
use Rattle.h263_bits.specs.Bits.{spelled}
use Rattle.h263_bits.specs.declared.fault.Fault.{Fault}
use Rattle.h263_bits.specs.declared.fault.FaultKind.TheVariants as faults
use Rattle.h263_bits.specs.Reading.{Bits, first_fault}
use Rattle.h263_bits.specs.Syntax.{Syntax, Allowed, LoopTurn, again, finally, any, done, field, part, repeat, either, Spells, reading}
use Rattle.code_tables.specs.Tables.{Coefficient, event, event_text}

-- where the next event's run starts, and the levels so far
pub record Events : Type 0 where
  pub place : ℕ
  pub levels : List ℤ

-- an event whose place is in the block
abbrev pub allowed_place : ℕ → Allowed Coefficient
allowed_place place e = if nat_lt (place + e.run) 64 then None else Some faults.PastEnd

-- a level at its place
pub record Placed : Type 0 where
  pub place : ℕ
  pub level : ℤ
  pub last : Bool

unfoldable pub placed : ℕ → Syntax Placed
placed place = part event (allowed_place place)
    λ e. done (record { place = place + e.run; level = e.level; last = e.last })

abbrev pub after_event : List ℤ → Placed → LoopTurn Events (List ℤ)
after_event levels p =
    if p.last then finally (slice_set levels p.place p.level)
    else again (record { place = p.place + 1; levels = slice_set levels p.place p.level })

unfoldable pub event_turn : Events → Syntax (LoopTurn Events (List ℤ))
event_turn s = part (placed s.place) any λ p. done (after_event s.levels p)

-- events from a place on, up to the one with LAST 1
unfoldable pub events : ℕ → List ℤ → Syntax (List ℤ)
events place levels = repeat (record { place = place; levels = levels }) event_turn

-- INTRADC
abbrev pub allowed_dc : Allowed ℕ
allowed_dc n = if (n == 0) || (n == 128) then Some faults.BadDc else None

abbrev pub dc_of : ℕ → ℤ
dc_of n = if n == 255 then pos 128 else pos n

-- a block with no level
abbrev pub no_levels : List ℤ
no_levels = replicate 64 (pos 0)

-- INTRADC, in a block with no other level
unfoldable pub intra_dc : Syntax (List ℤ)
intra_dc = field 8 allowed_dc λ dc. done (slice_set no_levels 0 (dc_of dc))

-- a block of an intra macroblock: INTRADC, and events from place 1 on where it is coded (H.263, 5.4)
unfoldable pub intra_block : Bool → Syntax (List ℤ)
intra_block coded = part intra_dc any λ levels. either coded (events 1 levels) (done levels)

-- a coded block of an inter macroblock
unfoldable pub inter_block : Syntax (List ℤ)
inter_block = events 0 no_levels

-- ---- in the format's words

-- the bits are a text of these levels, as a block of an intra macroblock
abbrev pub IsIntraText : Bool → List ℤ → List Bool → Type 0
IsIntraText coded levels bits = Spells (intra_block coded) levels bits

-- the bits are a text of these levels, as a coded block of an inter macroblock
abbrev pub IsInterText : List ℤ → List Bool → Type 0
IsInterText levels bits = Spells inter_block levels bits

-- the first fault of a block of an intra macroblock in bits from a place on, if there is one
abbrev pub intra_block_fault : Bool → Bits → Option Fault
intra_block_fault coded b = first_fault (reading (intra_block coded) b)

-- the first fault of a coded block of an inter macroblock, likewise
abbrev pub inter_block_fault : Bits → Option Fault
inter_block_fault b = first_fault (reading inter_block b)

-- ---- what is written

-- whether each of these levels is 0
abbrev pub none_left : List ℤ → Bool
none_left zs = list_all is_zero zs

-- the events of levels in scan order, after a run of zeros: one for each level that is not 0, with
-- LAST 1 in the last alone
unfoldable pub coefficients_of : ℕ → List ℤ → List Coefficient
coefficients_of run [] = []
coefficients_of run (z ∷ zs) = if is_zero z then coefficients_of (run + 1) zs
    else (record { last = none_left zs; run = run; level = z } ∷ coefficients_of 0 zs)

-- the texts of events one after the other
unfoldable pub events_text : List Coefficient → List Bool
events_text [] = []
events_text (e ∷ es) = event_text e ++ events_text es

-- INTRADC as it is written: 255 for 128
abbrev pub dc_code : ℤ → ℕ
dc_code z = if int_eq z (pos 128) then 255 else unsigned_abs z

-- whether a block of an intra macroblock is coded: a level other than INTRADC isn't 0
abbrev pub is_coded : List ℤ → Bool
is_coded levels = not (none_left (drop 1 levels))

-- whether a block of an intra or of an inter macroblock is coded
abbrev pub is_block_coded : Bool → List ℤ → Bool
is_block_coded intra levels = if intra then is_coded levels else not (none_left levels)

-- the events of a block's levels from a place on
unfoldable pub levels_text : ℕ → List ℤ → List Bool
levels_text from levels = events_text (coefficients_of 0 (drop from levels))

-- the events after INTRADC, where there are any
abbrev pub coded_text : List ℤ → List Bool
coded_text levels = if is_coded levels then levels_text 1 levels else []

-- a block of an intra macroblock: INTRADC, and its events where it is coded
unfoldable pub intra_text : List ℤ → List Bool
intra_text levels = spelled 8 (dc_code (slice_index_or levels 0 (pos 0))) ++ coded_text levels

-- a coded block of an inter macroblock
unfoldable pub inter_text : List ℤ → List Bool
inter_text levels = levels_text 0 levels
