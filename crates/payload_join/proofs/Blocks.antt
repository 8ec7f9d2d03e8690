-- Zero bits in a row in the texts of blocks.
use Rattle.std.proofs.Common.{◌≡◌, ℕ, ◌+◌, ◌≤◌, Bool, true, false, cond, List, refl, arith}
use Rattle.std.specs.Prelude.{ℤ, slice_set}
use Rattle.h263_bits.specs.Bits.{spelled}
use Rattle.h263_bits.specs.Syntax.{again, finally, any, done}
use Rattle.code_tables.specs.Tables.{event}
use Rattle.block_layer.specs.Text.{Events, Placed, allowed_place, placed, after_event, event_turn, events, allowed_dc, no_levels, intra_dc, intra_block, inter_block}
use Rattle.payload_join.proofs.Zeros.{zeros, all_below, is_fine}
use Rattle.payload_join.proofs.Kept.{Keeps, turn_to, keeps_done, keeps_tried, keeps_part, keeps_repeat, keeps_either}
use Rattle.payload_join.proofs.Words.{event_keeps}

placed_keeps : (place : ℕ) → Keeps (placed place) 6 (λ _. 6)
unfolding placed
placed_keeps place = keeps_part event (allowed_place place) _ 6 (λ _. 6) (λ _. 6) event_keeps
    (λ e. keeps_done _ 6 (λ _. 6) (omega arith))

event_left : (levels : List ℤ) (p : Placed) → 6 ≤ turn_to 6 (λ _. 6) (after_event levels p)
event_left levels p = at p.last
  where
    at : (t : Bool) → 6 ≤ turn_to {S = Events} {A = List ℤ} 6 (λ _. 6)
        (cond t (finally (slice_set levels p.place p.level)) (again (record {
          place = p.place + 1;
          levels = slice_set levels p.place p.level;
        })))
    at true = omega arith
    at false = omega arith

turn_keeps : (s : Events) → Keeps (event_turn s) 6 (turn_to 6 (λ _. 6))
unfolding event_turn
turn_keeps s = keeps_part (placed s.place) any _ 6 (λ _. 6) (turn_to 6 (λ _. 6)) (placed_keeps s.place)
    (λ p. keeps_done (after_event s.levels p) 6 (turn_to 6 (λ _. 6)) (event_left s.levels p))

pub events_keep : (place : ℕ) (levels : List ℤ) → Keeps (events place levels) 6 (λ _. 6)
unfolding events
events_keep place levels = keeps_repeat _ event_turn 6 (λ _. 6) turn_keeps

-- each INTRADC
dcs_tried : all_below 256 (is_fine 8 6 allowed_dc (λ _. 6)) ≡ true
unfolding all_below zeros spelled
dcs_tried = refl

intra_dc_keeps : Keeps intra_dc 6 (λ _. 6)
unfolding intra_dc
intra_dc_keeps = keeps_tried 8 allowed_dc _ 6 (λ _. 6) (λ _. 6) dcs_tried
    (λ v free. keeps_done _ 6 (λ _. 6) (omega arith))

pub intra_block_keeps : (coded : Bool) → Keeps (intra_block coded) 6 (λ _. 6)
unfolding intra_block
intra_block_keeps coded =
    keeps_part intra_dc any _ 6 (λ _. 6) (λ _. 6) intra_dc_keeps (λ levels.
    keeps_either coded (events 1 levels) (done levels) 6 (λ _. 6) (events_keep 1 levels)
    (keeps_done levels 6 (λ _. 6) (omega arith)))

pub inter_block_keeps : Keeps inter_block 6 (λ _. 6)
unfolding inter_block
inter_block_keeps = events_keep 0 no_levels
