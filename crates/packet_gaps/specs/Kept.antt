-- What is kept of all that happened.
use Rattle.std.specs.Prelude.{◌≡◌, ℕ, ◌+◌, ◌==◌, Bool, if◌then◌else◌, List, [], ◌∷◌, map, Option, Some, None}
use Rattle.std.specs.List.{list_any}
use Rattle.packet_gaps.specs.declared.gap.Gap.{Gap}
use Rattle.packet_gaps.specs.declared.gaps.Gaps.{Gaps}
use Rattle.packet_gaps.specs.declared.gaps.Nack.{Nack}
use Rattle.packet_gaps.specs.declared.moment.Moment.{Moment}
use Rattle.packet_gaps.specs.Asking.{after_asking, nack_of, gaps_asked_for}
use Rattle.packet_gaps.specs.Missing.{gaps_after_packet, gaps_after_play, newest_after_packet, counted_number}

-- the newest packet's number, and the gaps, as `Gaps` has them
pub record Kept : Type 0 where
  pub newest : Option ℕ
  pub gaps : List Gap

-- a packet came of this picture; the pictures before this one were played; it was asked once what to
-- ask for
pub data GapEvent : Type 0 where
  Came : (sequence picture : ℕ) → GapEvent
  Played : (next : ℕ) → GapEvent
  Asked : (m : Moment) → GapEvent

-- as each call's contract has it
abbrev pub gap_state_after : Kept → GapEvent → Kept
gap_state_after k (Came sequence picture) =
    record {
      newest = newest_after_packet k.newest sequence;
      gaps = gaps_after_packet k.newest sequence picture k.gaps;
    }
gap_state_after k (Played next) = record { newest = k.newest; gaps = gaps_after_play next k.gaps }
gap_state_after k (Asked m) = record { newest = k.newest; gaps = after_asking m k.newest k.gaps }

-- after these events, the newest first
abbrev pub kept_gaps_after : List GapEvent → Kept
kept_gaps_after [] = record { newest = None; gaps = [] }
kept_gaps_after (e ∷ past) = gap_state_after (kept_gaps_after past) e

-- these events came of it, the newest first
pub record GapsStand (g : Gaps) (past : List GapEvent) : Type 0 where
  pub newest : g.newest ≡ (kept_gaps_after past).newest
  pub gaps : g.gaps.items ≡ (kept_gaps_after past).gaps

-- what it asks for, then
abbrev pub asks : Moment → List GapEvent → Option Nack
asks m past = nack_of m (kept_gaps_after past).newest (kept_gaps_after past).gaps

-- ---- the packets that came

abbrev pub counted_on : Option ℕ → ℕ → ℕ
counted_on None sequence = 65536 + sequence
counted_on (Some newest) sequence = counted_number newest sequence

-- each by its number, counted on, and its picture
abbrev pub counted_packets : List GapEvent → List (ℕ × ℕ)
counted_packets [] = []
counted_packets (Came sequence picture ∷ past) =
    (counted_on (kept_gaps_after past).newest sequence, picture) ∷ counted_packets past
counted_packets (Played next ∷ past) = counted_packets past
counted_packets (Asked m ∷ past) = counted_packets past

abbrev pub came_of : List GapEvent → List ℕ
came_of past = map (λ p. p.0) (counted_packets past)

-- ---- the packets that were asked for

-- this one is among them
abbrev pub has_number : ℕ → List Gap → Bool
has_number number gaps = list_any (λ g. g.number == number) gaps

-- when this one was asked for, the last time first
abbrev pub asked_at : ℕ → List GapEvent → List ℕ
asked_at number [] = []
asked_at number (Came sequence picture ∷ past) = asked_at number past
asked_at number (Played next ∷ past) = asked_at number past
asked_at number (Asked m ∷ past) =
    if has_number number (gaps_asked_for m (kept_gaps_after past).newest (kept_gaps_after past).gaps)
    then m.time ∷ asked_at number past
    else asked_at number past
