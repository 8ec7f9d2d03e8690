-- What holds of the gaps, whatever came, was played and was asked.
use Rattle.std.specs.Prelude.{◌≡◌, ℕ, zero, suc, ◌+◌, ◌-◌, ◌/◌, ◌%◌, ◌==◌, ◌<◌, ◌≤◌, nat_lt, Bool, true, false, if◌then◌else◌, List, [], filter, length, Option, Some, MatchOption}
use Rattle.std.specs.List.{AllByRecursion, list_any}
use Rattle.packet_gaps.specs.declared.gap.Gap.{Gap}
use Rattle.packet_gaps.specs.declared.gaps.Nack.{Nack}
use Rattle.packet_gaps.specs.declared.moment.Moment.{Moment}
use Rattle.packet_gaps.specs.Asking.{after_asking, moment_due, may_ask, nack_of, gaps_asked_for}
use Rattle.packet_gaps.specs.Kept.{GapEvent, asked_at, came_of, has_number, kept_gaps_after, counted_packets}

-- no packet with this number came, but one before it and one after it
pub record IsMissing (came : List ℕ) (number : ℕ) : Type 0 where
  pub absent : AllByRecursion (λ n. n ≡ number → ⊥) came
  pub one_before : list_any (λ n. nat_lt n number) came ≡ true
  pub one_after : list_any (λ n. nat_lt number n) came ≡ true

-- each gap is one
abbrev pub Missing : Type 0
Missing =
    (past : List GapEvent) → AllByRecursion (λ g. IsMissing (came_of past) g.number) (kept_gaps_after past).gaps

-- it is ahead of the gap, and of its picture
abbrev pub is_later : Gap → ℕ × ℕ → Bool
is_later g p = if nat_lt g.number p.0 then p.1 == g.picture else false

-- a packet of each gap's picture came that is ahead of it: so its own picture is that one, or an
-- earlier one
abbrev pub OfLater : Type 0
OfLater =
    (past : List GapEvent)
    → AllByRecursion (λ g. list_any (is_later g) (counted_packets past) ≡ true) (kept_gaps_after past).gaps

abbrev pub Few : Type 0
Few = (past : List GapEvent) → length (kept_gaps_after past).gaps ≤ 64

-- it isn't played yet, and a round trip from now is no later than it is due
pub record ComesInTime (m : Moment) (g : Gap) : Type 0 where
  pub unplayed : m.next ≤ g.picture
  pub comes : m.time + m.round_trip ≤ moment_due m g.picture

-- nothing else is asked for
abbrev pub AsksInTime : Type 0
AsksInTime =
    (m : Moment) (newest : Option ℕ) (gaps : List Gap)
    → AllByRecursion (ComesInTime m) (gaps_asked_for m newest gaps)

-- no packet is asked for a third time
abbrev pub Twice : Type 0
Twice = (past : List GapEvent) (number : ℕ) → length (asked_at number past) ≤ 2

-- what is asked for was asked for a round trip ago, or longer, if it was
abbrev pub Apart : Type 0
Apart =
    (past : List GapEvent) (m : Moment) (number : ℕ)
    → has_number number (gaps_asked_for m (kept_gaps_after past).newest (kept_gaps_after past).gaps) ≡ true
    → AllByRecursion (λ time. m.round_trip ≤ m.time - time) (asked_at number past)

-- ---- what a field says

-- bit k of a number, bit 0 being the least significant one
abbrev pub bit_at : ℕ → ℕ → Bool
bit_at n zero = n % 2 == 1
bit_at n (suc k) = bit_at (n / 2) k

-- the field asks for these and for no others: the packet with this number, and so many of the 16
-- after it as bits say
pub record NackNames (n : Nack) (first : ℕ) (told : List Gap) : Type 0 where
  pub packet : n.packet ≡ first % 65536
  pub itself : has_number first told ≡ true
  pub following : (k : ℕ) → k < 16 → bit_at n.following k ≡ has_number (first + 1 + k) told
  pub near : AllByRecursion (λ g. (first ≤ g.number) × (g.number ≤ first + 16)) told

abbrev pub Named : Type 0
Named =
    (m : Moment) (newest : Option ℕ) (gaps : List Gap)
    → MatchOption (nack_of m newest gaps) (gaps_asked_for m newest gaps ≡ [])
    (λ n. (first : ℕ) × NackNames n first (gaps_asked_for m newest gaps))

-- where the round trip isn't 0, each field leaves fewer that may be asked for
abbrev pub Ends : Type 0
Ends =
    (m : Moment) (newest : ℕ) (gaps : List Gap) → 1 ≤ m.round_trip
    → MatchOption (nack_of m (Some newest) gaps) (Unit {0})
    (λ n. length (filter (may_ask m newest) (after_asking m (Some newest) gaps))
    < length (filter (may_ask m newest) gaps))
