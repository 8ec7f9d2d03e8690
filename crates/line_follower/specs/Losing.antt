-- What is lost on the way.
use Rattle.std.specs.Prelude.{ℕ, ◌+◌, ◌-◌, ◌*◌, ◌/◌, ◌==◌, min, nat_le, nat_lt, Bool, true, false, Option, Some, None, if◌then◌else◌}
use Rattle.line_follower.specs.declared.losses.Losses.{Losses}
use Rattle.line_follower.specs.declared.latest.Latest.{Latest}
use Rattle.line_follower.specs.Numbers.{four_moved, four_zeros, total_of_four}

-- ---- the share of packets that is lost

abbrev pub first_losses : ℕ → Losses
first_losses now = record { began = now; packets = 0; lost = 0; share = 0 }

abbrev pub cleared_losses : ℕ → Losses → Losses
cleared_losses now l = record { began = now; packets = 0; lost = 0; share = l.share }

-- One picture more. Of one that isn't whole at least one packet was lost. Counts stay below 2^32.
abbrev pub losses_counted : ℕ → Bool → Losses → Losses
losses_counted packets is_whole l =
    record {
      began = l.began;
      packets = min (l.packets + packets) 4294967295;
      lost = if is_whole then l.lost else min (l.lost + 1) 4294967295;
      share = l.share;
    }

-- a second has gone by, with at least twenty packets
abbrev pub is_judged : ℕ → Losses → Bool
is_judged now l =
    if nat_lt (now - l.began) 1000000000 then false else nat_le 20 l.packets

-- in ten-thousandths
abbrev pub share_of : ℕ → ℕ → ℕ
share_of lost packets = min (10000 * lost / packets) 10000

abbrev pub losses_after : ℕ → Bool → ℕ → Losses → Losses
losses_after packets is_whole now l =
    let m = losses_counted packets is_whole l in
    if is_judged now m
    then record { began = now; packets = 0; lost = 0; share = share_of m.lost m.packets }
    else m

-- ---- the latest eight pictures

abbrev pub no_latest : Latest
no_latest =
    record { count = 0; newer = four_zeros; older = four_zeros; newer_whole = four_zeros; older_whole = four_zeros }

abbrev pub whole_number : Bool → ℕ
whole_number true = 1
whole_number false = 0

abbrev pub latest_with : ℕ → Bool → Latest → Latest
latest_with packets is_whole l =
    record {
      count = if nat_lt l.count 8 then l.count + 1 else 8;
      newer = four_moved packets l.newer;
      older = four_moved l.newer.fourth l.older;
      newer_whole = four_moved (whole_number is_whole) l.newer_whole;
      older_whole = four_moved l.newer_whole.fourth l.older_whole;
    }

-- The eighths of the rate that come through, of eight pictures of which so many are whole, with so
-- many packets in all, where fewer than half of the packets come. Of pictures with n packets the
-- n-th power of the share of packets is whole; it counts as a quarter at least.
abbrev pub eighths_of : ℕ → ℕ → Option ℕ
eighths_of whole packets =
    if whole == 0 then Some 2
    else if whole == 1 then
    (if nat_lt packets 16 then Some 2 else if nat_lt packets 24 then Some 3 else None)
    else if whole == 2 then (if nat_lt packets 16 then Some 3 else None)
    else if whole == 3 then (if nat_lt packets 12 then Some 3 else None)
    else None

abbrev pub carried_by : Latest → Option ℕ
carried_by l =
    if l.count == 8
    then eighths_of (total_of_four l.newer_whole + total_of_four l.older_whole)
    (total_of_four l.newer + total_of_four l.older)
    else None
