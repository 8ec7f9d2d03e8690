-- The packets of a stream that could not be heard. Times are nanoseconds.
use Rattle.std.specs.Prelude.{ℕ, ◌+◌, ◌-◌, ◌==◌, min, nat_le, nat_lt, Bool, true, false, if◌then◌else◌}
use Rattle.session_runs.specs.declared.unheard.Unheard.{Unheard}

abbrev pub fresh : ℕ → Unheard
fresh now = record { last = now; packets = 0; since = now }

abbrev pub after_heard : Bool → ℕ → Unheard → Unheard
after_heard true now u = fresh now
after_heard false now u =
    record {
      last = now;
      packets = min (u.packets + 1) 4294967295;
      since = if u.packets == 0 then now else u.since;
    }

-- None would ever be heard again: nothing came for thirty seconds, after which the numbers can't be
-- told any more; or of thirty packets in a row, over a second, none was heard.
abbrev pub is_lost : ℕ → Unheard → Bool
is_lost now u =
    if nat_lt 30000000000 (now - u.last) then true
    else if nat_le 30 u.packets then nat_le 1000000000 (now - u.since)
    else false
