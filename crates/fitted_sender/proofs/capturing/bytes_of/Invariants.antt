use Rattle.std.proofs.Common.{◌≡◌, take}
use Rattle.fitted_sender.specs.Aiming.{counted_bytes}
use Rattle.fitted_sender.proofs.capturing.bytes_of.Given as goal

-- the packets before `i` were counted
abbrev pub invariant-loop-i : goal.invariant-loop-i
invariant-loop-i l = record { bytes : l.bytes ≡ counted_bytes (take l.i l.sender.packets) }
