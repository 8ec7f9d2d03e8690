use Rattle.std.proofs.Common.{◌≡◌, ◌-◌, ◌<◌, ◌^◌}
use Rattle.packet_gaps.specs.Asking.{is_asked, mask_of}
use Rattle.packet_gaps.proofs.asking.following.Given as goal

abbrev pub invariant-loop-step : goal.invariant-loop-step
invariant-loop-step l =
    (l.mask ≡ mask_of (is_asked l.moment l.newest l.gaps l.first) l.step (17 - l.step))
    × (l.mask < 2 ^ l.step)
