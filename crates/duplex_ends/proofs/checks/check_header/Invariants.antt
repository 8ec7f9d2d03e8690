use Rattle.std.proofs.Common.{◌≡◌, drop}
use Rattle.duplex_ends.specs.Bringing.{carried_in, first_far}
use Rattle.duplex_ends.proofs.checks.check_header.Given as goal

-- none of the messages before was far
abbrev pub invariant-header : goal.invariant-header
invariant-header l = first_far l.half l.sent (carried_in (drop l.place-index l.header))
    ≡ first_far l.half l.sent (carried_in l.header)
