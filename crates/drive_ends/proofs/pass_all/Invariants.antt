use Rattle.std.proofs.Common.{◌≡◌}
use Rattle.drive_ends.proofs.pass_all.Given as goal

-- each picture so far was sent and played
abbrev pub invariant-pictures : goal.invariant-pictures
invariant-pictures l = record {
  sent : l.ends.sender.sent ≡ l.number;
  played : l.ends.receiver.played ≡ l.number;
  format : l.fn.format ≡ l.ends.sender.params.format;
}
