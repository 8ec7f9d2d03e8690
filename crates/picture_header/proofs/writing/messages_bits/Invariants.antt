use Rattle.std.proofs.Common.{◌≡◌, ◌+◌, ◌*◌, ◌≤◌, drop}
use Rattle.picture_header.specs.Ranges.{messages_in}
use Rattle.picture_header.specs.Written.{back_bits}
use Rattle.picture_header.proofs.writing.messages_bits.Given as goal

-- the messages that are left
abbrev pub invariant-places : goal.invariant-places
invariant-places l = record {
  bits : l.bits + back_bits (messages_in (drop l.place-index l.places)) ≡ back_bits (messages_in l.places);
  few : l.bits ≤ 41 * l.place-index;
}
