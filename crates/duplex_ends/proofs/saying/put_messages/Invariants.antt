use Rattle.std.proofs.Common.{◌≡◌, ◌≤◌, ◌++◌, drop, length, map, take}
use Rattle.duplex_ends.specs.Bringing.{carried_in, carried_message}
use Rattle.duplex_ends.proofs.saying.put_messages.Given as goal

-- the messages that were put, and those that are left
abbrev pub invariant-header : goal.invariant-header
invariant-header l = record {
  few : l.count ≤ l.place-index;
  long : length l.messages ≡ 4;
  messages : take l.count l.messages ++ map carried_message (carried_in (drop l.place-index l.header))
      ≡ map carried_message (carried_in l.header);
}
