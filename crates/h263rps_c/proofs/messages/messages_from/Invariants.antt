use Rattle.std.proofs.Common.{◌≡◌, ◌≤◌, length, take, drop}
use Rattle.picture_header.specs.Ranges.{AreMessages}
use Rattle.h263rps_c.specs.Messages.{messages_of}
use Rattle.h263rps_c.proofs.MessagesRead.{after}
use Rattle.h263rps_c.proofs.messages.messages_from.Given as goal

-- the places before `place` are read
abbrev pub invariant-messages : goal.invariant-messages
invariant-messages l = record {
  whole : length l.places ≡ 4;
  within : l.place ≤ length l.back;
  few : l.count ≤ l.place;
  value : messages_of l.clock l.back ≡ after (take l.count l.places) (messages_of l.clock (drop l.place l.back));
  in_range : AreMessages l.clock (take l.count l.places);
}
