use Rattle.std.proofs.Common.{◌≡◌, ◌+◌, ◌++◌, drop}
use Rattle.h263_types.specs.declared.clock.Clock.TheVariants.{Custom}
use Rattle.h263_bits.specs.Written.{len_of, room_of, buffer_of, written}
use Rattle.picture_header.specs.Ranges.{messages_in, AreMessages}
use Rattle.picture_header.specs.Written.{bci_text, back_bits}
use Rattle.picture_header.proofs.writing.write_back.Given as goal

-- what is written, and the messages that are left
abbrev pub invariant-places : goal.invariant-places
invariant-places l = record {
  each : AreMessages Custom (messages_in (drop l.place-index l.places));
  buffer : buffer_of l.writer ≡ buffer_of l.initial.writer;
  room : room_of l.writer ≡ room_of l.initial.writer;
  len : len_of l.writer + back_bits (messages_in (drop l.place-index l.places))
      ≡ len_of l.initial.writer + back_bits (messages_in l.places);
  text : written l.writer ++ bci_text (messages_in (drop l.place-index l.places)) ≡ written l.initial.writer
      ++ bci_text (messages_in l.places);
}
