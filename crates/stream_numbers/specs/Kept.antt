-- What is kept of all packets.
use Rattle.std.specs.Prelude.{◌≡◌, List}
use Rattle.stream_numbers.specs.declared.numbers.Numbers.{Numbers}
use Rattle.stream_numbers.specs.Streams.{HeardPacket, newest_after}

-- these packets came, the newest first
abbrev pub NumbersStand : Numbers → List HeardPacket → Type 0
NumbersStand n past = n.newest ≡ newest_after n.rate past
