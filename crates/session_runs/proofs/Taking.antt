-- A packet that no run takes changes nothing.
use Rattle.std.proofs.Common.{◌≡◌, ℕ, List, None}
use Rattle.stream_choice.specs.declared.streams.Taker.{Taker}
use Rattle.stream_choice.specs.declared.streams.Taker.TheVariants as takers
use Rattle.stream_numbers.specs.declared.packet.Packet.{Packet}
use Rattle.session_runs.specs.declared.following.Following.{Following}
use Rattle.session_runs.specs.Histories.{Config}
use Rattle.session_runs.specs.Lines.{taker_run}
use Rattle.session_runs.specs.Following.{Follows, after_taker}
use Rattle.session_runs.specs.Followed.{FollowsStand}

pub by_none : (g : Following) (c : Config) (taker : Taker) (packet : Packet) (bytes : List ℕ) (now : ℕ) (f : Follows)
    → None ≡ taker_run taker → FollowsStand g f → FollowsStand g (after_taker c taker packet bytes now f)
by_none g c takers.Followed packet bytes now f e s = absurd cc
by_none g c takers.Former packet bytes now f e s = absurd cc
by_none g c takers.Tried packet bytes now f e s = absurd cc
by_none g c takers.Begins packet bytes now f e s = absurd cc
by_none g c takers.NoRun packet bytes now f e s = record { streams = s.streams; lines = s.lines }
