use Rattle.duplex_call.specs.Duplex.{way, ways_after}
use Rattle.duplex_call.proofs.NearEach.{near_each}
use Rattle.duplex_call.proofs.laws.four_stores.Goals as goal

pub returns : goal.returns
returns g c side captures past lawful near x =
    c.two_stores.ensures (side x).coding (side x).rules (side x).pace (way x (ways_after side captures past)).frames
    (way x (ways_after side captures past)).past
    (lawful x).coding (lawful x).rules (lawful x).pace (near_each c.later_frames.ensures.ideal side captures past near
    x)
