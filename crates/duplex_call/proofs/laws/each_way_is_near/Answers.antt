use Rattle.duplex_call.proofs.NearEach.{near_each}
use Rattle.duplex_call.proofs.laws.each_way_is_near.Goals as goal

pub returns : goal.returns
returns g c side captures past near x = near_each c.later_frames.ensures.ideal side captures past near x
