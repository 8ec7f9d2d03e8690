use Rattle.std.proofs.Common.{refl}
use Rattle.packet_repeats.proofs.Places.{none_each, fewer}
use Rattle.packet_repeats.proofs.repeats.Repeats.start.Goals as goal

pub returns : goal.returns
returns c =
    let made = c.in_ok-places.ensures in
    let n = c.next_power_of_two in
    record {
      none = (
        n.result,
        record {
          power = n.ensures.power;
          enough = n.ensures.lower_bound;
          few = fewer c.args.count n.result c.requires.some n.ensures.upper_bound;
        },
        record {
          most = refl;
          count = made.count;
          each = none_each c.in_ok-places.places.items n.result c.args.longest made.count made.empty;
        },
      );
    }
