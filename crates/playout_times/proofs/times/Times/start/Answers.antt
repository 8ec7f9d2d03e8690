use Rattle.playout_times.specs.Ways.{quarter_of}
use Rattle.playout_times.proofs.times.Times.start.Goals as goal

pub returns-clause-stands : goal.returns-clause-stands
returns-clause-stands c =
    record {
      newest = tt;
      recent = c.none.ensures (quarter_of 0);
      runs = c.none-2.ensures;
      captured = c.none-3.ensures c.args.next;
      timed = tt;
      wait = c.requires;
    }
