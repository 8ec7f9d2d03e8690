use Rattle.stream_run.specs.Entries.{timed_of}
use Rattle.stream_run.proofs.run.StreamRun.play.Goals as goal

pub returns-clause-stands : goal.returns-clause-stands
returns-clause-stands c = λ first now past s.
    let r = c.args.self.now in
    record {
      numbers = s.numbers;
      timed = c.play.ensures.stands first now (timed_of r.numbers.rate first r.lead past) s.timed;
    }
