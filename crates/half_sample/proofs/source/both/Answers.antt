use Rattle.std.proofs.Common.{◌∙◌}
use Rattle.half_sample.proofs.Sources.{second_lanes}
use Rattle.half_sample.proofs.source.both.Goals as goal

pub returns-clause-second : goal.returns-clause-second
returns-clause-second c = λ i hi.
    second_lanes c.samples_at-first.result c.samples_at-second.result i c.samples_at-first.ensures.samples.long
    c.samples_at-second.ensures.samples.long hi
    ∙ c.samples_at-second.ensures.value i hi
