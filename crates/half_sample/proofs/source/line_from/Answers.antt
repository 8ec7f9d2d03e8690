use Rattle.std.proofs.Common.{ℕ, refl, ap, ◌∙◌}
use Rattle.std.specs.Int.RustNames.{bit_xor}
use Rattle.half_sample.specs.Sources.{lane_of}
use Rattle.half_sample.proofs.Lanes.{lanes, samples_are}
use Rattle.half_sample.proofs.Sources.{none_odd, not_further, one_further, own_means}
use Rattle.half_sample.proofs.source.line_from.Goals as goal

pub returns-then-not-right : goal.returns-then-not-right
returns-then-not-right c =
    let here = c.sixteen-here.result in
    let is = c.sixteen-here.ensures in
    record {
      here = here;
      further = here;
      here_samples = is.samples;
      further_samples = is.samples;
      here_is = is.value;
      further_is = λ i hi. is.value i hi
          ∙ ap (λ (k : ℕ). lane_of c.args.source k i) (not_further c.args.right c.args.at c.if-not-right.true);
      means = is.samples;
      odd = refl;
      are = record { mean = own_means here; odd = none_odd 16 here is.samples.long };
    }

pub returns : goal.returns
returns c =
    let here = c.sixteen-here.result in
    let further = c.sixteen-further.result in
    let is = c.sixteen-here.ensures in
    let next = c.sixteen-further.ensures in
    record {
      here = here;
      further = further;
      here_samples = is.samples;
      further_samples = next.samples;
      here_is = is.value;
      further_is = λ i hi. next.value i hi
          ∙ ap (λ (k : ℕ). lane_of c.args.source k i) (one_further c.args.right c.args.at c.if-not-right.false);
      means = samples_are c.mean.ensures.samples;
      odd = lanes bit_xor here further is.samples.long next.samples.long;
      are = record { mean = c.mean.ensures.value; odd = refl };
    }
