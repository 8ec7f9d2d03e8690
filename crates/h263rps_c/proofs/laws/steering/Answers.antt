use Rattle.call_decoding.specs.Rules.{rules_of}
use Rattle.call_decoding.specs.Samples.{pictures}
use Rattle.call_encoding.specs.Encoding.{encoding}
use Rattle.h263rps_c.proofs.Steered.{quantiser_is, quantiser_fits, forget_is_intra, forget_is_for_good, plain_is_run}
use Rattle.h263rps_c.proofs.laws.steering.Goals as goal

pub returns-clause-quantiser : goal.returns-clause-quantiser
returns-clause-quantiser c = quantiser_is

pub returns-clause-fitted : goal.returns-clause-fitted
returns-clause-fitted c = quantiser_fits

pub returns-clause-intra : goal.returns-clause-intra
returns-clause-intra c = forget_is_intra (λ p. c.forgetting.ensures.intra (pictures p.format) (encoding p) (rules_of p))

pub returns-clause-for_good : goal.returns-clause-for_good
returns-clause-for_good c = forget_is_for_good (λ p. c.forgetting.ensures.never (pictures p.format) (encoding p)
    (rules_of p))

pub returns-clause-plain : goal.returns-clause-plain
returns-clause-plain c = plain_is_run c.one_target.ensures
