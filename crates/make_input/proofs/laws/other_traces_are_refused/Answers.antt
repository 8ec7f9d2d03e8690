use Rattle.std.proofs.Common.{◌+◌, refl, arith}
use Rattle.std.proofs.lemmas.Bool.{lt-leb}
use Rattle.call_model.specs.Refusals.{first_refusal}
use Rattle.make_input.proofs.laws.other_traces_are_refused.Goals as goal

pub returns-clause-capture : goal.returns-clause-capture
unfolding first_refusal
returns-clause-capture c = λ rules room. rw (lt-leb (0 + rules.half) 1 (omega (arith, room))) refl

pub returns-clause-play : goal.returns-clause-play
unfolding first_refusal
returns-clause-play c = λ rules. refl

pub returns-clause-packet : goal.returns-clause-packet
unfolding first_refusal
returns-clause-packet c = λ rules. refl

pub returns-clause-message : goal.returns-clause-message
unfolding first_refusal
returns-clause-message c = λ rules. refl
