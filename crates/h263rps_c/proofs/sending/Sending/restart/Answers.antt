use Rattle.std.proofs.Common.{sym, ap, length, ◌∙◌}
use Rattle.h263rps_c.proofs.BeforeFirst.{no_packets}
use Rattle.h263rps_c.proofs.sending.Sending.restart.Goals as goal

pub invariant_of-self : goal.invariant_of-self
invariant_of-self c = (
  c.restart.ensures.params
      ∙ c.self.invariant.0,
  sym (ap length (no_packets _ c.restart.new.self c.restart.ensures.stands)),
  c.self.invariant.2,
  c.first_aim-aim.ensures.ready,
)

pub returns-clause-packets : goal.returns-clause-packets
returns-clause-packets c = λ ok. no_packets _ c.restart.new.self c.restart.ensures.stands
