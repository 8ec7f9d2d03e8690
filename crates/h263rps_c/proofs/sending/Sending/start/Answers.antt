use Rattle.std.proofs.Common.{sym, ap, length}
use Rattle.h263rps_c.proofs.BeforeFirst.{no_packets}
use Rattle.h263rps_c.proofs.sending.Sending.start.Goals as goal

pub invariant_of-result : goal.invariant_of-result
invariant_of-result c = (
  c.in_ok-sender.ensures.params,
  sym (ap length (no_packets _ c.in_ok-sender.sender c.in_ok-sender.ensures.stands)),
  c.requires.params,
  c.first_aim-aim.ensures.ready,
)
