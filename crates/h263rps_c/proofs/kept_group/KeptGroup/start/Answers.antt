use Rattle.std.proofs.Common.{ap, length, sym}
use Rattle.h263rps_c.proofs.GroupStarts.{no_packets_of_group}
use Rattle.h263rps_c.proofs.kept_group.KeptGroup.start.Goals as goal

pub invariant_of-kept : goal.invariant_of-kept
invariant_of-kept c =
    record {
      same = c.in-Ok.ensures.params;
      count = sym (ap length (no_packets_of_group c.in-Ok.group c.in-Ok.ensures.holds));
      low = c.requires.params.quant_low;
      high = c.requires.params.quant_high;
    }
