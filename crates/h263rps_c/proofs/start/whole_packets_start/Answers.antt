use Rattle.h263rps_c.proofs.Starts.{whole}
use Rattle.h263rps_c.proofs.start.whole_packets_start.Goals as goal

pub returns : goal.returns
returns c = whole c.starts_as_read.ensures c.start_is_of_format.ensures c.one_format.ensures.found
