use Rattle.h263_bits.proofs.SyntaxLaws.{one_reading}
use Rattle.code_tables.specs.Mcbpc.{mcbpc, dquant}
use Rattle.code_tables.specs.Tables.{cbpy, mvd, event}
use Rattle.code_tables.proofs.Productive.{mcbpc_productive, cbpy_productive, dquant_productive, mvd_productive, event_productive}
use Rattle.code_tables.proofs.laws.one_reading.Goals as goal

pub returns-clause-mcbpc : goal.returns-clause-mcbpc
returns-clause-mcbpc c = λ kind a b x y more p q e. one_reading (mcbpc kind) a b x y more (mcbpc_productive kind) p q e

pub returns-clause-cbpy : goal.returns-clause-cbpy
returns-clause-cbpy c = λ intra a b x y more p q e. one_reading (cbpy intra) a b x y more (cbpy_productive intra) p q e

pub returns-clause-dquant : goal.returns-clause-dquant
returns-clause-dquant c = λ a b x y more p q e. one_reading dquant a b x y more dquant_productive p q e

pub returns-clause-mvd : goal.returns-clause-mvd
returns-clause-mvd c = λ a b x y more p q e. one_reading mvd a b x y more mvd_productive p q e

pub returns-clause-event : goal.returns-clause-event
returns-clause-event c = λ a b x y more p q e. one_reading event a b x y more event_productive p q e
