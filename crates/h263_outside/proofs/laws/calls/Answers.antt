use Rattle.h263_outside.proofs.Gains.{reads_on, writes_on, gained_more, consumed_more, rose_since, rose_before}
use Rattle.h263_outside.proofs.laws.calls.Goals as goal

pub returns-clause-reads : goal.returns-clause-reads
returns-clause-reads c = reads_on

pub returns-clause-writes : goal.returns-clause-writes
returns-clause-writes c = writes_on

pub returns-clause-gained : goal.returns-clause-gained
returns-clause-gained c = gained_more

pub returns-clause-lost : goal.returns-clause-lost
returns-clause-lost c = consumed_more

pub returns-clause-rose_since : goal.returns-clause-rose_since
returns-clause-rose_since c = rose_since

pub returns-clause-rose_before : goal.returns-clause-rose_before
returns-clause-rose_before c = rose_before
