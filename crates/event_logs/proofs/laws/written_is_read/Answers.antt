use Rattle.event_logs.proofs.Entries.{written, entry_found, bytes_found, after_found}
use Rattle.event_logs.proofs.laws.written_is_read.Goals as goal

pub returns-clause-entry : goal.returns-clause-entry
returns-clause-entry c = λ side entry letter bytes more few says. entry_found side entry _ more
    (written side entry letter bytes few says)

pub returns-clause-bytes : goal.returns-clause-bytes
returns-clause-bytes c = λ side entry letter bytes more few says. bytes_found side entry _ more
    (written side entry letter bytes few says)

pub returns-clause-after : goal.returns-clause-after
returns-clause-after c = λ side entry letter bytes more few says. after_found side entry _ more
    (written side entry letter bytes few says)
