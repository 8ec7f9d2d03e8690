use Rattle.loss_trace.proofs.Texts.{some_lines, one_lines}
use Rattle.loss_trace.proofs.laws.one_text.Goals as goal

pub returns-clause-some : goal.returns-clause-some
returns-clause-some c = some_lines

pub returns-clause-one : goal.returns-clause-one
returns-clause-one c = one_lines
