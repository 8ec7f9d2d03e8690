use Rattle.std.proofs.Common.{ap}
use Rattle.h263_bits.specs.Reading.{first_fault}
use Rattle.slice_layer.proofs.Bodies.{slice_complete, are_read, no_fault}
use Rattle.slice_layer.proofs.laws.exact_text.Goals as goal

pub returns-clause-read : goal.returns-clause-read
returns-clause-read c = are_read c.in_a_syntax.ensures

pub returns-clause-no_fault : goal.returns-clause-no_fault
returns-clause-no_fault c = λ h begins b. (
  λ e. no_fault h begins b e,
  λ is. ap first_fault (slice_complete c.in_a_syntax.ensures h begins is.0 is.1 b is.2),
)
