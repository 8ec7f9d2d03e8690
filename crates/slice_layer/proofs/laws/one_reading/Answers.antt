use Rattle.std.proofs.Common.{ap}
use Rattle.h263_bits.specs.Reading.{first_fault}
use Rattle.slice_layer.proofs.Bodies.{one_slice, no_fault, slice_complete}
use Rattle.slice_layer.proofs.laws.one_reading.Goals as goal

pub returns-clause-no_fault : goal.returns-clause-no_fault
returns-clause-no_fault c = λ h begins b. (
  λ e. no_fault h begins b e,
  λ is. ap first_fault (slice_complete c.in_a_syntax.ensures h begins is.0 is.1 b is.2),
)

pub returns-clause-one : goal.returns-clause-one
returns-clause-one c = λ h begins first other mbs others bits p q. one_slice c.in_a_syntax.ensures h begins first other
    mbs others bits p q
