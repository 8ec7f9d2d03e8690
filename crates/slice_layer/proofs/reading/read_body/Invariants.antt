use Rattle.std.proofs.Common.{◌-◌, []}
use Rattle.h263_types.specs.Sizes.{mbs_of}
use Rattle.slice_layer.specs.Around.{around}
use Rattle.slice_layer.specs.Text.{mbs_at}
use Rattle.slice_layer.proofs.Steps.{IsSoFar}
use Rattle.slice_layer.proofs.reading.read_body.Given as goal

-- the macroblocks so far, and that reading on from them gives what reading from the start gives
abbrev pub invariant-mbs : goal.invariant-mbs
invariant-mbs l =
    IsSoFar l.header l.first l.initial.out (mbs_at (around l.header l.first) (mbs_of l.header.format - l.first)
    l.initial.quant [] l.initial.reader) l.at l.quant l.vectors l.out l.reader

abbrev pub decreases-mbs : goal.decreases-mbs
decreases-mbs l = mbs_of l.header.format - l.at
