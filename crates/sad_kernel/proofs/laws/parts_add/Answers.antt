use Rattle.sad_kernel.proofs.Sums.{differences-append}
use Rattle.sad_kernel.proofs.laws.parts_add.Goals as goal

pub returns : goal.returns
returns c xs ys us vs h = differences-append xs us ys vs h
