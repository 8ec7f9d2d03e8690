use Rattle.h263_planes.specs.Lent.{picture}
use Rattle.mode_choice.proofs.Blocks.{own_luma}
use Rattle.mode_choice.proofs.deviation.luma_samples.Goals as goal

pub returns : goal.returns
returns c = own_luma (picture c.args.frame) c.args.mb c.luma.new.out c.luma.array_long c.luma.ensures
